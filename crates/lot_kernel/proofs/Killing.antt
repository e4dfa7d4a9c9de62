-- The changes of a kill: the thread leaves its queue, its clients are released, its mutexes pass on, and it ends.
use Rattle.lot_kernel.proofs.Common.{Bool, Contains, Freed, IsAbsent, IsInOrder, IsNowhere, IsThere, IsThreadOf, List, MakesStaleIn, Mutex, None, Option, QueueLists, Record, Sizes, Some, State, Threaded, ap, arith, at_number, at_number-map, cases_eq, change-length, change_each, change_record, clients_of, cond, cons_option, contains-nothing, each-append, each-between, each-length, each-record_other, ended, false, filter_map, heir, heir-of, held, inl, inr, is_owned_by, killed, length, length-map, length-set, makes-each, map, mapped-from, mutex_without, next_from, number-set, option_map, own-absent, owners_of, passed_from, passed_on, port_without, queues_without, record-other, refl, released, set_number, slice_get, subst, suc, sym, true, unwrap_or, waiters_without, with_records, without, without-absent, without-other, ℕ, [], ◌-◌, ◌<◌, ◌∙◌, ◌∷◌, ◌≡◌, ◌≤◌, ◌⊎◌}
use Rattle.lot_kernel.proofs.Holding.{IsHeld}

-- ---- lists

-- the mutexes without the thread among their waiters, and then passed on
mutexes-killed : (t : ℕ) (mutexes : List Mutex)
    → map (passed_from t) (waiters_without mutexes t) ≡ map (mutex_without t) mutexes
mutexes-killed t [] = refl
mutexes-killed t (m ∷ ms) = ap (λ (xs : List Mutex). mutex_without t m ∷ xs) (mutexes-killed t ms)

-- who gets them
next-heir : (t : ℕ) (m : Mutex) → next_from t (record { owner = m.owner; waiters = without t m.waiters }) ≡ heir t m
next-heir t m = at (is_owned_by t m)
  where
    first : (waiters : List ℕ) → slice_get waiters 0 ≡ (passed_on waiters).owner
    first [] = refl
    first (w ∷ ws) = refl

    at : (b : Bool) → cond b (slice_get (without t m.waiters) 0) None ≡ cond b (cond b (passed_on (without t m.waiters))
        (record { owner = m.owner; waiters = without t m.waiters })).owner None
    at true = first (without t m.waiters)
    at false = refl

heirs-killed : (t : ℕ) (mutexes : List Mutex)
    → filter_map (next_from t) (waiters_without mutexes t) ≡ filter_map (heir t) mutexes
heirs-killed t [] = refl
heirs-killed t (m ∷ ms) =
    ap (λ (o : Option ℕ). cons_option o (filter_map (next_from t) (waiters_without ms t))) (next-heir t m)
    ∙ ap (cons_option (heir t m)) (heirs-killed t ms)

-- the owners are the same
pub owners-kept : (t : ℕ) (mutexes : List Mutex) → owners_of (waiters_without mutexes t) ≡ owners_of mutexes
owners-kept t [] = refl
owners-kept t (m ∷ ms) = ap (λ (xs : List (Option ℕ)). m.owner ∷ xs) (owners-kept t ms)

-- ---- the state then

-- nobody is its own client
own-client : (s : State) (t : ℕ) → IsInOrder s → IsAbsent (clients_of s.clients t) t
own-client s t order place e =
    own-absent s.records s.clients s.ports s.mutexes order.queues t place e

clients-killed : (s : State) (t : ℕ) → IsInOrder s → clients_of (map (without t) s.clients) t ≡ clients_of s.clients t
clients-killed s t order = ap (λ (o : Option (List ℕ)). unwrap_or o []) (at_number-map (without t) s.clients t)
    ∙ from (at_number s.clients t) refl
  where
    from : (o : Option (List ℕ)) → at_number s.clients t ≡ o → unwrap_or (option_map (without t) o) [] ≡ unwrap_or o []
    from None is = refl
    from (Some clients) is = without-absent t clients
        (λ place e. own-client s t order place (ap (λ (o : Option (List ℕ)). slice_get (unwrap_or o []) place) is ∙ e))

-- the records after the clients, the next owners and the thread itself have changed
abbrev pub records_killed : QueueLists → List Record → ℕ → List Record
records_killed q records t =
    change_record ended (change_each released (change_each released records (clients_of (map (without t) q.clients) t))
    (filter_map (next_from t) (waiters_without q.mutexes t))) t

records-same : (s : State) (q : QueueLists) (t : ℕ) → IsInOrder s → s.clients ≡ q.clients → s.mutexes ≡ q.mutexes
    → records_killed q s.records t ≡ (killed s t).records
records-same s q t order clients mutexes =
    ap (λ (xs : List (List ℕ)). change_record ended (change_each released (change_each released s.records
    (clients_of (map (without t) xs) t)) (filter_map (next_from t) (waiters_without q.mutexes t))) t) (sym clients)
    ∙ ap (λ (xs : List Mutex). change_record ended (change_each released (change_each released s.records
    (clients_of (map (without t) s.clients) t)) (filter_map (next_from t) (waiters_without xs t))) t) (sym mutexes)
    ∙ ap (λ (us : List ℕ). change_record ended (change_each released (change_each released s.records us)
    (filter_map (next_from t) (waiters_without s.mutexes t))) t) (clients-killed s t order)
    ∙ ap (λ (us : List ℕ). change_record ended
    (change_each released (change_each released s.records (clients_of s.clients t)) us) t) (heirs-killed t s.mutexes)
    ∙ ap (λ (rs : List Record). change_record ended rs t)
    (sym (each-append released s.records (clients_of s.clients t) (filter_map (heir t) s.mutexes)))

-- the queues after all
abbrev pub queues_killed : QueueLists → ℕ → QueueLists
queues_killed q t = record q { clients = set_number (map (without t) q.clients) t []; ports = map (port_without t) q.ports; mutexes = map (passed_from t) (waiters_without q.mutexes t) }

module _ (sizes : Sizes) (freed : Freed) (names : List (Option (List ℕ))) (v : Threaded) (q : QueueLists) (t : ℕ)
    (was : IsHeld sizes freed names v q) (new : Threaded) (left : QueueLists)
    (threads : new ≡ record (with_records v (records_killed q v.records t)
    new.stale) { owners = owners_of (map (passed_from t) (waiters_without q.mutexes t)) })
    (queues : left ≡ queues_killed q t) where
  -- the threads are those of the state
  pub held-killed : IsHeld sizes freed names new left
  held-killed =
      subst (λ (l : QueueLists). IsHeld sizes freed names new l) (sym queues)
      (subst (λ n. IsHeld sizes freed names n (queues_killed q t)) (sym threads)
      (ap (λ (w : Threaded). record (with_records w (records_killed q w.records t)
      new.stale) { owners = owners_of (map (passed_from t) (waiters_without q.mutexes t)) }) was))

  pub state-killed : IsInOrder (held sizes freed names v q)
      → held sizes freed names new left ≡ killed (held sizes freed names v q) t
  state-killed order =
      ap (λ (w : Threaded). held sizes freed names w left) threads
      ∙ ap (λ (l : QueueLists). held sizes freed names (record (with_records v (records_killed q v.records t)
      new.stale) { owners = owners_of (map (passed_from t) (waiters_without q.mutexes t)) }) l) queues
      ∙ ap (λ (rs : List Record). record (held sizes freed names v
      q) { records = rs; clients = set_number (map (without t) q.clients) t []; ports = map (port_without t) q.ports; mutexes = map (passed_from t) (waiters_without q.mutexes t) })
      (records-same (held sizes freed names v q) q t order refl refl)
      ∙ ap (λ (ms : List Mutex). record (held sizes freed names v
      q) { records = (killed (held sizes freed names v q) t).records; clients = set_number (map (without t) q.clients) t []; ports = map (port_without t) q.ports; mutexes = ms })
      (mutexes-killed t q.mutexes)

  pub records-count : length new.records ≡ length v.records
  records-count =
      ap (λ (w : Threaded). length w.records) threads
      ∙ change-length ended (change_each released (change_each released v.records
      (clients_of (map (without t) q.clients) t)) (filter_map (next_from t) (waiters_without q.mutexes t))) t
      ∙ each-length released (change_each released v.records (clients_of (map (without t) q.clients) t))
      (filter_map (next_from t) (waiters_without q.mutexes t))
      ∙ each-length released v.records (clients_of (map (without t) q.clients) t)

  pub clients-count : length left.clients ≡ length q.clients
  clients-count = ap (λ (l : QueueLists). length l.clients) queues ∙ length-set (map (without t) q.clients) (t - 1) []
      ∙ length-map q.clients (without t)

-- ---- step by step

module _ (v : Threaded) (q : QueueLists) (t : ℕ) (out : QueueLists) (taken : out ≡ queues_without q t) where
  abbrev clients : List ℕ
  clients = clients_of (map (without t) q.clients) t

  abbrev nexts : List ℕ
  nexts = filter_map (next_from t) (waiters_without q.mutexes t)

  -- what the release of the clients needs
  pub out-there : length q.clients ≡ length v.records → (0 < t) × (t ≤ length v.records) → IsThere out.clients t
  out-there same there =
      (there.0, omega (arith, there.1, same, ap (λ (x : QueueLists). length x.clients) taken, length-map q.clients (without t)))

  pub out-count : length q.clients ≡ length v.records → length v.records ≡ length out.clients
  out-count same = sym (ap (λ (x : QueueLists). length x.clients) taken ∙ length-map q.clients (without t) ∙ same)

  module _ (v1 : Threaded) (q1 : QueueLists)
      (released_threads : v1 ≡ with_records v (change_each released v.records (clients_of out.clients t)) v1.stale)
      (released_queues : q1 ≡ record out { clients = set_number out.clients t [] }) where
    v1-is : v1 ≡ with_records v (change_each released v.records clients) v1.stale
    v1-is = released_threads ∙ ap
        (λ (x : QueueLists). with_records v (change_each released v.records (clients_of x.clients t)) v1.stale) taken

    q1-is : q1 ≡ record (queues_without q t) { clients = set_number (map (without t) q.clients) t [] }
    q1-is = released_queues ∙ ap
        (λ (x : QueueLists). let next : QueueLists = record x { clients = set_number x.clients t [] } in next) taken

    -- what the passing of the mutexes needs
    pub pass-nowhere : IsNowhere out t → IsNowhere q1 t
    pass-nowhere none = subst (λ (x : QueueLists). IsNowhere x t) (sym released_queues)
        (record { calls = none.calls; receivers = none.receivers; waiters = none.waiters; clients = clients-none })
      where
        clients-none : (server : ℕ) → ¬ Contains (clients_of (set_number out.clients t []) server) t
        clients-none server there = from (number-set out.clients t [] server)
          where
            from : (at_number (set_number out.clients t []) server ≡ at_number out.clients server)
                ⊎ ((server ≡ suc (t - 1)) × (at_number (set_number out.clients t []) server ≡ Some [])) → ⊥
            from (inl same) =
                none.clients server (subst (λ (o : Option (List ℕ)). Contains (unwrap_or o []) t) same there)
            from (inr (at, empty)) =
                contains-nothing t (subst (λ (o : Option (List ℕ)). Contains (unwrap_or o []) t) empty there)

    pub pass-count : length q.clients ≡ length v.records → length v1.records ≡ length q1.clients
    pass-count same =
        ap (λ (x : Threaded). length x.records) v1-is ∙ each-length released v.records clients ∙ sym same
        ∙ sym (ap (λ (x : QueueLists). length x.clients) q1-is ∙ length-set (map (without t) q.clients) (t - 1) []
        ∙ length-map q.clients (without t))

    pub pass-owners : owners_of q.mutexes ≡ v.owners → owners_of q1.mutexes ≡ v1.owners
    pass-owners same = ap (λ (x : QueueLists). owners_of x.mutexes) q1-is ∙ owners-kept t q.mutexes ∙ same
        ∙ sym (ap (λ (x : Threaded). x.owners) v1-is)

    module _ (v2 : Threaded) (q2 : QueueLists)
        (passed_threads : v2 ≡ record (with_records v1 (change_each released v1.records
        (filter_map (next_from t) q1.mutexes)) v2.stale) { owners = owners_of (map (passed_from t) q1.mutexes) })
        (passed_queues : q2 ≡ record q1 { mutexes = map (passed_from t) q1.mutexes }) where
      v2-is : v2 ≡ record (with_records v (change_each released (change_each released v.records clients) nexts)
          v2.stale) { owners = owners_of (map (passed_from t) (waiters_without q.mutexes t)) }
      v2-is =
          passed_threads
          ∙ ap (λ (x : QueueLists). record (with_records v1 (change_each released v1.records
          (filter_map (next_from t) x.mutexes)) v2.stale) { owners = owners_of (map (passed_from t) x.mutexes) }) q1-is
          ∙ ap (λ (x : Threaded). record (with_records x (change_each released x.records nexts)
          v2.stale) { owners = owners_of (map (passed_from t) (waiters_without q.mutexes t)) }) v1-is

      -- what the end needs
      pub end-there : (0 < t) × (t ≤ length v.records) → IsThreadOf v2 t
      end-there there =
          let count : length v2.records ≡ length v.records =
          ap (λ (x : Threaded). length x.records) v2-is ∙ each-length released
          (change_each released v.records clients) nexts ∙ each-length released v.records clients in
          (omega (arith, there.0), omega (arith, there.1, count))

      pub all-queues : q2 ≡ queues_killed q t
      all-queues = passed_queues ∙ ap (λ (x : QueueLists). let next : QueueLists =
          record x { mutexes = map (passed_from t) x.mutexes } in next) q1-is

      -- the thread itself is neither a client nor a next owner
      own-record : at_number v2.records t ≡ at_number v.records t
      own-record = ap (λ (x : Threaded). at_number x.records t) v2-is
          ∙ each-record_other released (change_each released v.records clients) nexts t no-next
          ∙ each-record_other released v.records clients t no-client
        where
          no-client : IsAbsent clients t
          no-client place e = from (at_number q.clients t) (ap (λ (o : Option (List ℕ)).
              slice_get (unwrap_or o []) place) (sym (at_number-map (without t) q.clients t)) ∙ e)
            where
              from : (o : Option (List ℕ)) → slice_get (unwrap_or (option_map (without t) o) []) place ≡ Some t → ⊥
              from None none = cc
              from (Some these) here = without-other t these place t here refl

          no-next : IsAbsent nexts t
          no-next place e =
              let (i, (m, there, gets)) = mapped-from (heir t) q.mutexes place t
              (ap (λ (us : List ℕ). slice_get us place) (sym (heirs-killed t q.mutexes)) ∙ e) in
              without-other t m.waiters 0 t (heir-of t t m gets).1 refl

      module _ (v3 : Threaded) (ended_threads : v3 ≡ with_records v2 (change_record ended v2.records t) v3.stale) where
        pub all-threads : v3 ≡ record (with_records v (records_killed q v.records t)
            v3.stale) { owners = owners_of (map (passed_from t) (waiters_without q.mutexes t)) }
        all-threads = ended_threads
            ∙ ap (λ (x : Threaded). with_records x (change_record ended x.records t) v3.stale) v2-is

        pub all-meter : v3.meter ≡ v.meter
        all-meter = ap (λ (x : Threaded). x.meter) all-threads

        pub all-stale : MakesStaleIn v v1 → MakesStaleIn v1 v2 → MakesStaleIn v2 v3 → MakesStaleIn v v3
        all-stale one two three =
            makes-each v v2 v3
            (ap (λ (x : Threaded). x.lending) v2-is, sym (ap (λ (x : Threaded). x.lending) ended_threads))
            (ap (λ (x : Threaded). x.tickets) v2-is)
            (λ m. inr (inl (ap (λ (x : Threaded). at_number x.owners m) (sym ended_threads)))) ends
            (makes-each v v1 v2
            (ap (λ (x : Threaded). x.lending) v1-is, sym (ap (λ (x : Threaded). x.lending) passed_threads))
            (ap (λ (x : Threaded). x.tickets) v1-is)
            (λ m. inl (ap (λ (x : Threaded). at_number x.owners m) v1-is)) between one two) three
          where
            between : (u : ℕ)
                → (at_number v1.records u ≡ at_number v.records u) ⊎ (at_number v1.records u ≡ at_number v2.records u)
            between u = from (each-between released (λ r. refl) v.records clients nexts u)
              where
                from : (at_number (change_each released v.records clients) u ≡ at_number v.records u)
                    ⊎ (at_number (change_each released v.records clients) u
                    ≡ at_number (change_each released (change_each released v.records clients) nexts) u)
                    → (at_number v1.records u ≡ at_number v.records u)
                    ⊎ (at_number v1.records u ≡ at_number v2.records u)
                from (inl same) = inl (ap (λ (x : Threaded). at_number x.records u) v1-is ∙ same)
                from (inr same) = inr (ap (λ (x : Threaded). at_number x.records u) v1-is ∙ same
                    ∙ sym (ap (λ (x : Threaded). at_number x.records u) v2-is))

            ends : (u : ℕ)
                → (at_number v2.records u ≡ at_number v.records u) ⊎ (at_number v2.records u ≡ at_number v3.records u)
            ends u = from (cases_eq u t)
              where
                from : (u ≡ t) ⊎ (u ≡ t → ⊥) → (at_number v2.records u ≡ at_number v.records u)
                    ⊎ (at_number v2.records u ≡ at_number v3.records u)
                from (inl same) =
                    inl (ap (at_number v2.records) same ∙ own-record ∙ ap (at_number v.records) (sym same))
                from (inr other) = inr (sym (ap (λ (x : Threaded). at_number x.records u) ended_threads
                    ∙ record-other ended v2.records t u other))
