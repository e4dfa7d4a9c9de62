-- The mutexes of a thread, passed on one after another.
use Rattle.lot_mutex.proofs.Common.{Bool, IsMutex, IsNowhere, IsOwnerBetween, IsStaleIn, IsThere, IsThreadOf, List, MakesStaleIn, Mutex, Node, None, Option, QueueLists, Record, Some, Threaded, ap, append-nil, append_assoc, arith, at_number, at_number-suc, cases_eq, change_each, change_record, cond, cons_option, contains-at, drop, each-append, each-between, each-length, eq-eqb, eqb, eqb-false, eqb-true, false, filter_map, filter_map-append, first-none, first-some, funding_in, inl, inr, is_owned_by, length, length-append, length-map, makes-each, map, map-append, mutex-passed, mutex_at, next_from, number-set, option_any, option_eq, option_flatten, owner_of, owners_of, passed_from, passed_on, refl, released, remove, set-append_seam, set_number, slice_get, slice_set, some-injective, subst, suc, sym, take, true, unwrap_or, with_owner, with_records, with_waiters, ℕ, [], ◌++◌, ◌+◌, ◌-◌, ◌<◌, ◌==◌, ◌∙◌, ◌∷◌, ◌≡◌, ◌≢◌, ◌⊎◌}
use Rattle.lot_mutex.proofs.Owners.{owned-there, owner-at, owners-after}

-- ---- one mutex

passed-owner : (waiters : List ℕ) → (passed_on waiters).owner ≡ slice_get waiters 0
passed-owner [] = refl
passed-owner (w ∷ ws) = refl

-- the first of a list
first-taken : (waiters : List ℕ) → cons_option (slice_get waiters 0) [] ≡ take 1 waiters
first-taken [] = refl
first-taken (w ∷ ws) = refl

-- the mutexes after one without waiters gets free
pub none-passed : (mutexes : List Mutex) (m : ℕ) → slice_get (mutex_at mutexes m).waiters 0 ≡ None
    → with_owner mutexes m None ≡ set_number mutexes m (passed_on (mutex_at mutexes m).waiters)
none-passed mutexes m none =
    let empty : (mutex_at mutexes m).waiters ≡ [] = first-none (mutex_at mutexes m).waiters none in
    ap (λ (ws : List ℕ). set_number mutexes m (record { owner = None; waiters = ws })) empty
    ∙ ap (λ (ws : List ℕ). set_number mutexes m (passed_on ws)) (sym empty)

-- the threads then
pub none-threads : (a b : Threaded) (m : ℕ) (waiters : List ℕ) → slice_get waiters 0 ≡ None
    → b ≡ record a { owners = set_number a.owners m None; stale = b.stale }
    → b ≡ record (with_records a
    (change_each released a.records (take 1 waiters)) b.stale) { owners = set_number a.owners m (slice_get waiters 0) }
none-threads a b m waiters none freed =
    let empty : waiters ≡ [] = first-none waiters none in
    freed ∙ ap (λ (ws : List ℕ). record (with_records a (change_each released a.records (take 1 ws))
    b.stale) { owners = set_number a.owners m (slice_get ws 0) }) (sym empty)

-- the mutexes after the first waiter leaves and owns it
pub first-passed : (mutexes : List Mutex) (m next : ℕ) → IsThere mutexes m
    → slice_get (mutex_at mutexes m).waiters 0 ≡ Some next
    → with_owner (with_waiters mutexes m (remove (mutex_at mutexes m).waiters 0)) m (Some next)
    ≡ set_number mutexes m (passed_on (mutex_at mutexes m).waiters)
first-passed mutexes m next there first =
    mutex-passed mutexes m (remove (mutex_at mutexes m).waiters 0) (Some next) there
    ∙ ap (set_number mutexes m) (same (mutex_at mutexes m).waiters first)
  where
    same : (waiters : List ℕ) → slice_get waiters 0 ≡ Some next
        → record { owner = Some next; waiters = remove waiters 0 } ≡ passed_on waiters
    same [] e = cc
    same (w ∷ ws) e = ap (λ (o : Option ℕ). let mutex : Mutex = record { owner = o; waiters = ws } in mutex) (sym e)

pub first-threads : (a b : Threaded) (m next : ℕ) (waiters : List ℕ) → slice_get waiters 0 ≡ Some next
    → b ≡ record (with_records a
    (change_record released a.records next) b.stale) { owners = set_number a.owners m (Some next) }
    → b ≡ record (with_records a
    (change_each released a.records (take 1 waiters)) b.stale) { owners = set_number a.owners m (slice_get waiters 0) }
first-threads a b m next waiters first handed =
    let these : waiters ≡ next ∷ drop 1 waiters = first-some waiters next first in
    handed ∙ ap (λ (ws : List ℕ). record (with_records a (change_each released a.records (take 1 ws))
    b.stale) { owners = set_number a.owners m (slice_get ws 0) }) (sym these)

-- what handing it over needs
pub hand-mutex : (a : Threaded) (mutexes : List Mutex) (m : ℕ) → IsThere mutexes m → owners_of mutexes ≡ a.owners
    → IsMutex (funding_in a) m
hand-mutex a mutexes m there same = owned-there mutexes a.owners m there same

pub hand-thread : (a : Threaded) (q : QueueLists) (t : ℕ) → length a.records ≡ length q.clients → IsThere q.clients t
    → IsThreadOf a t
hand-thread a q t same there = (omega (arith, there.0), omega (arith, there.1, same))

pub hand-other : (a : Threaded) (mutexes : List Mutex) (m next : ℕ) → IsThere mutexes m → owners_of mutexes ≡ a.owners
    → (mutex_at mutexes m).owner ≢ Some next → owner_of (funding_in a) m ≢ Some next
hand-other a mutexes m next there same other e =
    other
    (sym (ap option_flatten (ap (λ (xs : List (Option ℕ)). at_number xs m) (sym same) ∙ owner-at mutexes m there)) ∙ e)

-- ---- all of them

-- the mutexes up to a place are passed on, and the others are left
pub record IsPassedOn (a : Threaded) (q : QueueLists) (t place : ℕ) (v : Threaded) (now : QueueLists) : Type 0 where
  pub done : List Mutex
  pub left : List Mutex
  pub parts : q.mutexes ≡ done ++ left
  pub count : length done ≡ place
  pub threads : v ≡ record (with_records a (change_each released a.records (filter_map (next_from t) done))
      v.stale) { owners = owners_of (map (passed_from t) done ++ left) }
  pub queues : now ≡ record q { mutexes = map (passed_from t) done ++ left }
  pub kept : (node : Node) → IsStaleIn a node → IsStaleIn v node
  pub stale : MakesStaleIn a v

pub passed-start : (a : Threaded) (q : QueueLists) (t : ℕ) → owners_of q.mutexes ≡ a.owners → IsPassedOn a q t 0 a q
passed-start a q t same = record {
  done = [];
  left = q.mutexes;
  parts = refl;
  count = refl;
  threads = ap (λ (os : List (Option ℕ)). record a { owners = os }) (sym same);
  queues = refl;
  kept = λ node stale. stale;
  stale = λ node stale. inl stale;
}

-- what stands after some elements
seam : {A : Type 0} (xs : List A) (x : A) (ys : List A) → at_number (xs ++ x ∷ ys) (length xs + 1) ≡ Some x
seam xs x ys = let next : length xs + 1 ≡ suc (length xs) = omega arith in ap (at_number (xs ++ x ∷ ys)) next
    ∙ at_number-suc (xs ++ x ∷ ys) (length xs) ∙ place xs
  where
    place : (zs : List _) → slice_get (zs ++ x ∷ ys) (length zs) ≡ Some x
    place [] = refl
    place (z ∷ zs) = place zs

seam-set : {A : Type 0} (xs : List A) (x : A) (ys : List A) (y : A)
    → set_number (xs ++ x ∷ ys) (length xs + 1) y ≡ xs ++ y ∷ ys
seam-set xs x ys y = let place : length xs + 1 - 1 ≡ length xs = omega arith in
    ap (λ k. slice_set (xs ++ x ∷ ys) k y) place ∙ set-append_seam xs x ys y

module _ (a : Threaded) (q : QueueLists) (t place : ℕ) (same : owners_of q.mutexes ≡ a.owners) (v : Threaded)
    (now : QueueLists) (so_far : IsPassedOn a q t place v now) where
  abbrev passed : List Mutex
  passed = map (passed_from t) so_far.done

  passed-count : length passed ≡ place
  passed-count = length-map so_far.done (passed_from t) ∙ so_far.count

  -- the threads and the queues still agree
  pub still-owners : owners_of now.mutexes ≡ v.owners
  still-owners = ap (λ (x : QueueLists). owners_of x.mutexes) so_far.queues
      ∙ sym (ap (λ (x : Threaded). x.owners) so_far.threads)

  pub still-counted : length a.records ≡ length q.clients → length v.records ≡ length now.clients
  still-counted count =
      ap (λ (x : Threaded). length x.records) so_far.threads ∙ each-length released a.records
      (filter_map (next_from t) so_far.done) ∙ count ∙ sym (ap (λ (x : QueueLists). length x.clients) so_far.queues)

  pub same-count : length now.mutexes ≡ length q.mutexes
  same-count =
      ap (λ (x : QueueLists). length x.mutexes) so_far.queues ∙ length-append passed so_far.left
      ∙ ap (λ n. n + length so_far.left) (length-map so_far.done (passed_from t))
      ∙ sym (length-append so_far.done so_far.left) ∙ sym (ap length so_far.parts)

  pub still-there : place < length q.mutexes → IsThere now.mutexes (place + 1)
  still-there below = (omega arith, omega (arith, below, same-count))

  -- the next mutex
  pub next-mutex : place < length q.mutexes → (x : Mutex) × ((rest : List Mutex) × (so_far.left ≡ x ∷ rest))
  next-mutex below = from so_far.left refl
    where
      from : (xs : List Mutex) → so_far.left ≡ xs → (x : Mutex) × ((rest : List Mutex) × (so_far.left ≡ x ∷ rest))
      from [] is = absurd (omega
          (arith, below, ap length so_far.parts, length-append so_far.done so_far.left, ap length is, so_far.count))
      from (x ∷ rest) is = (x, (rest, is))

  module _ (x : Mutex) (rest : List Mutex) (is : so_far.left ≡ x ∷ rest) where
    now-is : now.mutexes ≡ passed ++ x ∷ rest
    now-is = ap (λ (y : QueueLists). y.mutexes) so_far.queues ∙ ap (λ (ys : List Mutex). passed ++ ys) is

    q-is : q.mutexes ≡ so_far.done ++ x ∷ rest
    q-is = so_far.parts ∙ ap (λ (ys : List Mutex). so_far.done ++ ys) is

    pub now-here : mutex_at now.mutexes (place + 1) ≡ x
    now-here =
        ap (λ (ms : List Mutex). mutex_at ms (place + 1)) now-is
        ∙ ap (λ k. mutex_at (passed ++ x ∷ rest) (k + 1)) (sym passed-count)
        ∙ ap (λ (o : Option Mutex). unwrap_or o (record { owner = None; waiters = [] })) (seam passed x rest)

    pub q-here : mutex_at q.mutexes (place + 1) ≡ x
    q-here =
        ap (λ (ms : List Mutex). mutex_at ms (place + 1)) q-is
        ∙ ap (λ k. mutex_at (so_far.done ++ x ∷ rest) (k + 1)) (sym so_far.count)
        ∙ ap (λ (o : Option Mutex). unwrap_or o (record { owner = None; waiters = [] })) (seam so_far.done x rest)

    next-parts : q.mutexes ≡ (so_far.done ++ x ∷ []) ++ rest
    next-parts = q-is ∙ sym (append_assoc so_far.done (x ∷ []) rest)

    next-count : length (so_far.done ++ x ∷ []) ≡ place + 1
    next-count = length-append so_far.done (x ∷ []) ∙ ap (λ n. n + 1) so_far.count

    next-passed : map (passed_from t) (so_far.done ++ x ∷ []) ++ rest ≡ passed ++ passed_from t x ∷ rest
    next-passed = ap (λ (ys : List Mutex). ys ++ rest) (map-append (passed_from t) so_far.done (x ∷ []))
        ∙ append_assoc passed (passed_from t x ∷ []) rest

    next-heirs : filter_map (next_from t)
        (so_far.done ++ x ∷ []) ≡ filter_map (next_from t) so_far.done ++ cons_option (next_from t x) []
    next-heirs = filter_map-append (next_from t) so_far.done (x ∷ [])

    -- a mutex of another, or of nobody, stays
    pub passed-other : is_owned_by t x ≡ false → IsPassedOn a q t (place + 1) v now
    passed-other other = record {
      done = so_far.done ++ x ∷ [];
      left = rest;
      parts = next-parts;
      count = next-count;
      threads = so_far.threads
          ∙ ap (λ (ms : List Mutex). record (with_records a (change_each released a.records (filter_map (next_from t)
          so_far.done)) v.stale) { owners = owners_of ms }) (ap (λ (ys : List Mutex). passed ++ ys) is ∙ stays)
          ∙ ap (λ (us : List ℕ). record (with_records a (change_each released a.records us)
          v.stale) { owners = owners_of (map (passed_from t) (so_far.done ++ x ∷ []) ++ rest) }) nobody;
      queues = so_far.queues ∙ ap (λ (ms : List Mutex). let next : QueueLists = record q { mutexes = ms } in next)
          (ap (λ (ys : List Mutex). passed ++ ys) is ∙ stays);
      kept = so_far.kept;
      stale = so_far.stale;
    }
      where
        same-mutex : passed_from t x ≡ x
        same-mutex = ap (λ b. cond b (passed_on x.waiters) x) other

        stays : passed ++ x ∷ rest ≡ map (passed_from t) (so_far.done ++ x ∷ []) ++ rest
        stays = ap (λ (y : Mutex). passed ++ y ∷ rest) (sym same-mutex) ∙ sym next-passed

        nobody : filter_map (next_from t) so_far.done ≡ filter_map (next_from t) (so_far.done ++ x ∷ [])
        nobody = sym (append-nil (filter_map (next_from t) so_far.done))
            ∙ ap (λ (o : Option ℕ). filter_map (next_from t) so_far.done ++ cons_option o [])
            (sym (ap (λ b. cond b (slice_get x.waiters 0) None) other)) ∙ sym next-heirs

    -- its own is passed on
    module _ (w : Threaded) (then : QueueLists) (mine : is_owned_by t x ≡ true)
        (threads : w
        ≡ record (with_records v (change_each released v.records (take 1 (mutex_at now.mutexes (place + 1)).waiters))
        w.stale) { owners = set_number v.owners (place + 1) (slice_get (mutex_at now.mutexes (place + 1)).waiters 0) })
        (queues : then ≡ record now { mutexes = set_number now.mutexes (place + 1) (passed_on (mutex_at now.mutexes (place + 1)).waiters) }) where
      passes : passed_from t x ≡ passed_on x.waiters
      passes = ap (λ b. cond b (passed_on x.waiters) x) mine

      heir-is : cons_option (next_from t x) [] ≡ take 1 x.waiters
      heir-is = ap (λ b. cons_option (cond b (slice_get x.waiters 0) None) []) mine ∙ first-taken x.waiters

      -- the threads, with the mutex itself
      threads-x : w ≡ record (with_records v (change_each released v.records (take 1 x.waiters))
          w.stale) { owners = set_number v.owners (place + 1) (slice_get x.waiters 0) }
      threads-x = threads ∙ ap (λ (y : Mutex). record (with_records v (change_each released v.records
          (take 1 y.waiters)) w.stale) { owners = set_number v.owners (place + 1) (slice_get y.waiters 0) }) now-here

      mutexes-then : set_number now.mutexes (place + 1)
          (passed_on (mutex_at now.mutexes (place + 1)).waiters) ≡ map (passed_from t) (so_far.done ++ x ∷ []) ++ rest
      mutexes-then =
          ap (λ (y : Mutex). set_number now.mutexes (place + 1) (passed_on y.waiters)) now-here
          ∙ ap (λ (ms : List Mutex). set_number ms (place + 1) (passed_on x.waiters)) now-is
          ∙ ap (λ k. set_number (passed ++ x ∷ rest) (k + 1) (passed_on x.waiters)) (sym passed-count)
          ∙ seam-set passed x rest (passed_on x.waiters)
          ∙ ap (λ (y : Mutex). passed ++ y ∷ rest) (sym passes) ∙ sym next-passed

      owners-then : set_number v.owners (place + 1)
          (slice_get x.waiters 0) ≡ owners_of (map (passed_from t) (so_far.done ++ x ∷ []) ++ rest)
      owners-then =
          ap (set_number v.owners (place + 1)) (sym (passed-owner x.waiters))
          ∙ owners-after now.mutexes v.owners (place + 1) (passed_on x.waiters) still-owners
          ∙ ap (λ (y : Mutex). owners_of (set_number now.mutexes (place + 1) (passed_on y.waiters))) (sym now-here)
          ∙ ap owners_of mutexes-then

      records-then : change_each released v.records (take 1 x.waiters)
          ≡ change_each released a.records (filter_map (next_from t) (so_far.done ++ x ∷ []))
      records-then =
          ap (λ (y : Threaded). change_each released y.records (take 1 x.waiters)) so_far.threads
          ∙ sym (each-append released a.records (filter_map (next_from t) so_far.done) (take 1 x.waiters))
          ∙ ap (change_each released a.records)
          (ap (λ (us : List ℕ). filter_map (next_from t) so_far.done ++ us) (sym heir-is) ∙ sym next-heirs)

      threads-then : w
          ≡ record (with_records a (change_each released a.records (filter_map (next_from t) (so_far.done ++ x ∷ [])))
          w.stale) { owners = owners_of (map (passed_from t) (so_far.done ++ x ∷ []) ++ rest) }
      threads-then =
          threads-x ∙ ap (λ (os : List (Option ℕ)). record (with_records v
          (change_each released v.records (take 1 x.waiters)) w.stale) { owners = os }) owners-then
          ∙ ap (λ (rs : List Record). record (with_records v rs
          w.stale) { owners = owners_of (map (passed_from t) (so_far.done ++ x ∷ []) ++ rest) }) records-then
          ∙ ap (λ (y : Threaded).
          record (with_records y (change_each released a.records (filter_map (next_from t) (so_far.done ++ x ∷ [])))
          w.stale) { owners = owners_of (map (passed_from t) (so_far.done ++ x ∷ []) ++ rest) }) so_far.threads

      owner-between : (m : ℕ) → IsOwnerBetween a v w m
      owner-between m = from (cases_eq m (place + 1))
        where
          kept-here : at_number v.owners (place + 1) ≡ at_number a.owners (place + 1)
          kept-here =
              let v_has : at_number v.owners (place + 1) ≡ Some x.owner =
              ap (λ (y : Threaded). at_number y.owners (place + 1)) so_far.threads
              ∙ ap (λ (ms : List Mutex). at_number (owners_of (passed ++ ms)) (place + 1)) is
              ∙ owner-at (passed ++ x ∷ rest) (place + 1)
              (omega arith, omega (arith, length-append passed (x ∷ rest), passed-count))
              ∙ ap (λ (y : Mutex). Some y.owner)
              (ap (λ (ms : List Mutex). mutex_at ms (place + 1)) (sym now-is) ∙ now-here) in
              let a_has : at_number a.owners (place + 1) ≡ Some x.owner =
              ap (λ (os : List (Option ℕ)). at_number os (place + 1)) (sym same)
              ∙ owner-at q.mutexes (place + 1)
              (omega arith, omega (arith, ap length q-is, length-append so_far.done (x ∷ rest), so_far.count))
              ∙ ap (λ (y : Mutex). Some y.owner) q-here in
              v_has ∙ sym a_has

          elsewhere : ¬ (m ≡ place + 1)
              → (at_number (set_number v.owners (place + 1) (slice_get x.waiters 0)) m ≡ at_number v.owners m)
              ⊎ ((m ≡ suc (place + 1 - 1))
              × (at_number (set_number v.owners (place + 1) (slice_get x.waiters 0)) m ≡ Some (slice_get x.waiters 0)))
              → IsOwnerBetween a v w m
          elsewhere off (inl stays) = inr (inl (sym (ap (λ (y : Threaded). at_number y.owners m) threads-x ∙ stays)))
          elsewhere off (inr (at, _)) = absurd (off (omega (arith, at)))

          from : (m ≡ place + 1) ⊎ (m ≡ place + 1 → ⊥) → IsOwnerBetween a v w m
          from (inl at) = subst (IsOwnerBetween a v w) (sym at) (inl kept-here)
          from (inr off) = elsewhere off (number-set v.owners (place + 1) (slice_get x.waiters 0) m)

      record-between : (u : ℕ)
          → (at_number v.records u ≡ at_number a.records u) ⊎ (at_number v.records u ≡ at_number w.records u)
      record-between u =
          from (each-between released (λ r. refl) a.records (filter_map (next_from t) so_far.done) (take 1 x.waiters) u)
        where
          v_is : at_number v.records u
              ≡ at_number (change_each released a.records (filter_map (next_from t) so_far.done)) u
          v_is = ap (λ (y : Threaded). at_number y.records u) so_far.threads

          w_is : at_number w.records u ≡ at_number (change_each released
              (change_each released a.records (filter_map (next_from t) so_far.done)) (take 1 x.waiters)) u
          w_is = ap (λ (y : Threaded). at_number y.records u) threads-x
              ∙ ap (λ (y : Threaded). at_number (change_each released y.records (take 1 x.waiters)) u) so_far.threads

          from : (at_number (change_each released a.records (filter_map (next_from t) so_far.done)) u
              ≡ at_number a.records u)
              ⊎ (at_number (change_each released a.records (filter_map (next_from t) so_far.done)) u
              ≡ at_number (change_each released (change_each released a.records (filter_map (next_from t) so_far.done))
              (take 1 x.waiters)) u)
              → (at_number v.records u ≡ at_number a.records u) ⊎ (at_number v.records u ≡ at_number w.records u)
          from (inl stays) = inl (v_is ∙ stays)
          from (inr stays) = inr (v_is ∙ stays ∙ sym w_is)

      pub passed-step : ((node : Node) → IsStaleIn v node → IsStaleIn w node) → MakesStaleIn v w
          → IsPassedOn a q t (place + 1) w then
      passed-step kept makes = record {
        done = so_far.done ++ x ∷ [];
        left = rest;
        parts = next-parts;
        count = next-count;
        threads = threads-then;
        queues = queues
            ∙ ap (λ (ms : List Mutex). let next : QueueLists = record now { mutexes = ms } in next) mutexes-then
            ∙ ap (λ (y : QueueLists). let next : QueueLists =
            record y { mutexes = map (passed_from t) (so_far.done ++ x ∷ []) ++ rest } in next) so_far.queues;
        kept = λ node stale. kept node (so_far.kept node stale);
        stale = makes-each a v w
            (ap (λ (x : Threaded). x.lending) so_far.threads, sym (ap (λ (x : Threaded). x.lending) threads-x))
            (ap (λ (y : Threaded). y.tickets) so_far.threads) owner-between record-between so_far.stale makes;
      }

-- whether the thread owns a mutex
pub owned-test : (t : ℕ) (mutex : Mutex) → mutex.owner ≡ Some t → is_owned_by t mutex ≡ true
owned-test t mutex e = ap (λ (o : Option ℕ). option_any (λ owner. owner == t) o) e ∙ eq-eqb t t refl

pub other-test : (t : ℕ) (mutex : Mutex) → mutex.owner ≢ Some t → is_owned_by t mutex ≡ false
other-test t mutex other = at (is_owned_by t mutex) refl
  where
    whose : (o : Option ℕ) → option_any (λ owner. owner == t) o ≡ true → o ≡ Some t
    whose None e = cc
    whose (Some owner) e = ap Some (eqb-true owner t e)

    at : (b : Bool) → is_owned_by t mutex ≡ b → b ≡ false
    at true is = absurd (other (whose mutex.owner is))
    at false is = refl

-- its next owner is another, since the thread itself waits for none
pub next-other : (q : QueueLists) (t m next : ℕ) → IsNowhere q t
    → slice_get (mutex_at q.mutexes m).waiters 0 ≡ Some next → ¬ (t ≡ next)
next-other q t m next nowhere first same =
    nowhere.waiters m (contains-at (mutex_at q.mutexes m).waiters 0 t (first ∙ ap Some (sym same)))

-- ---- the end

module _ (a : Threaded) (q : QueueLists) (t : ℕ) (v : Threaded) (now : QueueLists)
    (all : IsPassedOn a q t (length q.mutexes) v now) where
  nothing-left : all.left ≡ []
  nothing-left = empty all.left (omega (arith, ap length all.parts, length-append all.done all.left, all.count))
    where
      empty : (xs : List Mutex) → length xs ≡ 0 → xs ≡ []
      empty [] e = refl
      empty (x ∷ xs) e = absurd (omega (arith, e))

  all-done : all.done ≡ q.mutexes
  all-done = sym (append-nil all.done) ∙ ap (λ (ms : List Mutex). all.done ++ ms) (sym nothing-left) ∙ sym all.parts

  mutexes-done : map (passed_from t) all.done ++ all.left ≡ map (passed_from t) q.mutexes
  mutexes-done = ap (λ (ms : List Mutex). map (passed_from t) all.done ++ ms) nothing-left
      ∙ append-nil (map (passed_from t) all.done) ∙ ap (map (passed_from t)) all-done

  pub passed-threads : v ≡ record (with_records a (change_each released a.records (filter_map (next_from t) q.mutexes))
      v.stale) { owners = owners_of (map (passed_from t) q.mutexes) }
  passed-threads =
      all.threads ∙ ap (λ (ms : List Mutex). record (with_records a (change_each released a.records
      (filter_map (next_from t) all.done)) v.stale) { owners = owners_of ms }) mutexes-done
      ∙ ap (λ (ms : List Mutex). record (with_records a (change_each released a.records (filter_map (next_from t) ms))
      v.stale) { owners = owners_of (map (passed_from t) q.mutexes) }) all-done

  pub passed-queues : now ≡ record q { mutexes = map (passed_from t) q.mutexes }
  passed-queues = all.queues
      ∙ ap (λ (ms : List Mutex). let next : QueueLists = record q { mutexes = ms } in next) mutexes-done

-- ---- one turn of the loop

-- the mutex at the place is the one that it was at first
pub turn-here : (a : Threaded) (q : QueueLists) (t place : ℕ) → owners_of q.mutexes ≡ a.owners
    → (v : Threaded) (now : QueueLists) → IsPassedOn a q t place v now → place < length q.mutexes
    → mutex_at now.mutexes (place + 1) ≡ mutex_at q.mutexes (place + 1)
turn-here a q t place same v now so_far below =
    let (x, (rest, is)) = next-mutex a q t place same v now so_far below in
    now-here a q t place same v now so_far x rest is ∙ sym (q-here a q t place same v now so_far x rest is)

-- its owner isn't the one that has waited longest for it
pub turn-apart : (a : Threaded) (q : QueueLists) (t place : ℕ) → owners_of q.mutexes ≡ a.owners
    → (v : Threaded) (now : QueueLists) → IsPassedOn a q t place v now → place < length q.mutexes → IsNowhere q t
    → (mutex_at now.mutexes (place + 1)).owner ≡ Some t → (next : ℕ)
    → slice_get (mutex_at now.mutexes (place + 1)).waiters 0 ≡ Some next
    → ¬ ((mutex_at now.mutexes (place + 1)).owner ≡ Some next)
turn-apart a q t place same v now so_far below nowhere owner next first again =
    next-other q t (place + 1) next nowhere (ap (λ (x : Mutex). slice_get x.waiters 0)
    (sym (turn-here a q t place same v now so_far below)) ∙ first) (some-injective t next (sym owner ∙ again))

-- a mutex that the thread doesn't own stays
pub turn-other : (a : Threaded) (q : QueueLists) (t place : ℕ) → owners_of q.mutexes ≡ a.owners
    → (v : Threaded) (now : QueueLists) → IsPassedOn a q t place v now → place < length q.mutexes
    → ¬ ((mutex_at now.mutexes (place + 1)).owner ≡ Some t) → IsPassedOn a q t (place + 1) v now
turn-other a q t place same v now so_far below other =
    let (x, (rest, is)) = next-mutex a q t place same v now so_far below in
    let here = now-here a q t place same v now so_far x rest is in
    passed-other a q t place same v now so_far x rest is
    (other-test t x (λ e. other (ap (λ (y : Mutex). y.owner) here ∙ e)))

-- one that it owns is passed on
pub turn-mine : (a : Threaded) (q : QueueLists) (t place : ℕ) → owners_of q.mutexes ≡ a.owners
    → (v : Threaded) (now : QueueLists) → IsPassedOn a q t place v now → place < length q.mutexes
    → (mutex_at now.mutexes (place + 1)).owner ≡ Some t → (w : Threaded) (then : QueueLists)
    → w ≡ record (with_records v (change_each released v.records (take 1 (mutex_at now.mutexes (place + 1)).waiters))
    w.stale) { owners = set_number v.owners (place + 1) (slice_get (mutex_at now.mutexes (place + 1)).waiters 0) }
    → then ≡ record now { mutexes = set_number now.mutexes (place + 1) (passed_on (mutex_at now.mutexes (place + 1)).waiters) }
    → ((node : Node) → IsStaleIn v node → IsStaleIn w node) → MakesStaleIn v w → IsPassedOn a q t (place + 1) w then
turn-mine a q t place same v now so_far below owner w then threads queues kept makes =
    let (x, (rest, is)) = next-mutex a q t place same v now so_far below in
    let here = now-here a q t place same v now so_far x rest is in
    passed-step a q t place same v now so_far x rest is w
    then (owned-test t x (ap (λ (y : Mutex). y.owner) (sym here) ∙ owner)) threads queues kept makes

-- what a comparison with the owner says
pub owner-same : (o : Option ℕ) (t : ℕ) (r : Bool) → r ≡ option_eq eqb o (Some t) → r ≡ true → o ≡ Some t
owner-same None t r is holds = let never : false ≡ true = sym is ∙ holds in cc
owner-same (Some u) t r is holds = ap Some (eqb-true u t (sym is ∙ holds))

pub owner-differs : (o : Option ℕ) (t : ℕ) (r : Bool) → r ≡ option_eq eqb o (Some t) → r ≡ false → ¬ (o ≡ Some t)
owner-differs None t r is fails e = cc
owner-differs (Some u) t r is fails e = eqb-false u t (sym is ∙ fails) (some-injective u t e)
