-- Through each change the threads stay those of the state in the tables.
use Rattle.lot_kernel.proofs.Common.{Contains, Freed, Funding, List, MakesStale, MakesStaleIn, Meter, MutexTrap, Node, None, Option, QueueLists, Record, Sizes, Snapshot, Thread, Threaded, Ticket, ap, counted_up, edges_into_all, false, funding_in, held, inl, is_some, map-set, settled, settled_in, slice_set, subst, sym, threads_of, with_mutexes, with_records, ℕ, [], ◌∙◌, ◌≡◌}

-- the threads are those of the state that they, the names and the queues hold
abbrev pub IsHeld : Sizes → Freed → List (Option (List ℕ)) → Threaded → QueueLists → Type 0
IsHeld sizes freed names v q = v ≡ threads_of (held sizes freed names v q) v.stale v.meter

module _ (sizes : Sizes) (freed : Freed) (names : List (Option (List ℕ))) (v new : Threaded) (q : QueueLists)
    (was : IsHeld sizes freed names v q) where
  -- other records
  pub held-records : (records : List Record) → new ≡ with_records v records new.stale → IsHeld sizes freed names new q
  held-records records is =
      subst (λ n. IsHeld sizes freed names n q) (sym is) (ap (λ (w : Threaded). with_records w records new.stale) was)

  -- other tickets
  pub held-tickets : (tickets : List (Option Ticket)) → new ≡ record v { tickets = tickets; stale = new.stale }
      → IsHeld sizes freed names new q
  held-tickets tickets is = subst (λ n. IsHeld sizes freed names n q) (sym is)
      (ap (λ (w : Threaded). record w { tickets = tickets; stale = new.stale }) was)

  -- other names and records
  pub held-threads : (threads : List (Option Thread)) (records : List Record)
      → new ≡ record (with_records v records new.stale) { threads = threads } → IsHeld sizes freed names new q
  held-threads threads records is = subst (λ n. IsHeld sizes freed names n q) (sym is)
      (ap (λ (w : Threaded). record (with_records w records new.stale) { threads = threads }) was)

  -- nothing but what is stale and what was counted
  pub held-stale : (stale : List Node) (meter : Meter) → new ≡ record v { stale = stale; meter = meter }
      → IsHeld sizes freed names new q
  held-stale stale meter is = subst (λ n. IsHeld sizes freed names n q) (sym is)
      (ap (λ (w : Threaded). record w { stale = stale; meter = meter }) was)

  -- other mutexes
  pub held-mutexes : (trap : MutexTrap) (left : QueueLists) (meter : Meter)
      → new ≡ record (with_mutexes v trap new.stale) { meter = meter } → left ≡ record q { mutexes = trap.mutexes }
      → IsHeld sizes freed names new left
  held-mutexes trap left meter is left_is =
      subst (λ (l : QueueLists). IsHeld sizes freed names new l) (sym left_is)
      (subst (λ n. IsHeld sizes freed names n (record q { mutexes = trap.mutexes })) (sym is)
      (ap (λ (w : Threaded). record (with_mutexes w trap new.stale) { meter = meter }) was))

  -- one currency less
  pub held-removed : (c : ℕ) → new ≡ record v { currencies = slice_set v.currencies c false; stale = new.stale }
      → IsHeld sizes freed (slice_set names c None) new q
  held-removed c is =
      subst (λ n. IsHeld sizes freed (slice_set names c None) n q) (sym is)
      (ap (λ (w : Threaded). record w { currencies = slice_set w.currencies c false; stale = new.stale }) was
      ∙ ap (λ flags. record (threads_of (held sizes freed names v q) new.stale v.meter) { currencies = flags })
      (sym (map-set is_some names c None)))

-- what the clauses of a kernel see of the threads, the names and the queues
abbrev pub snapshot_of : Sizes → Freed → List (Option (List ℕ)) → QueueLists → Threaded → Snapshot
snapshot_of sizes freed names q v = record { state = held sizes freed names v q; stale = v.stale; meter = v.meter }

-- threads that are settled are those of a state that is
pub settles-held : (sizes : Sizes) (freed : Freed) (names : List (Option (List ℕ))) (v new : Threaded) (q : QueueLists)
    → IsHeld sizes freed names v q → new ≡ settled_in v
    → snapshot_of sizes freed names q new ≡ settled (snapshot_of sizes freed names q v)
settles-held sizes freed names v new q was is =
    ap (snapshot_of sizes freed names q) is
    ∙ ap (λ (f : Funding). record (snapshot_of sizes freed names q
    v) { stale = []; meter = record v.meter { ticket_reads = counted_up v.meter.ticket_reads (edges_into_all f v.stale) } }) (ap funding_in was)

-- what a change of the threads makes stale, a change of the state does
pub makes-held : (sizes : Sizes) (freed : Freed) (names left : List (Option (List ℕ))) (v new : Threaded)
    (q now : QueueLists) → IsHeld sizes freed names v q → IsHeld sizes freed left new now → MakesStaleIn v new
    → MakesStale (snapshot_of sizes freed names q v) (snapshot_of sizes freed left now new)
makes-held sizes freed names left v new q now was is makes =
    subst (λ a. MakesStaleIn a (threads_of (held sizes freed left new now) new.stale new.meter)) was
    (subst (λ b. MakesStaleIn v b) is makes)

-- nothing gets stale where the stale nodes stay
pub makes-none : (old new : Snapshot) → new.stale ≡ old.stale → MakesStale old new
makes-none old new same x stale = inl (subst (λ (nodes : List Node). Contains nodes x) same stale)
