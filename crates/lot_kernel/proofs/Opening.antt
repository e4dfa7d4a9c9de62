-- At the start the threads are those of the state.
use Rattle.lot_kernel.proofs.Common.{Freed, HasHolders, List, Mutex, None, Option, QueueLists, Sizes, Some, Threaded, ap, at_number-suc, codes, empty_queues, holders, length-replicate, map, mutex_at, none_free, opening, refl, replicate, slice_get, starting, subst, suc, sym, threads_of, true, zero, ℕ, [], ◌∙◌, ◌∷◌, ◌≡◌}
use Rattle.lot_kernel.proofs.Holding.{IsHeld, snapshot_of}
use Rattle.lot_kernel.proofs.Serving.{waiters_in}

owners-free : (n : ℕ)
    → map (λ (m : Mutex). m.owner) (replicate n (record { owner = None; waiters = [] })) ≡ replicate n None
owners-free zero = refl
owners-free (suc n) = ap (λ os. None ∷ os) (owners-free n)

-- no thread, base alone, and free mutexes
abbrev pub opening_threads : Sizes → Threaded
opening_threads sizes = record {
  currencies = true ∷ [];
  tickets = [];
  owners = replicate (holders sizes) None;
  ticket_limit = sizes.tickets;
  currency_limit = sizes.currencies;
  thread_limit = sizes.threads;
  unit = sizes.unit;
  quantum = sizes.quantum;
  processors = sizes.processors;
  lending = sizes;
  threads = [];
  records = [];
  stale = [];
  meter = record { ticket_reads = 0; tree_visits = 0 };
}

module _ (sizes : Sizes) (v : Threaded) where
  -- they are the threads of the opening state
  pub opens-threads : v ≡ opening_threads sizes → v ≡ threads_of (opening sizes) [] (starting sizes).meter
  opens-threads is = is ∙ ap (λ os. record (opening_threads sizes) { owners = os }) (sym (owners-free (holders sizes)))

  module _ (names : List (Option (List ℕ))) (q : QueueLists) (named : names ≡ Some (codes "base") ∷ [])
      (is : v ≡ threads_of (opening sizes) [] (starting sizes).meter)
      (queues : q ≡ empty_queues sizes.ports (holders sizes) sizes.threads) where
    pub opening-held : (freed : Freed) → IsHeld sizes freed names v q
    opening-held freed =
        subst (λ ns. IsHeld sizes freed ns v q) (sym named)
        (subst (λ (w : Threaded). IsHeld sizes freed (Some (codes "base") ∷ []) w q) (sym is)
        (subst (λ (l : QueueLists). IsHeld sizes freed (Some (codes "base") ∷ [])
        (threads_of (opening sizes) [] (starting sizes).meter) l) (sym queues) refl))

    -- with no place free they are seen as the snapshot at the start
    pub opening-starts : (freed : Freed) → freed ≡ none_free → snapshot_of sizes freed names q v ≡ starting sizes
    opening-starts freed free =
        ap (λ (f : Freed). snapshot_of sizes f names q v) free ∙ ap (λ ns. snapshot_of sizes none_free ns q v) named
        ∙ ap (λ (l : QueueLists). snapshot_of sizes none_free (Some (codes "base") ∷ []) l v) queues
        ∙ ap (snapshot_of sizes none_free (Some (codes "base") ∷ [])
        (empty_queues sizes.ports (holders sizes) sizes.threads)) is

-- nobody waits for a holder then
free-waits : (n k : ℕ) → waiters_in (slice_get (replicate n (record { owner = None; waiters = [] })) k) ≡ []
free-waits zero k = refl
free-waits (suc n) zero = refl
free-waits (suc n) (suc k) = free-waits n k

pub opening-holders : (sizes : Sizes) (q : QueueLists) → q ≡ empty_queues sizes.ports (holders sizes) sizes.threads
    → HasHolders sizes q
opening-holders sizes q is = subst (HasHolders sizes) (sym is)
    (record { ports = length-replicate sizes.ports _; mutexes = length-replicate (holders sizes) _; unwaited = λ m above. by m })
  where
    by : (m : ℕ) → (mutex_at (replicate (holders sizes) (record { owner = None; waiters = [] })) m).waiters ≡ []
    by zero = refl
    by (suc k) = ap waiters_in (at_number-suc (replicate (holders sizes) (record { owner = None; waiters = [] })) k)
        ∙ free-waits (holders sizes) k
