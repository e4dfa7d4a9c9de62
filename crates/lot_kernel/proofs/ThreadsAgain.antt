-- The tables after a thread is made in a free place, or removed.
use Rattle.lot_kernel.proofs.Common.{Freed, List, None, Option, QueueLists, Sizes, Some, Thread, Threaded, ap, cond, drop, drop_thread, false, free_threads, held, length, length-set, map-set, names_of, newborn, none_free, option_map, set_number, slice_get, slice_get-map, slice_set, with_records, with_thread, ℕ, [], ◌+◌, ◌-◌, ◌∙◌, ◌∷◌, ◌≡◌}
use Rattle.lot_kernel.proofs.Freeing.{set-place}
use Rattle.lot_kernel.proofs.Reusing.{thread-again, thread-left}

-- the place of a removed thread has no name
pub gap-unnamed : (threads : List (Option Thread)) (place : ℕ) → slice_get threads place ≡ Some None
    → slice_get (names_of threads) place ≡ Some None
gap-unnamed threads place gap =
    slice_get-map (option_map (λ (t : Thread). t.name)) threads place
    ∙ ap (option_map (option_map (λ (t : Thread). t.name))) gap

module _ (v new : Threaded) (place : ℕ) (thread : Thread) (made : new ≡ record (with_records v (set_number v.records
    (place + 1) newborn) new.stale) { threads = set_number v.threads (place + 1) (Some thread) }) where
  -- as many records and threads as before
  pub records-again : length new.records ≡ length v.records
  records-again = ap (λ (w : Threaded). length w.records) made ∙ length-set v.records (place + 1 - 1) newborn

  pub threads-again : length new.threads ≡ length v.threads
  threads-again = ap (λ (w : Threaded). length w.threads) made ∙ length-set v.threads (place + 1 - 1) (Some thread)

  -- the table of names has the name there
  pub names-again : names_of new.threads ≡ slice_set (names_of v.threads) place (Some thread.name)
  names-again =
      ap (λ (w : Threaded). names_of w.threads) made ∙ ap names_of (set-place v.threads place (Some thread))
      ∙ map-set (option_map (λ (t : Thread). t.name)) v.threads place (Some thread)

  -- the state has one more thread
  pub state-again : (sizes : Sizes) (freed : Freed) (names : List (Option (List ℕ))) (q : QueueLists)
      → free_threads (held sizes freed names v q) ≡ freed.threads → slice_get freed.threads 0 ≡ Some place
      → slice_get q.clients place ≡ Some []
      → held sizes (record freed { threads = drop 1 freed.threads }) names new q
      ≡ with_thread (held sizes freed names v q) thread.name thread.script
  state-again sizes freed names q given first idle =
      ap (λ (w : Threaded). held sizes (record freed { threads = drop 1 freed.threads }) names w q) made
      ∙ thread-again (held sizes freed names v q) place thread.name thread.script given first idle

-- without the thread that was removed
pub thread-gone : (sizes : Sizes) (freed : Freed) (names : List (Option (List ℕ))) (v new : Threaded) (q : QueueLists)
    (places : List ℕ) (t : ℕ) → (sizes.reuse ≡ false → freed ≡ none_free)
    → new ≡ record v { threads = set_number v.threads t None }
    → places ≡ cond {A = List ℕ} sizes.reuse ((t - 1) ∷ freed.threads) freed.threads
    → held sizes (record freed { threads = places }) names new q ≡ drop_thread (held sizes freed names v q) t
thread-gone sizes freed names v new q places t none removed left =
    ap (λ (w : Threaded). held sizes (record freed { threads = places }) names w q) removed
    ∙ ap (λ free.
    held sizes (record freed { threads = free }) names (record v { threads = set_number v.threads t None }) q) left
    ∙ thread-left (held sizes freed names v q) none t
