-- A change of tickets, currencies or owners, as a change of all data of the threads.
use Rattle.lot_threads.proofs.Common.{AreOf, Bool, GraphChange, IsStale, LeavesThreads, Lend, List, Node, Option, PutThread, Queued, Record, Sizes, StaleBy, Thread, Valued, ap, applied, lends_after, lends_in, live_after, live_in, refl, subst, sym, with_lends, ℕ, ◌∙◌, ◌≡◌, ◌⊎◌}
use Rattle.lot_threads.proofs.Together.{IsReached, graph-is, graph-of, stale-of}

lends-stay : (lends : List Lend) (c : GraphChange) → LeavesThreads c → lends_after lends c ≡ lends
lends-stay lends (PutThread t lend live) leaves = absurd leaves
lends-stay lends other leaves = refl

lives-stay : (lives : List Bool) (c : GraphChange) → LeavesThreads c → live_after lives c ≡ lives
lives-stay lives (PutThread t lend live) leaves = absurd leaves
lives-stay lives other leaves = refl

module _ {without : Sizes} (v new : Valued) (q : Queued) (threads : List (Option Thread)) (records : List Record)
    (runners : List (Option ℕ)) (is : AreOf without v q threads records runners)
    (c : GraphChange) (leaves : LeavesThreads c) (done : new ≡ applied v c new.known.stale)
    (stale : StaleBy c v new) where
  limit : new.now.thread_limit ≡ v.now.thread_limit
  limit = ap (λ (x : Valued). x.now.thread_limit) done

  live-then : new.live ≡ v.live
  live-then = ap (λ (x : Valued). x.live) done ∙ lives-stay v.live c leaves

  -- all is kept together
  pub together-then : AreOf without new q threads records runners
  together-then = graph-of v new q threads records runners is (ap (λ (x : Valued). x.now.funding.lends) done
      ∙ lends-stay v.now.funding.lends c leaves) limit live-then (ap (λ (x : Valued). x.known) done) stale.kept

  -- there is room for as many threads as there was
  pub room-then : (room : ℕ) → room ≡ v.now.thread_limit → room ≡ new.now.thread_limit
  room-then room fits = subst (λ n. room ≡ n) (sym limit) fits

  -- what the change made stale, by what the records lend and who of them is live
  pub reached-then : (x : Node) → IsStale new.known x
      → IsStale v.known x ⊎ IsReached (record v.now.funding { lends = lends_in without records })
      (record new.now.funding { lends = lends_in without records }) (live_in records) (live_in records) x
  reached-then =
      stale-of v new (with_lends v.now (lends_in without records)) (with_lends new.now (lends_in without records))
      (live_in records) (live_in records) (graph-is v q threads records runners is)
      (graph-is new q threads records runners together-then) is.live (live-then ∙ is.live) stale.reached
