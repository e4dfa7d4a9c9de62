use Rattle.lot_draw.proofs.Common.{Node, Thread, ap, arith, inl, inr, sym, ℕ, ◌+◌, ◌-◌, ◌<◌, ◌∙◌, ◌≡◌, ◌⊎◌}
use Rattle.lot_draw.proofs.run_queue.RunQueue.list_node.Goals as goal

-- the thread of a place
at-place : {A : Type 0} (node : Node) (thread place : ℕ) → node ≡ Thread thread → 0 < thread → A ⊎ (place ≡ thread - 1)
    → A ⊎ (node ≡ Thread (place + 1))
at-place node thread place is above (inl there) = inl there
at-place node thread place is above (inr at) = inr (is ∙ ap Thread (omega (arith, above, at)))

pub returns-in-Thread-clause-kept : goal.returns-in-Thread-clause-kept
returns-in-Thread-clause-kept c x there = (c.list.ensures.listed x).1 (inl there)

pub returns-in-Thread-clause-only : goal.returns-in-Thread-clause-only
returns-in-Thread-clause-only c x there =
    let is : c.args.node ≡ Thread c.in-Thread.thread = cc in
    at-place c.args.node c.in-Thread.thread x is (c.requires.place c.in-Thread.thread is).0
    (rw c.index_of.ensures at (c.list.ensures.listed x).0 there)

pub returns-in-Thread-clause-listed : goal.returns-in-Thread-clause-listed
returns-in-Thread-clause-listed c t is =
    let same : t ≡ c.in-Thread.thread = cc in
    (c.list.ensures.listed (t - 1)).1 (inr (ap (λ n. n - 1) same ∙ sym c.index_of.ensures))
