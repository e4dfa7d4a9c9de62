use Rattle.lot_draw.proofs.Lemmas.{AreWeights, IsNodeWithin, IsOnce, IsStale, Known, Layout, LimitedFunding, Node, Queued, Some, Thread, Valued, ap, counted_up, edge_count_into, inl, inr, layout_of, length, node-within, refl, settle-more, subst, sym, true, weights-settled, ℕ, ◌+◌, ◌∙◌, ◌≡◌, ◌⊎◌}
use Rattle.lot_draw.proofs.run_queue.RunQueue.settle.Goals as goal

-- what is listed after one step was listed or stale at first
listed-more : {A B : Type 0} (was first : Known) (node : Node) (place : ℕ) → IsStale was node
    → ((other : Node) → IsStale was other → IsStale first other) → (A → B ⊎ IsStale first (Thread (place + 1)))
    → A ⊎ (node ≡ Thread (place + 1)) → B ⊎ IsStale first (Thread (place + 1))
listed-more was first node place stale fewer listed (inl there) = listed there
listed-more was first node place stale fewer listed (inr is) =
    inr (fewer (Thread (place + 1)) (subst (IsStale was) is stale))

-- no node is listed twice at first
once-first : (first now : Valued) → (now ≡ first) ⊎ IsOnce first.known → IsOnce now.known → IsOnce first.known
once-first first now (inl same) once = subst (λ (v : Valued). IsOnce v.known) same once
once-first first now (inr before) once = before

pub loop-node-preserved : goal.loop-node-preserved
loop-node-preserved c =
    let inv = c.loop-node.invariant in
    let step = c.in-Some.ensures in
    let old = c.loop-node.self in
    let new = c.list_node.new.self in
    let was = c.loop-node.graph in
    let now = c.settle_next.new.self in
    let node = c.in-Some.node in
    let layout : was.known.layout ≡ layout_of was.now = sym step.settles.layout ∙ step.layout ∙ ap layout_of step.now in
    let within = subst (λ (l : Layout). IsNodeWithin l node) (sym layout) (node-within was.now node step.within) in
    let threads : was.known.layout.threads ≡ c.args.graph.now.now.thread_limit = ap (λ (l : Layout). l.threads) layout
    ∙ ap (λ (w : LimitedFunding). w.thread_limit) inv.now in
    let places : length old.competitors ≡ was.known.layout.threads = ap (λ (q : Queued). length q.competitors) inv.queue
    ∙ c.requires.places ∙ sym threads in
    let weights = weights-settled old new.changed was.known now.known node places within step.settles
    c.list_node.ensures.kept c.list_node.ensures.listed inv.weights in
    let counted = subst (λ (w : LimitedFunding). now.known.reads
    ≡ counted_up was.known.reads (edge_count_into w.funding node)) inv.now step.counted in record {
      queue = c.list_node.ensures.others ∙ ap (λ (q : Queued). record q { changed = new.changed }) inv.queue;
      listed = λ place there. listed-more was.known c.args.graph.now.known node place step.settles.was inv.fewer
          (inv.listed place) (c.list_node.ensures.only place there);
      fewer = λ other stale. inv.fewer other (step.settles.each other stale);
      weights = subst (λ (q : Queued). AreWeights q now.known) (sym c.list_node.ensures.others) weights;
      now = step.now ∙ inv.now;
      live = step.live ∙ inv.live;
      unit = step.settles.unit ∙ inv.unit;
      once = inr (once-first c.args.graph.now was inv.once step.once);
      counted = settle-more c.args.graph.now.now.funding c.args.graph.now.known.reads was.known.reads now.known.reads
          c.args.graph.now.known.stale was.known now.known (Some node) true refl refl step.settles counted inv.counted;
    }

pub returns-clause-once : goal.returns-clause-once
returns-clause-once c =
    once-first c.args.graph.now c.loop-node.graph c.loop-node.invariant.once c.settle_next.ensures.once
