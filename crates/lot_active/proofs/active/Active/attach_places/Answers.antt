use Rattle.lot_active.proofs.Lemmas.{Activity, Adjusts, Held, IsLocal, Spreading, adjust-length, ap, arith, attach-may, attach-none, attach-spreads, end-changes_from, end-kept, false, graph_net, kept-local, length, local-by, on_at, sym, true, ℕ, ◌<◌, ◌∙◌, ◌≡◌}
use Rattle.lot_active.proofs.active.Active.attach_places.Goals as goal
use Rattle.lot_active.proofs.active.Active.attach_places.Goals.{After-clear}

-- the call begins with the marks that were there
same-awake : (c : After-clear) → c.clear.new.self.awake ≡ c.args.self.now.awake
same-awake c = c.clear.ensures.awake ∙ ap (λ (v : Activity). v.awake) c.self.view_is

-- and with the amounts that were there
same-amounts : (c : After-clear) → c.clear.new.self.amounts ≡ c.args.self.now.amounts
same-amounts c = c.clear.ensures.amounts ∙ ap (λ (v : Activity). v.amounts) c.self.view_is

-- there are as many amounts as nodes
size : (c : After-clear) → length c.clear.new.self.amounts ≡ (graph_net c.args.graph.now).nodes
size c = let (before, edge, adds, kept) = c.requires.kept in ap (length {A = ℕ}) (same-amounts c) ∙ kept.amounts_length
    ∙ sym adds.nodes

-- the node that the edge leads from has an amount
low : (c : After-clear) → c.args.places.from < length c.clear.new.self.amounts
low c = let (before, edge, adds, kept) = c.requires.kept in
    let from = c.requires.graph.from edge c.args.places adds.here in omega (arith, from, size c)

-- the marks and amounts agree, without the edge
local : (c : After-clear) → IsLocal c.requires.kept.0 c.clear.new.self.awake c.clear.new.self.amounts
local c = let (before, edge, adds, kept) = c.requires.kept in local-by before c.args.self.now c.clear.new.self
    (same-awake c) (same-amounts c) (kept-local before c.args.self.now kept)

-- the change spreads from that node, where the edge leads to one that is active
spreads : (c : After-clear) (new : Held) → on_at c.clear.new.self c.args.places.to ≡ true
    → Adjusts c.clear.new.self new c.args.places.from c.args.places.amount true
    → Spreading (graph_net c.args.graph.now) c.args.places.from true c.clear.new.self new
spreads c new on adjusts =
    let (before, edge, adds, kept) = c.requires.kept in
    attach-spreads before (graph_net c.args.graph.now) edge c.args.places adds c.clear.new.self c.clear.ensures.empty
    c.requires.graph new c.clear.ensures.sized (low c) on (local c) adjusts

-- and nothing changes where it doesn't
stays : (c : After-clear) → on_at c.clear.new.self c.args.places.to ≡ false
    → Spreading (graph_net c.args.graph.now) c.args.places.from true c.clear.new.self c.clear.new.self
stays c off = let (before, edge, adds, kept) = c.requires.kept in attach-none before
    (graph_net c.args.graph.now) edge c.args.places adds c.clear.new.self c.clear.ensures.empty (local c) off

pub adjust-requires-clause-node : goal.adjust-requires-clause-node
adjust-requires-clause-node c = low (goal.at.adjust-requires-clause-node c).After-clear

pub propagate-requires-clause-nodes : goal.propagate-requires-clause-nodes
propagate-requires-clause-nodes c =
    adjust-length c.clear.new.self c.adjust.new.self c.args.places.from c.args.places.amount true
    c.adjust.ensures.adjusts ∙ size (goal.at.propagate-requires-clause-nodes c).After-clear

pub adjust-requires-clause-may : goal.adjust-requires-clause-may
adjust-requires-clause-may c =
    let begun = (goal.at.adjust-requires-clause-may c).After-clear in
    let (before, edge, adds, kept) = c.requires.kept in
    attach-may before (graph_net c.args.graph.now) edge c.args.places adds c.clear.new.self c.clear.ensures.empty
    c.requires.graph c.clear.new.self c.clear.ensures.sized (low begun) (sym c.is_on.ensures.mark ∙ c.if-is_on.true)
    (local begun)

pub propagate-requires-clause-spreading : goal.propagate-requires-clause-spreading
propagate-requires-clause-spreading c =
    (c.args.places.from, c.clear.new.self, spreads (goal.at.propagate-requires-clause-spreading c).After-clear c.adjust.new.self (sym c.is_on.ensures.mark ∙ c.if-is_on.true) c.adjust.ensures.adjusts)

pub returns-then-is_on-clause-kept : goal.returns-then-is_on-clause-kept
returns-then-is_on-clause-kept c =
    let begun = (goal.at.returns-then-is_on-clause-kept c).After-clear in
    let start = spreads begun c.adjust.new.self (sym c.is_on.ensures.mark ∙ c.if-is_on.true) c.adjust.ensures.adjusts in
    end-kept (graph_net c.args.graph.now) c.args.places.from true c.clear.new.self c.propagate.new.self
    (c.propagate.ensures.spreads _ _ start) c.propagate.ensures.pending c.propagate.ensures.sized c.self.inside.layout
    c.requires.graph c.requires.no_cycle
    (c.propagate.ensures.size ∙ adjust-length c.clear.new.self c.adjust.new.self c.args.places.from c.args.places.amount
    true c.adjust.ensures.adjusts ∙ size begun)

pub returns-then-is_on-clause-changes : goal.returns-then-is_on-clause-changes
returns-then-is_on-clause-changes c =
    let begun = (goal.at.returns-then-is_on-clause-changes c).After-clear in
    let start = spreads begun c.adjust.new.self (sym c.is_on.ensures.mark ∙ c.if-is_on.true) c.adjust.ensures.adjusts in
    end-changes_from (graph_net c.args.graph.now) c.args.places.from true c.clear.new.self c.propagate.new.self
    (c.propagate.ensures.spreads _ _ start) c.propagate.ensures.pending c.propagate.ensures.sized c.self.inside.layout
    c.args.self.now (same-awake begun) (same-amounts begun)

pub returns-else-is_on-clause-kept : goal.returns-else-is_on-clause-kept
returns-else-is_on-clause-kept c =
    let begun = (goal.at.returns-else-is_on-clause-kept c).After-clear in
    let same = stays begun (sym c.is_on.ensures.mark ∙ c.if-is_on.false) in
    end-kept (graph_net c.args.graph.now) c.args.places.from true c.clear.new.self c.clear.new.self same
    (c.clear.ensures.empty 0) c.clear.ensures.sized c.self.inside.layout c.requires.graph c.requires.no_cycle
    (size begun)

pub returns-else-is_on-clause-changes : goal.returns-else-is_on-clause-changes
returns-else-is_on-clause-changes c =
    let begun = (goal.at.returns-else-is_on-clause-changes c).After-clear in
    let same = stays begun (sym c.is_on.ensures.mark ∙ c.if-is_on.false) in
    end-changes_from (graph_net c.args.graph.now) c.args.places.from true c.clear.new.self c.clear.new.self same
    (c.clear.ensures.empty 0) c.clear.ensures.sized c.self.inside.layout c.args.self.now (same-awake begun)
    (same-amounts begun)
