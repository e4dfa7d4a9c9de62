use Rattle.lot_active.proofs.Lemmas.{Adjusts, Crossing, EdgePlaces, EdgeSource, List, MayMove, Some, adjust-length, all-done, ap, arith, crossing-end, crossing-may, crossing-step, crossing-switched, edge_place, graph_net, held_at, layout_of, map, map-append, net-sound, next-more, next-new, next-places, next-to, places-at, places_of_edge, some-injective, subst, sym, ℕ, [], ◌∙◌, ◌∷◌, ◌≡◌}
use Rattle.lot_active.proofs.marks.Marks.publish.Goals as goal
use Rattle.lot_active.proofs.marks.Marks.publish.Goals.{After-source_of_edge}

-- the ends of the next edge
next : (c : After-source_of_edge)
    → (a : EdgePlaces) × (places_of_edge (layout_of c.args.graph.now) c.args.graph.now.funding c.in-Some.edge ≡ Some a)
next c =
    let w = c.args.graph.now in
    next-places (layout_of w) w.funding c.source_of_edge.ensures.fits c.args.node c.requires.node c.loop-edge.yielded
    c.loop-edge.edge-iterator c.loop-edge.invariant.split c.in-Some.edge c.next.new.self c.in-Some.ensures.steps

pub unreachable-requires : goal.unreachable-requires
unreachable-requires c = let (a, is) = next (goal.at.unreachable-requires c).After-source_of_edge in
    c.in_default.not-Some _ (c.source_of_edge.ensures.source a is)

pub adjust-requires-clause-may : goal.adjust-requires-clause-may
adjust-requires-clause-may c =
    let w = c.args.graph.now in
    let l = layout_of w in
    let fits = c.source_of_edge.ensures.fits in
    let done = c.loop-edge.yielded in
    let edge = c.in-Some.edge in
    let source = c.in-Some-source_of_edge.source in
    let (a, is) = next (goal.at.adjust-requires-clause-may c).After-source_of_edge in
    let same = some-injective source _ (sym c.in-Some-source_of_edge.is ∙ c.source_of_edge.ensures.source a is) in
    let to = next-to l w.funding fits c.args.node c.requires.node done c.loop-edge.edge-iterator
    c.loop-edge.invariant.split edge c.next.new.self c.in-Some.ensures.steps a is in
    let left = next-new l w.funding fits c.args.node c.requires.node done c.loop-edge.edge-iterator
    c.loop-edge.invariant.split edge c.next.new.self c.in-Some.ensures.steps in
    let (seed, was, start) = c.requires.crossing in
    subst (λ (s : EdgeSource). MayMove c.args.on (held_at c.loop-edge.self s.place) s.amount) (sym same)
    (crossing-may (graph_net w) (net-sound l w.funding fits) seed c.args.on was c.loop-edge.self c.args.node
    (map (edge_place l) done) (c.loop-edge.invariant.crossing seed was start) (edge_place l edge) a
    (places-at l w.funding fits edge a is) to left)

pub loop-edge-preserved : goal.loop-edge-preserved
loop-edge-preserved c =
    let w = c.args.graph.now in
    let l = layout_of w in
    let fits = c.source_of_edge.ensures.fits in
    let net = net-sound l w.funding fits in
    let done = c.loop-edge.yielded in
    let edge = c.in-Some.edge in
    let place = edge_place l edge in
    let source = c.in-Some-source_of_edge.source in
    let before = c.loop-edge.invariant in
    let (a, is) = next (goal.at.loop-edge-preserved c).After-source_of_edge in
    let same = some-injective source _ (sym c.in-Some-source_of_edge.is ∙ c.source_of_edge.ensures.source a is) in
    let adjusts = subst (λ (s : EdgeSource). Adjusts c.loop-edge.self c.adjust.new.self s.place s.amount c.args.on) same
    c.adjust.ensures.adjusts in
    let at = places-at l w.funding fits edge a is in
    let to = next-to l w.funding fits c.args.node c.requires.node done c.loop-edge.edge-iterator before.split edge
    c.next.new.self c.in-Some.ensures.steps a is in
    let left = next-new l w.funding fits c.args.node c.requires.node done c.loop-edge.edge-iterator before.split edge
    c.next.new.self c.in-Some.ensures.steps in
    let low = net.from place a at in
    let (seed, was, start) = c.requires.crossing in record {
      split = next-more l w.funding fits c.args.node c.requires.node done c.loop-edge.edge-iterator before.split edge
          c.next.new.self c.in-Some.ensures.steps;
      crossing = λ seed' was' start'.
          subst (λ (es : List ℕ). Crossing (graph_net w) seed' c.args.on was' c.adjust.new.self c.args.node es)
          (sym (map-append (edge_place l) done (edge ∷ [])))
          (crossing-step (graph_net w) net seed' c.args.on was' c.loop-edge.self c.args.node (map (edge_place l) done)
          (before.crossing seed' was' start') place a at to left c.adjust.new.self before.sized
          (omega (arith, low, before.size, c.requires.nodes)) adjusts);
      switched =
          crossing-switched (graph_net w) net seed c.args.on was c.loop-edge.self c.args.node (map (edge_place l) done)
          (before.crossing seed was start) place a at to left c.adjust.new.self before.sized
          (omega (arith, low, before.size, c.requires.nodes)) adjusts
          ∙ before.switched;
      awake = adjusts.awake ∙ before.awake;
      size = adjust-length c.loop-edge.self c.adjust.new.self a.from a.amount c.args.on adjusts ∙ before.size;
      sized = adjusts.sized;
    }

pub returns-clause-spreads : goal.returns-clause-spreads
returns-clause-spreads c = λ seed was start.
    let w = c.args.graph.now in
    let before = c.loop-edge.invariant in
    crossing-end (graph_net w) seed c.args.on was c.loop-edge.self c.args.node
    (map (edge_place (layout_of w)) c.loop-edge.yielded) (before.crossing seed was start)
    (λ e a at to. all-done (layout_of w) w.funding c.layout-layout.ensures.fits c.args.node c.requires.node
    c.loop-edge.yielded c.loop-edge.edge-iterator before.split c.in-None.ensures.steps.0 e a at to)

pub adjust-requires-clause-node : goal.adjust-requires-clause-node
adjust-requires-clause-node c =
    let w = c.args.graph.now in
    let l = layout_of w in
    let fits = c.source_of_edge.ensures.fits in
    let edge = c.in-Some.edge in
    let source = c.in-Some-source_of_edge.source in
    let (a, is) = next (goal.at.adjust-requires-clause-node c).After-source_of_edge in
    let same = ap (λ (s : EdgeSource). s.place)
    (some-injective source _ (sym c.in-Some-source_of_edge.is ∙ c.source_of_edge.ensures.source a is)) in
    let low = (net-sound l w.funding fits).from (edge_place l edge) a (places-at l w.funding fits edge a is) in
    omega (arith, low, same, c.loop-edge.invariant.size, c.requires.nodes)
