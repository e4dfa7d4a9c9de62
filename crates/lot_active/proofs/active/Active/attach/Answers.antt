use Rattle.lot_active.proofs.Lemmas.{Adds, Changes, EdgePlaces, adds-net, ap, changes-nodes, edge_place, ends-there, graph-net, graph-no_cycle, graph_net, kept-moves, layout_of, places_of_ends, same-ends, subst, sym, ◌∙◌, ◌≡◌}
use Rattle.lot_active.proofs.active.Active.attach.Goals as goal

pub unreachable-requires : goal.unreachable-requires
unreachable-requires c =
    let (before, ends, live, added, kept) = c.requires.kept in
    c.in_default.not-Some ends (c.ends_of_edge.ensures.ends ∙ added.here)

pub attach_places-requires-clause-graph : goal.attach_places-requires-clause-graph
attach_places-requires-clause-graph c = graph-net c.args.graph.now c.ends_of_edge.ensures.fits

pub attach_places-requires-clause-no_cycle : goal.attach_places-requires-clause-no_cycle
attach_places-requires-clause-no_cycle c =
    graph-no_cycle c.args.graph.now c.ends_of_edge.ensures.fits c.ends_of_edge.ensures.sound

pub attach_places-requires-clause-kept : goal.attach_places-requires-clause-kept
attach_places-requires-clause-kept c =
    let w = c.args.graph.now in
    let (before, ends, live, added, kept) = c.requires.kept in
    let same : ends ≡ c.in-Some.ends =
    same-ends c.ends_of_edge.result ends c.in-Some.ends (c.ends_of_edge.ensures.ends ∙ added.here) c.in-Some.is in
    let places : places_of_ends (layout_of w) ends ≡ c.places.result = ap (places_of_ends (layout_of w)) same
    ∙ ap (λ l. places_of_ends l c.in-Some.ends) (sym c.layout.ensures.layout) ∙ sym c.places.ensures in
    (graph_net before, edge_place (layout_of w) c.args.edge, subst (Adds (graph_net before) (graph_net w) (edge_place (layout_of w) c.args.edge)) places (adds-net before w c.args.edge ends c.ends_of_edge.ensures.fits added), kept.kept)

pub returns-clause-kept : goal.returns-clause-kept
returns-clause-kept c = λ before ends live added kept.
    kept-moves c.args.self.now c.attach_places.new.self before c.args.graph.now live kept added.layout
    c.ends_of_edge.ensures.sound c.ends_of_edge.ensures.fits c.attach_places.ensures.layout
    c.attach_places.ensures.awake c.attach_places.ensures.kept

pub returns-clause-changes : goal.returns-clause-changes
returns-clause-changes c = λ before ends live added kept.
    let w = c.args.graph.now in
    let fits = c.ends_of_edge.ensures.fits in
    let after =
    kept-moves c.args.self.now c.attach_places.new.self before w live kept added.layout c.ends_of_edge.ensures.sound
    fits c.attach_places.ensures.layout c.attach_places.ensures.awake c.attach_places.ensures.kept in
    let same : c.in-Some.ends ≡ ends =
    same-ends c.ends_of_edge.result c.in-Some.ends ends c.in-Some.is (c.ends_of_edge.ensures.ends ∙ added.here) in
    let places : c.places.result ≡ places_of_ends (layout_of w) ends = c.places.ensures
    ∙ ap (λ l. places_of_ends l c.in-Some.ends) c.layout.ensures.layout ∙ ap (places_of_ends (layout_of w)) same in
    changes-nodes c.args.self.now c.attach_places.new.self before w live live kept after added.layout ends.from
    (fits.from c.args.edge ends.from ends.to (ends-there w.funding c.args.edge ends added.here))
    (subst (λ (a : EdgePlaces). Changes (graph_net w) a.from c.args.self.now c.attach_places.new.self) places
    c.attach_places.ensures.changes)
