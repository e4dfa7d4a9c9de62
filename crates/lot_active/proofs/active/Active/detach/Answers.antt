use Rattle.lot_active.proofs.Lemmas.{Adds, Changes, EdgePlaces, IsNodeWithin, Layout, adds-net, ap, changes-nodes, edge_place, ends-there, graph-net, graph-no_cycle, graph_net, kept-moves, layout_of, places_of_ends, subst, sym, ◌∙◌, ◌≡◌}
use Rattle.lot_active.proofs.active.Active.detach.Goals as goal

pub detach_places-requires-clause-no_cycle : goal.detach_places-requires-clause-no_cycle
detach_places-requires-clause-no_cycle c = graph-no_cycle c.args.graph.now c.requires.fits c.requires.sound

pub detach_places-requires-clause-kept : goal.detach_places-requires-clause-kept
detach_places-requires-clause-kept c =
    let w = c.args.graph.now in
    let (before, edge, live, added, kept) = c.requires.kept in
    let places : places_of_ends (layout_of before) c.args.ends ≡ c.places.result =
    ap (λ l. places_of_ends l c.args.ends) (added.layout ∙ sym c.layout.ensures.layout) ∙ sym c.places.ensures in
    (graph_net before, edge_place (layout_of before) edge, subst (Adds (graph_net w) (graph_net before) (edge_place (layout_of before) edge)) places (adds-net w before edge c.args.ends kept.fits added), graph-net before kept.fits, kept.kept)

pub returns-clause-kept : goal.returns-clause-kept
returns-clause-kept c = λ before edge live added kept.
    kept-moves c.args.self.now c.detach_places.new.self before c.args.graph.now live kept
    (sym added.layout) c.requires.sound c.requires.fits c.detach_places.ensures.layout c.detach_places.ensures.awake
    c.detach_places.ensures.kept

pub returns-clause-changes : goal.returns-clause-changes
returns-clause-changes c = λ before edge live added kept.
    let w = c.args.graph.now in
    let ends = c.args.ends in
    let after =
    kept-moves c.args.self.now c.detach_places.new.self before w live kept (sym added.layout) c.requires.sound
    c.requires.fits c.detach_places.ensures.layout c.detach_places.ensures.awake c.detach_places.ensures.kept in
    let within = kept.fits.from edge ends.from ends.to (ends-there before.funding edge ends added.here) in
    let places : c.places.result ≡ places_of_ends (layout_of w) ends = c.places.ensures
    ∙ ap (λ l. places_of_ends l ends) c.layout.ensures.layout in
    changes-nodes c.args.self.now c.detach_places.new.self before w live live kept after (sym added.layout) ends.from
    (subst (λ (l : Layout). IsNodeWithin l ends.from) added.layout within)
    (subst (λ (a : EdgePlaces). Changes (graph_net w) a.from c.args.self.now c.detach_places.new.self) places
    c.detach_places.ensures.changes)
