use Rattle.lot_value.proofs.Lemmas.{Layout, Mutex, OfMutex, Some, Thread, ap, arith, head_of, layout_of, list-low, mutex-edge, node_place, option_map, owner-edge, some-injective, spread-edge, sym, ◌∙◌, ◌≡◌}
use Rattle.lot_value.proofs.marking.add_owner.Goals as goal
use Rattle.lot_value.proofs.marking.add_owner.Goals.{After-list_of}

-- where the mutex's edge leads, and the place of that node
head : (c : After-list_of) → head_of c.args.graph.now.funding (OfMutex c.args.mutex) ≡ Some (Thread c.in-Some.owner)
head c = ap (option_map Thread) (sym c.owner.ensures ∙ c.in-Some.is)

place : (c : After-list_of) → c.list_of.result ≡ node_place (layout_of c.args.graph.now) (Thread c.in-Some.owner)
place c = c.list_of.ensures ∙ ap (λ (l : Layout). node_place l (Thread c.in-Some.owner)) c.layout-layout.ensures.layout

pub add-requires-clause-place : goal.add-requires-clause-place
add-requires-clause-place c =
    let w = c.args.graph.now in
    let to = Thread c.in-Some.owner in
    let (edge, ends) = owner-edge w.funding c.args.mutex to (head c) in
    let low = list-low (layout_of w) to (c.layout-layout.ensures.fits.to edge (Mutex c.args.mutex) to ends) in
    omega (arith, place c, low, c.requires.list.nodes)

pub returns-in-Some-clause-spreads : goal.returns-in-Some-clause-spreads
returns-in-Some-clause-spreads c =
    let w = c.args.graph.now in
    let before = (goal.at.returns-in-Some-clause-spreads c).After-list_of in
    let to = Thread c.in-Some.owner in
    spread-edge (layout_of w) w.funding (Mutex c.args.mutex) to _ _ c.list_of.result
    (owner-edge w.funding c.args.mutex to (head before))
    (λ other edge. some-injective to other (sym (head before) ∙ mutex-edge w.funding c.args.mutex other edge))
    (place before) c.add.ensures.spreads
