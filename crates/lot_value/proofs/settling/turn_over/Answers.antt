use Rattle.lot_value.proofs.Lemmas.{IsReordered, Some, length-set, moved-is, node_at, nodes_of, remove, reordered-move, subst, sym, ◌∙◌, ◌≡◌}
use Rattle.lot_value.proofs.settling.turn_over.Goals as goal

pub returns-clause-reordered : goal.returns-clause-reordered
returns-clause-reordered c =
    let v = c.args.stale.now in
    let place = c.in_ok-place.place in
    let one = c.requires.list.one in
    let at : node_at v 0 0 ≡ Some place = sym c.in_ok-place.ensures.front in
    let moved = moved-is v c.move_to.new.self 0 place one (length-set v.lists 0 (remove (nodes_of v 0) 0) ∙ one)
    (c.move_to.ensures.moved 0 0 at) in
    subst (IsReordered (nodes_of v 0)) (sym moved) (reordered-move (nodes_of v 0) 0 place at)
