use Rattle.lot_value.proofs.Lemmas.{IsNodeOf, IsNodeWithin, Layout, Valued, node-within, subst, sym}
use Rattle.lot_value.proofs.valued_graph.ValuedGraph.is_stale.Goals as goal

pub is_stale-requires : goal.is_stale-requires
is_stale-requires c =
    let here = subst (λ (x : Valued). IsNodeOf x.now c.args.node) (sym c.self.view_is) c.requires.node in
    record { node = subst (λ (l : Layout). IsNodeWithin l c.args.node) (sym c.self.invariant.right.layout) (node-within c.self.inside.graph c.args.node here) }
