use Rattle.lot_value.proofs.Lemmas.{IsNodeOf, IsNodeWithin, Layout, Valued, live_of, node-within, subst, sym}
use Rattle.lot_value.proofs.valued_graph.ValuedGraph.value_of.Goals as goal

pub value_of-requires : goal.value_of-requires
value_of-requires c =
    let here = subst (λ (x : Valued). IsNodeOf x.now c.args.node) (sym c.self.view_is) c.requires.node in
    record { node = subst (λ (l : Layout). IsNodeWithin l c.args.node) (sym c.self.invariant.right.layout) (node-within c.self.inside.graph c.args.node here) }

pub returns : goal.returns
returns c = record {
  worth =
      rw (← c.self.view_is)
      (λ fresh has. c.value_of.ensures.worth fresh c.self.inside.graph (live_of c.self.inside.graph
      c.self.inside.active) c.self.invariant.kept.sound c.self.invariant.kept.fits c.self.invariant.right has);
}
