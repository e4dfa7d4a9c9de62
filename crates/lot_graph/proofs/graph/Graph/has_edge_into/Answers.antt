use Rattle.lot_graph.proofs.Lemmas.{first-into, ◌∙◌}
use Rattle.lot_graph.proofs.graph.Graph.has_edge_into.Goals as goal

pub returns : goal.returns
returns c =
    c.is_some.ensures ∙ first-into c.args.self.now.funding c.args.node c.edges_into.result c.next.new.self c.next.result
    c.edges_into.ensures.edges c.next.ensures.steps
