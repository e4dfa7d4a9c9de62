use Rattle.lot_graph.proofs.Lemmas.{IsListOf, ap, node_place, some-injective, spread-by, sym, ◌∙◌}
use Rattle.lot_graph.proofs.search.add_node.Goals as goal

pub returns-in-Some : goal.returns-in-Some
returns-in-Some c =
    let l = c.args.layout in record {
      spreads =
          spread-by (IsListOf l c.args.node) c.add.ensures.spreads
          (λ x same. (c.in-Some.node, c.in-Some.is, sym (same ∙ c.list_of.ensures)))
          (λ x (to, at, here). sym here ∙ ap (node_place l) (some-injective to c.in-Some.node (sym at ∙ c.in-Some.is))
          ∙ sym c.list_of.ensures);
    }
