-- The ends of an edge.
use Rattle.lot_value.proofs.Common.{Edge, EdgeEnds, Funding, Node, None, Option, Some, ap, counted_amount, edge_between, ends_of, ends_of_edge, option_map, refl, some-injective, sym, ◌∙◌, ◌≡◌}

module _ (f : Funding) (edge : Edge) (from to : Node) (at : ends_of f edge ≡ Some (from, to)) where
  pub edge-there : ends_of_edge f edge ≡ Some (edge_between (counted_amount f edge) from to)
  edge-there = ap (option_map (λ (ends : Node × Node). edge_between (counted_amount f edge) ends.0 ends.1)) at

  module _ (ends : EdgeEnds) (is : ends_of_edge f edge ≡ Some ends) where
    same-ends : edge_between (counted_amount f edge) from to ≡ ends
    same-ends = some-injective (edge_between (counted_amount f edge) from to) ends (sym edge-there ∙ is)

    pub to-is : ends.to ≡ to
    to-is = ap (λ (e : EdgeEnds). e.to) (sym same-ends)

-- an edge that leads so by its ends is there
pub there-edge : (f : Funding) (edge : Edge) (ends : EdgeEnds) → ends_of_edge f edge ≡ Some ends
    → ends_of f edge ≡ Some (ends.from, ends.to)
there-edge f edge ends is = by (ends_of f edge) refl is
  where
    by : (o : Option (Node × Node)) → ends_of f edge ≡ o
        → option_map (λ (e : Node × Node). edge_between (counted_amount f edge) e.0 e.1) o ≡ Some ends
        → ends_of f edge ≡ Some (ends.from, ends.to)
    by None at e = cc
    by (Some (from, to)) at e =
        let same = some-injective (edge_between (counted_amount f edge) from to) ends e in
        at ∙ ap (λ (x : EdgeEnds). Some (x.from, x.to)) same
