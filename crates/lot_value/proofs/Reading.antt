-- Sums over the edges into a node, with some of them read.
use Rattle.lot_value.proofs.Common.{Edge, Funding, HasEachOnce, LeadsInto, List, Node, ap, arith, edge_count_into, edges-many, edges_into, into-sums, length, refl, sum_by, sum_by-append, sum_by-cons, sym, ℕ, [], ◌++◌, ◌+◌, ◌∙◌, ◌∷◌, ◌≡◌, ◌≤◌}
use Rattle.lot_value.proofs.Listed.{each-done}

pub length-ones : {A : Type 0} (xs : List A) → sum_by (λ x. 1) xs ≡ length xs
length-ones [] = refl
length-ones (x ∷ xs) = omega (arith, sum_by-cons (λ y. 1) x xs, length-ones xs)

module _ (f : Funding) (node : Node) (done left : List Edge)
    (each : HasEachOnce (done ++ left) (LeadsInto f node)) where
  -- what was read, and the next one, is part of the whole
  pub next-sum : (g : Edge → ℕ) (rest : List Edge) (edge : Edge) → left ≡ edge ∷ rest
      → sum_by g done + g edge ≤ sum_by g (edges_into f node)
  next-sum g rest edge is =
      omega (arith, into-sums f node g (done ++ left) each, sum_by-append g done left, ap (sum_by g) is, sum_by-cons g edge rest)

  -- all was read
  pub all-sum : (g : Edge → ℕ) → left ≡ [] → sum_by g done ≡ sum_by g (edges_into f node)
  all-sum g none = into-sums f node g done (each-done (LeadsInto f node) done left none each)

  pub all-count : left ≡ [] → length done ≡ edge_count_into f node
  all-count none = sym (length-ones done) ∙ all-sum (λ edge. 1) none ∙ length-ones (edges_into f node)
      ∙ edges-many f node
