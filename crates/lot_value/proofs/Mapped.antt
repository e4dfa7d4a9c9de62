-- Lists that are mapped.
use Rattle.lot_value.proofs.Common.{Contains, IsNodeWithin, IsReordered, Layout, List, Node, ap, arith, contains-mapped, length, list-back, map, mapped-contains, node-back, node_count, node_of, node_place, refl, subst, suc, sum_by, sum_by-cons, sym, ℕ, [], ◌<◌, ◌↔◌, ◌∙◌, ◌∷◌, ◌≡◌}

module _ {A B : Type 0} (h : A → B) where
  pub sum-mapped : (f : B → ℕ) (xs : List A) → sum_by f (map h xs) ≡ sum_by (λ x. f (h x)) xs
  sum-mapped f [] = refl
  sum-mapped f (x ∷ xs) =
      omega (arith, sum_by-cons f (h x) (map h xs), sum_by-cons (λ y. f (h y)) x xs, sum-mapped f xs)

  pub length-mapped : (xs : List A) → length (map h xs) ≡ length xs
  length-mapped [] = refl
  length-mapped (x ∷ xs) = ap suc (length-mapped xs)

  pub mapped-empty : (xs : List A) → map h xs ≡ [] → xs ≡ []
  mapped-empty [] e = refl
  mapped-empty (x ∷ xs) e = cc

  -- the same in another order, mapped
  pub reordered-mapped : (xs ys : List A) → IsReordered xs ys → IsReordered (map h xs) (map h ys)
  reordered-mapped xs ys reordered = record {
    each = λ y c. let r = contains-mapped h ys y c in
        subst (Contains (map h xs)) r.2 (mapped-contains h xs r.0 (reordered.each r.0 r.1));
    all = λ y c. let r = contains-mapped h xs y c in
        subst (Contains (map h ys)) r.2 (mapped-contains h ys r.0 (reordered.all r.0 r.1));
    sums = λ f. sum-mapped f ys ∙ reordered.sums (λ x. f (h x)) ∙ sym (sum-mapped f xs);
  }

-- a node is among the nodes of places if and only if its place is among them
pub place-mapped : (l : Layout) (places : List ℕ) (node : Node) → IsNodeWithin l node
    → ((place : ℕ) → Contains places place → place < node_count l)
    → Contains places (node_place l node) ↔ Contains (map (node_of l) places) node
place-mapped l places node within low = (
  λ c. subst (Contains (map (node_of l) places)) (node-back l node within)
      (mapped-contains (node_of l) places (node_place l node) c),
  λ c.
      let r = contains-mapped (node_of l) places node c in
      subst (Contains places) (sym (list-back l r.0 (low r.0 r.1)).0 ∙ ap (node_place l) r.2) r.1,
)
