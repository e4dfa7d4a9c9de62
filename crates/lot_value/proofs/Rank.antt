-- A rank of nodes that rises along each edge, computed from the graph alone.
use Rattle.lot_value.proofs.Common.{Contains, Currency, Edge, FitsIn, Funding, HasNoCycle, IsEdge, IsWay, Layout, LeadsInto, List, Node, Some, ap, arith, contains-later, edges_into, ends-places, ends_of, into-once, length, map, net-no_cycle, net-sound, net_of, node_count, node_place, option_map, refl, suc, sum_by, sum_by-cons, sym, unwrap_or, way-short, zero, ℕ, [], ◌+◌, ◌<◌, ◌∙◌, ◌∷◌, ◌≡◌, ◌≤◌}
use Rattle.lot_active.specs.Nets.{IsWay as IsNetWay}
use Rattle.lot_value.proofs.Listed.{contains-first}

abbrev pub source_of : Funding → Edge → Node
source_of f edge = unwrap_or (option_map (λ ends. ends.0) (ends_of f edge)) (Currency 0)

abbrev pub rank_within : ℕ → Funding → Node → ℕ
rank_within zero f node = 0
rank_within (suc k) f node = sum_by (λ edge. suc (rank_within k f (source_of f edge))) (edges_into f node)

-- how many ways of one edge or more lead to the node
unfoldable pub rank : Layout → Funding → Node → ℕ
rank l f node = rank_within (suc (node_count l)) f node

sum-alike : {A : Type 0} (g h : A → ℕ) (xs : List A) → ((x : A) → Contains xs x → g x ≡ h x) → sum_by g xs ≡ sum_by h xs
sum-alike g h [] same = refl
sum-alike g h (x ∷ xs) same = omega
    (arith, sum_by-cons g x xs, sum_by-cons h x xs, same x (contains-first x xs), sum-alike g h xs (λ y c. same y (contains-later x xs y c)))

term-le : {A : Type 0} (g : A → ℕ) (xs : List A) (x : A) → Contains xs x → g x ≤ sum_by g xs
term-le g (y ∷ ys) x (zero, low, is) = omega (arith, sum_by-cons g y ys, ap g is)
term-le g (y ∷ ys) x (suc i, low, is) = omega (arith, sum_by-cons g y ys, term-le g ys x (i, omega (arith, low), is))
term-le g [] x (i, low, is) = absurd (omega (arith, low))

source-is : (f : Funding) (edge : Edge) (from to : Node) → ends_of f edge ≡ Some (from, to) → source_of f edge ≡ from
source-is f edge from to is = ap (λ o. unwrap_or (option_map (λ ends. ends.0) o) (Currency 0)) is

module _ (l : Layout) (f : Funding) (fits : FitsIn l f) (no_cycle : HasNoCycle f) where
  net-way : (from : Node) (way : List Node) (to : Node) → IsWay f from way to
      → IsNetWay (net_of l f) (node_place l from) (map (node_place l) way) (node_place l to)
  net-way from [] to same = ap (node_place l) same
  net-way from (next ∷ rest) to ((edge, is), others) =
      (ends-places l f fits edge from next is, net-way next rest to others)

  length-of : (way : List Node) → length (map (node_place l) way) ≡ length way
  length-of [] = refl
  length-of (x ∷ way) = ap suc (length-of way)

  short : (from : Node) (way : List Node) (to : Node) → IsWay f from way to → length way ≤ node_count l
  short from way to is =
      omega (arith, length-of way, way-short (net_of l f) (net-sound l f fits) (net-no_cycle l f fits no_cycle) (node_place l from) (map (node_place l) way) (node_place l to) (net-way from way to is))

  steady-by : (k m : ℕ) (node : Node)
      → ((edge : Edge) (from : Node) → ends_of f edge ≡ Some (from, node) → rank_within m f from ≡ rank_within k f from)
      → rank_within (suc m) f node ≡ rank_within (suc k) f node
  steady-by k m node same =
      sum-alike (λ edge. suc (rank_within m f (source_of f edge))) (λ edge. suc (rank_within k f (source_of f edge)))
      (edges_into f node) (λ edge c. by edge ((into-once f node).each edge c))
    where
      by : (edge : Edge) → LeadsInto f node edge
          → suc (rank_within m f (source_of f edge)) ≡ suc (rank_within k f (source_of f edge))
      by edge (from, ends) =
          let source = source-is f edge from node ends in
          ap (λ x. suc (rank_within m f x)) source ∙ ap suc (same edge from ends)
          ∙ ap (λ x. suc (rank_within k f x)) (sym source)

  steady-from : (k : ℕ) (node : Node) (way : List Node) (to : Node) → IsWay f node way to
      → suc (node_count l) ≤ length way + k → (m : ℕ) → k ≤ m → rank_within m f node ≡ rank_within k f node
  steady-from zero node way to is enough m more = absurd (omega (arith, enough, short node way to is))
  steady-from (suc k) node way to is enough zero more = absurd (omega (arith, more))
  steady-from (suc k) node way to is enough (suc m) more =
      steady-by k m node (λ edge from ends.
      steady-from k from (node ∷ way) to ((edge, ends), is) (omega (arith, enough)) m (omega (arith, more)))

  pub rank-rises : (from to : Node) → IsEdge f from to → rank l f from < rank l f to
  unfolding rank
  rank-rises from to (edge, ends) =
      let count = suc (node_count l) in
      let same = steady-from count to [] to refl (omega arith) (suc count) (omega arith) in
      let term = term-le (λ e. suc (rank_within count f (source_of f e))) (edges_into f to) edge
      ((into-once f to).all edge (from, ends)) in
      omega (arith, same, term, ap (rank_within count f) (source-is f edge from to ends))
