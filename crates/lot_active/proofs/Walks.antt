-- A walk over the edges into a node, by the places of the edges.
use Rattle.lot_active.proofs.Common.{Contains, Edge, EdgePlaces, EntersAt, FitsIn, Funding, HasEachOnce, IsEdgeWithin, Layout, LeadsInto, List, Node, Some, ap, append_assoc, arith, contains-at, contains-mapped, edge-back, edge_at, edge_place, list-back, map, mapped-at, mapped-contains, net_of, node_count, node_of, pair, place-back, places_of_edge, refl, same-list, slice_get, subst, suc, sym, ℕ, [], ◌++◌, ◌+◌, ◌<◌, ◌∙◌, ◌∷◌, ◌≡◌}
use Rattle.lot_active.proofs.Ends.{places-ends, places-by}
use Rattle.lot_active.proofs.Lists.{walk-new, walk-all}

module _ (l : Layout) (f : Funding) (fits : FitsIn l f) where
  -- an edge that is there stands at its place
  pub places-at : (edge : Edge) (a : EdgePlaces) → places_of_edge l f edge ≡ Some a
      → places_of_edge l f (edge_at l (edge_place l edge)) ≡ Some a
  places-at edge a is = let r = places-ends l f edge a is in
      ap (places_of_edge l f) (edge-back l edge (fits.edge edge r.0 r.1 r.2)) ∙ is

  module _ (place : ℕ) (low : place < node_count l) where
    enters : (edge : Edge) → LeadsInto f (node_of l place) edge → EntersAt (net_of l f) place (edge_place l edge)
    enters edge (from, ends) =
        let r = places-by l f edge from (node_of l place) ends in
        (r.0, places-at edge r.0 r.1, r.2 ∙ (list-back l place low).0)

    leads : (e : ℕ) → EntersAt (net_of l f) place e → LeadsInto f (node_of l place) (edge_at l e)
    leads e (a, is, to) =
        let r = places-ends l f (edge_at l e) a is in
        let back = list-back l place low in
        let same : r.1 ≡ node_of l place =
        same-list l r.1 (node_of l place) (fits.to (edge_at l e) r.0 r.1 r.2) back.1 (sym r.4 ∙ to ∙ sym back.0) in
        (r.0, r.2 ∙ ap (λ (b : Node). Some (pair r.0 b)) same)

    pub places-each : (edges : List Edge) → HasEachOnce edges (LeadsInto f (node_of l place))
        → HasEachOnce (map (edge_place l) edges) (EntersAt (net_of l f) place)
    places-each edges each = record {
      each = λ e there. let r = contains-mapped (edge_place l) edges e there in
          subst (EntersAt (net_of l f) place) r.2 (enters r.0 (each.each r.0 r.1));
      all = λ e into. subst (Contains (map (edge_place l) edges)) (place-back l e)
          (mapped-contains (edge_place l) edges (edge_at l e) (each.all (edge_at l e) (leads e into)));
      once = once;
    }
      where
        within : (k : ℕ) (edge : Edge) → slice_get edges k ≡ Some edge → IsEdgeWithin l edge
        within k edge at = let r = each.each edge (contains-at edges k edge at) in
            fits.edge edge r.0 (node_of l place) r.1

        once : (e k other : ℕ) → slice_get (map (edge_place l) edges) k ≡ Some e
            → slice_get (map (edge_place l) edges) other ≡ Some e → k ≡ other
        once e k other at at' =
            let a = mapped-at (edge_place l) edges k e at in
            let b = mapped-at (edge_place l) edges other e at' in
            let same : b.0 ≡ a.0 = sym (edge-back l b.0 (within other b.0 b.1)) ∙ ap (edge_at l) (b.2 ∙ sym a.2)
            ∙ edge-back l a.0 (within k a.0 a.1) in
            each.once a.0 k other a.1 (b.1 ∙ ap Some same)

    map-append : (xs ys : List Edge) → map (edge_place l) (xs ++ ys) ≡ map (edge_place l) xs ++ map (edge_place l) ys
    map-append [] ys = refl
    map-append (x ∷ xs) ys = ap (λ (zs : List ℕ). edge_place l x ∷ zs) (map-append xs ys)

    module _ (done xs : List Edge) (each : HasEachOnce (done ++ xs) (LeadsInto f (node_of l place))) where
      mapped : HasEachOnce (map (edge_place l) done ++ map (edge_place l) xs) (EntersAt (net_of l f) place)
      mapped = subst (λ (es : List ℕ). HasEachOnce es (EntersAt (net_of l f) place)) (map-append done xs)
          (places-each (done ++ xs) each)

      module _ (edge : Edge) (rest : List Edge) (is : xs ≡ edge ∷ rest) where
        at-place : map (edge_place l) xs ≡ edge_place l edge ∷ map (edge_place l) rest
        at-place = ap (map (edge_place l)) is

        pub next-more : HasEachOnce ((done ++ edge ∷ []) ++ rest) (LeadsInto f (node_of l place))
        next-more = subst (λ (es : List Edge). HasEachOnce es (LeadsInto f (node_of l place)))
            (sym (append_assoc done (edge ∷ []) rest))
            (subst (λ (ys : List Edge). HasEachOnce (done ++ ys) (LeadsInto f (node_of l place))) is each)

        next-leads : LeadsInto f (node_of l place) edge
        next-leads = next-more.each edge (front done)
          where
            front : (ys : List Edge) → Contains ((ys ++ edge ∷ []) ++ rest) edge
            front ys = contains-at ((ys ++ edge ∷ []) ++ rest) (size ys) edge (at ys)
              where
                size : List Edge → ℕ
                size [] = 0
                size (z ∷ zs) = size zs + 1

                at : (zs : List Edge) → slice_get ((zs ++ edge ∷ []) ++ rest) (size zs) ≡ Some edge
                at [] = refl
                at (z ∷ zs) = let more : size zs + 1 ≡ suc (size zs) = omega arith in
                    ap (slice_get (((z ∷ zs) ++ edge ∷ []) ++ rest)) more ∙ at zs

        pub next-places : (a : EdgePlaces) × (places_of_edge l f edge ≡ Some a)
        next-places = let (from, ends) = next-leads in let r = places-by l f edge from (node_of l place) ends in
            (r.0, r.1)

        pub next-to : (a : EdgePlaces) → places_of_edge l f edge ≡ Some a → a.to ≡ place
        next-to a at =
            let (from, ends) = next-leads in
            let r = places-by l f edge from (node_of l place) ends in
            let same : Some r.0 ≡ Some a = sym r.1 ∙ at in
            let equal : r.0 ≡ a = cc in
            ap (λ (b : EdgePlaces). b.to) (sym equal) ∙ r.2 ∙ (list-back l place low).0

        pub next-new : ¬ Contains (map (edge_place l) done) (edge_place l edge)
        next-new = walk-new (net_of l f) place (map (edge_place l) done) (map (edge_place l) xs) mapped
            (edge_place l edge) (map (edge_place l) rest) at-place

      pub all-done : xs ≡ [] → (e : ℕ) (a : EdgePlaces) → places_of_edge l f (edge_at l e) ≡ Some a → a.to ≡ place
          → Contains (map (edge_place l) done) e
      all-done none e a at to = walk-all (net_of l f) place (map (edge_place l) done) (map (edge_place l) xs) mapped
          (ap (map (edge_place l)) none) e a at to
