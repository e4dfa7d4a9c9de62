-- Edges, their ends and their places.
use Rattle.lot_active.proofs.Common.{Edge, EdgePlaces, FitsIn, Funding, HasEdge, IsNet, IsNodeWithin, Layout, Node, None, OfLender, OfMutex, OfTicket, Option, Some, Ticket, ap, arith, counted_amount, edge-back, edge_at, edge_place, ends_of, list-low, net_of, node_place, option_map, pair, place-within, places_of_edge, refl, same-list, some-injective, sym, ticket-ends, unwrap_or, ℕ, ◌<◌, ◌^◌, ◌∙◌, ◌≡◌}

-- ---- all_places

pub places-ends : (l : Layout) (f : Funding) (edge : Edge) (a : EdgePlaces) → places_of_edge l f edge ≡ Some a
    → (from : Node) × (to : Node) × (ends_of f edge ≡ Some (from, to)) × (a.from ≡ node_place l from)
    × (a.to ≡ node_place l to) × (a.amount ≡ counted_amount f edge)
places-ends l f edge a e = by (ends_of f edge) refl e
  where
    made : Node × Node → EdgePlaces
    made ends = record { from = node_place l ends.0; to = node_place l ends.1; amount = counted_amount f edge }

    by : (o : Option (Node × Node)) → ends_of f edge ≡ o → option_map (λ (ends : Node × Node). let a : EdgePlaces =
        record { from = node_place l ends.0; to = node_place l ends.1; amount = counted_amount f edge } in a) o ≡ Some a
        → (from : Node) × (to : Node) × (ends_of f edge ≡ Some (from, to)) × (a.from ≡ node_place l from)
        × (a.to ≡ node_place l to) × (a.amount ≡ counted_amount f edge)
    by None is h = cc
    by (Some (from, to)) is h =
        let same : record { from = node_place l from; to = node_place l to; amount = counted_amount f edge } ≡ a =
        some-injective (let b : EdgePlaces =
        record { from = node_place l from; to = node_place l to; amount = counted_amount f edge } in b) a h in
        (from, to, is, ap (λ (b : EdgePlaces). b.from) (sym same), ap (λ (b : EdgePlaces). b.to) (sym same), ap (λ (b : EdgePlaces). b.amount) (sym same))

pub places-by : (l : Layout) (f : Funding) (edge : Edge) (from to : Node) → ends_of f edge ≡ Some (from, to)
    → (a : EdgePlaces) × (places_of_edge l f edge ≡ Some a) × (a.to ≡ node_place l to)
places-by l f edge from to is = (
  record { from = node_place l from; to = node_place l to; amount = counted_amount f edge },
  ap (option_map (λ (ends : Node × Node). let a : EdgePlaces =
      record { from = node_place l ends.0; to = node_place l ends.1; amount = counted_amount f edge } in a)) is,
  refl,
)

module _ (l : Layout) (f : Funding) (fits : FitsIn l f) where
  -- the edge is there in the net
  pub ends-places : (edge : Edge) (from to : Node) → ends_of f edge ≡ Some (from, to)
      → HasEdge (net_of l f) (node_place l from) (node_place l to)
  ends-places edge from to is = (
    edge_place l edge,
    record { from = node_place l from; to = node_place l to; amount = counted_amount f edge },
    ap (places_of_edge l f) (edge-back l edge (fits.edge edge from to is))
        ∙ ap (option_map (λ (ends : Node × Node). let a : EdgePlaces =
        record { from = node_place l ends.0; to = node_place l ends.1; amount = counted_amount f edge } in a)) is,
    refl,
    refl,
  )

  -- and an edge of the net is one
  pub places-edge : (a : Node) (x y : ℕ) → IsNodeWithin l a → x ≡ node_place l a → HasEdge (net_of l f) x y
      → (edge : Edge) × (to : Node) × (ends_of f edge ≡ Some (a, to)) × (y ≡ node_place l to)
  places-edge a x y within x_is (e, places, is, from, to) =
      let r = places-ends l f (edge_at l e) places is in
      let same : r.0 ≡ a = same-list l r.0 a (fits.from (edge_at l e) r.0 r.1 r.2) within (sym r.3 ∙ from ∙ x_is) in
      (edge_at l e, r.1, r.2 ∙ ap (λ (b : Node). Some (pair b r.1)) same, sym to ∙ r.4)

  amount-some : (edge : Edge) (from to : Node) → ends_of f edge ≡ Some (from, to)
      → (0 < counted_amount f edge) × (counted_amount f edge < 2 ^ 32)
  amount-some (OfTicket n) from to is =
      let r = ticket-ends f n from to is in
      let amount : counted_amount f (OfTicket n) ≡ r.0.amount =
      ap (λ (o : Option Ticket). unwrap_or (option_map (λ (t : Ticket). t.amount) o) 0) r.1 in
      (omega (arith, amount, (fits.amounts n r.0 r.1).0), omega (arith, amount, (fits.amounts n r.0 r.1).1))
  amount-some (OfLender t) from to is = (omega arith, omega arith)
  amount-some (OfMutex m) from to is = (omega arith, omega arith)

  pub net-sound : IsNet (net_of l f)
  net-sound = record {
    from = λ e a is. let r = places-ends l f (edge_at l e) a is in
        let low = list-low l r.0 (fits.from (edge_at l e) r.0 r.1 r.2) in omega (arith, low, r.3);
    to = λ e a is. let r = places-ends l f (edge_at l e) a is in
        let low = list-low l r.1 (fits.to (edge_at l e) r.0 r.1 r.2) in omega (arith, low, r.4);
    some = λ e a is. let r = places-ends l f (edge_at l e) a is in let s = amount-some (edge_at l e) r.0 r.1 r.2 in
        omega (arith, s.0, r.5);
    fits = λ e a is. let r = places-ends l f (edge_at l e) a is in let s = amount-some (edge_at l e) r.0 r.1 r.2 in
        omega (arith, s.1, r.5);
    within = λ e a is. let r = places-ends l f (edge_at l e) a is in
        place-within l e (fits.edge (edge_at l e) r.0 r.1 r.2);
    numbered = fits.numbered;
  }
