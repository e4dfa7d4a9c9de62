-- The equations that a change leaves.
use Rattle.lot_value.proofs.Common.{Activity, Bool, ChangesNodes, Contains, CoversChange, Currency, Edge, EdgeEnds, Funding, HasEquation, HasSameEquation, IsActive, IsActiveNode, IsEdge, IsKeptFor, IsNodeOf, IsNodeWithin, IsSound, IsTrue, Layout, LeadsInto, LimitedFunding, List, Node, OfLender, OfMutex, OfTicket, Option, Some, Ticket, TouchesListed, active-ticket, active_amount, adjusted_nodes, ap, cases_eq, counted_amount, edge_between, ends_of, ends_of_edge, false, inl, inr, is_active, is_active-exact, kept-node, kept-shares, layout_of, mark_of, node_place, option_map, refl, share, some-injective, subst, switched_nodes, sym, ticket-active, ticket-ends, ticket_at, true, unwrap_or, ℕ, ◌*◌, ◌/◌, ◌↔◌, ◌∙◌, ◌≡◌, ◌≢◌, ◌⊎◌}
use Rattle.lot_value.proofs.Ends.{edge-there, there-edge}
use Rattle.lot_value.proofs.Nodes.{node-number, contains-or, node-within, within-node}
use Rattle.lot_value.proofs.Shares.{same-test, share-off, share-base, share-user}

module _ (unit : ℕ) (f g : Funding) (live now : List Bool) (changed : List Node) (sound : IsSound f)
    (sound_now : IsSound g) (covers : CoversChange f live g now changed) (node : Node)
    (off : ¬ Contains changed node) where
  -- an edge that leads into the node in one of the fundings is the same in the other
  same-ends : (edge : Edge) (from : Node) → (ends_of f edge ≡ Some (from, node)) ⊎ (ends_of g edge ≡ Some (from, node))
      → ends_of_edge g edge ≡ ends_of_edge f edge
  same-ends edge from at = by (covers.edges edge)
    where
      by : (ends_of_edge g edge ≡ ends_of_edge f edge)
          ⊎ ((a b : Node) → (ends_of f edge ≡ Some (a, b)) ⊎ (ends_of g edge ≡ Some (a, b)) → Contains changed b)
          → ends_of_edge g edge ≡ ends_of_edge f edge
      by (inl same) = same
      by (inr all) = absurd (off (all from node at))

  to-after : (edge : Edge) (from : Node) → ends_of f edge ≡ Some (from, node) → ends_of g edge ≡ Some (from, node)
  to-after edge from at = there-edge g edge (edge_between (counted_amount f edge) from node)
      (same-ends edge from (inl at) ∙ edge-there f edge from node at)

  to-before : (edge : Edge) (from : Node) → ends_of g edge ≡ Some (from, node) → ends_of f edge ≡ Some (from, node)
  to-before edge from at = there-edge f edge (edge_between (counted_amount g edge) from node)
      (sym (same-ends edge from (inr at)) ∙ edge-there g edge from node at)

  -- a ticket's edge passes on as much
  module _ (worth : Node → ℕ) (n : ℕ) (from : Node) (ends : ends_of f (OfTicket n) ≡ Some (from, node)) where
    module _ (t u : Ticket) (at : ticket_at f n ≡ Some t) (at_now : ticket_at g n ≡ Some u)
        (issuer : t.issuer ≡ u.issuer) (amount : t.amount ≡ u.amount) (from_is : from ≡ Currency u.issuer) where
      same-active : is_active f live t ≡ is_active g now u
      same-active = by (covers.marks n from node (to-after (OfTicket n) from ends))
        where
          by : (IsActive f live n ↔ IsActive g now n) ⊎ Contains changed node → is_active f live t ≡ is_active g now u
          by (inl iff) =
              let before = is_active-exact f sound.no_cycle sound.funds_there live n t at in
              let after = is_active-exact g sound_now.no_cycle sound_now.funds_there now n u at_now in
              same-test (is_active f live t) (is_active g now u) (λ yes. after.1 (iff.0 (before.0 yes)))
              (λ yes. before.1 (iff.1 (after.0 yes)))
          by (inr c) = absurd (off c)

      same-amount : u.issuer ≢ 0 → active_amount g now u.issuer ≡ active_amount f live u.issuer
      same-amount user = by (covers.amounts u.issuer node user
          (OfTicket n, to-after (OfTicket n) from ends ∙ ap (λ x. Some (x, node)) from_is))
        where
          by : (active_amount g now u.issuer ≡ active_amount f live u.issuer) ⊎ Contains changed node
              → active_amount g now u.issuer ≡ active_amount f live u.issuer
          by (inl same) = same
          by (inr c) = absurd (off c)

      same-share : share unit f live worth (OfTicket n) ≡ share unit g now worth (OfTicket n)
      same-share = by (is_active f live t) refl (cases_eq t.issuer 0)
        where
          by : (b : Bool) → is_active f live t ≡ b → (t.issuer ≡ 0) ⊎ (¬ (t.issuer ≡ 0))
              → share unit f live worth (OfTicket n) ≡ share unit g now worth (OfTicket n)
          by false is which = sym (share-off unit f live worth n t at is)
              ∙ share-off unit g now worth n u at_now (sym same-active ∙ is)
          by true is (inl base) =
              sym (share-base unit f live worth n t at is base) ∙ ap (λ a. a * unit) amount
              ∙ share-base unit g now worth n u at_now (sym same-active ∙ is) (sym issuer ∙ base)
          by true is (inr user) =
              let user_now : u.issuer ≢ 0 = λ base. user (issuer ∙ base) in
              sym (share-user unit f live worth n t at is user)
              ∙ ap (λ c. worth (Currency c) * t.amount / active_amount f live c) issuer
              ∙ ap (λ a. worth (Currency u.issuer) * a / active_amount f live u.issuer) amount
              ∙ ap (λ a. worth (Currency u.issuer) * u.amount / a) (sym (same-amount user_now))
              ∙ share-user unit g now worth n u at_now (sym same-active ∙ is) user_now

    ticket-share : share unit f live worth (OfTicket n) ≡ share unit g now worth (OfTicket n)
    ticket-share =
        let (t, at, t_from, t_to) = ticket-ends f n from node ends in
        let (u, at_now, u_from, u_to) = ticket-ends g n from node (to-after (OfTicket n) from ends) in
        let issuer : t.issuer ≡ u.issuer = ap node-number (sym t_from ∙ u_from) in
        let both : edge_between (counted_amount g (OfTicket n)) from node
        ≡ edge_between (counted_amount f (OfTicket n)) from node =
        some-injective (edge_between (counted_amount g (OfTicket n)) from node)
        (edge_between (counted_amount f (OfTicket n)) from node)
        (sym (edge-there g (OfTicket n) from node (to-after (OfTicket n) from ends))
        ∙ same-ends (OfTicket n) from (inl ends) ∙ edge-there f (OfTicket n) from node ends) in
        let t_amount : counted_amount f (OfTicket n) ≡ t.amount =
        ap (λ (o : Option Ticket). unwrap_or (option_map (λ x. x.amount) o) 0) at in
        let u_amount : counted_amount g (OfTicket n) ≡ u.amount =
        ap (λ (o : Option Ticket). unwrap_or (option_map (λ x. x.amount) o) 0) at_now in
        let amount : t.amount ≡ u.amount = sym t_amount ∙ ap (λ (e : EdgeEnds). e.amount) (sym both) ∙ u_amount in
        same-share t u at at_now issuer amount u_from

  same-shares : (worth : Node → ℕ) (edge : Edge) → LeadsInto f node edge
      → share unit f live worth edge ≡ share unit g now worth edge
  same-shares worth (OfTicket n) (from, ends) = ticket-share worth n from ends
  same-shares worth (OfLender s) into = refl
  same-shares worth (OfMutex m) into = refl

  -- a node that isn't among those that cover the change has the equation that it had
  pub same-equation : HasSameEquation unit f live g now node
  same-equation = record {
    sources = λ from edge. (edge.0, to-before edge.0 from edge.1);
    sums = λ worth. sym (kept-shares unit f g live now worth node
        (λ edge. (λ into. (into.0, to-after edge into.0 into.1), λ into. (into.0, to-before edge into.0 into.1)))
        (same-shares worth));
  }

-- ---- what the activity lists covers the change

module _ (old new : Activity) (before after : LimitedFunding) (live now : List Bool) (begun : Node)
    (changed : List Node) (layout : layout_of after ≡ layout_of before) (was : IsKeptFor old before live)
    (is : IsKeptFor new after now) (changes : ChangesNodes before live after now begun new)
    (has : (from to : Node) → IsEdge after.funding from to → HasEquation after.funding to)
    (touches : TouchesListed after new changed)
    (edges : (edge : Edge) → (ends_of_edge after.funding edge ≡ ends_of_edge before.funding edge)
    ⊎ ((from to : Node) → (ends_of before.funding edge ≡ Some (from, to))
    ⊎ (ends_of after.funding edge ≡ Some (from, to)) → Contains changed to)) where
  -- a node that isn't listed as switched is active if and only if it was
  same-node : (node : Node) → IsNodeOf after node → ¬ Contains (switched_nodes after new) node
      → IsActiveNode before.funding live node ↔ IsActiveNode after.funding now node
  same-node node here none =
      let within = node-within after node here in
      let within_before = subst (λ (l : Layout). IsNodeWithin l node) layout within in
      by (mark_of old (node_place (layout_of before) node)) (mark_of new (node_place (layout_of after) node))
      (kept-node old before live was node within_before) (kept-node new after now is node within)
    where
      by : (a b : Bool) → IsTrue a ↔ IsActiveNode before.funding live node
          → IsTrue b ↔ IsActiveNode after.funding now node
          → IsActiveNode before.funding live node ↔ IsActiveNode after.funding now node
      by true true first second = (λ _. second.0 refl, λ _. first.0 refl)
      by false false first second =
          (λ on. let no : false ≡ true = first.1 on in cc, λ on. let no : false ≡ true = second.1 on in cc)
      by true false first second = absurd
          (none (changes.switched.all node (here, inr (first.0 refl, λ on. let no : false ≡ true = second.1 on in cc))))
      by false true first second = absurd
          (none (changes.switched.all node (here, inl (second.0 refl, λ on. let no : false ≡ true = first.1 on in cc))))

  marks : (n : ℕ) (from to : Node) → ends_of after.funding (OfTicket n) ≡ Some (from, to)
      → (IsActive before.funding live n ↔ IsActive after.funding now n) ⊎ Contains changed to
  marks n from to at = by (contains-or (switched_nodes after new) to) (edges (OfTicket n))
    where
      same : ends_of_edge after.funding (OfTicket n) ≡ ends_of_edge before.funding (OfTicket n)
          → ¬ Contains (switched_nodes after new) to → IsActive before.funding live n ↔ IsActive after.funding now n
      same alike none =
          let at_before = there-edge before.funding (OfTicket n) (edge_between (counted_amount after.funding
          (OfTicket n)) from to) (sym alike ∙ edge-there after.funding (OfTicket n) from to at) in
          let (t, t_at, t_from, t_to) = ticket-ends before.funding n from to at_before in
          let (u, u_at, u_from, u_to) = ticket-ends after.funding n from to at in
          let iff = same-node to (within-node after to (is.fits.to (OfTicket n) from to at)) none in (
            λ on. ticket-active after.funding now n u to u_at u_to
                (iff.0 (active-ticket before.funding live n t to t_at t_to on)),
            λ on. ticket-active before.funding live n t to t_at t_to
                (iff.1 (active-ticket after.funding now n u to u_at u_to on)),
          )

      by : Contains (switched_nodes after new) to ⊎ (¬ Contains (switched_nodes after new) to)
          → (ends_of_edge after.funding (OfTicket n) ≡ ends_of_edge before.funding (OfTicket n))
          ⊎ ((a b : Node) → (ends_of before.funding (OfTicket n) ≡ Some (a, b))
          ⊎ (ends_of after.funding (OfTicket n) ≡ Some (a, b)) → Contains changed b)
          → (IsActive before.funding live n ↔ IsActive after.funding now n) ⊎ Contains changed to
      by (inl c) which = inr (touches.switched to c (has from to (OfTicket n, at)))
      by (inr none) (inl alike) = inl (same alike none)
      by (inr none) (inr all) = inr (all from to (inr at))

  amounts : (c : ℕ) (to : Node) → c ≢ 0 → IsEdge after.funding (Currency c) to
      → (active_amount after.funding now c ≡ active_amount before.funding live c) ⊎ Contains changed to
  amounts c to user edge =
      by (contains-or (switched_nodes after new) (Currency c)) (contains-or (adjusted_nodes after new) (Currency c))
      (cases_eq (active_amount after.funding now c) (active_amount before.funding live c))
    where
      by : Contains (switched_nodes after new) (Currency c) ⊎ (¬ Contains (switched_nodes after new) (Currency c))
          → Contains (adjusted_nodes after new) (Currency c) ⊎ (¬ Contains (adjusted_nodes after new) (Currency c))
          → (active_amount after.funding now c ≡ active_amount before.funding live c)
          ⊎ (¬ (active_amount after.funding now c ≡ active_amount before.funding live c))
          → (active_amount after.funding now c ≡ active_amount before.funding live c) ⊎ Contains changed to
      by (inl d) other which = inr (touches.targets c to user (inl d) edge)
      by (inr none) (inl d) which = inr (touches.targets c to user (inr d) edge)
      by (inr none) (inr neither) (inl same) = inl same
      by (inr none) (inr neither) (inr differs) =
          let here : IsNodeOf after (Currency c) = is.fits.from edge.0 (Currency c) to edge.1 in
          let iff = same-node (Currency c) here none in
          absurd (neither (changes.adjusted.all (Currency c) (here, (differs, (iff.1, iff.0)))))

  pub covers-change : CoversChange before.funding live after.funding now changed
  covers-change = record { edges = edges; marks = marks; amounts = amounts }
