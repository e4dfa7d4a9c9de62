-- A node keeps its value if no touched node leads to it.
use Rattle.lot_laws.proofs.Common.{Bool, Currency, Edge, Funding, FundsThere, HasEquation, HasNoCycle, IsAffected, IsChangedNode, IsEdgeOfEither, IsLive, IsPath, List, Node, OfTicket, PathLeads, Some, Thread, Ticket, active_amount, at_number, ends_of, eqb-true, inl, inr, is_active, node_value, refl, subst, sym, ticket_at, true, weighed_of, ℕ, [], ◌==◌, ◌∷◌, ◌≡◌, ◌≢◌, ◌⊎◌}
use Rattle.lot_laws.proofs.KeptPaths.{StaysActive, ends-kept, active-same, active-there}
use Rattle.lot_laws.proofs.KeptValues.{ends, weighed, weighed-told, live-told, amount-stays, kept-value}

-- ---- what leads to no change

-- a path, and after it an edge
path-on : (f g : Funding) (from : Node) (path : List Node) (last to : Node) → IsPath f g from path last
    → IsEdgeOfEither f g last to → PathLeads f g from to
path-on f g from [] last to is edge = (to ∷ [], (subst (λ x. IsEdgeOfEither f g x to) (sym is) edge, refl))
path-on f g from (next ∷ rest) last to is edge = let r = path-on f g next rest last to is.1 edge in
    (next ∷ r.0, (is.0, r.1))

module _ (f g : Funding) (no_cycle : HasNoCycle f) (there : FundsThere f) (no_cycle_now : HasNoCycle g)
    (there_now : FundsThere g) (unit : ℕ) (live now : List Bool) where
  -- no path leads from the node to where the change begins
  abbrev IsClear : Node → Type 0
  IsClear node = (seed : Node) → PathLeads f g node seed → ¬ IsChangedNode f g live now seed

  clear-itself : (node : Node) → IsClear node → ¬ IsChangedNode f g live now node
  clear-itself node clear = clear node ([], refl)

  clear-next : (from to : Node) → IsEdgeOfEither f g from to → IsClear from → IsClear to
  clear-next from to edge clear seed (path, is) = clear seed (to ∷ path, (edge, is))

  -- an edge of a clear node, at either end, keeps its weight
  same-after : (edge : Edge) (from to : Node) (weight : ℕ) → IsClear from ⊎ IsClear to
      → weighed_of f edge ≡ weighed from to weight → weighed_of g edge ≡ weighed from to weight
  same-after edge from to weight clear is = by (weighed-told (weighed_of g edge) from to weight) clear
    where
      by : (weighed_of g edge ≡ weighed from to weight) ⊎ (weighed_of g edge ≢ weighed from to weight)
          → IsClear from ⊎ IsClear to → weighed_of g edge ≡ weighed from to weight
      by (inl same) which = same
      by (inr gone) (inl start) = absurd (clear-itself from start (inl (to, inl (inl (edge, weight, is, gone)))))
      by (inr gone) (inr end) = absurd (clear-itself to end (inl (from, inr (inl (edge, weight, is, gone)))))

  same-before : (edge : Edge) (from to : Node) (weight : ℕ) → IsClear from ⊎ IsClear to
      → weighed_of g edge ≡ weighed from to weight → weighed_of f edge ≡ weighed from to weight
  same-before edge from to weight clear is = by (weighed-told (weighed_of f edge) from to weight) clear
    where
      by : (weighed_of f edge ≡ weighed from to weight) ⊎ (weighed_of f edge ≢ weighed from to weight)
          → IsClear from ⊎ IsClear to → weighed_of f edge ≡ weighed from to weight
      by (inl same) which = same
      by (inr new) (inl start) = absurd (clear-itself from start (inl (to, inl (inr (edge, weight, is, new)))))
      by (inr new) (inr end) = absurd (clear-itself to end (inl (from, inr (inr (edge, weight, is, new)))))

  lives-after : (t : ℕ) → IsClear (Thread t) → IsLive live t → IsLive now t
  lives-after t clear alive = by (live-told (at_number now t))
    where
      by : (at_number now t ≡ Some true) ⊎ (at_number now t ≢ Some true) → IsLive now t
      by (inl is) = is
      by (inr ended) = absurd (clear-itself (Thread t) clear (inr (t, refl, inl (alive, ended))))

  lives-before : (t : ℕ) → IsClear (Thread t) → IsLive now t → IsLive live t
  lives-before t clear alive = by (live-told (at_number live t))
    where
      by : (at_number live t ≡ Some true) ⊎ (at_number live t ≢ Some true) → IsLive live t
      by (inl is) = is
      by (inr new) = absurd (clear-itself (Thread t) clear (inr (t, refl, inr (alive, new))))

  kept-after : (edge : Edge) (from to : Node) → IsClear from → ends_of f edge ≡ ends from to
      → (ends_of g edge ≡ ends from to) × IsClear to
  kept-after edge from to clear is =
      (ends-kept f g edge from to (λ weight. same-after edge from to weight (inl clear)) is, clear-next from to (inl (edge, is)) clear)

  kept-before : (edge : Edge) (from to : Node) → IsClear from → ends_of g edge ≡ ends from to
      → (ends_of f edge ≡ ends from to) × IsClear to
  kept-before edge from to clear is =
      (ends-kept g f edge from to (λ weight. same-before edge from to weight (inl clear)) is, clear-next from to (inr (edge, is)) clear)

  -- a clear currency has the same active amount
  amount-same : (c : ℕ) → IsClear (Currency c) → active_amount f live c ≡ active_amount g now c
  amount-same c clear = amount-stays f g live now c after before
    where
      of-it : (t : Ticket) → (t.issuer == c) ≡ true → IsClear (Currency t.issuer)
      of-it t issued = subst (λ x. IsClear (Currency x)) (sym (eqb-true t.issuer c issued)) clear

      after : (n : ℕ) (t : Ticket) → ticket_at f n ≡ Some t → (t.issuer == c) ≡ true → is_active f live t ≡ true
          → StaysActive g now n t
      after n t at issued =
          active-there f g live now IsClear kept-after lives-after no_cycle there no_cycle_now there_now n t at
          (of-it t issued) (λ to weight. same-after (OfTicket n) (Currency t.issuer) to weight (inl (of-it t issued)))

      before : (n : ℕ) (u : Ticket) → ticket_at g n ≡ Some u → (u.issuer == c) ≡ true → is_active g now u ≡ true
          → StaysActive f live n u
      before n u at issued =
          active-there g f now live IsClear kept-before lives-before no_cycle_now there_now no_cycle there n u at
          (of-it u issued) (λ to weight. same-before (OfTicket n) (Currency u.issuer) to weight (inl (of-it u issued)))

  -- a node that isn't affected
  abbrev IsFar : Node → Type 0
  IsFar node = (node ≢ Currency 0) × (¬ IsAffected f g live now node)

  clear : (node : Node) → IsFar node → IsClear node
  clear node far seed leads changed = far.1 (node, (far.0, (seed, leads, changed)), ([], refl))

  far-before : (from to : Node) → IsFar to → IsEdgeOfEither f g from to → from ≢ Currency 0 → IsFar from
  far-before from to far edge user =
      (user, λ (touched, is, (path, leads)). far.1 (touched, is, path-on f g touched path from to leads edge))

  pub insulated : (node : Node) → HasEquation f node → HasEquation g node → ¬ IsAffected f g live now node
      → node_value unit f live node ≡ node_value unit g now node
  insulated node has has_now far =
      kept-value f g no_cycle there no_cycle_now there_now unit live now IsFar far-before
      (λ edge from to weight is_far. same-after edge from to weight (inr (clear to is_far)))
      (λ edge from to weight is_far. same-before edge from to weight (inr (clear to is_far)))
      (λ n from to is_far is is_now.
      active-same f g live now IsClear kept-after lives-after n from to is is_now (clear to is_far))
      (λ n from to is_far is is_now.
      active-same g f now live IsClear kept-before lives-before n from to is_now is (clear to is_far))
      (λ c to is_far edge user. amount-same c
      (clear (Currency c) (far-before (Currency c) to is_far (inr edge) (λ base. user (base-zero c base)))))
      node (λ base. subst (HasEquation f) base has refl, far) has has_now
    where
      base-zero : (c : ℕ) → Currency c ≡ Currency 0 → c ≡ 0
      base-zero c e = cc
