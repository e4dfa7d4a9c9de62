-- The nodes that two changes of threads make stale together.
use Rattle.lot_threads.proofs.Common.{Edge, IsStaleIn, Lend, List, LiveBetween, MakesStaleIn, Node, None, OfLender, OfMutex, OfTicket, Option, Record, Sizes, Some, Threaded, Ticket, WeighedBetween, ap, at_number, at_number-map, funding_in, inl, inr, is_live_status, lend_node, lend_of, live-between, live_in, makes-together, option_and_then, option_flatten, option_map, refl, some-injective, sym, target_node, weighed_of, ℕ, ◌∙◌, ◌≡◌, ◌⊎◌}
use Rattle.lot_machine.specs.declared.funding.Node.TheVariants as node

-- if the threads in between have no edge with its weight and no live thread that neither end has, and lack none that both have
pub makes-both-in : (a b c : Threaded) → WeighedBetween (funding_in a) (funding_in b) (funding_in c)
    → LiveBetween (live_in a.records) (live_in b.records) (live_in c.records) → MakesStaleIn a b → MakesStaleIn b c
    → MakesStaleIn a c
makes-both-in a b c edges live =
    makes-together (funding_in a) (funding_in b) (funding_in c) (live_in a.records) (live_in b.records)
    (live_in c.records) (IsStaleIn a) (IsStaleIn b) (IsStaleIn c) edges live

-- ---- records and owners, one by one

-- an owner in between is as before or as after, or there is none where another comes
abbrev pub IsOwnerBetween : Threaded → Threaded → Threaded → ℕ → Type 0
IsOwnerBetween a b c m = (at_number b.owners m ≡ at_number a.owners m)
    ⊎ ((at_number b.owners m ≡ at_number c.owners m)
    ⊎ ((option_flatten (at_number b.owners m) ≡ None)
    × ((t : ℕ) → option_flatten (at_number a.owners m) ≡ Some t → ¬ (option_flatten (at_number c.owners m) ≡ Some t))))

-- the weighed edge of a mutex with this owner
abbrev owner_edge : ℕ → Option ℕ → Option (Node × Node × ℕ)
owner_edge m o = option_map (λ (ends : Node × Node). let weighed : Node × Node × ℕ = (ends.0, ends.1, 1) in weighed)
    (option_map (λ (owner : ℕ). let ends : Node × Node = (node.Mutex m, node.Thread owner) in ends) o)

-- the weighed edge of a lender with this lend
abbrev lender_edge : ℕ → Option Lend → Option (Node × Node × ℕ)
lender_edge t o =
    option_map (λ (ends : Node × Node). let weighed : Node × Node × ℕ = (ends.0, ends.1, 1) in weighed)
    (option_and_then (λ (lend : Lend).
    option_map (λ (to : Node). let ends : Node × Node = (node.Thread t, to) in ends) (lend_node lend)) o)

edge-owner : (m : ℕ) (o p : Option ℕ) (weighed : Node × Node × ℕ) → owner_edge m o ≡ Some weighed
    → owner_edge m p ≡ Some weighed → (t : ℕ) × (o ≡ Some t) × (p ≡ Some t)
edge-owner m None p weighed first second = cc
edge-owner m (Some t) None weighed first second = cc
edge-owner m (Some t) (Some u) weighed first second =
    let same : node.Thread t ≡ node.Thread u =
    ap (λ (x : Node × Node × ℕ). x.1) (some-injective _ _ (first ∙ sym second)) in
    let number : u ≡ t = cc in (t, refl, ap Some number)

module _ (a b c : Threaded) (lending : (b.lending ≡ a.lending) × (b.lending ≡ c.lending))
    (tickets : b.tickets ≡ a.tickets) (owners : (m : ℕ) → IsOwnerBetween a b c m)
    (records : (u : ℕ)
    → (at_number b.records u ≡ at_number a.records u) ⊎ (at_number b.records u ≡ at_number c.records u)) where
  lender-same : (v w : Threaded) (u : ℕ) → v.lending ≡ w.lending → at_number v.records u ≡ at_number w.records u
      → weighed_of (funding_in v) (OfLender u) ≡ weighed_of (funding_in w) (OfLender u)
  lender-same v w u alike same =
      ap (lender_edge u)
      (at_number-map (λ (r : Record). lend_of v.lending r.status) v.records u
      ∙ ap (option_map (λ (r : Record). lend_of v.lending r.status)) same
      ∙ ap (λ (without : Sizes). option_map (λ (r : Record). lend_of without r.status) (at_number w.records u)) alike
      ∙ sym (at_number-map (λ (r : Record). lend_of w.lending r.status) w.records u))

  edge-kept : (edge : Edge) (weighed : Node × Node × ℕ) → weighed_of (funding_in a) edge ≡ Some weighed
      → weighed_of (funding_in c) edge ≡ Some weighed → weighed_of (funding_in b) edge ≡ Some weighed
  edge-kept (OfTicket n) weighed old new =
      ap (λ (xs : List (Option Ticket)). option_and_then (λ (t : Ticket). option_map
      (λ (to : Node). let x : Node × Node × ℕ = (node.Currency t.issuer, to, t.amount) in x) (target_node t.target))
      (option_flatten (at_number xs n))) tickets ∙ old
  edge-kept (OfLender u) weighed old new = from (records u)
    where
      from : (at_number b.records u ≡ at_number a.records u) ⊎ (at_number b.records u ≡ at_number c.records u)
          → weighed_of (funding_in b) (OfLender u) ≡ Some weighed
      from (inl same) = lender-same b a u lending.0 same ∙ old
      from (inr same) = lender-same b c u lending.1 same ∙ new
  edge-kept (OfMutex m) weighed old new = from (owners m)
    where
      from : IsOwnerBetween a b c m → weighed_of (funding_in b) (OfMutex m) ≡ Some weighed
      from (inl same) = ap (λ (o : Option (Option ℕ)). owner_edge m (option_flatten o)) same ∙ old
      from (inr (inl same)) = ap (λ (o : Option (Option ℕ)). owner_edge m (option_flatten o)) same ∙ new
      from (inr (inr (none, apart))) =
          let (t, first, second) = edge-owner m (option_flatten (at_number a.owners m))
          (option_flatten (at_number c.owners m)) weighed old new in absurd (apart t first second)

  edge-only : (edge : Edge) (weighed : Node × Node × ℕ) → weighed_of (funding_in b) edge ≡ Some weighed
      → (weighed_of (funding_in a) edge ≡ Some weighed) ⊎ (weighed_of (funding_in c) edge ≡ Some weighed)
  edge-only (OfTicket n) weighed is =
      inl (ap (λ (xs : List (Option Ticket)). option_and_then (λ (t : Ticket). option_map
      (λ (to : Node). let x : Node × Node × ℕ = (node.Currency t.issuer, to, t.amount) in x) (target_node t.target))
      (option_flatten (at_number xs n))) (sym tickets) ∙ is)
  edge-only (OfLender u) weighed is = from (records u)
    where
      from : (at_number b.records u ≡ at_number a.records u) ⊎ (at_number b.records u ≡ at_number c.records u)
          → (weighed_of (funding_in a) (OfLender u) ≡ Some weighed)
          ⊎ (weighed_of (funding_in c) (OfLender u) ≡ Some weighed)
      from (inl same) = inl (lender-same a b u (sym lending.0) (sym same) ∙ is)
      from (inr same) = inr (lender-same c b u (sym lending.1) (sym same) ∙ is)
  edge-only (OfMutex m) weighed is = from (owners m)
    where
      from : IsOwnerBetween a b c m → (weighed_of (funding_in a) (OfMutex m) ≡ Some weighed)
          ⊎ (weighed_of (funding_in c) (OfMutex m) ≡ Some weighed)
      from (inl same) = inl (ap (λ (o : Option (Option ℕ)). owner_edge m (option_flatten o)) (sym same) ∙ is)
      from (inr (inl same)) = inr (ap (λ (o : Option (Option ℕ)). owner_edge m (option_flatten o)) (sym same) ∙ is)
      from (inr (inr (none, apart))) = let never : None ≡ Some weighed = sym (ap (owner_edge m) none) ∙ is in cc

  live-each : (u : ℕ) → (at_number (live_in b.records) u ≡ at_number (live_in a.records) u)
      ⊎ (at_number (live_in b.records) u ≡ at_number (live_in c.records) u)
  live-each u = from (records u)
    where
      same-life : (v w : Threaded) → at_number v.records u ≡ at_number w.records u
          → at_number (live_in v.records) u ≡ at_number (live_in w.records) u
      same-life v w same =
          at_number-map (λ (r : Record). is_live_status r.status) v.records u
          ∙ ap (option_map (λ (r : Record). is_live_status r.status)) same
          ∙ sym (at_number-map (λ (r : Record). is_live_status r.status) w.records u)

      from : (at_number b.records u ≡ at_number a.records u) ⊎ (at_number b.records u ≡ at_number c.records u)
          → (at_number (live_in b.records) u ≡ at_number (live_in a.records) u)
          ⊎ (at_number (live_in b.records) u ≡ at_number (live_in c.records) u)
      from (inl same) = inl (same-life b a same)
      from (inr same) = inr (same-life b c same)

  -- what two changes make stale, if each record in between is as before or as after, and so is each owner
  pub makes-each : MakesStaleIn a b → MakesStaleIn b c → MakesStaleIn a c
  makes-each = makes-both-in a b c (record { kept = edge-kept; only = edge-only })
      (live-between (live_in a.records) (live_in b.records) (live_in c.records) live-each)
