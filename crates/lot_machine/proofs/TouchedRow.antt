-- The nodes touched by a ticket of base that loses its target, or gets another amount, two currencies upstream of a
-- thread.
use Rattle.lot_machine.proofs.Common.{Bool, Edge, Funding, IsChangedEdge, IsChangedNode, IsEdgeOfEither, IsPath, IsTouched, List, Nobody, Node, None, OfLender, OfMutex, OfTicket, Option, Some, Target, Thread, Touches, after, ap, arith, at_number, ends_of, inl, inr, option_map, refl, settkt, subst, suc, sym, target_node, true, unfund, upstream, weighed_of, zero, ℕ, [], ⊤, ◌++◌, ◌↔◌, ◌∙◌, ◌∷◌, ◌≡◌, ◌≢◌, ◌⊎◌}
use Rattle.lot_machine.specs.declared.ticket.Target.TheVariants as target
use Rattle.lot_machine.specs.declared.funding.Node.TheVariants.{Currency}
use Rattle.lot_machine.proofs.Weighed.{there-weighed}
use Rattle.lot_machine.proofs.Tickets.{at_number-suc, some-injective}

-- the graph, whose first ticket has this amount and this target
funded : ℕ → Target → Funding
funded amount first = record {
  currencies = true ∷ true ∷ true ∷ [];
  tickets = Some (record { amount = amount; issuer = 0; target = first })
      ∷ Some (record { amount = 1; issuer = 1; target = target.Currency 2 })
      ∷ Some (record { amount = 1; issuer = 2; target = target.Thread 1 })
      ∷ Some (record { amount = 60; issuer = 0; target = target.Currency 2 }) ∷ [];
  lends = Nobody ∷ [];
  owners = None ∷ None ∷ [];
}

-- nothing, or the first currency
abbrev IsFirst : Target → Type 0
IsFirst target.Unfunded = ⊤
IsFirst (target.Currency c) = c ≡ 1
IsFirst (target.Thread t) = ⊥

-- base, or the currency that it funds with the first ticket
abbrev IsAbove : Node → Type 0
IsAbove node = (node ≡ Currency 0) ⊎ (node ≡ Currency 1)

low : (c : ℕ) → IsAbove (Currency (suc (suc c))) → ⊥
low c (inl e) = let same : suc (suc c) ≡ 0 = cc in absurd (omega (arith, same))
low c (inr e) = let same : suc (suc c) ≡ 1 = cc in absurd (omega (arith, same))

no-thread : (t : ℕ) → IsAbove (Thread t) → ⊥
no-thread t (inl e) = cc
no-thread t (inr e) = cc

-- the ends of an edge between these nodes
abbrev ends : Node → Node → Option (Node × Node)
ends from to = Some (from, to)

from_of : (a b from to : Node) → ends a b ≡ ends from to → a ≡ from
from_of a b from to e = ap (λ (x : Node × Node). x.0) (some-injective _ _ e)

to_of : (a b from to : Node) → ends a b ≡ ends from to → b ≡ to
to_of a b from to e = ap (λ (x : Node × Node). x.1) (some-injective _ _ e)

from_base : (o : Option Node) (from to : Node)
    → option_map (λ (x : Node). let y : Node × Node = (Currency 0, x) in y) o ≡ ends from to → from ≡ Currency 0
from_base None from to e = cc
from_base (Some x) from to e = sym (from_of (Currency 0) x from to e)

-- an edge into base or the currency that it funds comes from base
into-above : (amount : ℕ) (first : Target) (edge : Edge) (from to : Node)
    → ends_of (funded amount first) edge ≡ ends from to → IsAbove to → IsAbove from
unfolding funded
into-above amount first (OfTicket zero) from to is above = cc
into-above amount first (OfTicket (suc zero)) from to is above = inl (from_base (target_node first) from to is)
into-above amount first (OfTicket (suc (suc zero))) from to is above =
    absurd (low 0 (subst IsAbove (sym (to_of (Currency 1) (Currency 2) from to is)) above))
into-above amount first (OfTicket (suc (suc (suc zero)))) from to is above =
    absurd (no-thread 1 (subst IsAbove (sym (to_of (Currency 2) (Thread 1) from to is)) above))
into-above amount first (OfTicket (suc (suc (suc (suc zero))))) from to is above =
    absurd (low 0 (subst IsAbove (sym (to_of (Currency 0) (Currency 2) from to is)) above))
into-above amount first (OfTicket (suc (suc (suc (suc (suc n)))))) from to is above =
    let none : at_number (funded amount first).tickets (suc (suc (suc (suc (suc n))))) ≡ None =
    at_number-suc (funded amount first).tickets (suc (suc (suc (suc n)))) in
    let gone = rw none at is in cc
into-above amount first (OfLender zero) from to is above = cc
into-above amount first (OfLender (suc zero)) from to is above = cc
into-above amount first (OfLender (suc (suc n))) from to is above =
    let none : at_number (funded amount first).lends (suc (suc n)) ≡ None =
    at_number-suc (funded amount first).lends (suc n) in
    let gone = rw none at is in cc
into-above amount first (OfMutex zero) from to is above = cc
into-above amount first (OfMutex (suc zero)) from to is above = cc
into-above amount first (OfMutex (suc (suc zero))) from to is above = cc
into-above amount first (OfMutex (suc (suc (suc n)))) from to is above =
    let none : at_number (funded amount first).owners (suc (suc (suc n))) ≡ None =
    at_number-suc (funded amount first).owners (suc (suc n)) in
    let gone = rw none at is in cc

-- the edge of the first ticket, if there is one
first-ends : (amount : ℕ) (first : Target) (from to : Node) → IsFirst first
    → ends_of (funded amount first) (OfTicket 1) ≡ ends from to → (from ≡ Currency 0) × (to ≡ Currency 1)
unfolding funded
first-ends amount target.Unfunded from to is_first is = cc
first-ends amount (target.Currency c) from to is_first is =
    (sym (from_of (Currency 0) (Currency c) from to is), sym (to_of (Currency 0) (Currency c) from to is) ∙ ap Currency is_first)
first-ends amount (target.Thread t) from to is_first is = absurd is_first

-- the edge of the first ticket alone is changed
only-first : (amount more : ℕ) (first other : Target) → IsFirst first → (edge : Edge) (from to : Node) (weight : ℕ)
    → weighed_of (funded amount first) edge ≡ Some (from, to, weight)
    → weighed_of (funded more other) edge ≢ Some (from, to, weight)
    → (from ≡ Currency 0) × (to ≡ Currency 1)
unfolding funded
only-first amount more first other is_first (OfTicket zero) from to weight is not = absurd (not is)
only-first amount more first other is_first (OfTicket (suc zero)) from to weight is not =
    first-ends amount first from to is_first (there-weighed (funded amount first) (OfTicket 1) from to weight is)
only-first amount more first other is_first (OfTicket (suc (suc n))) from to weight is not = absurd (not (same ∙ is))
  where
    same : weighed_of (funded more other) (OfTicket (suc (suc n))) ≡ weighed_of (funded amount first)
        (OfTicket (suc (suc n)))
    same =
        rw (at_number-suc (funded more other).tickets (suc n), at_number-suc (funded amount first).tickets (suc n)) refl
only-first amount more first other is_first (OfLender t) from to weight is not = absurd (not is)
only-first amount more first other is_first (OfMutex m) from to weight is not = absurd (not is)

-- what the first ticket touches, when it gets another amount or target
module _ (amount more : ℕ) (first other : Target) (is_first : IsFirst first) (is_other : IsFirst other) where
  abbrev before : Funding
  before = funded amount first

  abbrev after_it : Funding
  after_it = funded more other

  -- a path to one of the two begins at one of them
  path-above : (path : List Node) (from to : Node) → IsPath before after_it from path to → IsAbove to → IsAbove from
  path-above [] from to same above = subst IsAbove (sym same) above
  path-above (next ∷ rest) from to leads above = either leads.0 (path-above rest next to leads.1 above)
    where
      either : IsEdgeOfEither before after_it from next → IsAbove next → IsAbove from
      either (inl edge) later = into-above amount first edge.0 from next edge.1 later
      either (inr edge) later = into-above more other edge.0 from next edge.1 later

  changed : (from to : Node) → IsChangedEdge before after_it from to → (from ≡ Currency 0) × (to ≡ Currency 1)
  changed from to (inl (edge, weight, is, not)) = only-first amount more first other is_first edge from to weight is not
  changed from to (inr (edge, weight, is, not)) = only-first more amount other first is_other edge from to weight is not

  seed-above : (live : List Bool) (node : Node) → IsChangedNode before after_it live live node → IsAbove node
  seed-above live node (inl (far, inl edge)) = inl (changed node far edge).0
  seed-above live node (inl (far, inr edge)) = inr (changed far node edge).1
  seed-above live node (inr (t, is, inl life)) = absurd (life.1 life.0)
  seed-above live node (inr (t, is, inr life)) = absurd (life.1 life.0)

  touched-one : (live : List Bool) (node : Node) → IsTouched before after_it live live node → node ≡ Currency 1
  touched-one live node (user, (seed, path, is)) = either (path-above path.0 node seed path.1 (seed-above live seed is))
    where
      either : IsAbove node → node ≡ Currency 1
      either (inl base) = absurd (user base)
      either (inr one) = one

  one-touched : (live : List Bool) → IsChangedEdge before after_it (Currency 0) (Currency 1)
      → IsTouched before after_it live live (Currency 1)
  one-touched live edge = (λ e. cc, (Currency 1, ([], refl), inl (Currency 0, inr edge)))

  touches-one : (live : List Bool) (node : Node) → IsChangedEdge before after_it (Currency 0) (Currency 1)
      → IsTouched before after_it live live node ↔ (node ≡ Currency 1)
  touches-one live node edge =
      (touched-one live node, λ e. subst (λ n. IsTouched before after_it live live n) (sym e) (one-touched live edge))

-- a ticket of base that funded a currency touches that currency alone
pub touched-row : (node : Node)
    → Touches (after upstream) (after (upstream ++ unfund 1 ∷ [])) node ↔ (node ≡ Currency 1)
unfolding funded
touched-row node = touches-one 100 100 (target.Currency 1) target.Unfunded refl tt (true ∷ []) node
    (inl (OfTicket 1, 100, refl, λ e. cc))

-- and so does one that gets another amount
pub weighed-row : (node : Node)
    → Touches (after upstream) (after (upstream ++ settkt 1 40 ∷ [])) node ↔ (node ≡ Currency 1)
unfolding funded
weighed-row node = touches-one 100 40 (target.Currency 1) (target.Currency 1) refl refl (true ∷ []) node
    (inl (OfTicket 1, 100, refl, other))
  where
    other : ◌≡◌ {A = Option (Node × Node × ℕ)} (Some (Currency 0, Currency 1, 40)) (Some (Currency 0, Currency 1, 100))
        → ⊥
    other e = let same : 40 ≡ 100 = ap (λ (x : Node × Node × ℕ). x.2) (some-injective _ _ e) in
        absurd (omega (arith, same))
