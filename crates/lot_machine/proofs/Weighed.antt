-- An edge that has ends has a weight, and the other way round.
use Rattle.lot_machine.proofs.Common.{Edge, Funding, IsWeighedOnlyIn, Node, None, OfLender, OfMutex, OfTicket, Option, Some, Ticket, ap, ends_of, option_and_then, option_map, refl, sym, target_node, ticket_at, weighed_of, ℕ, ◌∙◌, ◌≡◌, ◌≢◌}
use Rattle.lot_machine.specs.declared.funding.Node.TheVariants as node
use Rattle.lot_machine.proofs.Tickets.{some-injective}

-- the ends without the weight
abbrev ends_in : Option (Node × Node × ℕ) → Option (Node × Node)
ends_in o = option_map (λ (x : Node × Node × ℕ). (x.0, x.1)) o

ends-weighed : (f : Funding) (edge : Edge) → ends_of f edge ≡ ends_in (weighed_of f edge)
ends-weighed f (OfTicket n) = by (ticket_at f n)
  where
    of_target : (t : Ticket) (o : Option Node)
        → option_map (λ (to : Node). let x : Node × Node = (node.Currency t.issuer, to) in x) o
        ≡ ends_in (option_map (λ (to : Node). let x : Node × Node × ℕ = (node.Currency t.issuer, to, t.amount) in x) o)
    of_target t None = refl
    of_target t (Some to) = refl

    by : (o : Option Ticket) → option_and_then (λ (t : Ticket).
        option_map (λ (to : Node). let x : Node × Node = (node.Currency t.issuer, to) in x) (target_node t.target)) o
        ≡ ends_in (option_and_then (λ (t : Ticket). option_map (λ (to : Node). let x : Node × Node × ℕ =
        (node.Currency t.issuer, to, t.amount) in x) (target_node t.target)) o)
    by None = refl
    by (Some t) = of_target t (target_node t.target)
ends-weighed f (OfLender t) = by (ends_of f (OfLender t))
  where
    by : (o : Option (Node × Node))
        → o ≡ ends_in (option_map (λ (x : Node × Node). let y : Node × Node × ℕ = (x.0, x.1, 1) in y) o)
    by None = refl
    by (Some (from, to)) = refl
ends-weighed f (OfMutex m) = by (ends_of f (OfMutex m))
  where
    by : (o : Option (Node × Node))
        → o ≡ ends_in (option_map (λ (x : Node × Node). let y : Node × Node × ℕ = (x.0, x.1, 1) in y) o)
    by None = refl
    by (Some (from, to)) = refl

-- an edge with a weight leads where its ends say
pub there-weighed : (f : Funding) (edge : Edge) (from to : Node) (weight : ℕ)
    → weighed_of f edge ≡ Some (from, to, weight) → ends_of f edge ≡ Some (from, to)
there-weighed f edge from to weight is = ends-weighed f edge ∙ ap ends_in is

-- an edge that leads somewhere has a weight
pub weighed-there : (f : Funding) (edge : Edge) (from to : Node) → ends_of f edge ≡ Some (from, to)
    → (weight : ℕ) × (weighed_of f edge ≡ Some (from, to, weight))
weighed-there f edge from to there = by (weighed_of f edge) refl
  where
    never : (x : Node × Node) → None ≡ Some x → ⊥
    never x e = cc

    by : (o : Option (Node × Node × ℕ)) → weighed_of f edge ≡ o
        → (weight : ℕ) × (weighed_of f edge ≡ Some (from, to, weight))
    by None is = absurd (never (from, to) (sym (ends-weighed f edge ∙ ap ends_in is) ∙ there))
    by (Some (a, b, weight)) is =
        let same : Some (a, b) ≡ Some (from, to) = sym (ends-weighed f edge ∙ ap ends_in is) ∙ there in
        let ends : (a, b) ≡ (from, to) = some-injective _ _ same in
        (weight, is ∙ ap (λ (x : Node × Node). let y : Option (Node × Node × ℕ) = Some (x.0, x.1, weight) in y) ends)

-- an edge that leads there in the first funding alone
pub only-there : (f g : Funding) (edge : Edge) (from to : Node) → ends_of f edge ≡ Some (from, to)
    → ends_of g edge ≢ Some (from, to) → IsWeighedOnlyIn f g from to
only-there f g edge from to there other = let (weight, is) = weighed-there f edge from to there in
    (edge, weight, is, λ also. other (there-weighed g edge from to weight also))
