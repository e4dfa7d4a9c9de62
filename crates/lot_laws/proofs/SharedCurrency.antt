-- Two threads share a currency, and one exits: that doesn't touch the other thread, but affects it.
use Rattle.lot_laws.proofs.Common.{Affects, Currency, Draw, Edge, Exit, Funding, IsChangedEdge, IsChangedNode, IsLive, IsPath, List, Nobody, Node, None, OfLender, OfMutex, OfTicket, Some, Thread, Touches, Trap, after, ap, at_number, ends-are, ends_of, false, inl, inr, lend_node, refl, some-injective, subst, sym, true, two_to_one, ℕ, [], ◌++◌, ◌∙◌, ◌∷◌, ◌≡◌}
use Rattle.lot_machine.specs.declared.ticket.Target.TheVariants as target

-- the graph, before and after
abbrev shared : Funding
shared = record {
  currencies = true ∷ true ∷ [];
  tickets = Some (record { amount = 200; issuer = 0; target = target.Currency 1 })
      ∷ Some (record { amount = 2; issuer = 1; target = target.Thread 1 })
      ∷ Some (record { amount = 1; issuer = 1; target = target.Thread 2 }) ∷ [];
  lends = Nobody ∷ Nobody ∷ [];
  owners = None ∷ None ∷ [];
}

thread-one : (t u : ℕ) → Thread t ≡ Thread u → t ≡ u
thread-one t u e = cc

-- no edge leads on from the second thread
no-edge : (edge : Edge) (next : Node) → ¬ (ends_of shared edge ≡ Some (Thread 2, next))
no-edge (OfTicket n) next is = let (t, at, from, to) = ends-are shared (OfTicket n) (Thread 2) next is in cc
no-edge (OfLender u) next is =
    let (lend, at, from, to) = ends-are shared (OfLender u) (Thread 2) next is in
    let second : at_number shared.lends 2 ≡ Some lend = ap (at_number shared.lends) (thread-one 2 u from) ∙ at in
    let nobody : Nobody ≡ lend = some-injective Nobody lend second in
    let no : None ≡ Some next = ap lend_node nobody ∙ to in cc
no-edge (OfMutex m) next is = let (owner, at, from, to) = ends-are shared (OfMutex m) (Thread 2) next is in cc

same-edges : (from to : Node) → ¬ IsChangedEdge shared shared from to
same-edges from to (inl (edge, weight, is, not)) = not is
same-edges from to (inr (edge, weight, is, not)) = not is

unchanged : ¬ IsChangedNode shared shared (true ∷ true ∷ []) (false ∷ true ∷ []) (Thread 2)
unchanged (inl (other, inl edge)) = same-edges (Thread 2) other edge
unchanged (inl (other, inr edge)) = same-edges other (Thread 2) edge
unchanged (inr (t, is, inl (alive, ended))) = ended (subst (IsLive (false ∷ true ∷ [])) (thread-one 2 t is) refl)
unchanged (inr (t, is, inr (alive, new))) = new (subst (IsLive (true ∷ true ∷ [])) (thread-one 2 t is) refl)

stays : (path : List Node) (seed : Node) → IsPath shared shared (Thread 2) path seed
    → ¬ IsChangedNode shared shared (true ∷ true ∷ []) (false ∷ true ∷ []) seed
stays [] seed is changed =
    unchanged (subst (IsChangedNode shared shared (true ∷ true ∷ []) (false ∷ true ∷ [])) (sym is) changed)
stays (next ∷ rest) seed (inl (edge, is), more) changed = no-edge edge next is
stays (next ∷ rest) seed (inr (edge, is), more) changed = no-edge edge next is

pub other-untouched : ¬ Touches (after (two_to_one ++ Draw 1 0 ∷ []))
    (after (two_to_one ++ Draw 1 0 ∷ Trap 1 0 Exit ∷ [])) (Thread 2)
other-untouched (user, (seed, (path, is), changed)) = stays path seed is changed

pub other-affected : Affects (after (two_to_one ++ Draw 1 0 ∷ [])) (after (two_to_one ++ Draw 1 0 ∷ Trap 1 0 Exit ∷ []))
    (Thread 2)
other-affected = (
  Currency 1,
  ((λ e. cc), (Thread 1, (Thread 1 ∷ [], (inl (OfTicket 2, refl), refl)), inr (1, refl, inl (refl, λ e. let no : false ≡ true = some-injective false true e in cc)))),
  (Thread 2 ∷ [], (inl (OfTicket 3, refl), refl)),
)
