-- Paths between threads are chains of lends.
use Rattle.lot_threads.proofs.Common.{Funding, IsEdge, IsWay, Lend, LendsLead, LendsTo, List, Nobody, Node, None, OfLender, OfMutex, OfTicket, Option, Reaches, Some, Ticket, ToMutex, ToThread, ap, arith, at_number, borrower, lead-reaches, lend_node, length, lent_ends, option_and_then, option_map, owner_of, refl, some-injective, subst, suc, sym, target_node, ticket_at, zero, ℕ, [], ◌↔◌, ◌∙◌, ◌∷◌, ◌≡◌, ◌≤◌}
use Rattle.lot_machine.specs.declared.funding.Node.TheVariants as node

abbrev from_of : Option (Node × Node) → Node
from_of None = node.Currency 0
from_of (Some ends) = ends.0

abbrev to_of : Option (Node × Node) → Option Node
to_of None = None
to_of (Some ends) = Some ends.1

abbrev number_of : Node → ℕ
number_of (node.Thread t) = t
number_of (node.Mutex m) = m
number_of (node.Currency c) = c

module _ (f : Funding) where
  ticket_ends : Ticket → Option (Node × Node)
  ticket_ends x = option_map (λ end. (node.Currency x.issuer, end)) (target_node x.target)

  from-ticket : (o : Option Ticket) (from to : Node) → option_and_then ticket_ends o ≡ Some (from, to)
      → (issuer : ℕ) × (node.Currency issuer ≡ from)
  unfolding ticket_ends
  from-ticket None from to is = cc
  from-ticket (Some x) from to is = by (target_node x.target) is
    where
      by : (end : Option Node) → option_map {T = Node} {U = Node × Node} (λ e. (node.Currency x.issuer, e)) end
          ≡ Some (from, to) → (issuer : ℕ) × (node.Currency issuer ≡ from)
      by None none = cc
      by (Some e) ends = (x.issuer, ap from_of ends)

  -- an edge from a thread is its lend
  pub lender-next : (t : ℕ) (next : Node) → IsEdge f (node.Thread t) next
      → (lend : Lend) × (at_number f.lends t ≡ Some lend) × (lend_node lend ≡ Some next)
  unfolding ticket_ends
  lender-next t next (OfTicket n, ends) = let (issuer, same) = from-ticket (ticket_at f n) (node.Thread t) next ends in
      cc
  lender-next t next (OfMutex m, ends) = by (owner_of f m) ends
    where
      by : (o : Option ℕ) → option_map {T = ℕ} {U = Node × Node} (λ owner. (node.Mutex m, node.Thread owner)) o ≡ Some
          (node.Thread t, next) → (lend : Lend) × (at_number f.lends t ≡ Some lend) × (lend_node lend ≡ Some next)
      by None none = cc
      by (Some owner) is = let same : node.Mutex m ≡ node.Thread t = ap from_of is in cc
  lender-next t next (OfLender u, ends) = by (at_number f.lends u) refl ends
    where
      with_node : (lend : Lend) (o : Option Node) → lend_node lend ≡ o → at_number f.lends u ≡ Some lend
          → option_map {T = Node} {U = Node × Node} (λ to. (node.Thread u, to)) o ≡ Some (node.Thread t, next)
          → (l : Lend) × (at_number f.lends t ≡ Some l) × (lend_node l ≡ Some next)
      with_node lend None none there is = cc
      with_node lend (Some to) some there is =
          let same : u ≡ t = ap (λ o. number_of (from_of o)) is in
          (lend, subst (λ x. at_number f.lends x ≡ Some lend) same there, some ∙ ap to_of is)

      by : (o : Option Lend) → at_number f.lends u ≡ o → lent_ends u o ≡ Some (node.Thread t, next)
          → (lend : Lend) × (at_number f.lends t ≡ Some lend) × (lend_node lend ≡ Some next)
      by None there is = cc
      by (Some lend) there is = with_node lend (lend_node lend) refl there is

  -- an edge from a mutex leads to its owner
  mutex-next : (m : ℕ) (next : Node) → IsEdge f (node.Mutex m) next
      → (owner : ℕ) × (owner_of f m ≡ Some owner) × (node.Thread owner ≡ next)
  unfolding ticket_ends
  mutex-next m next (OfTicket n, ends) = let (issuer, same) = from-ticket (ticket_at f n) (node.Mutex m) next ends in cc
  mutex-next m next (OfLender u, ends) = by (at_number f.lends u) ends
    where
      with_node : (o : Option Node) → option_map {T = Node} {U = Node × Node} (λ to. (node.Thread u, to)) o
          ≡ Some (node.Mutex m, next) → (owner : ℕ) × (owner_of f m ≡ Some owner) × (node.Thread owner ≡ next)
      with_node None is = cc
      with_node (Some to) is = let same : node.Thread u ≡ node.Mutex m = ap from_of is in cc

      by : (o : Option Lend) → lent_ends u o ≡ Some (node.Mutex m, next)
          → (owner : ℕ) × (owner_of f m ≡ Some owner) × (node.Thread owner ≡ next)
      by None is = cc
      by (Some lend) is = with_node (lend_node lend) is
  mutex-next m next (OfMutex k, ends) = by (owner_of f k) refl ends
    where
      by : (o : Option ℕ) → owner_of f k ≡ o
          → option_map {T = ℕ} {U = Node × Node} (λ owner. (node.Mutex k, node.Thread owner)) o
          ≡ Some (node.Mutex m, next) → (owner : ℕ) × (owner_of f m ≡ Some owner) × (node.Thread owner ≡ next)
      by None there is = cc
      by (Some owner) there is =
          let same : k ≡ m = ap (λ o. number_of (from_of o)) is in
          (owner, subst (λ x. owner_of f x ≡ Some owner) same there, some-injective (node.Thread owner) next (ap to_of is))

  -- one lend more at the front
  lead-more : (t s u : ℕ) → LendsTo f t s → LendsLead f s u → LendsLead f t u
  lead-more t s u lends (chain, is) = (s ∷ chain, (lends, is))

  way-lead : (k t u : ℕ) (way : List Node) → length way ≤ k → IsWay f (node.Thread t) way (node.Thread u)
      → LendsLead f t u
  way-lead k t u [] few is = ([], ap number_of is)
  way-lead zero t u (next ∷ rest) few is = absurd (omega (arith, few))
  way-lead (suc k) t u (next ∷ rest) few (edge, more) = let (lend, there, to) = lender-next t next edge in
      by (λ s way low is. way-lead k s u way low is) lend there to
    where
      lends : (lend : Lend) (s : ℕ) → at_number f.lends t ≡ Some lend → borrower f lend ≡ Some s → LendsTo f t s
      lends lend s there is = ap (option_and_then (borrower f)) there ∙ is

      onward : ((s : ℕ) (path : List Node) → length path ≤ k → IsWay f (node.Thread s) path (node.Thread u)
          → LendsLead f s u)
          → (m : ℕ) (way : List Node) → length way ≤ k → IsWay f (node.Mutex m) way (node.Thread u)
          → (s : ℕ) × (owner_of f m ≡ Some s) × LendsLead f s u
      onward again m [] low is = let same : node.Mutex m ≡ node.Thread u = is in cc
      onward again m (after ∷ others) low (edge', more') =
          let (owner, owned, same) = mutex-next m after edge' in
          (owner, owned, again owner others (omega (arith, low)) (subst (λ (x : Node). IsWay f x others (node.Thread u)) (sym same) more'))

      by : ((s : ℕ) (path : List Node) → length path ≤ k → IsWay f (node.Thread s) path (node.Thread u)
          → LendsLead f s u)
          → (lend : Lend) → at_number f.lends t ≡ Some lend → lend_node lend ≡ Some next → LendsLead f t u
      by again Nobody there none = cc
      by again (ToThread s) there to =
          lead-more t s u (lends (ToThread s) s there refl) (again s rest (omega (arith, few))
          (subst (λ (x : Node). IsWay f x rest (node.Thread u)) (sym (some-injective (node.Thread s) next to)) more))
      by again (ToMutex m) there to =
          let (s, owned, leads) = onward again m rest (omega (arith, few))
          (subst (λ (x : Node). IsWay f x rest (node.Thread u)) (sym (some-injective (node.Mutex m) next to)) more) in
          lead-more t s u (lends (ToMutex m) s there owned) leads

  -- a thread reaches another if and only if a chain of lends leads to it
  pub reaches-leads : (t u : ℕ) → Reaches f (node.Thread t) (node.Thread u) ↔ LendsLead f t u
  reaches-leads t u = ((λ (way, is). way-lead (length way) t u way (omega arith) is), lead-reaches f t u)
