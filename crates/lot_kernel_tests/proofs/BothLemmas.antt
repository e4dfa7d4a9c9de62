-- A graph with its activity, after a call of the graph.
use Rattle.lot_kernel_tests.proofs.Common.{Activity, AddsEdge, Agree, Bool, Both, Currency, EdgeEnds, FitsLimits, Funding, IfNone, IsBorrower, IsFunding, IsLender, IsLive, IsMutex, IsSome, IsSound, IsTarget, Lend, LimitedFunding, List, Mutex, Nobody, Node, None, OfLender, OfMutex, OfTicket, OnSome, Option, Some, Target, Thread, ToMutex, ToThread, ap, at_number, at_number-suc, currencies-kept, disown-edge, edge_between, ends-there, ends_of_edge, false, fund-edge, funding-ticket, is_some, issue-kept, lend-edge, lend_node, lender-ends, length, length-append, length-set, mutex-ends, option_and_then, refl, same-ends, set_number, subst, suc, sym, target-ticket, target_node, target_of, thread-kept, unfund-edge, unlend-edge, with_currencies, with_lends, with_new_ticket, with_owners, with_target, with_tickets, zero, ℕ, [], ◌++◌, ◌+◌, ◌-◌, ◌∙◌, ◌∷◌, ◌≡◌}
use Rattle.lot_machine.specs.declared.ticket.Target.TheVariants as target

abbrev pub both : LimitedFunding → Activity → Both
both w v = record { graph = w; activity = v }

pub none-live : (t : ℕ) → ¬ IsLive [] t
none-live zero alive = cc
none-live (suc i) alive = let none = sym (at_number-suc (let bits : List Bool = [] in bits) i) ∙ alive in cc

module _ (w now : LimitedFunding) (v : Activity) (agree : Agree (both w v)) (sound : IsSound now.funding)
    (fits : FitsLimits now) where
  pub currency-both : (o : Option ℕ) (currencies : List Bool) → OnSome o (now ≡ with_currencies w currencies)
      → IfNone o (now ≡ w) → Agree (both now v)
  currency-both None currencies made same = subst (λ (x : LimitedFunding). Agree (both x v)) (sym same) agree
  currency-both (Some n) currencies made same =
      let (live, (size, kept)) = agree in
      (live, (size ∙ sym (ap (λ (x : LimitedFunding). length x.funding.lends) made), currencies-kept v w now live kept sound fits currencies made))

  pub issue-both : (o : Option ℕ) (amount issuer : ℕ)
      → OnSome o (now ≡ with_tickets w (with_new_ticket w.funding.tickets amount issuer target.Unfunded))
      → IfNone o (now ≡ w) → Agree (both now v)
  issue-both None amount issuer made same = subst (λ (x : LimitedFunding). Agree (both x v)) (sym same) agree
  issue-both (Some n) amount issuer made same =
      let (live, (size, kept)) = agree in
      (live, (size ∙ sym (ap (λ (x : LimitedFunding). length x.funding.lends) made), issue-kept v w now live kept sound fits amount issuer made))

  pub thread-both : now ≡ with_lends w (w.funding.lends ++ Nobody ∷ []) → Agree (both now v)
  thread-both made =
      let (live, (size, kept)) = agree in
      let after : length (w.funding.lends ++ Nobody ∷ []) ≡ length w.funding.lends + 1 =
      length-append w.funding.lends (Nobody ∷ []) in
      let before : length (live ++ false ∷ []) ≡ length live + 1 = length-append live (false ∷ []) in
      (live ++ false ∷ [], (before ∙ ap (λ k. k + 1) size ∙ sym after ∙ sym (ap (λ (x : LimitedFunding). length x.funding.lends) made), thread-kept v w now live kept sound fits made))

-- a target is a node
target-some : (f : Funding) (to : Target) → IsTarget f to → (node : Node) × (target_node to ≡ Some node)
target-some f target.Unfunded there = absurd there
target-some f (target.Currency c) there = (Currency c, refl)
target-some f (target.Thread t) there = (Thread t, refl)

module _ (w now : LimitedFunding) (n : ℕ) where
  pub fund-ends : (to : Target) → target_of w.funding n ≡ Some target.Unfunded → IsTarget w.funding to
      → now ≡ with_tickets w (with_target w.funding.tickets n to) → (ends : EdgeEnds) × AddsEdge w now (OfTicket n) ends
  fund-ends to unfunded there made =
      let t = target-ticket w.funding n target.Unfunded unfunded in
      let node = target-some w.funding to there in
      (edge_between t.0.amount (Currency t.0.issuer) node.0, fund-edge w now n t.0 to node.0 t.1 t.2 node.1 made)

  pub unfund-ends : (ends : EdgeEnds) → IsFunding w.funding n → ends_of_edge w.funding (OfTicket n) ≡ Some ends
      → now ≡ with_tickets w (with_target w.funding.tickets n target.Unfunded) → AddsEdge now w (OfTicket n) ends
  unfund-ends ends funds at made =
      let t = funding-ticket w.funding n funds in
      let other = edge_between t.0.amount (Currency t.0.issuer) t.1 in
      let adds : AddsEdge now w (OfTicket n) other = unfund-edge w now n t.0 t.1 t.2 t.3 made in
      subst (λ (e : EdgeEnds). AddsEdge now w (OfTicket n) e)
      (same-ends (ends_of_edge w.funding (OfTicket n)) other ends adds.here at) adds

-- ---- lends and owners

-- what is lent to is a node
borrower-some : (f : Funding) (lend : Lend) → IsBorrower f lend → (node : Node) × (lend_node lend ≡ Some node)
borrower-some f Nobody there = absurd there
borrower-some f (ToThread s) there = (Thread s, refl)
borrower-some f (ToMutex m) there = (Mutex m, refl)

lender-lends : (f : Funding) (t : ℕ) → IsLender f t
    → (lend : Lend) × (node : Node) × (at_number f.lends t ≡ Some lend) × (lend_node lend ≡ Some node)
lender-lends f t lends = by (at_number f.lends t) refl lends
  where
    node-of : (lend : Lend) → at_number f.lends t ≡ Some lend → (o : Option Node) → lend_node lend ≡ o → IsSome o
        → (l : Lend) × (node : Node) × (at_number f.lends t ≡ Some l) × (lend_node l ≡ Some node)
    node-of lend at None is some = cc
    node-of lend at (Some node) is some = (lend, node, at, is)

    by : (o : Option Lend) → at_number f.lends t ≡ o → IsSome (option_and_then lend_node o)
        → (lend : Lend) × (node : Node) × (at_number f.lends t ≡ Some lend) × (lend_node lend ≡ Some node)
    by None is some = cc
    by (Some lend) is some = node-of lend is (lend_node lend) refl some

module _ (w now : LimitedFunding) (n : ℕ) where
  pub lend-ends : (lend : Lend) → at_number w.funding.lends n ≡ Some Nobody → IsBorrower w.funding lend
      → now ≡ with_lends w (set_number w.funding.lends n lend) → (ends : EdgeEnds) × AddsEdge w now (OfLender n) ends
  lend-ends lend nobody there made = let node = borrower-some w.funding lend there in
      (edge_between 1 (Thread n) node.0, lend-edge w now n lend node.0 nobody node.1 made)

  pub unlend-ends : (ends : EdgeEnds) → IsLender w.funding n → ends_of_edge w.funding (OfLender n) ≡ Some ends
      → now ≡ with_lends w (set_number w.funding.lends n Nobody) → AddsEdge now w (OfLender n) ends
  unlend-ends ends lends at made =
      let (lend, node, here, node_is) = lender-lends w.funding n lends in
      let adds : AddsEdge now w (OfLender n) (edge_between 1 (Thread n) node) =
      unlend-edge w now n lend node here node_is made in
      subst (λ (e : EdgeEnds). AddsEdge now w (OfLender n) e)
      (same-ends (ends_of_edge w.funding (OfLender n)) (edge_between 1 (Thread n) node) ends adds.here at) adds

  pub give-ends : (ends : EdgeEnds) → IsMutex w.funding n → ends_of_edge w.funding (OfMutex n) ≡ Some ends
      → now ≡ with_owners w (set_number w.funding.owners n None) → AddsEdge now w (OfMutex n) ends
  give-ends ends there at made =
      let (owner, owned, from, to) =
      mutex-ends w.funding n ends.from ends.to (ends-there w.funding (OfMutex n) ends at) in
      let adds : AddsEdge now w (OfMutex n) (edge_between 1 (Mutex n) (Thread owner)) =
      disown-edge w now n owner there owned made in
      subst (λ (e : EdgeEnds). AddsEdge now w (OfMutex n) e)
      (same-ends (ends_of_edge w.funding (OfMutex n)) (edge_between 1 (Mutex n) (Thread owner)) ends adds.here at) adds

-- an edge of a lender that is there is one of a thread that lends
pub ends-lender_is : (f : Funding) (t : ℕ) (ends : EdgeEnds) → ends_of_edge f (OfLender t) ≡ Some ends → IsLender f t
ends-lender_is f t ends at =
    let (lend, there, from, to) = lender-ends f t ends.from ends.to (ends-there f (OfLender t) ends at) in
    ap (λ (o : Option Lend). is_some (option_and_then lend_node o)) there ∙ ap (λ (o : Option Node). is_some o) to

-- a graph that is the same
pub same-both : (w now : LimitedFunding) (v : Activity) → now ≡ w → Agree (both w v) → Agree (both now v)
same-both w now v same agree = subst (λ (x : LimitedFunding). Agree (both x v)) (sym same) agree

pub lends-size : (w now : LimitedFunding) (n : ℕ) (lend : Lend) → now ≡ with_lends w (set_number w.funding.lends n lend)
    → length now.funding.lends ≡ length w.funding.lends
lends-size w now n lend made = ap (λ (x : LimitedFunding). length x.funding.lends) made
    ∙ length-set w.funding.lends (n - 1) lend
