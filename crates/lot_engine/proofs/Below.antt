-- A thread stands below a currency if and only if a path of edges leads from the currency to it.
use Rattle.lot_engine.proofs.Common.{Bool, Contains, Currency, FoundNodes, Funding, FundsThere, HasNoCycle, HasThoseAbove, IsAboveThread, IsBetween, IsInOrder, IsWay, Lend, LendsLead, LendsTo, List, Nobody, Node, None, OfTicket, Option, Reaches, Record, Some, State, Target, Ticket, ToMutex, ToThread, WouldCycle, all_tickets, and_from, and_parts, any_at, any_from, ap, arith, at_number, borrower, contains-later, currency-edge, cycle-reaches, edge-reaches, eq-eqb, eqb-true, funding_of, funds_thread, head-target, head_of, inl, inr, is_some, is_thread, issuer-of, issuer_of, lead-reaches, lend_node, lend_of, lender_within, lenders_to, lends_lead, lends_lead-exact, length, length-map, lent-head, list_any, list_any-filter, mutex-edge, numbers, option_and_then, option_flatten, option_map, or_cases, or_left, or_right, owned-head, owner_of, place-in, range-contains, reaches-then, reaches_within, refl, slice_get, some-injective, stands_below, subst, suc, sym, target_node, target_of, thread-edge, ticket-edge, ticket-of, ticket_at, ticket_in-suc, true, would_cycle-exact, zero, ℕ, [], ◌&&◌, ◌<◌, ◌↔◌, ◌∙◌, ◌∷◌, ◌≡◌, ◌⊎◌}
use Rattle.lot_machine.specs.declared.funding.Node.TheVariants.{Thread, Mutex}
use Rattle.lot_machine.specs.declared.ticket.Target.TheVariants as target
use Rattle.lot_machine.proofs.Tickets.{place_of}

abbrev number : Node → ℕ
number (Currency k) = k
number (Thread k) = k
number (Mutex k) = k

-- an element that passes, of a list that has one
any-found : {A : Type 0} (test : A → Bool) (xs : List A) → list_any test xs ≡ true
    → (x : A) × Contains xs x × (test x ≡ true)
any-found test [] h = cc
any-found {A} test (x ∷ xs) h = from (any-found test xs) (or_cases (test x) (list_any test xs) h)
  where
    from : (list_any test xs ≡ true → (y : A) × Contains xs y × (test y ≡ true))
        → (test x ≡ true) ⊎ (list_any test xs ≡ true) → (y : A) × Contains (x ∷ xs) y × (test y ≡ true)
    from next (inl passes) = (x, (0, omega arith, refl), passes)
    from next (inr more) = let (y, there, passes) = next more in (y, contains-later x xs y there, passes)

any-contained : {A : Type 0} (test : A → Bool) (xs : List A) (x : A) → Contains xs x → test x ≡ true
    → list_any test xs ≡ true
any-contained {A} test xs x there passes = let (place, at) = place-in xs x there in by xs place at
  where
    by : (ys : List A) (place : ℕ) → slice_get ys place ≡ Some x → list_any test ys ≡ true
    by [] place at = cc
    by (y ∷ ys) zero at = or_left (test y) (list_any test ys) (ap test (some-injective y x at) ∙ passes)
    by (y ∷ ys) (suc place) at = or_right (test y) (list_any test ys) (by ys place at)

-- a ticket funds the thread if its target is the thread
thread-target : (u : ℕ) (to : Target) → is_thread u to ≡ true → to ≡ target.Thread u
thread-target u target.Unfunded h = cc
thread-target u (target.Currency c) h = cc
thread-target u (target.Thread v) h = ap target.Thread (eqb-true v u h)

target-thread : (u : ℕ) (to : Target) → to ≡ target.Thread u → is_thread u to ≡ true
target-thread u to is = ap (is_thread u) is ∙ eq-eqb u u refl

module _ (f : Funding) where
  -- ---- paths between threads are chains of lends

  lends-thread : (u v : ℕ) (o : Option Lend) → at_number f.lends u ≡ o → option_and_then lend_node o ≡ Some (Thread v)
      → LendsTo f u v
  lends-thread u v None at e = cc
  lends-thread u v (Some Nobody) at e = cc
  lends-thread u v (Some (ToThread s)) at e = ap (option_and_then (borrower f)) at
      ∙ ap (λ (n : Node). Some (number n)) (some-injective (Thread s) (Thread v) e)
  lends-thread u v (Some (ToMutex m)) at e = cc

  waits-for : (u m : ℕ) (o : Option Lend) → at_number f.lends u ≡ o → option_and_then lend_node o ≡ Some (Mutex m)
      → at_number f.lends u ≡ Some (ToMutex m)
  waits-for u m None at e = cc
  waits-for u m (Some Nobody) at e = cc
  waits-for u m (Some (ToThread s)) at e = cc
  waits-for u m (Some (ToMutex k)) at e = at
      ∙ ap (λ (n : Node). Some (ToMutex (number n))) (some-injective (Mutex k) (Mutex m) e)

  owned-by : (v : ℕ) (o : Option ℕ) → option_map Thread o ≡ Some (Thread v) → o ≡ Some v
  owned-by v None e = cc
  owned-by v (Some owner) e = ap (λ (n : Node). Some (number n)) (some-injective (Thread owner) (Thread v) e)

  no-mutex : (m : ℕ) (o : Option ℕ) → ¬ (option_map Thread o ≡ Some (Mutex m))
  no-mutex m None e = cc
  no-mutex m (Some owner) e = cc

  lead-then : (u v t : ℕ) → LendsTo f u v → LendsLead f v t → LendsLead f u t
  lead-then u v t first (chain, is) = (v ∷ chain, (first, is))

  mutual
    thread-way : (u : ℕ) (way : List Node) (t : ℕ) → IsWay f (Thread u) way (Thread t) → LendsLead f u t
    thread-way u [] t e = ([], ap number e)
    thread-way u (Currency d ∷ rest) t (edge, others) =
        absurd (lent-head f (at_number f.lends u) d (thread-edge f u (Currency d) edge))
    thread-way u (Thread v ∷ rest) t (edge, others) = lead-then u v t
        (lends-thread u v (at_number f.lends u) refl (thread-edge f u (Thread v) edge)) (thread-way v rest t others)
    thread-way u (Mutex m ∷ rest) t (edge, others) =
        mutex-way u m (waits-for u m (at_number f.lends u) refl (thread-edge f u (Mutex m) edge)) rest t others

    mutex-way : (u m : ℕ) → at_number f.lends u ≡ Some (ToMutex m) → (way : List Node) (t : ℕ)
        → IsWay f (Mutex m) way (Thread t) → LendsLead f u t
    mutex-way u m waits [] t e = cc
    mutex-way u m waits (Currency d ∷ rest) t (edge, others) =
        absurd (owned-head f (owner_of f m) d (mutex-edge f m (Currency d) edge))
    mutex-way u m waits (Thread v ∷ rest) t (edge, others) =
        lead-then u v t (ap (option_and_then (borrower f)) waits
        ∙ owned-by v (owner_of f m) (mutex-edge f m (Thread v) edge)) (thread-way v rest t others)
    mutex-way u m waits (Mutex k ∷ rest) t (edge, others) =
        absurd (no-mutex k (owner_of f m) (mutex-edge f m (Mutex k) edge))

  -- ---- a path from a currency to a thread

  -- a chain of tickets, perhaps empty, leads from the currency to a ticket's issuer, the ticket funds a thread, and the thread's lends lead to t
  record Below (c t : ℕ) : Type 0 where
    n : ℕ
    ticket : Ticket
    at : ticket_at f n ≡ Some ticket
    u : ℕ
    funds : ticket.target ≡ target.Thread u
    chain : WouldCycle f ticket.issuer c
    lead : LendsLead f u t

  target-of-head : (u : ℕ) (to : Target) → target_node to ≡ Some (Thread u) → to ≡ target.Thread u
  target-of-head u target.Unfunded e = cc
  target-of-head u (target.Currency c) e = cc
  target-of-head u (target.Thread v) e =
      ap (λ (n : Node). target.Thread (number n)) (some-injective (Thread v) (Thread u) e)

  never-mutex : (m : ℕ) (o : Option Ticket)
      → ¬ (option_and_then (λ (t : Ticket). target_node t.target) o ≡ Some (Mutex m))
  never-mutex m None e = cc
  never-mutex m (Some t) e = by t.target e
    where
      by : (to : Target) → ¬ (target_node to ≡ Some (Mutex m))
      by target.Unfunded e = cc
      by (target.Currency c) e = cc
      by (target.Thread u) e = cc

  -- a ticket before a chain of tickets
  chain-before : (n c d i : ℕ) → issuer_of f n ≡ Some c → target_of f n ≡ Some (target.Currency d) → WouldCycle f i d
      → WouldCycle f i c
  chain-before n c d i issued funds (inl same) = inr (n, [], issued, funds ∙ ap (λ x. Some (target.Currency x)) same)
  chain-before n c d i issued funds (inr (first, rest, of_d, is)) =
      inr (n, first ∷ rest, issued, ((d, funds, of_d), is))

  way-below : (c : ℕ) (way : List Node) (t : ℕ) → IsWay f (Currency c) way (Thread t) → Below c t
  way-below c [] t e = cc
  way-below c (Currency d ∷ rest) t (edge, others) =
      let r = currency-edge f c (Currency d) edge in
      let below = way-below d rest t others in
      record { n = below.n; ticket = below.ticket; at = below.at; u = below.u; funds = below.funds; chain = chain-before r.0 c d below.ticket.issuer r.1 (head-target f r.0 d r.2) below.chain; lead = below.lead }
  way-below c (Thread u ∷ rest) t (edge, others) =
      let r = currency-edge f c (Thread u) edge in
      let (ticket, at, issued) = ticket-of f r.0 c r.1 in
      record {
        n = r.0;
        ticket = ticket;
        at = at;
        u = u;
        funds =
            target-of-head u ticket.target (sym (ap (option_and_then (λ (t : Ticket). target_node t.target)) at) ∙ r.2);
        chain = inl (sym issued);
        lead = thread-way u rest t others;
      }
  way-below c (Mutex m ∷ rest) t (edge, others) = let r = currency-edge f c (Mutex m) edge in
      absurd (never-mutex m (ticket_at f r.0) r.2)

  below-way : (c t : ℕ) → Below c t → Reaches f (Currency c) (Thread t)
  below-way c t below =
      let head : head_of f (OfTicket below.n) ≡ Some (Thread below.u) =
      ap (option_and_then (λ (x : Ticket). target_node x.target)) below.at ∙ ap target_node below.funds in
      let edge =
      ticket-edge f below.n below.ticket.issuer (Thread below.u) (issuer-of f below.n below.ticket below.at) head in
      reaches-then f (Currency c) (Currency below.ticket.issuer) (Thread t)
      (cycle-reaches f c below.ticket.issuer below.chain)
      (reaches-then f (Currency below.ticket.issuer) (Thread below.u) (Thread t)
      (edge-reaches f (Currency below.ticket.issuer) (Thread below.u) edge) (lead-reaches f below.u t below.lead))

  -- ---- the tests

  module _ (no_cycle : HasNoCycle f) (funds_there : FundsThere f) (c : ℕ) (low : c < length f.currencies) (t : ℕ)
      (there : IsBetween 1 (length f.lends) t) where
    -- a thread whose lends lead to the thread is one of the threads
    lender-there : (u : ℕ) → LendsLead f u t → IsBetween 1 (length f.lends) u
    lender-there u ([], same) = subst (IsBetween 1 (length f.lends)) (sym same) there
    lender-there u (s ∷ rest, (first, others)) = let (i, is, below) = lender_within f u s first in
        (omega (arith, is), omega (arith, is, below))

    to-below : list_any (funds_thread f c) (lenders_to f t) ≡ true → Below c t
    to-below h =
        let (u, listed, both) = any-found (λ u. lends_lead f u t && funds_thread f c u) (numbers f.lends)
        (sym (list_any-filter (funds_thread f c) (λ u. lends_lead f u t) (numbers f.lends)) ∙ h) in
        let parts = and_parts (lends_lead f u t) (funds_thread f c u) both in
        let (i, ticket, at, passes) =
        any_at (λ (x : Ticket). is_thread u x.target && reaches_within (length f.currencies) f c x.issuer) f.tickets
        (sym (list_any-filter (λ (x : Ticket). reaches_within (length f.currencies) f c x.issuer)
        (λ (x : Ticket). is_thread u x.target) (all_tickets f)) ∙ parts.1) in
        let its =
        and_parts (is_thread u ticket.target) (reaches_within (length f.currencies) f c ticket.issuer) passes in
        record {
          n = suc i;
          ticket = ticket;
          at = ticket_in-suc f.tickets i ∙ ap option_flatten at;
          u = u;
          funds = thread-target u ticket.target its.0;
          chain = (would_cycle-exact f no_cycle funds_there ticket.issuer c low).0 its.1;
          lead = (lends_lead-exact f no_cycle.lends u t).0 parts.0;
        }

    from-below : Below c t → list_any (funds_thread f c) (lenders_to f t) ≡ true
    from-below below =
        let (i, is, at) = place_of f.tickets below.n below.ticket below.at in
        let funds : funds_thread f c below.u ≡ true =
        list_any-filter (λ (x : Ticket). reaches_within (length f.currencies) f c x.issuer)
        (λ (x : Ticket). is_thread below.u x.target) (all_tickets f)
        ∙ any_from (λ (x : Ticket). is_thread below.u x.target && reaches_within (length f.currencies) f c x.issuer)
        f.tickets i below.ticket at
        (and_from (is_thread below.u below.ticket.target) (reaches_within (length f.currencies) f c below.ticket.issuer)
        (target-thread below.u below.ticket.target below.funds)
        ((would_cycle-exact f no_cycle funds_there below.ticket.issuer c low).1 below.chain)) in
        let leads = (lends_lead-exact f no_cycle.lends below.u t).1 below.lead in
        let its = lender-there below.u below.lead in
        list_any-filter (funds_thread f c) (λ u. lends_lead f u t) (numbers f.lends)
        ∙ any-contained (λ u. lends_lead f u t && funds_thread f c u) (numbers f.lends) below.u
        (range-contains 1 (length f.lends) below.u its.0 (omega (arith, its.1)))
        (and_from (lends_lead f below.u t) (funds_thread f c below.u) leads funds)

pub below-reached : (s : State) (c t : ℕ) → HasNoCycle (funding_of s) → FundsThere (funding_of s)
    → c < length s.currencies → IsBetween 1 (length s.records) t
    → (stands_below s c t ≡ true) ↔ Reaches (funding_of s) (Currency c) (Thread t)
below-reached s c t no_cycle funds_there low there =
    let f = funding_of s in
    let below : c < length f.currencies =
    omega (arith, low, length-map s.currencies (λ (x : Option (List ℕ)). is_some x)) in
    let thread : IsBetween 1 (length f.lends) t =
    (there.0, omega (arith, there.1, length-map s.records (λ (r : Record). lend_of s.limits r.status))) in (
      λ h. below-way f c t (to-below f no_cycle funds_there c below t thread h),
      λ (way, is). from-below f no_cycle funds_there c below t thread (way-below f c way t is),
    )

-- what a search above a thread found is what the thread stands below
pub above-those : (s : State) (t : ℕ) (above : FoundNodes) → IsInOrder s → IsBetween 1 (length s.records) t
    → IsAboveThread s t above → HasThoseAbove s t above
above-those s t above order there found c low =
    let below = below-reached s c t order.no_cycle order.funds_there low there in
    (λ has. below.1 ((found c).0 has), λ stands. (found c).1 (below.0 stands))
