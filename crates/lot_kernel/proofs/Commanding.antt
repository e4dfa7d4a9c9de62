-- The changes of commands: names, tickets and targets.
use Rattle.lot_kernel.proofs.Common.{Bool, Contains, Dead, Edge, Funding, IsCycle, IsInOrder, IsTarget, IsTargetThere, IsTrue, Lend, List, MakesStale, Nobody, Node, None, OfLender, OfMutex, OfTicket, Option, Record, Snapshot, Some, State, Target, Ticket, Unfunded, WouldCycle, ap, arith, at_number, at_number-suc, edges-between, false, free-dead, free_threads, free_tickets, funding_of, inl, inr, is_bad_amount, is_currency, is_cycle, issuer_of, lend-at, lend_of, length, length-map, live-between, live_in, makes-both-in, map-placed, newborn, newborn-edges, next_place, number-next, option_and_then, option_any, option_flatten, option_map, place-kept, place-set_same, placed, refl, retargeted, set-append_seam, set_number, slice_get, slice_get_within, slice_set, some-injective, subst, suc, sym, target_node, target_of, threads_of, ticket_at, ticket_in, true, weighed_of, with_target, with_thread, with_ticket, would_cycle, would_cycle-exact, zero, ℕ, [], ◌++◌, ◌+◌, ◌-◌, ◌<◌, ◌↔◌, ◌∙◌, ◌∷◌, ◌≡◌, ◌⊎◌}
use Rattle.lot_machine.specs.declared.funding.Node.TheVariants as node
use Rattle.lot_machine.specs.declared.ticket.Target.TheVariants.{Currency, Thread}
use Rattle.lot_kernel.proofs.Freeing.{ticket-gap}

-- ---- funding

-- a target that is there, and isn't base, may be funded
pub target-funded : (s : State) (to : Target) → IsTargetThere s to → is_currency 0 to ≡ false
    → IsTarget (funding_of s) to
target-funded s Unfunded there other = there
target-funded s (Thread t) there other =
    (there.0, omega (arith, there.1, length-map s.records (λ (r : Record). lend_of s.limits r.status)))
target-funded s (Currency zero) there other = cc
target-funded s (Currency (suc c)) there other = (omega arith, there)

-- a thread makes none
pub thread-no-cycle : (f : Funding) (n u : ℕ) → ¬ IsCycle f n (Thread u)
thread-no-cycle f n u (c, issuer, same, of, cycle) = cc

-- whether a cycle would be made, as the graph says and as the definitions test
module _ (s : State) (order : IsInOrder s) (n : ℕ) (t : Ticket) (here : ticket_in s.tickets n ≡ Some t) where
  issued : issuer_of (funding_of s) n ≡ Some t.issuer
  issued = ap (option_map (λ (u : Ticket). u.issuer)) here

  test-of : (c : ℕ) → is_cycle s n (Currency c) ≡ would_cycle (funding_of s) t.issuer c
  test-of c = ap (option_any (λ issuer. would_cycle (funding_of s) issuer c)) issued

  exact : (c : ℕ) → c < length (funding_of s).currencies
      → (is_cycle s n (Currency c) ≡ true) ↔ IsCycle (funding_of s) n (Currency c)
  exact c low = (
    λ e. (c, t.issuer, refl, issued, (would_cycle-exact (funding_of s) order.no_cycle order.funds_there t.issuer c low).0 (sym (test-of c) ∙ e)),
    λ (d, issuer, same, of, cycle). test-of c
        ∙ (would_cycle-exact (funding_of s) order.no_cycle order.funds_there t.issuer c low).1
        (subst (λ i. WouldCycle (funding_of s) i c) (some-injective issuer t.issuer (sym of ∙ issued))
        (subst (λ x. WouldCycle (funding_of s) issuer x) (sym (currency-same c d same)) cycle)),
  )
    where
      currency-same : (x y : ℕ) → Currency x ≡ Currency y → x ≡ y
      currency-same x y e = cc

  pub cycle-tested : (to : Target) → IsTarget (funding_of s) to → (found : Bool)
      → (IsTrue found ↔ IsCycle (funding_of s) n to) → is_cycle s n to ≡ found
  cycle-tested Unfunded there found is = absurd there
  cycle-tested (Thread u) there true is = absurd (thread-no-cycle (funding_of s) n u (is.0 refl))
  cycle-tested (Thread u) there false is = refl
  cycle-tested (Currency c) there true is =
      (exact c (slice_get_within (funding_of s).currencies c true there.1)).1 (is.0 refl)
  cycle-tested (Currency c) there false is = by (is_cycle s n (Currency c)) refl
    where
      by : (b : Bool) → is_cycle s n (Currency c) ≡ b → is_cycle s n (Currency c) ≡ false
      by true e = let never : false ≡ true =
          is.1 ((exact c (slice_get_within (funding_of s).currencies c true there.1)).0 e) in cc
      by false e = e

-- ---- the amount of a ticket

-- an amount that passes the check is positive
pub good-amount : (amount : ℕ) → is_bad_amount amount ≡ false → 0 < amount
good-amount zero good = cc
good-amount (suc n) good = omega arith

-- ---- a new ticket that funds a new thread

-- the last of a list after one was pushed
last-place : {A : Type 0} (xs : List A) (x : A) → slice_get (xs ++ x ∷ []) (length xs) ≡ Some x
last-place [] x = refl
last-place (y ∷ ys) x = last-place ys x

-- it has the number after the count
pub last-number : {A : Type 0} (xs : List A) (x : A) → at_number (xs ++ x ∷ []) (length xs + 1) ≡ Some x
last-number xs x = let next : length xs + 1 ≡ suc (length xs) = omega arith in ap (at_number (xs ++ x ∷ [])) next
    ∙ at_number-suc (xs ++ x ∷ []) (length xs) ∙ last-place xs x

-- the place of a gap has what is put there
set-there : {A : Type 0} (xs : List A) (i : ℕ) (x y : A) → slice_get xs i ≡ Some y
    → at_number (slice_set xs i x) (i + 1) ≡ Some x
set-there xs i x y is = let next : i + 1 ≡ suc i = omega arith in ap (at_number (slice_set xs i x)) next
    ∙ at_number-suc (slice_set xs i x) i ∙ place-set_same xs i x y is

set-twice : {A : Type 0} (xs : List A) (i : ℕ) (x y : A) → slice_set (slice_set xs i x) i y ≡ slice_set xs i y
set-twice [] zero x y = refl
set-twice [] (suc i) x y = refl
set-twice (z ∷ zs) zero x y = refl
set-twice (z ∷ zs) (suc i) x y = ap (λ ws. z ∷ ws) (set-twice zs i x y)

-- the number of the next one has it
pub next-there : {A : Type 0} (xs : List (Option A)) (free : List ℕ) (x : A)
    → ((place : ℕ) → slice_get free 0 ≡ Some place → slice_get xs place ≡ Some None)
    → at_number (placed xs free (Some x)) (next_place xs free + 1) ≡ Some (Some x)
next-there xs [] x gap = last-number xs (Some x)
next-there xs (i ∷ free) x gap = set-there xs i (Some x) None (gap i refl)

-- what was made funds nothing, and then the target
pub funded-placed : (tickets : List (Option Ticket)) (free : List ℕ) (new : Ticket) (to : Target)
    → ((place : ℕ) → slice_get free 0 ≡ Some place → slice_get tickets place ≡ Some None)
    → with_target (placed tickets free (Some new))
    (next_place tickets free + 1) to ≡ placed tickets free (Some (retargeted to new))
funded-placed tickets free new to gap =
    ap (λ o. set_number (placed tickets free (Some new)) (next_place tickets free + 1)
    (option_map (retargeted to) (option_flatten o))) (next-there tickets free new gap) ∙ by free
  where
    before-last : (n : ℕ) → n + 1 - 1 ≡ n
    before-last n = omega arith

    by : (places : List ℕ) → set_number (placed tickets places (Some new)) (next_place tickets places + 1)
        (Some (retargeted to new)) ≡ placed tickets places (Some (retargeted to new))
    by [] = ap (λ i. slice_set (tickets ++ Some new ∷ []) i (Some (retargeted to new))) (before-last (length tickets))
        ∙ set-append_seam tickets (Some new) [] (Some (retargeted to new))
    by (i ∷ places) = ap (λ j. slice_set (slice_set tickets i (Some new)) j (Some (retargeted to new))) (before-last i)
        ∙ set-twice tickets i (Some new) (Some (retargeted to new))

-- an unfunded ticket more adds no edge
pub unfunded-edges : (f : Funding) (free : List ℕ) (new : Ticket) → new.target ≡ Unfunded
    → ((place : ℕ) → slice_get free 0 ≡ Some place → slice_get f.tickets place ≡ Some None)
    → (edge : Edge) → weighed_of (record f { tickets = placed f.tickets free (Some new) }) edge ≡ weighed_of f edge
unfunded-edges f free new unfunded gap (OfLender t) = refl
unfunded-edges f free new unfunded gap (OfMutex m) = refl
unfunded-edges f free new unfunded gap (OfTicket n) = by (number-next f.tickets free (Some new) n)
  where
    seen : Option (Option Ticket) → Option (Node × Node × ℕ)
    seen o = option_and_then (λ t. option_map (λ to. (node.Currency t.issuer, to, t.amount)) (target_node t.target))
        (option_flatten o)

    nothing : seen (Some (Some new)) ≡ None
    nothing = ap (λ to. option_map (λ (x : Node). let y : Node × Node × ℕ = (node.Currency new.issuer, x, new.amount) in
        y) (target_node to)) unfunded

    none : (at_number f.tickets n ≡ None) ⊎ (slice_get free 0 ≡ Some (n - 1)) → n ≡ next_place f.tickets free + 1
        → seen (at_number f.tickets n) ≡ None
    none (inl past) number = ap seen past
    none (inr first) number =
        let next : n ≡ suc (n - 1) = omega (arith, number) in
        ap (λ m. seen (at_number f.tickets m)) next ∙ ap seen (at_number-suc f.tickets (n - 1) ∙ gap (n - 1) first)

    by : (at_number (placed f.tickets free (Some new)) n ≡ at_number f.tickets n)
        ⊎ ((n ≡ next_place f.tickets free + 1) × (at_number (placed f.tickets free (Some new)) n ≡ Some (Some new))
        × ((at_number f.tickets n ≡ None) ⊎ (slice_get free 0 ≡ Some (n - 1))))
        → seen (at_number (placed f.tickets free (Some new)) n) ≡ seen (at_number f.tickets n)
    by (inl same) = ap seen same
    by (inr (number, now, was)) = ap seen now ∙ nothing ∙ sym (none was number)

-- a thread more adds none either, if the thread of its place was dead
pub placed-edges : (f : Funding) (free : List ℕ)
    → ((place : ℕ) → slice_get free 0 ≡ Some place → slice_get f.lends place ≡ Some Nobody) → (edge : Edge)
    → weighed_of (record f { lends = placed f.lends free Nobody }) edge ≡ weighed_of f edge
placed-edges f [] nobody edge = newborn-edges f edge
placed-edges f (i ∷ free) nobody edge =
    ap (λ (ls : List Lend). weighed_of (record f { lends = ls }) edge) (place-kept f.lends i Nobody (nobody i refl))

-- what a ticket, a thread and what the one funds of the other make stale together
module _ (old issued added funded : Snapshot) (new : Ticket) (script n t : ℕ) (name : List ℕ)
    (unfunded : new.target ≡ Unfunded) (order : IsInOrder old.state)
    (first : issued ≡ record old { state = with_ticket old.state new })
    (second : added.state ≡ with_thread issued.state name script)
    (third : funded.state ≡ record added.state { tickets = with_target added.state.tickets n (Thread t) }) where
  abbrev graph-of : Snapshot → Funding
  graph-of x = funding_of x.state

  issued-edges : (edge : Edge) → weighed_of (graph-of issued) edge ≡ weighed_of (graph-of old) edge
  issued-edges edge = ap (λ (x : Snapshot). weighed_of (graph-of x) edge) first
      ∙ unfunded-edges (graph-of old) (free_tickets old.state) new unfunded (ticket-gap old.state order) edge

  nobody : (place : ℕ) → slice_get (free_threads old.state) 0 ≡ Some place
      → slice_get (graph-of old).lends place ≡ Some Nobody
  nobody place is =
      let dead = free-dead old.state order.gaps order.removed place is in
      sym (at_number-suc (graph-of old).lends place) ∙ lend-at old.state.limits old.state.records (suc place) Dead dead

  added-edges : (edge : Edge) → weighed_of (graph-of added) edge ≡ weighed_of (graph-of old) edge
  added-edges edge =
      ap (λ (x : State). weighed_of (funding_of x) edge)
      (second ∙ ap (λ (x : Snapshot). with_thread x.state name script) first)
      ∙ unfunded-edges (funding_of (with_thread old.state name script)) (free_tickets old.state) new unfunded
      (ticket-gap old.state order) edge
      ∙ ap (λ (ls : List Lend). weighed_of (record (graph-of old) { lends = ls }) edge) (map-placed
      (λ (r : Record). lend_of old.state.limits r.status) old.state.records (free_threads old.state) newborn)
      ∙ placed-edges (graph-of old) (free_threads old.state) nobody edge

  pub makes-funded : MakesStale issued added → MakesStale added funded → MakesStale old funded
  makes-funded makes_added makes_funded =
      let start = makes-both-in (threads_of old.state old.stale old.meter)
      (threads_of issued.state issued.stale issued.meter) (threads_of added.state added.stale added.meter)
      (edges-between (graph-of old) (graph-of issued) (graph-of added) (λ edge. inl (issued-edges edge)))
      (live-between (live_in old.state.records) (live_in issued.state.records) (live_in added.state.records)
      (λ u. inl (ap (λ (x : Snapshot). at_number (live_in x.state.records) u) first)))
      (λ x stale. inl (subst (λ (y : Snapshot). Contains y.stale x) first stale)) makes_added in
      makes-both-in (threads_of old.state old.stale old.meter) (threads_of added.state added.stale added.meter)
      (threads_of funded.state funded.stale funded.meter)
      (edges-between (graph-of old) (graph-of added) (graph-of funded) (λ edge. inl (added-edges edge)))
      (live-between (live_in old.state.records) (live_in added.state.records) (live_in funded.state.records)
      (λ u. inr (sym (ap (λ (x : State). at_number (live_in x.records) u) third))))
      start makes_funded

-- a ticket with a target is there
pub ticket-with : (f : Funding) (n : ℕ) (to : Target) → target_of f n ≡ Some to
    → (t : Ticket) × (ticket_at f n ≡ Some t)
ticket-with f n to is = by (ticket_at f n) refl is
  where
    by : (o : Option Ticket) → ticket_at f n ≡ o → option_map {T = Ticket} {U = Target} (λ t. t.target) o ≡ Some to
        → (t : Ticket) × (ticket_at f n ≡ Some t)
    by None none e = cc
    by (Some t) some e = (t, some)
