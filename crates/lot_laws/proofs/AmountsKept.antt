-- Only `settkt` of a ticket gives it another amount; and each run leaves the values of nodes that it doesn't affect.
use Rattle.lot_laws.proofs.Common.{Affects, All, All-head, All-tail, BadAmount, Bool, Command, Console, Currency, Done, Event, HasEquation, IsInOrder, IsThere, KeepsAmount, Kill, List, NoTicket, Node, None, Option, Record, Refusal, RemoveTicket, RemovesTicket, SetTicket, SetsAmountOf, Sizes, Some, State, Step, Target, Thread, Ticket, all-pass, ap, arith, at_number, by_event, cases_eq, command_effect, command_refusal, cond, contains-at, false, flatten-some, free_tickets, funding_of, inl, inr, is_bad_amount, is_none, lend_of, length, length-map, live_of, node_value, number-push, number-set, number-set_same, number-stays, number-there, option_flatten, option_map, order-sound, place_of, placed, refl, reissued, run-order, set_number, slice_get, some-injective, state_after, step, step-grown, step-limits, step-order, subst, suc, sym, ticket_at, ticket_in, true, unless_refused, with_amount, with_new_ticket, without_ticket, worth_in, ℕ, [], ◌++◌, ◌-◌, ◌∙◌, ◌∷◌, ◌≡◌, ◌≢◌, ◌≤◌, ◌⊎◌}
use Rattle.lot_machine.specs.declared.event.Event.TheVariants as event
use Rattle.lot_machine.specs.declared.funding.Node.TheVariants.{Mutex}
use Rattle.lot_laws.proofs.Insulated.{insulated}
use Rattle.lot_machine.specs.Change.{DropTicket, NewTicket, PutTicket}
use Rattle.lot_machine.proofs.StepChanges.{By, Gives, HasGaps, IsAmount, Keeps, Replaces, by_command, change-gaps, kept, step-leads}

-- ---- a ticket's place

-- At this number the second list may come of the first: it has a place if the first has one, and a ticket in a place
-- that the first has was there with the same amount.
pub record ComesOf (n : ℕ) (xs ys : List (Option Ticket)) : Type 0 where
  pub grows : at_number ys n ≡ None → at_number xs n ≡ None
  pub keeps : (u : Ticket) → ticket_in ys n ≡ Some u
      → (at_number xs n ≡ None) ⊎ ((t : Ticket) × (ticket_in xs n ≡ Some t) × (t.amount ≡ u.amount))

as-they-were : (n : ℕ) (xs : List (Option Ticket)) → ComesOf n xs xs
as-they-were n xs = record { grows = λ none. none; keeps = λ u is. inr (u, is, refl) }

then : (n : ℕ) (xs ys zs : List (Option Ticket)) → ComesOf n xs ys → ComesOf n ys zs → ComesOf n xs zs
then n xs ys zs first second =
    record { grows = λ none. first.grows (second.grows none); keeps = λ u is. by u (second.keeps u is) }
  where
    on : (u t : Ticket) → t.amount ≡ u.amount
        → (at_number xs n ≡ None) ⊎ ((v : Ticket) × (ticket_in xs n ≡ Some v) × (v.amount ≡ t.amount))
        → (at_number xs n ≡ None) ⊎ ((v : Ticket) × (ticket_in xs n ≡ Some v) × (v.amount ≡ u.amount))
    on u t same (inl none) = inl none
    on u t same (inr (v, at, is)) = inr (v, at, is ∙ same)

    by : (u : Ticket) → (at_number ys n ≡ None) ⊎ ((t : Ticket) × (ticket_in ys n ≡ Some t) × (t.amount ≡ u.amount))
        → (at_number xs n ≡ None) ⊎ ((t : Ticket) × (ticket_in xs n ≡ Some t) × (t.amount ≡ u.amount))
    by u (inl none) = inl (first.grows none)
    by u (inr (t, at, same)) = on u t same (first.keeps t at)

one-more : (n : ℕ) (xs : List (Option Ticket)) (amount issuer : ℕ) (to : Target)
    → ComesOf n xs (with_new_ticket xs amount issuer to)
one-more n xs amount issuer to =
    record { grows = λ none. fewer none (number-push xs (Some made) n); keeps = λ u is. by u is (number-push xs (Some made) n) }
  where
    made : Ticket
    made = record { amount = amount; issuer = issuer; target = to }

    fewer : at_number (xs ++ Some made ∷ []) n ≡ None → (at_number (xs ++ Some made ∷ []) n ≡ at_number xs n)
        ⊎ ((at_number xs n ≡ None) × (at_number (xs ++ Some made ∷ []) n ≡ Some (Some made))) → at_number xs n ≡ None
    fewer none (inl same) = sym same ∙ none
    fewer none (inr (was, is)) = was

    by : (u : Ticket) → ticket_in (xs ++ Some made ∷ []) n ≡ Some u
        → (at_number (xs ++ Some made ∷ []) n ≡ at_number xs n)
        ⊎ ((at_number xs n ≡ None) × (at_number (xs ++ Some made ∷ []) n ≡ Some (Some made)))
        → (at_number xs n ≡ None) ⊎ ((t : Ticket) × (ticket_in xs n ≡ Some t) × (t.amount ≡ u.amount))
    by u is (inl same) = inr (u, sym (ap option_flatten same) ∙ is, refl)
    by u is (inr (was, now)) = inl was

one-changed : (n : ℕ) (xs : List (Option Ticket)) (m : ℕ) (x : Option Ticket) → ((u : Ticket) → n ≡ suc (m - 1)
    → x ≡ Some u → (t : Ticket) × (ticket_in xs (suc (m - 1)) ≡ Some t) × (t.amount ≡ u.amount))
    → ComesOf n xs (set_number xs m x)
one-changed n xs m x was =
    record { grows = λ none. fewer none (number-set xs m x n); keeps = λ u is. by u is (number-set xs m x n) }
  where
    fewer : at_number (set_number xs m x) n ≡ None → (at_number (set_number xs m x) n ≡ at_number xs n)
        ⊎ ((n ≡ suc (m - 1)) × (at_number (set_number xs m x) n ≡ Some x)) → at_number xs n ≡ None
    fewer none (inl same) = sym same ∙ none
    fewer none (inr (at, is)) = let never : None ≡ Some x = sym none ∙ is in cc

    by : (u : Ticket) → ticket_in (set_number xs m x) n ≡ Some u → (at_number (set_number xs m x) n ≡ at_number xs n)
        ⊎ ((n ≡ suc (m - 1)) × (at_number (set_number xs m x) n ≡ Some x))
        → (at_number xs n ≡ None) ⊎ ((t : Ticket) × (ticket_in xs n ≡ Some t) × (t.amount ≡ u.amount))
    by u is (inl same) = inr (u, sym (ap option_flatten same) ∙ is, refl)
    by u is (inr (at, now)) = let (t, there, amount) = was u at (sym (ap option_flatten now) ∙ is) in
        inr (t, ap (ticket_in xs) at ∙ there, amount)

removed : (n : ℕ) (xs : List (Option Ticket)) (m : ℕ) → ComesOf n xs (without_ticket xs m)
removed n xs m = one-changed n xs m None (λ u at is. cc)

-- ---- events and runs

-- the tickets of a state after another
abbrev KeepsIn : ℕ → State → State → Type 0
KeepsIn n s after = ComesOf n s.tickets after.tickets

-- it gives the ticket no amount
abbrev Spares : By → ℕ → Type 0
Spares by n = (amount : ℕ) → ¬ Gives by n amount

-- what the console's command changes, its event does
by-event : (s : State) (e : Event) (c : Command) → by_event s e ≡ Console c → e ≡ event.Command c
by-event s (event.Command d) c is = ap event.Command (by-command d is)
  where
    by-command : (d : Command) → by_command s d ≡ Console c → d ≡ c
    by-command (Kill thread) same = cc
    by-command other same = cc
by-event s other c is = cc

spared : (s : State) (e : Event) (n : ℕ) → ¬ SetsAmountOf n e → Spares (by_event s e) n
spared s e n elsewhere amount (c, is, gives) = elsewhere (c, amount, by-event s e c is, gives)

-- what replaces a ticket has its amount
same-amount : (by : By) (a : State) (n m : ℕ) (old new : Ticket) → Spares by n → n ≡ m → Replaces by a m old new
    → old.amount ≡ new.amount
same-amount by a n m old new spares at replaces = from replaces.amount
  where
    from : (new.amount ≡ old.amount) ⊎ (Gives by m new.amount × IsAmount new.amount) → old.amount ≡ new.amount
    from (inl same) = sym same
    from (inr (gives, good)) = absurd (spares new.amount (subst (λ k. Gives by k new.amount) (sym at) gives))

-- it has its number
there-number : (xs : List (Option Ticket)) (n : ℕ) (t : Ticket) → ticket_in xs n ≡ Some t → suc (n - 1) ≡ n
there-number xs n t there = number-there xs n (Some t) (flatten-some (at_number xs n) t there)

-- with one more ticket, where numbers are given once
one-placed : (n : ℕ) (s : State) (ticket : Ticket) → s.limits.reuse ≡ false
    → ComesOf n s.tickets (placed s.tickets (free_tickets s) (Some ticket))
one-placed n s ticket once =
    subst (λ free. ComesOf n s.tickets (placed s.tickets free (Some ticket)))
    (sym (ap (λ b. cond {A = List ℕ} b s.freed.tickets []) once))
    (one-more n s.tickets ticket.amount ticket.issuer ticket.target)

-- each change that gives the ticket no amount leaves its amount, where numbers are given once
change-comes : (by : By) (s : State) (n : ℕ) → Spares by n → Keeps by s (λ a. (a.limits.reuse ≡ false) × KeepsIn n s a)
change-comes by s n spares a (NewTicket t) allowed (once, comes) =
    (once, then n s.tickets a.tickets (placed a.tickets (free_tickets a) (Some t)) comes (one-placed n a t once))
change-comes by s n spares a (DropTicket m) allowed (once, comes) =
    (once, then n s.tickets a.tickets (without_ticket a.tickets m) comes (removed n a.tickets m))
change-comes by s n spares a (PutTicket m place) (console, funded, (old, new, there, is, replaces)) (once, comes) =
    (once, then n s.tickets a.tickets (set_number a.tickets m place) comes (one-changed n a.tickets m place was))
  where
    number : suc (m - 1) ≡ m
    number = there-number a.tickets m old there

    was : (u : Ticket) → n ≡ suc (m - 1) → place ≡ Some u
        → (t : Ticket) × (ticket_in a.tickets (suc (m - 1)) ≡ Some t) × (t.amount ≡ u.amount)
    was u at now =
        let same : new ≡ u = some-injective new u (sym is ∙ now) in
        (old, ap (ticket_in a.tickets) number ∙ there, same-amount by a n m old new spares (at ∙ number) replaces ∙ ap (λ (x : Ticket). x.amount) same)
change-comes by s n spares a c allowed comes = comes

event-tickets : (n : ℕ) (s : State) (e : Event) → s.limits.reuse ≡ false → ¬ SetsAmountOf n e
    → KeepsIn n s (step s e).state
event-tickets n s e once elsewhere =
    (kept (λ a. (a.limits.reuse ≡ false) × KeepsIn n s a) (change-comes (by_event s e) s n (spared s e n elsewhere))
    (step-leads s e) (once, as-they-were n s.tickets)).1

run-tickets : (n : ℕ) (s : State) (events : List Event) → s.limits.reuse ≡ false → All (λ e. ¬ SetsAmountOf n e) events
    → KeepsIn n s (state_after s events)
run-tickets n s [] once elsewhere = as-they-were n s.tickets
run-tickets n s (e ∷ events) once elsewhere =
    then n s.tickets (step s e).state.tickets (state_after (step s e).state events).tickets
    (event-tickets n s e once (All-head (λ x. ¬ SetsAmountOf n x) e events elsewhere))
    (run-tickets n (step s e).state events (ap (λ (limits : Sizes). limits.reuse) (step-limits s e) ∙ once)
    (All-tail (λ x. ¬ SetsAmountOf n x) e events elsewhere))

amount-kept : (n : ℕ) (s after : State) → KeepsIn n s after → KeepsAmount (funding_of s) (funding_of after) n
amount-kept n s after comes t u first second = by (comes.keeps u second)
  where
    by : (at_number s.tickets n ≡ None) ⊎ ((v : Ticket) × (ticket_in s.tickets n ≡ Some v) × (v.amount ≡ u.amount))
        → t.amount ≡ u.amount
    by (inl none) = let never : None ≡ Some t = sym (ap option_flatten none) ∙ first in cc
    by (inr (v, at, same)) = ap (λ (x : Ticket). x.amount) (some-injective t v (sym first ∙ at)) ∙ same

-- ---- a ticket that stays

-- a ticket that has the number keeps its amount, and isn't removed
abbrev Stays : ℕ → State → State → Type 0
Stays n s after = (t : Ticket) → ticket_in s.tickets n ≡ Some t
    → (u : Ticket) × (ticket_in after.tickets n ≡ Some u) × (t.amount ≡ u.amount)

-- one more ticket has another number
stays-placed : (n : ℕ) (s : State) (ticket : Ticket) → s.limits.reuse ≡ true → HasGaps s → (t : Ticket)
    → ticket_in s.tickets n ≡ Some t
    → (u : Ticket) × (ticket_in (placed s.tickets (free_tickets s) (Some ticket)) n ≡ Some u) × (t.amount ≡ u.amount)
stays-placed n s ticket on gaps t is =
    (t, ap option_flatten (number-stays s.tickets (free_tickets s) (Some ticket) (Some t) n another (flatten-some (at_number s.tickets n) t is)), refl)
  where
    another : ¬ (slice_get (free_tickets s) 0 ≡ Some (n - 1))
    another first =
        let (i, number, here) = place_of s.tickets n t is in
        let free : slice_get s.freed.tickets 0 ≡ Some (n - 1) =
        sym (ap (λ b. slice_get (cond {A = List ℕ} b s.freed.tickets []) 0) on) ∙ first in
        let gap = (gaps on).tickets.each (n - 1) (contains-at s.freed.tickets 0 (n - 1) free) in
        let place : n - 1 ≡ i = omega (arith, number) in
        let never : Some (Some t) ≡ Some None = sym here ∙ ap (slice_get s.tickets) (sym place) ∙ gap in
        cc

-- a ticket that is put in the place of another is the other's, or has the amount
stays-put : (n : ℕ) (xs : List (Option Ticket)) (m : ℕ) (x : Option Ticket)
    → ((t : Ticket) → n ≡ m → ticket_in xs n ≡ Some t → (u : Ticket) × (x ≡ Some u) × (t.amount ≡ u.amount))
    → (there : IsThere (ticket_in xs m))
    → (t : Ticket) → ticket_in xs n ≡ Some t
    → (u : Ticket) × (ticket_in (set_number xs m x) n ≡ Some u) × (t.amount ≡ u.amount)
stays-put n xs m x was (old, there) t is = by (number-set xs m x n)
  where
    by : (at_number (set_number xs m x) n ≡ at_number xs n)
        ⊎ ((n ≡ suc (m - 1)) × (at_number (set_number xs m x) n ≡ Some x))
        → (u : Ticket) × (ticket_in (set_number xs m x) n ≡ Some u) × (t.amount ≡ u.amount)
    by (inl same) = (t, ap option_flatten same ∙ is, refl)
    by (inr (place, now)) =
        let at : n ≡ m = place ∙ number-there xs m (Some old) (flatten-some (at_number xs m) old there) in
        let (u, new, amount) = was t at is in (u, ap option_flatten now ∙ new, amount)

-- each change that gives it no amount and doesn't remove it leaves it its amount, where numbers are given again
change-stays : (by : By) (s : State) (n : ℕ) → Spares by n → ¬ (by ≡ Console (RemoveTicket n))
    → Keeps by s (λ a. (a.limits.reuse ≡ true) × HasGaps a × Stays n s a)
change-stays by s n spares left a (NewTicket new) allowed (on, gaps, stays) = (
  on,
  change-gaps by s a (NewTicket new) allowed gaps,
  λ t is.
      let (u, there, same) = stays t is in
      let (v, at, also) = stays-placed n a new on gaps u there in
      (v, at, same ∙ also),
)
change-stays by s n spares left a (DropTicket m) (console, removes, here) (on, gaps, stays) = (
  on,
  change-gaps by s a (DropTicket m) (console, removes, here) gaps,
  λ t is.
      let (u, there, same) = stays t is in
      let (v, at, also) = stays-put n a.tickets m None
      (λ x number now. absurd (left (removes ∙ ap (λ k. Console (RemoveTicket k)) (sym number)))) here u there in
      (v, at, same ∙ also),
)
change-stays by s n spares left a (PutTicket m place) (console, funded, (old, new, here, now, replaces))
    (on, gaps, stays) = (
      on,
      change-gaps by s a (PutTicket m place) (console, funded, (old, new, here, now, replaces)) gaps,
      λ t is.
          let (u, there, same) = stays t is in
          let (v, at, also) = stays-put n a.tickets m place put (old, here) u there in
          (v, at, same ∙ also),
    )
  where
    put : (t : Ticket) → n ≡ m → ticket_in a.tickets n ≡ Some t
        → (u : Ticket) × (place ≡ Some u) × (t.amount ≡ u.amount)
    put t at is =
        let same : t ≡ old = some-injective t old (sym is ∙ ap (ticket_in a.tickets) at ∙ here) in
        (new, now, ap (λ (x : Ticket). x.amount) same ∙ same-amount by a n m old new spares at replaces)
change-stays by s n spares left a c allowed (on, gaps, stays) = (on, change-gaps by s a c allowed gaps, stays)

event-stays : (n : ℕ) (s : State) (e : Event) → s.limits.reuse ≡ true → IsInOrder s → ¬ SetsAmountOf n e
    → ¬ RemovesTicket n e → Stays n s (step s e).state
event-stays n s e on order elsewhere left =
    let change =
    change-stays (by_event s e) s n (spared s e n elsewhere) (λ is. left (by-event s e (RemoveTicket n) is)) in
    (kept (λ a. (a.limits.reuse ≡ true) × HasGaps a × Stays n s a) change (step-leads s e)
    (on, order.gaps, λ t is. (t, is, refl))).2

run-stays : (n : ℕ) (s : State) (events : List Event) → s.limits.reuse ≡ true → IsInOrder s
    → All (λ e. ¬ SetsAmountOf n e) events → All (λ e. ¬ RemovesTicket n e) events → Stays n s (state_after s events)
run-stays n s [] on order elsewhere left t is = (t, is, refl)
run-stays n s (e ∷ events) on order elsewhere left t is =
    let (u, there, same) = event-stays n s e on order (All-head (λ x. ¬ SetsAmountOf n x) e events elsewhere)
    (All-head (λ x. ¬ RemovesTicket n x) e events left) t is in
    let (v, at, also) = run-stays n (step s e).state events
    (ap (λ (limits : Sizes). limits.reuse) (step-limits s e) ∙ on) (step-order s e order)
    (All-tail (λ x. ¬ SetsAmountOf n x) e events elsewhere)
    (All-tail (λ x. ¬ RemovesTicket n x) e events left) u there in
    (v, at, same ∙ also)

stays-amount : (n : ℕ) (s after : State) → Stays n s after → KeepsAmount (funding_of s) (funding_of after) n
stays-amount n s after stays t u first second = let (v, at, same) = stays t first in same
    ∙ ap (λ (x : Ticket). x.amount) (some-injective v u (sym at ∙ second))

-- ---- amounts

-- an event that removes the ticket leaves none to compare
removed-amount : (n : ℕ) (s : State)
    → KeepsAmount (funding_of s) (funding_of (step s (event.Command (RemoveTicket n))).state) n
removed-amount n s t u first second = by (command_refusal s (RemoveTicket n)) second
  where
    gone : ticket_in (without_ticket s.tickets n) n ≡ None
    gone = ap option_flatten (number-set_same s.tickets n None (Some t) (flatten-some (at_number s.tickets n) t first))

    by : (o : Option Refusal) → ticket_in (unless_refused s o (command_effect s (RemoveTicket n))).state.tickets n
        ≡ Some u → t.amount ≡ u.amount
    by (Some refusal) is = ap (λ (x : Ticket). x.amount) (some-injective t u (sym first ∙ is))
    by None is = let never : None ≡ Some u = sym gone ∙ is in cc

-- the event removes the ticket, or doesn't
removes : (n : ℕ) (e : Event) → RemovesTicket n e ⊎ (¬ RemovesTicket n e)
removes n (event.Command (RemoveTicket m)) = by (cases_eq m n)
  where
    same-number : event.Command (RemoveTicket m) ≡ event.Command (RemoveTicket n) → m ≡ n
    same-number e = cc

    by : (m ≡ n) ⊎ (m ≡ n → ⊥)
        → RemovesTicket n (event.Command (RemoveTicket m)) ⊎ (¬ RemovesTicket n (event.Command (RemoveTicket m)))
    by (inl same) = inl (ap (λ k. event.Command (RemoveTicket k)) same)
    by (inr other) = inr (λ e. other (same-number e))
removes n (event.Command other) = inr (λ e. cc)
removes n other = inr (λ e. cc)

pub event-amount : (s : State) (e : Event) (n : ℕ) → ¬ SetsAmountOf n e → (s.limits.reuse ≡ true → IsInOrder s)
    → KeepsAmount (funding_of s) (funding_of (step s e).state) n
event-amount s e n elsewhere order = at s.limits.reuse refl
  where
    by : s.limits.reuse ≡ true → RemovesTicket n e ⊎ (¬ RemovesTicket n e)
        → KeepsAmount (funding_of s) (funding_of (step s e).state) n
    by on (inl is) =
        subst (λ x. KeepsAmount (funding_of s) (funding_of (step s x).state) n) (sym is) (removed-amount n s)
    by on (inr left) = stays-amount n s (step s e).state (event-stays n s e on (order on) elsewhere left)

    at : (reuse : Bool) → s.limits.reuse ≡ reuse → KeepsAmount (funding_of s) (funding_of (step s e).state) n
    at false once = amount-kept n s (step s e).state (event-tickets n s e once elsewhere)
    at true on = by on (removes n e)

pub run-amount : (s : State) (events : List Event) (n : ℕ) → All (λ e. ¬ SetsAmountOf n e) events
    → (s.limits.reuse ≡ true → IsInOrder s × All (λ e. ¬ RemovesTicket n e) events)
    → KeepsAmount (funding_of s) (funding_of (state_after s events)) n
run-amount s events n elsewhere stays = at s.limits.reuse refl
  where
    at : (reuse : Bool) → s.limits.reuse ≡ reuse → KeepsAmount (funding_of s) (funding_of (state_after s events)) n
    at false once = amount-kept n s (state_after s events) (run-tickets n s events once elsewhere)
    at true on = let (order, left) = stays on in
        stays-amount n s (state_after s events) (run-stays n s events on order elsewhere left)

-- ---- an amount that is set

set-here : (xs : List (Option Ticket)) (n amount : ℕ) (t : Ticket) → ticket_in xs n ≡ Some t
    → ticket_in (with_amount xs n amount) n ≡ Some (reissued amount t)
set-here xs n amount t at =
    ap option_flatten (number-set_same xs n (option_map (reissued amount) (ticket_in xs n)) (Some t)
    (flatten-some (at_number xs n) t at)) ∙ ap (option_map (reissued amount)) at

set-other : (xs : List (Option Ticket)) (n amount m : ℕ) (t : Ticket) → ticket_in xs n ≡ Some t → m ≢ n
    → ticket_in (with_amount xs n amount) m ≡ ticket_in xs m
set-other xs n amount m t at other = by (number-set xs n (option_map (reissued amount) (ticket_in xs n)) m)
  where
    by : (at_number (with_amount xs n amount) m ≡ at_number xs m) ⊎ ((m ≡ suc (n - 1))
        × (at_number (with_amount xs n amount) m ≡ Some (option_map (reissued amount) (ticket_in xs n))))
        → ticket_in (with_amount xs n amount) m ≡ ticket_in xs m
    by (inl same) = ap option_flatten same
    by (inr (place, is)) = absurd (other (place ∙ number-there xs n (Some t) (flatten-some (at_number xs n) t at)))

module _ (s : State) (n amount : ℕ) where
  abbrev Setting : Event
  Setting = event.Command (SetTicket n amount)

  abbrev outcome : Option Refusal → Step
  outcome o = unless_refused s o (command_effect s (SetTicket n amount))

  -- the ticket is there, if the command isn't refused
  ticket-there : command_refusal s (SetTicket n amount) ≡ None → (t : Ticket) × (ticket_in s.tickets n ≡ Some t)
  ticket-there none = by (ticket_in s.tickets n) refl
      (all-pass ((is_bad_amount amount, BadAmount) ∷ (is_none (ticket_in s.tickets n), NoTicket) ∷ []) none).1.0
    where
      by : (o : Option Ticket) → ticket_in s.tickets n ≡ o → is_none o ≡ false
          → (t : Ticket) × (ticket_in s.tickets n ≡ Some t)
      by None is here = cc
      by (Some t) is here = (t, is)

  pub amount-set : (t : Ticket) → (step s Setting).reply ≡ Done → ticket_at (funding_of s) n ≡ Some t
      → ticket_at (funding_of (step s Setting).state) n ≡ Some (reissued amount t)
  amount-set t done at = by (command_refusal s (SetTicket n amount)) done
    where
      by : (o : Option Refusal) → (outcome o).reply ≡ Done
          → ticket_in (outcome o).state.tickets n ≡ Some (reissued amount t)
      by (Some refusal) e = cc
      by None e = set-here s.tickets n amount t at

  pub others-left : (m : ℕ) → m ≢ n → ticket_at (funding_of (step s Setting).state) m ≡ ticket_at (funding_of s) m
  others-left m other = by (command_refusal s (SetTicket n amount)) refl
    where
      by : (o : Option Refusal) → command_refusal s (SetTicket n amount) ≡ o
          → ticket_in (outcome o).state.tickets m ≡ ticket_in s.tickets m
      by (Some refusal) is = refl
      by None is = let (t, at) = ticket-there is in set-other s.tickets n amount m t at other

  pub rest-left : (step s Setting).state ≡ record s { tickets = (step s Setting).state.tickets }
  rest-left = by (command_refusal s (SetTicket n amount))
    where
      by : (o : Option Refusal) → (outcome o).state ≡ record s { tickets = (outcome o).state.tickets }
      by (Some refusal) = refl
      by None = refl

-- ---- what a run leaves elsewhere

-- threads don't get fewer
more-threads : (s : State) (e : Event) → length s.records ≤ length (step s e).state.records
more-threads s e = let grown = step-grown s e in omega (arith, grown.1.1)

run-threads : (s : State) (events : List Event) → length s.records ≤ length (state_after s events).records
run-threads s [] = omega arith
run-threads s (e ∷ events) = omega (arith, more-threads s e, run-threads (step s e).state events)

pub run-limits : (s : State) (events : List Event) → (state_after s events).limits ≡ s.limits
run-limits s [] = refl
run-limits s (e ∷ events) = run-limits (step s e).state events ∙ step-limits s e

pub still-there : (s : State) (events : List Event) (node : Node) → HasEquation (funding_of s) node
    → HasEquation (funding_of (state_after s events)) node
still-there s events (Currency c) has = has
still-there s events (Thread t) has =
    (has.0, omega (arith, has.1, run-threads s events, length-map s.records (λ (r : Record). lend_of s.limits r.status), length-map (state_after s events).records (λ (r : Record). lend_of (state_after s events).limits r.status)))
still-there s events (Mutex m) has = tt

-- what a node is worth after a run, with the limits before it
pub worth-after : (s : State) (events : List Event) (node : Node)
    → node_value s.limits.unit (funding_of s) (live_of s) node
    ≡ node_value s.limits.unit (funding_of (state_after s events)) (live_of (state_after s events)) node
    → worth_in (state_after s events) node ≡ worth_in s node
worth-after s events node same =
    ap (λ (limits : Sizes). node_value limits.unit (funding_of (state_after s events))
    (live_of (state_after s events)) node) (run-limits s events) ∙ sym same

pub run-insulated : (s : State) (events : List Event) (node : Node) → IsInOrder s → HasEquation (funding_of s) node
    → ¬ Affects s (state_after s events) node → worth_in (state_after s events) node ≡ worth_in s node
run-insulated s events node order has far =
    let sound = order-sound s order in
    let after = order-sound (state_after s events) (run-order s events order) in
    worth-after s events node
    (insulated (funding_of s) (funding_of (state_after s events)) sound.no_cycle sound.funds_there after.no_cycle
    after.funds_there s.limits.unit (live_of s) (live_of (state_after s events)) node has
    (still-there s events node has) far)
