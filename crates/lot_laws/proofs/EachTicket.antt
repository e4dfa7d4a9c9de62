-- A property of each ticket that is made or replaces another holds of each ticket in a reachable state: no amount is 0, and
-- none funds base.
use Rattle.lot_laws.proofs.Common.{Event, FundsNoBase, HasAmounts, IsInOrder, IsReachable, List, None, Option, Sizes, Some, State, Ticket, ap, at_number, by_event, free_tickets, funding_of, inl, inr, number-placed, number-set, opening, option_flatten, option_map, placed, reached-order, refl, set_number, some-injective, state_after, step, subst, suc, sym, ticket_in, ticket_in-suc, zero, ℕ, [], ◌++◌, ◌-◌, ◌<◌, ◌∙◌, ◌∷◌, ◌≡◌, ◌≢◌, ◌⊎◌}
use Rattle.lot_machine.specs.declared.ticket.Target.TheVariants as target
use Rattle.lot_machine.specs.Change.{DropTicket, NewTicket, PutTicket}
use Rattle.lot_machine.proofs.StepChanges.{By, IsAmount, Keeps, MayFund, Replaces, amount-replaced, kept, step-leads}

-- it holds of each of these tickets
abbrev pub EachOf : (Ticket → Type 0) → List (Option Ticket) → Type 0
EachOf IsSo tickets = (n : ℕ) (t : Ticket) → ticket_in tickets n ≡ Some t → IsSo t

module _ (IsSo : Ticket → Type 0) where
  -- one more ticket
  pub each-placed : (tickets : List (Option Ticket)) (free : List ℕ) (new : Ticket) → IsSo new → EachOf IsSo tickets
      → EachOf IsSo (placed tickets free (Some new))
  each-placed tickets free new is_so each n t at = by (number-placed tickets free (Some new) n)
    where
      by : (at_number (placed tickets free (Some new)) n ≡ at_number tickets n)
          ⊎ (at_number (placed tickets free (Some new)) n ≡ Some (Some new)) → IsSo t
      by (inl same) = each n t (sym (ap option_flatten same) ∙ at)
      by (inr is) = subst IsSo (some-injective new t (sym (ap option_flatten is) ∙ at)) is_so

  -- another in the place of one, or none
  pub each-put : (tickets : List (Option Ticket)) (m : ℕ) (place : Option Ticket)
      → ((t : Ticket) → place ≡ Some t → IsSo t) → EachOf IsSo tickets → EachOf IsSo (set_number tickets m place)
  each-put tickets m place new each n t at = by (number-set tickets m place n)
    where
      by : (at_number (set_number tickets m place) n ≡ at_number tickets n)
          ⊎ ((n ≡ suc (m - 1)) × (at_number (set_number tickets m place) n ≡ Some place)) → IsSo t
      by (inl same) = each n t (sym (ap option_flatten same) ∙ at)
      by (inr (number, is)) = new t (sym (ap option_flatten is) ∙ at)

  abbrev EachIn : State → Type 0
  EachIn s = EachOf IsSo s.tickets

  none-made : (limits : Sizes) → EachIn (opening limits)
  none-made limits zero t at = cc
  none-made limits (suc i) t at = let none : ticket_in [] (suc i) ≡ None = ticket_in-suc [] i in
      let never : None ≡ Some t = sym none ∙ at in cc

  -- what holds of a ticket that is made, and of one that replaces another of which it holds
  module _ (made : (a : State) (t : Ticket) → IsAmount t.amount → MayFund a t.target → IsSo t) (replaced : (by : By)
      (a : State) (n : ℕ) (old new : Ticket) → Replaces by a n old new → IsSo old → IsSo new) where
    change-each : (by : By) (s : State) → Keeps by s EachIn
    change-each by s a (NewTicket t) (console, amount, room, none, issuer, may) each =
        each-placed a.tickets (free_tickets a) t (made a t amount may) each
    change-each by s a (DropTicket n) allowed each = each-put a.tickets n None (λ t is. cc) each
    change-each by s a (PutTicket n place) (console, funded, (old, new, at, is, replaces)) each =
        each-put a.tickets n place (λ t now.
        subst IsSo (some-injective new t (sym is ∙ now)) (replaced by a n old new replaces (each n old at))) each
    change-each by s a c allowed each = each

    event-each : (s : State) (e : Event) → EachIn s → EachIn (step s e).state
    event-each s e each = kept EachIn (change-each (by_event s e) s) (step-leads s e) each

    run-each : (s : State) (events : List Event) → EachIn s → EachIn (state_after s events)
    run-each s [] each = each
    run-each s (e ∷ events) each = run-each (step s e).state events (event-each s e each)

    reachable-each : (s : State) → IsReachable s → EachIn s
    reachable-each s (limits, events, bounds, is) =
        subst EachIn (sym is) (run-each (opening limits) events (none-made limits))

-- ---- amounts

HasSome : Ticket → Type 0
HasSome t = 0 < t.amount

some-made : (a : State) (t : Ticket) → IsAmount t.amount → MayFund a t.target → HasSome t
unfolding HasSome
some-made a t amount may = amount.0

some-replaced : (by : By) (a : State) (n : ℕ) (old new : Ticket) → Replaces by a n old new → HasSome old → HasSome new
unfolding HasSome
some-replaced by a n old new replaces some = amount-replaced (λ amount. 0 < amount) replaces some (λ amount. amount.0)

pub event-amounts : (s : State) (e : Event) → HasAmounts (funding_of s) → HasAmounts (funding_of (step s e).state)
unfolding HasSome
event-amounts = event-each HasSome some-made some-replaced

pub reachable-amounts : (s : State) → IsReachable s → HasAmounts (funding_of s)
unfolding HasSome
reachable-amounts = reachable-each HasSome some-made some-replaced

-- ---- targets

IsUser : Ticket → Type 0
IsUser t = t.target ≢ target.Currency 0

user-made : (a : State) (t : Ticket) → IsAmount t.amount → MayFund a t.target → IsUser t
unfolding IsUser
user-made a t amount may = may.0

user-replaced : (by : By) (a : State) (n : ℕ) (old new : Ticket) → Replaces by a n old new → IsUser old → IsUser new
unfolding IsUser
user-replaced by a n old new replaces user = from replaces.aim
  where
    from : (new.target ≡ old.target) ⊎ MayFund a new.target → new.target ≢ target.Currency 0
    from (inl same) = λ base. user (sym same ∙ base)
    from (inr may) = may.0

pub reachable-no-base : (s : State) → IsReachable s → FundsNoBase (funding_of s)
unfolding IsUser
reachable-no-base s is n funds = by (ticket_in s.tickets n) refl funds
  where
    by : (o : Option Ticket) → ticket_in s.tickets n ≡ o
        → option_map (λ (t : Ticket). t.target) o ≡ Some (target.Currency 0) → ⊥
    by None at none = cc
    by (Some t) at base =
        reachable-each IsUser user-made user-replaced s is n t at (some-injective t.target (target.Currency 0) base)

-- ---- order and runs

pub reachable-order : (s : State) → IsReachable s → IsInOrder s
reachable-order s (limits, events, bounds, is) = subst IsInOrder (sym is) (reached-order limits events bounds)

-- a run, and one event more
run-on : (s : State) (events : List Event) (e : Event)
    → state_after s (events ++ e ∷ []) ≡ (step (state_after s events) e).state
run-on s [] e = refl
run-on s (first ∷ events) e = run-on (step s first).state events e

pub reachable-next : (s : State) (e : Event) → IsReachable s → IsReachable (step s e).state
reachable-next s e (limits, events, bounds, is) =
    (limits, events ++ e ∷ [], bounds, ap (λ x. (step x e).state) is ∙ sym (run-on (opening limits) events e))
