-- Each ticket's issuer exists, so a removed currency issues no ticket, and none funds it.
use Rattle.lot_laws.proofs.Common.{By, DropCurrency, Event, Funding, IsReachable, IsThere, Keeps, List, NewCurrency, None, Option, Sizes, Some, State, Ticket, all_tickets, any_from, ap, by_event, eq-eqb, false, filtered-some, free_currencies, free_tickets, funding_of, inl, inr, is_some, issued_in, issuer_of, kept, length, map, opening, option_flatten, option_map, place-placed, place-set_other, place_of, placed, refl, slice_get, slice_get-map, slice_set, some-injective, state_after, step, step-leads, subst, suc, sym, target_of, ticket_at, ticket_in, ticket_in-suc, true, zero, ℕ, [], ◌-◌, ◌==◌, ◌∙◌, ◌∷◌, ◌≡◌, ◌≢◌, ◌⊎◌}
use Rattle.lot_machine.specs.declared.ticket.Target.TheVariants as target
use Rattle.lot_machine.specs.Change.{DropTicket, NewTicket, PutTicket}
use Rattle.lot_laws.proofs.EachTicket.{EachOf, each-placed, each-put, reachable-order}

-- the currency exists
abbrev IsNamed : List (Option (List ℕ)) → ℕ → Type 0
IsNamed currencies c = IsThere (option_flatten (slice_get currencies c))

-- the ticket's issuer does
abbrev IsIssued : List (Option (List ℕ)) → Ticket → Type 0
IsIssued currencies t = IsNamed currencies t.issuer

-- one more currency
issuers-more : (currencies : List (Option (List ℕ))) (free : List ℕ) (name : List ℕ) (tickets : List (Option Ticket))
    → EachOf (IsIssued currencies) tickets → EachOf (IsIssued (placed currencies free (Some name))) tickets
issuers-more currencies free name tickets have n t at = by (place-placed currencies free (Some name) t.issuer)
  where
    by : (slice_get (placed currencies free (Some name)) t.issuer ≡ slice_get currencies t.issuer)
        ⊎ (slice_get (placed currencies free (Some name)) t.issuer ≡ Some (Some name))
        → IsNamed (placed currencies free (Some name)) t.issuer
    by (inl same) = subst (λ o. IsThere (option_flatten o)) (sym same) (have n t at)
    by (inr is) = (name, ap option_flatten is)

-- a currency that issues no ticket goes
not-issuer : (f : Funding) (c n : ℕ) (t : Ticket) → length (issued_in f c) ≡ 0 → ticket_at f n ≡ Some t
    → ¬ (t.issuer ≡ c)
not-issuer f c n t none at same =
    let place = place_of f.tickets n t at in
    let passes : (t.issuer == c) ≡ true = eq-eqb t.issuer c same in
    filtered-some (λ (u : Ticket). u.issuer == c) (all_tickets f)
    (any_from (λ u. u.issuer == c) f.tickets place.0 t place.2 passes) none

issuers-less : (s : State) (c : ℕ) → length (issued_in (funding_of s) c) ≡ 0 → EachOf (IsIssued s.currencies) s.tickets
    → EachOf (IsIssued (slice_set s.currencies c None)) s.tickets
issuers-less s c none have n t at =
    subst (λ o. IsThere (option_flatten o))
    (sym (place-set_other s.currencies c None t.issuer (not-issuer (funding_of s) c n t none at))) (have n t at)

-- ---- events

abbrev HasIssuers : State → Type 0
HasIssuers s = EachOf (IsIssued s.currencies) s.tickets

change-issuers : (by : By) (s : State) → Keeps by s HasIssuers
change-issuers by s a (NewTicket t) (console, amount, room, none, there, may) have =
    each-placed (IsIssued a.currencies) a.tickets (free_tickets a) t there have
change-issuers by s a (DropTicket n) allowed have = each-put (IsIssued a.currencies) a.tickets n None (λ t is. cc) have
change-issuers by s a (PutTicket n place) (console, funded, (old, new, at, is, replaces)) have =
    each-put (IsIssued a.currencies) a.tickets n place
    (λ t now. subst (IsNamed a.currencies)
    (sym replaces.issuer ∙ ap (λ (x : Ticket). x.issuer) (some-injective new t (sym is ∙ now))) (have n old at)) have
change-issuers by s a (NewCurrency name) allowed have =
    issuers-more a.currencies (free_currencies a) name a.tickets have
change-issuers by s a (DropCurrency c) (console, backs, there, issues) have = issuers-less a c issues have
change-issuers by s a c allowed have = have

run-issuers : (s : State) (events : List Event) → HasIssuers s → HasIssuers (state_after s events)
run-issuers s [] have = have
run-issuers s (e ∷ events) have =
    run-issuers (step s e).state events (kept HasIssuers (change-issuers (by_event s e) s) (step-leads s e) have)

no-issuers : (limits : Sizes) → HasIssuers (opening limits)
no-issuers limits zero t at = cc
no-issuers limits (suc i) t at = let none : ticket_in [] (suc i) ≡ None = ticket_in-suc [] i in
    let never : None ≡ Some t = sym none ∙ at in cc

reachable-issuers : (s : State) → IsReachable s → HasIssuers s
reachable-issuers s (limits, events, bounds, is) =
    subst HasIssuers (sym is) (run-issuers (opening limits) events (no-issuers limits))

-- ---- removed currencies

pub issues-none : (s : State) (n c : ℕ) → IsReachable s → slice_get s.currencies c ≡ Some None
    → issuer_of (funding_of s) n ≢ Some c
issues-none s n c reached gone issued = by (ticket_in s.tickets n) refl issued
  where
    by : (o : Option Ticket) → ticket_in s.tickets n ≡ o → option_map (λ (t : Ticket). t.issuer) o ≡ Some c → ⊥
    by None at is = cc
    by (Some t) at is =
        let (name, there) = reachable-issuers s reached n t at in
        let same : t.issuer ≡ c = some-injective t.issuer c is in
        let never : None ≡ Some name = sym (ap option_flatten gone)
        ∙ ap (λ x. option_flatten (slice_get s.currencies x)) (sym same) ∙ there in
        cc

pub funds-none : (s : State) (n c : ℕ) → IsReachable s → slice_get s.currencies c ≡ Some None
    → target_of (funding_of s) n ≢ Some (target.Currency c)
funds-none s n c reached gone funds =
    let there = (reachable-order s reached).funds_there n c funds in
    let removed : slice_get (map is_some s.currencies) c ≡ Some false = slice_get-map is_some s.currencies c
    ∙ ap (option_map is_some) gone in
    let never : Some true ≡ Some false = sym there ∙ removed in
    cc
