-- Changes inside a currency over a run of events.
use Rattle.lot_laws.proofs.Common.{Bool, ChangesInside, Currency, Event, HasEquation, IsReachable, IsWellFormed, List, Node, Some, State, Ticket, active_amount, amount_in, ap, currency_value, false, funding_of, if◌then◌else◌, is_active_in, live_of, ne_eqb, refl, reissued, state_after, step, subst, sym, ticket_at, ticket_value-unfolds, ticket_worth_in, true, worth_in, ℕ, [], ◌*◌, ◌/◌, ◌<◌, ◌==◌, ◌∙◌, ◌∷◌, ◌≡◌, ◌≢◌}
use Rattle.lot_laws.proofs.EachTicket.{reachable-amounts, reachable-no-base, reachable-order, reachable-next}
use Rattle.lot_laws.proofs.AmountsKept.{still-there, worth-after}
use Rattle.lot_laws.proofs.Enclosed.{outside-kept}

pub well-formed : (s : State) → IsReachable s → IsWellFormed (funding_of s)
well-formed s is =
    let order = reachable-order s is in
    record { no_cycle = order.no_cycle; funds_there = order.funds_there; amounts = reachable-amounts s is; no_base = reachable-no-base s is }

pub reachable-run : (s : State) (events : List Event) → IsReachable s → IsReachable (state_after s events)
reachable-run s [] is = is
reachable-run s (e ∷ events) is = reachable-run (step s e).state events (reachable-next s e is)

pub run-inside : (s : State) (events : List Event) (c : ℕ) (inside : Node → Bool) → IsReachable s
    → ChangesInside s (state_after s events) c inside
    → (0 < amount_in s c → 0 < amount_in (state_after s events) c)
    → (0 < amount_in (state_after s events) c → 0 < amount_in s c)
    → (node : Node) → inside node ≡ false → HasEquation (funding_of s) node
    → worth_in (state_after s events) node ≡ worth_in s node
run-inside s events c inside reachable change on back node out has =
    let well = well-formed s reachable in
    let after = well-formed (state_after s events) (reachable-run s events reachable) in
    worth-after s events node
    (outside-kept (funding_of s) (funding_of (state_after s events)) well.no_cycle well.funds_there after.no_cycle
    after.funds_there well.amounts after.amounts well.no_base after.no_base
    s.limits.unit (live_of s) (live_of (state_after s events)) c inside change on back node out has
    (still-there s events node has))

-- a ticket of the currency that is active before and after is worth what its amount was worth before, if the active
-- amount stays
pub run-amounts : (s : State) (events : List Event) (c : ℕ) (inside : Node → Bool) → IsReachable s
    → ChangesInside s (state_after s events) c inside → amount_in (state_after s events) c ≡ amount_in s c → c ≢ 0
    → (n : ℕ) (t u : Ticket) → ticket_at (funding_of s) n ≡ Some t
    → ticket_at (funding_of (state_after s events)) n ≡ Some u → t.issuer ≡ c → u.issuer ≡ c
    → is_active_in s t ≡ true → is_active_in (state_after s events) u ≡ true
    → ticket_worth_in (state_after s events) u ≡ ticket_worth_in s (reissued u.amount t)
run-amounts s events c inside reachable change same user n t u at at_now issued issued_now active active_now =
    let after = state_after s events in
    let well = well-formed s reachable in
    let well_now = well-formed after (reachable-run s events reachable) in
    let worth : worth_in after (Currency c) ≡ worth_in s (Currency c) =
    run-inside s events c inside reachable change (subst (λ (m : ℕ). 0 < m) (sym same)) (subst (λ (m : ℕ). 0 < m) same)
    (Currency c) change.enclosed_before.itself user in
    let value : currency_value after.limits.unit (funding_of after) (live_of after) c
    ≡ currency_value s.limits.unit (funding_of s) (live_of s) c =
    sym (of-user after) ∙ worth ∙ of-user s in
    share-of after u well_now issued_now active_now ∙ ap (λ v. v * u.amount / amount_in after c) value
    ∙ ap (λ m. currency_value s.limits.unit (funding_of s) (live_of s) c * u.amount / m) same
    ∙ sym (share-of s (reissued u.amount t) well issued active)
  where
    of-user : (x : State) → worth_in x (Currency c) ≡ currency_value x.limits.unit (funding_of x) (live_of x) c
    of-user x = ap (λ b. if b then active_amount (funding_of x) (live_of x) 0 else currency_value x.limits.unit
        (funding_of x) (live_of x) c) (ne_eqb c 0 user)

    share-of : (x : State) (y : Ticket) → IsWellFormed (funding_of x) → y.issuer ≡ c → is_active_in x y ≡ true
        → ticket_worth_in x y ≡ currency_value x.limits.unit (funding_of x) (live_of x) c * y.amount / amount_in x c
    share-of x y well is on =
        let not_base : (y.issuer == 0) ≡ false = ne_eqb y.issuer 0 (λ base. user (sym is ∙ base)) in
        ticket_value-unfolds (funding_of x) well.no_cycle well.funds_there x.limits.unit (live_of x) y
        ∙ rw (on, not_base, is) refl

-- so one that keeps its amount keeps its value
pub run-tickets : (s : State) (events : List Event) (c : ℕ) (inside : Node → Bool) → IsReachable s
    → ChangesInside s (state_after s events) c inside → amount_in (state_after s events) c ≡ amount_in s c → c ≢ 0
    → (n : ℕ) (t u : Ticket) → ticket_at (funding_of s) n ≡ Some t
    → ticket_at (funding_of (state_after s events)) n ≡ Some u → t.issuer ≡ c → u.issuer ≡ c
    → is_active_in s t ≡ true → is_active_in (state_after s events) u ≡ true → t.amount ≡ u.amount
    → ticket_worth_in (state_after s events) u ≡ ticket_worth_in s t
run-tickets s events c inside reachable change same user n t u at at_now issued issued_now active active_now amount =
    run-amounts s events c inside reachable change same user n t u at at_now issued issued_now active active_now
    ∙ ap (λ a. ticket_worth_in s (reissued a t)) (sym amount)
