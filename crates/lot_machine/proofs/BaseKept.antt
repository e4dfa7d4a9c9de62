-- Base's active tickets are worth less than 2 ^ 56.
use Rattle.lot_machine.proofs.Common.{All, All-head, All-tail, Bool, Funding, IfSome, IsUnit, IsWithinBounds, List, None, Option, Some, State, Ticket, active_amount, all_tickets, arith, base_value, cond, eqb-true, false, filter, filter_map, funding_of, inl, inr, is_active, issued_in, length, live_of, or_cases, sum_by, sum_by-cons, true, ℕ, [], ◌*◌, ◌<◌, ◌==◌, ◌^◌, ◌∷◌, ◌≡◌, ◌≤◌, ◌⊎◌}

-- a filter leaves no greater sum
filter-less : (g : Ticket → ℕ) (test : Ticket → Bool) (xs : List Ticket) → sum_by g (filter test xs) ≤ sum_by g xs
filter-less g test [] = omega arith
filter-less g test (x ∷ xs) = at (filter-less g test xs) (test x)
  where
    at : sum_by g (filter test xs) ≤ sum_by g xs → (b : Bool)
        → sum_by g (cond b (x ∷ filter test xs) (filter test xs)) ≤ sum_by g (x ∷ xs)
    at less true = omega (arith, less, sum_by-cons g x xs, sum_by-cons g x (filter test xs))
    at less false = omega (arith, less, sum_by-cons g x xs)

-- a ticket that is there has an amount of 32 bits
abbrev HasAmount : Option Ticket → Type 0
HasAmount o = IfSome o (λ t. t.amount < 2 ^ 32)

amounts-within : (xs : List (Option Ticket)) → All HasAmount xs
    → sum_by (λ (t : Ticket). t.amount) (filter_map (λ t. t) xs) ≤ length xs * 4294967295
amounts-within [] all = omega arith
amounts-within (None ∷ xs) all = let more = amounts-within xs (All-tail HasAmount None xs all) in omega (arith, more)
amounts-within (Some t ∷ xs) all =
    let more = amounts-within xs (All-tail HasAmount (Some t) xs all) in
    let one : t.amount < 2 ^ 32 = All-head HasAmount (Some t) xs all in
    omega (arith, more, one, sum_by-cons (λ (u : Ticket). u.amount) t (filter_map (λ u. u) xs))

-- a unit of 1 or 256
times-unit : (amount unit : ℕ) → IsUnit unit → amount ≤ 65535 * 4294967295 → amount * unit < 2 ^ 56
times-unit amount unit is low = from (or_cases (unit == 1) (unit == 256) is)
  where
    from : ((unit == 1) ≡ true) ⊎ ((unit == 256) ≡ true) → amount * unit < 2 ^ 56
    from (inl e) = let one : unit ≡ 1 = eqb-true unit 1 e in rw one (omega (arith, low))
    from (inr e) = let fine : unit ≡ 256 = eqb-true unit 256 e in rw fine (omega (arith, low))

pub active-bounded : (f : Funding) (live : List Bool) (unit : ℕ)
    → All (λ o. IfSome o (λ t. t.amount < 2 ^ 32)) f.tickets → length f.tickets ≤ 65535 → IsUnit unit
    → active_amount f live 0 * unit < 2 ^ 56
active-bounded f live unit amounts few is =
    let active = filter-less (λ (t : Ticket). t.amount) (is_active f live) (issued_in f 0) in
    let issued = filter-less (λ (t : Ticket). t.amount) (λ t. t.issuer == 0) (all_tickets f) in
    let all = amounts-within f.tickets amounts in
    times-unit (active_amount f live 0) unit is (omega (arith, active, issued, all, few))

pub base-bounded : (s : State) → All (λ o. IfSome o (λ t. t.amount < 2 ^ 32)) s.tickets
    → length s.tickets ≤ s.limits.tickets → IsWithinBounds s.limits → base_value s < 2 ^ 56
base-bounded s amounts few bounds =
    active-bounded (funding_of s) (live_of s) s.limits.unit amounts
    (omega (arith, few, bounds.of_tickets.1)) bounds.of_unit
