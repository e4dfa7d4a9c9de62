-- Reached states are sound: no thread and no currency is worth more than the total value, and a currency that doesn't
-- exist is worth 0.
use Rattle.lot_chart.proofs.Common.{Bool, By, Currency, Funding, IsSound, IsWithinBounds, List, None, Option, Program, Some, State, Thread, Threads, Ticket, ap, arith, currency-bounded, false, filter, filter_map, funding_of, get_or, inl, inr, is_currency, is_currency-is, is_some, length, length-map, live_of, option_flatten, order-sound, own_value, refl, run-in-order, slice_get, slice_get_cases, suc, sum_by, sym, system_run, target-of, ticket_in, ticket_in-suc, true, value-within, whole_value, worth_of, zero, ℕ, [], ◌<◌, ◌∙◌, ◌∷◌, ◌≡◌, ◌≤◌, ◌⊎◌}

-- ---- reached states

-- the state after any turns is sound
pub run-sound : (program : Program) (actors : List ℕ) → IsWithinBounds program.limits
    → IsSound (system_run program actors).state
run-sound program actors bounds = order-sound (system_run program actors).state (run-in-order program actors bounds)

-- ---- what doesn't exist

-- a sum over the tickets that pass a test, if none does
passing-none : (test : Ticket → Bool) (worth : Ticket → ℕ) (tickets : List (Option Ticket))
    → ((i : ℕ) (t : Ticket) → slice_get tickets i ≡ Some (Some t) → test t ≡ false)
    → sum_by worth (filter test (filter_map (λ o. o) tickets)) ≡ 0
passing-none test worth [] none = refl
passing-none test worth (None ∷ tickets) none = passing-none test worth tickets (λ i t here. none (suc i) t here)
passing-none test worth (Some t ∷ tickets) none =
    rw (none zero t refl) (passing-none test worth tickets (λ i u here. none (suc i) u here))

pub worth-none : (s : State) (c : ℕ) → IsSound s → length s.currencies ≤ c → worth_of s c ≡ 0
worth-none s c sound past = passing-none (λ t. is_currency c t.target) _ s.tickets funds
  where
    f : Funding
    f = funding_of s

    outside : ¬ (slice_get f.currencies c ≡ Some true)
    outside is = from (slice_get_cases f.currencies c).1
      where
        from : ((y : Bool) × (c < length f.currencies) × (slice_get f.currencies c ≡ Some y)
            × (get_or f.currencies c y ≡ y)) ⊎ ((length f.currencies ≤ c) × (slice_get f.currencies c ≡ None)) → ⊥
        from (inl (y, below, here, same)) = omega (arith, below, past, length-map s.currencies is_some)
        from (inr (out, none)) = let e : None ≡ Some true = sym none ∙ is in cc

    funds : (i : ℕ) (t : Ticket) → slice_get s.tickets i ≡ Some (Some t) → is_currency c t.target ≡ false
    funds i t here = by (is_currency c t.target) refl
      where
        by : (b : Bool) → is_currency c t.target ≡ b → b ≡ false
        by false is = refl
        by true is =
            let at : ticket_in s.tickets (suc i) ≡ Some t = ticket_in-suc s.tickets i ∙ ap option_flatten here in
            absurd
            (outside (sound.funds_there (suc i) c (target-of f (suc i) t at ∙ ap Some (is_currency-is c t.target is))))

-- ---- the whole

pub own-within : (what : By) (s : State) → IsSound s → (n : ℕ) → own_value what s n ≤ whole_value what s
own-within Thread s sound t = value-within Threads s sound t
own-within Currency s sound c =
    currency-bounded (funding_of s) sound.no_cycle sound.funds_there s.limits.unit (live_of s) c
