-- Reached states are sound: no thread and no currency is worth more than the total value, and one that doesn't exist is
-- worth 0.
use Rattle.lot_playback.proofs.Common.{Bool, Currencies, Funding, IsSound, IsWithinBounds, List, None, Option, Program, Record, Sharers, Some, State, Threads, Ticket, ap, arith, at_number, at_number-suc, cond, count_in, currency-bounded, false, filter, filter_map, funding_of, get_or, get_or-le-sum_by, get_or-range_with_len, if◌then◌else◌, inl, inr, is_currency, is_currency-is, is_live, is_live_status, is_some, length, length-map, length-range_with_len, live_of, live_part, live_value, numbers, option_any, option_flatten, order-sound, refl, run-in-order, slice_get, slice_get_cases, suc, sum-filter, sum_by, sym, system_run, target-of, ticket_in, ticket_in-suc, true, value_in, value_of, whole_in, worth_of, zero, ℕ, [], ◌-◌, ◌<◌, ◌^◌, ◌∙◌, ◌∷◌, ◌≡◌, ◌≤◌, ◌⊎◌}

-- ---- reached states

-- the state after any turns is sound
pub run-sound : (program : Program) (actors : List ℕ) → IsWithinBounds program.limits
    → IsSound (system_run program actors).state
run-sound program actors bounds = order-sound (system_run program actors).state (run-in-order program actors bounds)

-- ---- threads

-- a number in a list
numbered : {A : Type 0} (xs : List A) (n : ℕ) (x : A) → at_number xs n ≡ Some x → (1 ≤ n) × (n ≤ length xs)
numbered {A = A} xs zero x is = cc
numbered {A = A} xs (suc i) x is = from (slice_get_cases xs i).1
  where
    from : ((y : A) × (i < length xs) × (slice_get xs i ≡ Some y) × (get_or xs i y ≡ y))
        ⊎ ((length xs ≤ i) × (slice_get xs i ≡ None)) → (1 ≤ suc i) × (suc i ≤ length xs)
    from (inl (y, below, here, same)) = (omega arith, omega (arith, below))
    from (inr (past, none)) = absurd (let e : None ≡ Some x = sym none ∙ sym (at_number-suc xs i) ∙ is in cc)

live-is : (o : Option Bool) → option_any (λ flag. flag) o ≡ true → o ≡ Some true
live-is None e = cc
live-is (Some true) e = refl
live-is (Some false) e = cc

live-there : (s : State) (t : ℕ) → is_live (live_of s) t ≡ true → (1 ≤ t) × (t ≤ length s.records)
live-there s t is =
    let (low, within) = numbered (live_of s) t true (live-is (at_number (live_of s) t) is) in
    (low, omega (arith, within, length-map s.records (λ (r : Record). is_live_status r.status)))

-- a live thread's value is part of that of all
part-within : (s : State) (t : ℕ) → live_part s t (value_of s t) ≤ live_value s
part-within s t = by (is_live (live_of s) t) refl
  where
    all : ℕ → ℕ
    all u = cond (is_live (live_of s) u) (value_of s u) 0

    whole : live_value s ≡ sum_by all (numbers s.records)
    whole = sum-filter (value_of s) (is_live (live_of s)) (numbers s.records)

    by : (b : Bool) → is_live (live_of s) t ≡ b → (if b then value_of s t else 0) ≤ live_value s
    by false is = omega arith
    by true is =
        let (low, high) = live-there s t is in
        let place : get_or (numbers s.records) (t - 1) 0 ≡ t =
        get_or-range_with_len 1 (length s.records) (t - 1) 0 (omega (arith, low, high)) ∙ omega (arith, low) in
        let long : length (numbers s.records) ≡ length s.records = length-range_with_len 1 (length s.records) in
        let part : all (get_or (numbers s.records) (t - 1) 0) ≤ sum_by all (numbers s.records) =
        get_or-le-sum_by all (numbers s.records) (t - 1) 0 (omega (arith, low, high, long)) in
        let own : all (get_or (numbers s.records) (t - 1) 0) ≡ value_of s t = ap all place
        ∙ ap (λ b. cond b (value_of s t) 0) is in
        omega (arith, part, own, whole)

part-none : (s : State) (t : ℕ) → length s.records < t → live_part s t (value_of s t) ≡ 0
part-none s t past = by (is_live (live_of s) t) refl
  where
    by : (b : Bool) → is_live (live_of s) t ≡ b → (if b then value_of s t else 0) ≡ 0
    by false is = refl
    by true is = absurd (omega (arith, (live-there s t is).1, past))

-- ---- currencies

-- a sum over the tickets that pass a test, if none does
passing-none : (test : Ticket → Bool) (worth : Ticket → ℕ) (tickets : List (Option Ticket))
    → ((i : ℕ) (t : Ticket) → slice_get tickets i ≡ Some (Some t) → test t ≡ false)
    → sum_by worth (filter test (filter_map (λ o. o) tickets)) ≡ 0
passing-none test worth [] none = refl
passing-none test worth (None ∷ tickets) none = passing-none test worth tickets (λ i t here. none (suc i) t here)
passing-none test worth (Some t ∷ tickets) none =
    rw (none zero t refl) (passing-none test worth tickets (λ i u here. none (suc i) u here))

-- no ticket funds what doesn't exist
worth-none : (s : State) (c : ℕ) → IsSound s → length s.currencies ≤ c → worth_of s c ≡ 0
worth-none s c sound past = passing-none (λ t. is_currency c t.target) _ s.tickets funds
  where
    f : Funding
    f = funding_of s

    outside : ¬ (slice_get f.currencies c ≡ Some true)
    outside is = from (slice_get_cases f.currencies c).1
      where
        from : ((y : Bool) × (c < length f.currencies) × (slice_get f.currencies c ≡ Some y)
            × (get_or f.currencies c y ≡ y)) ⊎ ((length f.currencies ≤ c) × (slice_get f.currencies c ≡ None)) → ⊥
        from (inl (y, below, here, same)) = omega (arith, below, past, length-map s.currencies is_some)
        from (inr (out, none)) = let e : None ≡ Some true = sym none ∙ is in cc

    funds : (i : ℕ) (t : Ticket) → slice_get s.tickets i ≡ Some (Some t) → is_currency c t.target ≡ false
    funds i t here = by (is_currency c t.target) refl
      where
        by : (b : Bool) → is_currency c t.target ≡ b → b ≡ false
        by false is = refl
        by true is =
            let at : ticket_in s.tickets (suc i) ≡ Some t = ticket_in-suc s.tickets i ∙ ap option_flatten here in
            absurd
            (outside (sound.funds_there (suc i) c (target-of f (suc i) t at ∙ ap Some (is_currency-is c t.target is))))

-- ---- both

pub value-within : (sharers : Sharers) (s : State) → IsSound s → (n : ℕ) → value_in sharers s n ≤ whole_in sharers s
value-within Threads s sound t = part-within s t
value-within Currencies s sound c =
    currency-bounded (funding_of s) sound.no_cycle sound.funds_there s.limits.unit (live_of s) c

pub value-none : (sharers : Sharers) (s : State) → IsSound s → (n : ℕ) → count_in sharers s < n
    → value_in sharers s n ≡ 0
value-none Threads s sound t past = part-none s t past
value-none Currencies s sound c past = worth-none s c sound (omega (arith, past))

pub whole-small : (sharers : Sharers) (s : State) → IsSound s → whole_in sharers s < 2 ^ 96
whole-small Threads s sound = omega (arith, sound.bounded.values, sound.bounded.base)
whole-small Currencies s sound = omega (arith, sound.bounded.base)
