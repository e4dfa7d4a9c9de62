-- The threads that lend to a mutex, or to the holder of a port's server: a list with each of them once.
use Rattle.lot_laws.proofs.Common.{Bool, Contains, Funding, IsApart, Lend, Nobody, None, Option, Some, ToMutex, ToThread, ap, apart-filter, apart-range, arith, at_number, at_number-suc, contains-filter, eq-eqb, eqb-true, filter-contains, is_to_mutex, length, number-there, numbers, option_any, range-contains, refl, slice_get_within, suc, sym, true, waiters_for, ℕ, ◌-◌, ◌<◌, ◌∙◌, ◌≡◌}

-- whether a thread lends to the mutex
abbrev waits : Funding → ℕ → ℕ → Bool
waits f m t = option_any (is_to_mutex m) (at_number f.lends t)

pub waiters-of : (f : Funding) (m u : ℕ) → Contains (waiters_for f m) u → at_number f.lends u ≡ Some (ToMutex m)
waiters-of f m u c = by (at_number f.lends u) refl (contains-filter (waits f m) (numbers f.lends) u c).1
  where
    by : (o : Option Lend) → at_number f.lends u ≡ o → option_any (is_to_mutex m) o ≡ true
        → at_number f.lends u ≡ Some (ToMutex m)
    by None is e = cc
    by (Some Nobody) is e = cc
    by (Some (ToThread w)) is e = cc
    by (Some (ToMutex n)) is e = is ∙ ap (λ k. Some (ToMutex k)) (eqb-true n m e)

pub waiters-in : (f : Funding) (m u : ℕ) → at_number f.lends u ≡ Some (ToMutex m) → Contains (waiters_for f m) u
waiters-in f m u is =
    filter-contains (waits f m) (numbers f.lends) u (ap (option_any (is_to_mutex m)) is ∙ eq-eqb m m refl)
    (range-contains 1 (length f.lends) u (omega (arith, number)) (omega (arith, number, within)))
  where
    number : suc (u - 1) ≡ u
    number = number-there f.lends u (ToMutex m) is

    within : u - 1 < length f.lends
    within = slice_get_within f.lends (u - 1) (ToMutex m)
        (sym (at_number-suc f.lends (u - 1)) ∙ ap (at_number f.lends) number ∙ is)

pub waiters-apart : (f : Funding) (m : ℕ) → IsApart (waiters_for f m)
waiters-apart f m = apart-filter (waits f m) (numbers f.lends) (apart-range 1 (length f.lends))
