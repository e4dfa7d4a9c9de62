-- Tickets counted one by one.
use Rattle.lot_kernel.proofs.Common.{Bool, List, None, Option, Some, Ticket, ap, arith, at_number-suc, drop, drop-cons, false, filter, filter_map, get_or, if◌then◌else◌, length, option_any, option_flatten, refl, slice_get-get_or, suc, ticket_in, true, ℕ, ◌+◌, ◌<◌, ◌∙◌, ◌∷◌, ◌≡◌}

-- how many of the tickets after the first i pass
abbrev pub count_after : (Ticket → Bool) → List (Option Ticket) → ℕ → ℕ
count_after test tickets i = length (filter test (filter_map (λ t. t) (drop i tickets)))

module _ (test : Ticket → Bool) (tickets : List (Option Ticket)) (i : ℕ) (below : i < length tickets) where
  next : drop i tickets ≡ get_or tickets i None ∷ drop (suc i) tickets
  next = drop-cons tickets i None below

  here : ticket_in tickets (i + 1) ≡ get_or tickets i None
  here = let number : i + 1 ≡ suc i = omega arith in ap (ticket_in tickets) number
      ∙ ap option_flatten (at_number-suc tickets i ∙ slice_get-get_or tickets i None below)

  -- one more is counted if it passes
  pub count-step : count_after test tickets i ≡ (if option_any test (ticket_in tickets (i + 1))
      then suc (count_after test tickets (i + 1)) else count_after test tickets (i + 1))
  count-step = by (get_or tickets i None) refl
    where
      number : i + 1 ≡ suc i
      number = omega arith

      by : (o : Option Ticket) → get_or tickets i None ≡ o → count_after test tickets i ≡ (if option_any test
          (ticket_in tickets (i + 1)) then suc (count_after test tickets (i + 1)) else count_after test tickets (i + 1))
      by None none = rw (next, here, none, number) refl
      by (Some t) some = passes (test t) refl
        where
          passes : (b : Bool) → test t ≡ b
              → count_after test tickets i ≡ (if option_any test (ticket_in tickets (i + 1))
              then suc (count_after test tickets (i + 1)) else count_after test tickets (i + 1))
          passes true is = rw (next, here, some, is, number) refl
          passes false is = rw (next, here, some, is, number) refl

  pub count-passed : option_any test (ticket_in tickets (i + 1)) ≡ true
      → count_after test tickets i ≡ suc (count_after test tickets (i + 1))
  count-passed is = count-step
      ∙ ap (λ b. if b then suc (count_after test tickets (i + 1)) else count_after test tickets (i + 1)) is

  pub count-failed : option_any test (ticket_in tickets (i + 1)) ≡ false
      → count_after test tickets i ≡ count_after test tickets (i + 1)
  count-failed is = count-step
      ∙ ap (λ b. if b then suc (count_after test tickets (i + 1)) else count_after test tickets (i + 1)) is
