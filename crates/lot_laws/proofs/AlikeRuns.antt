-- Two runs that differ only in another amount of a ticket inside a currency, and in the number of a draw.
use Rattle.lot_laws.proofs.Common.{AllAlike, ChangesInside, Currency, DifferInside, Draw, Event, List, SetOutside, State, after, amount_in, ap, arith, at_number, first_threads, inl, inr, opening, refl, settkt, state_after, step, step-limits, subst, sym, three_threads, ℕ, [], ◌++◌, ◌<◌, ◌∙◌, ◌∷◌, ◌≡◌}
use Rattle.lot_machine.specs.Worked.{largest}
use Rattle.lot_machine.specs.declared.event.Event.TheVariants.{Expire}
use Rattle.lot_laws.proofs.AmountsKept.{rest-left}
use Rattle.lot_laws.proofs.TwoCurrencies.{amount-changes-inside}
use Rattle.lot_laws.proofs.TwoStates.{itself}

run-on : (s : State) (events : List Event) (e : Event)
    → state_after s (events ++ e ∷ []) ≡ (step (state_after s events) e).state
run-on s [] e = refl
run-on s (first ∷ events) e = run-on (step s first).state events e

-- the currency's active amount is 2 before and 4 after
differ : DifferInside (after three_threads) (step (after three_threads) (settkt 3 3)).state 1 first_threads
differ = record {
  change = subst (λ (u : State). ChangesInside (after three_threads) u 1 first_threads) same amount-changes-inside;
  active = (λ some. more, λ some. before);
  limits = step-limits (after three_threads) (settkt 3 3);
  records = λ t out. ap (λ (u : State). at_number u.records t) (rest-left (after three_threads) 3 3);
}
  where
    same : after (three_threads ++ settkt 3 3 ∷ []) ≡ (step (after three_threads) (settkt 3 3)).state
    same = run-on (opening largest) three_threads (settkt 3 3)

    two : amount_in (after three_threads) 1 ≡ 2
    two = refl

    four : amount_in (after (three_threads ++ settkt 3 3 ∷ [])) 1 ≡ 4
    four = refl

    before : 0 < amount_in (after three_threads) 1
    before = subst (λ (n : ℕ). 0 < n) (sym two) (omega arith)

    more : 0 < amount_in (step (after three_threads) (settkt 3 3)).state 1
    more = subst (λ (n : ℕ). 0 < n) (sym four ∙ ap (λ (u : State). amount_in u 1) same) (omega arith)

-- the second currency's backing ticket leads outside
set-in-both : SetOutside (after three_threads) (settkt 2 300) (settkt 2 300) first_threads
set-in-both = (2, 300, Currency 0, Currency 2, refl, refl, refl, refl)

pub alike : AllAlike (after three_threads) (after three_threads) 1 first_threads
    (([], settkt 3 3 ∷ []) ∷ (settkt 2 300 ∷ [], settkt 2 300 ∷ []) ∷ (Draw 1 60 ∷ [], Draw 1 100 ∷ [])
    ∷ (Expire 1 ∷ [], Expire 1 ∷ []) ∷ [])
alike = (
  inl (itself 1 first_threads (after three_threads) differ.change.enclosed_before, differ),
  (
    inr (settkt 2 300, settkt 2 300, refl, refl, inr (inr set-in-both)),
    (
      inr (Draw 1 60, Draw 1 100, refl, refl, inl (1, 60, 100, 2, refl, refl, refl, refl, refl)),
      (inr (Expire 1, Expire 1, refl, refl, inr (inl (1, 2, refl, inl refl, refl, refl, refl))), tt),
    ),
  ),
)
