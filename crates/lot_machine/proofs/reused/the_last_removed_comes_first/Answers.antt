use Rattle.lot_machine.proofs.Common.{List, State, ap, arith, cond, drop, drop_currency, drop_thread, drop_ticket, given_again, next_place, true, ℕ, [], ◌+◌, ◌-◌, ◌∙◌, ◌∷◌, ◌≡◌, ◌≢◌}
use Rattle.lot_machine.proofs.reused.the_last_removed_comes_first.Goals as goal

-- these places are given again
given : (s : State) (free : List ℕ) → s.limits.reuse ≡ true → given_again s free ≡ free
given s free on = ap (λ b. cond {A = List ℕ} b free []) on

-- the number before and after a place
number : (n : ℕ) → n ≢ 0 → n - 1 + 1 ≡ n
number n some = omega (arith, some)

-- the first place is left, and taken again
first : (s : State) (place : ℕ) (free : List ℕ) → s.limits.reuse ≡ true
    → given_again s (given_again s (place ∷ free)) ≡ place ∷ free
first s place free on = given s (given_again s (place ∷ free)) on ∙ given s (place ∷ free) on

again : (s : State) (place : ℕ) (free : List ℕ) → s.limits.reuse ≡ true
    → given_again s (drop 1 (given_again s (given_again s (place ∷ free)))) ≡ given_again s free
again s place free on = ap (λ places. given_again s (drop 1 places)) (first s place free on)

pub returns-clause-ticket : goal.returns-clause-ticket
returns-clause-ticket c = λ s n on some.
    ap (λ free. next_place (drop_ticket s n).tickets free + 1) (first s (n - 1) s.freed.tickets on) ∙ number n some

pub returns-clause-currency : goal.returns-clause-currency
returns-clause-currency c = λ s d on. ap (next_place (drop_currency s d).currencies) (first s d s.freed.currencies on)

pub returns-clause-thread : goal.returns-clause-thread
returns-clause-thread c = λ s t on some.
    ap (λ free. next_place (drop_thread s t).threads free + 1) (first s (t - 1) s.freed.threads on) ∙ number t some

pub returns-clause-then_tickets : goal.returns-clause-then_tickets
returns-clause-then_tickets c = λ s n ticket on. again s (n - 1) s.freed.tickets on

pub returns-clause-then_currencies : goal.returns-clause-then_currencies
returns-clause-then_currencies c = λ s d name on. again s d s.freed.currencies on

pub returns-clause-then_threads : goal.returns-clause-then_threads
returns-clause-then_threads c = λ s t name script on. again s (t - 1) s.freed.threads on
