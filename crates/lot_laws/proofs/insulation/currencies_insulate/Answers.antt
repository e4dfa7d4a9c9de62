use Rattle.lot_laws.proofs.Lemmas.{run-amounts, run-inside, run-tickets, subst, sym, ℕ, ◌<◌}
use Rattle.lot_laws.proofs.insulation.currencies_insulate.Goals as goal

pub returns-clause-outside : goal.returns-clause-outside
returns-clause-outside c s events currency inside reachable change same = run-inside s events currency inside reachable
    change (subst (λ (n : ℕ). 0 < n) (sym same)) (subst (λ (n : ℕ). 0 < n) same)

pub returns-clause-tickets : goal.returns-clause-tickets
returns-clause-tickets c = run-tickets

pub returns-clause-amounts : goal.returns-clause-amounts
returns-clause-amounts c = run-amounts
