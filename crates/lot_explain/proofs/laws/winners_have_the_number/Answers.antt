use Rattle.lot_explain.proofs.Lemmas.{Answered, Event, IfSome, IsOnly, Option, Program, Reply, Some, Won, World, ap, arith, lines-both, lot_diagnostics, lots_of, number_in, subst, system_turn, total_of, turn-won, won_in, ℕ, ◌++◌, ◌+◌, ◌∙◌, ◌∷◌, ◌≡◌}
use Rattle.lot_explain.proofs.laws.winners_have_the_number.Goals as goal

-- the winner is the only one
only : (program : Program) (w : World) (actor : ℕ) (e : Event) (r : Reply) (won : Won) (number : ℕ)
    → (system_turn program w actor).answer ≡ Answered e r → won_in e r ≡ Some won → number_in r ≡ Some number
    → IsOnly (lots_of w.state e) won.winner number
only program w actor e r won number answered is drawn =
    let facts = subst (λ (o : Option Won). IfSome o (λ x. (x.total ≡ total_of (lots_of w.state e))
    × IfSome (number_in r) (IsOnly (lots_of w.state e) x.winner))) is (turn-won program w actor e r answered) in
    subst (λ (o : Option ℕ). IfSome o (IsOnly (lots_of w.state e) won.winner)) drawn facts.1

pub returns-clause-printed : goal.returns-clause-printed
returns-clause-printed c style unit actor won before after lot =
    let none : 0 + total_of before ≡ total_of before = omega arith in
    lines-both style unit actor won 0 before (lot ∷ after) ∙ ap
    (λ n. lot_diagnostics style unit actor won 0 before ++ lot_diagnostics style unit actor won n (lot ∷ after)) none

pub returns-clause-winner : goal.returns-clause-winner
returns-clause-winner c program w actor e r won number answered is drawn =
    (only program w actor e r won number answered is drawn).0

pub returns-clause-no_other : goal.returns-clause-no_other
returns-clause-no_other c program w actor e r won number answered is drawn =
    (only program w actor e r won number answered is drawn).1
