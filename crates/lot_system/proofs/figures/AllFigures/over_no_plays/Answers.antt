use Rattle.lot_system.proofs.Lemmas.{ap, of-each, over-none, ℕ, ◌∙◌}
use Rattle.lot_system.proofs.Common.{no_figures, replicate}
use Rattle.lot_system.proofs.figures.AllFigures.over_no_plays.Goals as goal

pub returns : goal.returns
returns c =
    let none = λ (n : ℕ). replicate n no_figures in
    over-none c.args.program.now _
    (of-each _ (c.in_ok-no_figures.ensures ∙ ap none c.most_of.ensures)
    (c.in_ok-no_figures-2.ensures ∙ ap none c.most_of-2.ensures)
    (c.in_ok-no_figures-3.ensures ∙ ap none c.most_of-3.ensures)
    (c.in_ok-no_figures-4.ensures ∙ ap none c.most_of-4.ensures))
