use Rattle.std.proofs.lemmas.List.{replicate_more}
use Rattle.lot_system.proofs.Common.{Figures, List, ap, no_figures, ℕ, [], ◌++◌, ◌∙◌, ◌∷◌}
use Rattle.lot_system.proofs.figures.no_figures.Goals as goal

-- the figures of a subject with this name over no plays
abbrev named : List ℕ → Figures
named name = record { name = name; plays = 0; spreads = no_figures.spreads }

pub loop-preserved : goal.loop-preserved
loop-preserved c =
    c.in_ok-push.ensures.items ∙ ap (λ name. c.loop.figures.items ++ named name ∷ []) c.no_name.ensures
    ∙ ap (λ figures. figures ++ no_figures ∷ []) c.loop.invariant ∙ replicate_more c.loop.counter no_figures
