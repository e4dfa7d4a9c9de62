use Rattle.lot_system.proofs.Lemmas.{Counts, ap, counted, history-short, length, number, turns-are, turns_of, [], ◌∷◌, ◌∙◌}
use Rattle.lot_simulation.specs.TimedReport.{processor_cells}
use Rattle.lot_system.proofs.told.processor_cells.Goals as goal

pub idle_until-unused-requires-clause-idled : goal.idle_until-unused-requires-clause-idled
idle_until-unused-requires-clause-idled c =
    let s = c.args.system.now in
    (length s.history, history-short s c.args.timekeeper.now c.requires.end, c.requires.end.followed.followed.idled)

pub returns : goal.returns
unfolding processor_cells
returns c =
    let s = c.args.system.now in
    let w = c.args.timekeeper.now in
    let counts = c.counts-counts.ensures
    ∙ ap (λ ts. counted (turns_of c.args.processor ts)) (turns-are s w c.requires.end) in
    let quanta = c.number.ensures ∙ ap (λ (t : Counts). number t.quanta) counts in
    let idles = c.number-2.ensures ∙ ap (λ (t : Counts). number t.idles) counts in
    let ticks = c.number-3.ensures ∙ ap (λ (t : Counts). number t.ticks) counts in
    let unused = c.number-4.ensures ∙ ap number c.idle_until-unused.ensures in
    λ i. quanta i ∷ idles i ∷ ticks i ∷ unused i ∷ []
