use Rattle.lot_system.proofs.Lemmas.{Program, ap, ended_at, moment_in, sym, time-end, ◌∙◌}
use Rattle.lot_system.proofs.figures.ending_in.Goals as goal

pub ending_of-requires-clause-end : goal.ending_of-requires-clause-end
ending_of-requires-clause-end c = time-end c.args.system.now c.in-InTime.timekeeper
    (rw c.in-InTime.is at c.requires.over.there) (rw c.in-InTime.is at c.requires.over.ended)

pub returns-in-InTime-clause-ending : goal.returns-in-InTime-clause-ending
returns-in-InTime-clause-ending c =
    rw c.in-InTime.is (c.ending_of.ensures.time ∙ ap (λ (p : Program). ended_at p (moment_in c.args.system.now c.in-InTime.timekeeper)) (sym c.requires.program), c.ending_of.ensures.values)
