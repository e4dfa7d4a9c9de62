use Rattle.lot_system.proofs.Lemmas.{ap, moment_in, time-end, timed_turns, told_in, ◌∙◌}
use Rattle.lot_system.proofs.figures.told_at.Goals as goal

pub told_of-requires-clause-end : goal.told_of-requires-clause-end
told_of-requires-clause-end c = time-end c.args.system.now c.in-InTime.timekeeper
    (rw c.in-InTime.is at c.requires.over.there) (rw c.in-InTime.is at c.requires.over.ended)

pub told_of-requires-clause-values : goal.told_of-requires-clause-values
told_of-requires-clause-values c = (rw c.in-InTime.is at c.requires.ending).1

pub returns-in-InTime-clause-told : goal.returns-in-InTime-clause-told
returns-in-InTime-clause-told c =
    let s = c.args.system.now in
    let ending = rw c.in-InTime.is at c.requires.ending in
    rw c.in-InTime.is (c.told_of.ensures.told ∙ ap (λ end. told_in (moment_in s c.in-InTime.timekeeper) end
    (timed_turns s.setting.program) c.args.subject c.args.number) ending.0)
