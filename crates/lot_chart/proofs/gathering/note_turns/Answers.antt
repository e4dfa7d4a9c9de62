use Rattle.lot_chart.proofs.Lemmas.{arith, program-few, rules}
use Rattle.lot_chart.proofs.gathering.note_turns.Goals as goal

pub returns-clause-noted : goal.returns-clause-noted
returns-clause-noted c = c.in_ok-play_through.ensures.observed.1.stretches_are

pub returns-clause-commands : goal.returns-clause-commands
returns-clause-commands c = c.in_ok-play_through.ensures.observed.1.commands_are

pub returns-clause-few : goal.returns-clause-few
returns-clause-few c =
    omega (arith, c.in_ok-play_through.ensures.observed.1.few, c.play_through.new.observer.stretches.ok.0)

pub returns-clause-early : goal.returns-clause-early
returns-clause-early c = omega
    (arith, c.in_ok-play_through.ensures.observed.1.early, program-few c.args.program.now c.schedule-schedule.ensures.legal)

pub returns-clause-stopped : goal.returns-clause-stopped
returns-clause-stopped c =
    search (rules, c.in_ok-play_through.ensures.observed.2, c.in_ok-play_through.ensures.observed.3)

pub returns-clause-ended : goal.returns-clause-ended
returns-clause-ended c = c.in_ok-play_through.ensures.ended

pub returns-clause-made : goal.returns-clause-made
returns-clause-made c = c.in_ok-play_through.ensures.made
