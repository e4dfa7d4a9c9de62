use Rattle.lot_system.proofs.summary.end_in_form.Goals as goal

pub end_play-requires-clause-program : goal.end_play-requires-clause-program
end_play-requires-clause-program g c = c.requires.made.program_is

pub end_play-requires-clause-ended : goal.end_play-requires-clause-ended
end_play-requires-clause-ended g c = c.requires.ended

pub end_play-requires-clause-working : goal.end_play-requires-clause-working
end_play-requires-clause-working g c = c.requires.working

pub returns-in-Lines-clause-flushed : goal.returns-in-Lines-clause-flushed
returns-in-Lines-clause-flushed g c = c.end_play.ensures.flushed

pub returns-in-Lines-clause-text : goal.returns-in-Lines-clause-text
returns-in-Lines-clause-text g c = rw c.in-Lines.is c.end_play.ensures.text

pub returns-in-Lines-clause-stopped : goal.returns-in-Lines-clause-stopped
returns-in-Lines-clause-stopped g c = c.end_play.ensures.stopped

pub end_with_table-requires : goal.end_with_table-requires
end_with_table-requires g c = record { made = c.requires.made; ended = c.requires.ended; working = c.requires.working }
