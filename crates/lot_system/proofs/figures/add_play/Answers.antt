use Rattle.lot_system.proofs.Common.{Currency, Processor, Thread, Total}
use Rattle.lot_system.proofs.figures.add_play.Goals as goal

pub add_subjects-requires-clause-count : goal.add_subjects-requires-clause-count
add_subjects-requires-clause-count c = c.requires.many.are Thread

pub add_subjects-requires-2-clause-count : goal.add_subjects-requires-2-clause-count
add_subjects-requires-2-clause-count c = c.requires.many.are Currency

pub add_subjects-requires-3-clause-count : goal.add_subjects-requires-3-clause-count
add_subjects-requires-3-clause-count c = c.requires.many.are Processor

pub add_subjects-requires-4-clause-count : goal.add_subjects-requires-4-clause-count
add_subjects-requires-4-clause-count c = c.requires.many.are Total
