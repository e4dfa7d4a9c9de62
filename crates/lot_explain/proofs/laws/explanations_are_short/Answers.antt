use Rattle.lot_explain.proofs.ShortTexts.{in_time-short, output-short, schedule-short}
use Rattle.lot_explain.proofs.laws.explanations_are_short.Goals as goal

pub returns-clause-scheduled : goal.returns-clause-scheduled
returns-clause-scheduled c = schedule-short

pub returns-clause-in_time : goal.returns-clause-in_time
returns-clause-in_time c = in_time-short

pub returns-clause-read : goal.returns-clause-read
returns-clause-read c = output-short
