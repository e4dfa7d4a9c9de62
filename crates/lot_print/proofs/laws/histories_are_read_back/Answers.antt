use Rattle.lot_print.proofs.HistoryBack.{history-back}
use Rattle.lot_print.proofs.laws.histories_are_read_back.Goals as goal

pub returns : goal.returns
returns c = history-back
