use Rattle.lot_laws.proofs.Sleepers.{sleep-wake}
use Rattle.lot_laws.proofs.pauses.a_sleep_that_ends_at_once_is_a_yield.Goals as goal

pub returns : goal.returns
returns c = sleep-wake
