use Rattle.lot_machine.proofs.OrderKept.{order-sound}
use Rattle.lot_machine.proofs.kept.order_is_sound.Goals as goal

pub returns : goal.returns
returns c = order-sound
