use Rattle.lot_machine.proofs.OrderKept.{reached-sound}
use Rattle.lot_machine.proofs.kept.reached_states_are_sound.Goals as goal

pub returns : goal.returns
returns c = reached-sound
