-- The change by an answer of the threads that wait for a mutex.
use Rattle.lot_playback.proofs.Common.{Answered, Event, Reply, change_by, is_locking, mutex_wait, refl, ◌≡◌}
use Rattle.lot_machine.specs.declared.trap.Trap.TheVariants as action
use Rattle.lot_machine.specs.declared.event.Event.TheVariants as event

-- it depends on the event in nothing but whether that is a lock
pub change_by_locking : (e : Event) (r : Reply) → mutex_wait (Answered e r) ≡ change_by (is_locking e) r
change_by_locking (event.Trap p ran (action.Lock mutex)) r = refl
change_by_locking other r = refl
