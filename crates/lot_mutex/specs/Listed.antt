-- Lotteries, locks and unlocks in contracts.
use Rattle.std.specs.Prelude.{◌≡◌, ◌≢◌, ℕ, Option, None, List, [], map, slice_get, if◌then◌else◌}
use Rattle.lot_machine.specs.declared.funding.Node.{Node}
use Rattle.lot_machine.specs.Kill.{is_owned_by, passed_on}
use Rattle.lot_machine.specs.Mutexes.{MutexTrap}
use Rattle.lot_machine.specs.State.{Mutex}
use Rattle.lot_queues.specs.QueueLists.{QueueLists}
use Rattle.lot_threads.specs.declared.effect.TrapEffect.{TrapEffect}
use Rattle.lot_threads.specs.Threaded.{Threaded, IsStaleIn, settled_in}
use Rattle.lot_value.specs.Caches.{HasNoneTwice}

-- the capacity, and the listed waiters in the order of waiting
pub record Listed : Type 0 where
  pub room : ℕ
  pub waiters : List ℕ

-- the owner of each mutex
abbrev pub owners_of : List Mutex → List (Option ℕ)
owners_of mutexes = map (λ (m : Mutex). m.owner) mutexes

-- the threads after a trap on a mutex, with these stale nodes
abbrev pub with_mutexes : Threaded → MutexTrap → List Node → Threaded
with_mutexes v e stale = record v { records = e.records; owners = owners_of e.mutexes; stale = stale }

-- the trap on a mutex has this effect and leads to these threads and queues
pub record IsMutexTrap (v : Threaded) (q : QueueLists) (trap : MutexTrap) (effect : TrapEffect) (new : Threaded) (left : QueueLists) : Type 0 where
  pub outcome : effect.outcome ≡ trap.outcome
  pub after : effect.after ≡ trap.after
  pub threads : new ≡ with_mutexes v trap new.stale
  pub queues : left ≡ record q { mutexes = trap.mutexes }

-- an unlock with these waiters settles for its lottery; without waiters it leaves stale nodes and counts alone
pub record UnlockSettles (waiters : List ℕ) (old new : Threaded) : Type 0 where
  -- if nobody waits, stale nodes remain stale
  pub kept : waiters ≡ [] → (node : Node) → IsStaleIn old node → IsStaleIn new node
  -- and the counts stay
  pub uncounted : waiters ≡ [] → new.meter ≡ old.meter
  -- if somebody waits, the counts are those after settling
  pub counted : waiters ≢ [] → new.meter ≡ (settled_in old).meter
  -- and each stale node was settled once, since none was listed twice
  pub once : waiters ≢ [] → HasNoneTwice old.stale

-- the mutex, passed on if the thread owns it
abbrev pub passed_from : ℕ → Mutex → Mutex
passed_from t mutex = if is_owned_by t mutex then passed_on mutex.waiters else mutex

-- the waiter that gets the mutex if the thread owns it
abbrev pub next_from : ℕ → Mutex → Option ℕ
next_from t mutex = if is_owned_by t mutex then slice_get mutex.waiters 0 else None
