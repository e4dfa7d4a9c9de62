-- Lottery mutexes (6.1).
use Rattle.std.specs.Prelude.{ℕ, Option, Some, None, List, [], ◌∷◌, ◌++◌, map, remove, slice_index, option_map, unwrap_or}
use Rattle.lot_machine.specs.declared.record.Record.{Record}
use Rattle.lot_machine.specs.declared.record.Status.TheVariants as status
use Rattle.lot_machine.specs.declared.reply.Outcome.{Outcome}
use Rattle.lot_machine.specs.declared.reply.Outcome.TheVariants.{Waits, Locked, Freed, Passed}
use Rattle.lot_machine.specs.Numbered.{at_number, set_number}
use Rattle.lot_machine.specs.declared.drawn.Drawn.{Drawn}
use Rattle.lot_machine.specs.Lottery.{winner}
use Rattle.lot_machine.specs.State.{Mutex, change_record}
use Rattle.lot_machine.specs.declared.after.After.{After}
use Rattle.lot_machine.specs.declared.after.After.TheVariants.{GoesOn, Leaves}

-- the records and the mutexes after a trap, its outcome, and the disposition of the thread that made it
pub record MutexTrap : Type 0 where
  pub records : List Record
  pub mutexes : List Mutex
  pub outcome : Outcome
  pub after : After

-- the mutex with this number
abbrev pub mutex_at : List Mutex → ℕ → Mutex
mutex_at mutexes m = unwrap_or (at_number mutexes m) (record { owner = None; waiters = [] })

-- A lock takes a free mutex, and the thread goes on. Otherwise the thread waits behind earlier waiters (6.1).
abbrev pub lock : List Record → List Mutex → ℕ → ℕ → MutexTrap
lock records mutexes t m = made (mutex_at mutexes m).owner
  where
    made : Option ℕ → MutexTrap
    made None = record {
      records = records;
      mutexes = set_number mutexes m (record { owner = Some t; waiters = (mutex_at mutexes m).waiters });
      outcome = Locked;
      after = GoesOn;
    }
    made (Some owner) = record {
      records = records;
      mutexes = set_number mutexes m (record { owner = Some owner; waiters = (mutex_at mutexes m).waiters ++ t ∷ [] });
      outcome = Waits;
      after = Leaves (status.Waiting m);
    }

-- Without waiters the mutex becomes free, and the releaser goes on. Otherwise a lottery over the waiters' values
-- before the release, in order of waiting, picks one; if all values are 0, the first. The picked one becomes Ready
-- and owner, the others go on waiting, and the releaser yields (6.1).
abbrev pub unlock : List Record → List Mutex → (ℕ → ℕ) → ℕ → ℕ → MutexTrap
unlock records mutexes value m d = made (mutex_at mutexes m).waiters
  where
    passed : List ℕ → Option Drawn → ℕ → MutexTrap
    passed waiters drawn place = record {
      records = change_record (λ r. record r { status = status.Ready }) records (slice_index waiters place);
      mutexes = set_number mutexes m (record { owner = Some (slice_index waiters place); waiters = remove waiters place });
      outcome = Passed (slice_index waiters place) (option_map (λ w. (w.number, w.total)) drawn);
      after = Leaves status.Ready;
    }

    made : List ℕ → MutexTrap
    made [] = record {
      records = records;
      mutexes = set_number mutexes m (record { owner = None; waiters = [] });
      outcome = Freed;
      after = GoesOn;
    }
    made (w ∷ ws) =
        passed (w ∷ ws) (winner (map value (w ∷ ws)) d) (unwrap_or (option_map (λ drawn. drawn.place) (winner (map value (w ∷ ws)) d)) 0)
