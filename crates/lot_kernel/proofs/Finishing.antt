-- The dispositions of the thread that made a trap.
use Rattle.lot_kernel.proofs.Common.{Action, After, Asleep, Bool, CanChange, CanLend, CanRun, Dead, Ends, FundsThere, GoesOn, HasNoCycle, IfSome, IsBelowQuantum, IsBetween, IsBorrower, IsInOrder, IsThere, IsTimely, Leaves, Lend, List, Meter, Node, None, Queued, Ready, Receiving, Record, Running, RunsAlone, Served, Some, State, Status, StopsIfLeaves, Trap, Waiting, after_trap, ap, arith, at_number, change_record, compensation_for, effect_of, false, finish_trap, funding_of, if◌then◌else◌, lend-at, lend_node, lend_of, ltb-true, map, map-set, may-lend, nat_lt, record-of, refl, runs-alone, set_number, status_of, subst, threads_of, trap, trap-order, true, with_ticks, ℕ, ◌+◌, ◌-◌, ◌<◌, ◌∙◌, ◌≡◌, ◌≤◌}

-- a thread that stops may have any such status
stops-below : (quantum : ℕ) (status : Status) → ((p used : ℕ) → ¬ (status ≡ Running p used))
    → IsBelowQuantum quantum status
stops-below quantum (Running p used) stops = absurd (stops p used refl)
stops-below quantum Ready stops = tt
stops-below quantum (Receiving p) stops = tt
stops-below quantum (Queued p) stops = tt
stops-below quantum (Served s) stops = tt
stops-below quantum (Waiting m) stops = tt
stops-below quantum Asleep stops = tt
stops-below quantum Dead stops = tt

stops-run : (s : State) (stale : List Node) (meter : Meter) (t : ℕ) (status : Status)
    → ((p used : ℕ) → ¬ (status ≡ Running p used)) → CanRun (threads_of s stale meter) t status
stops-run s stale meter t (Running p used) stops = absurd (stops p used refl)
stops-run s stale meter t Ready stops = tt
stops-run s stale meter t (Receiving p) stops = tt
stops-run s stale meter t (Queued p) stops = tt
stops-run s stale meter t (Served u) stops = tt
stops-run s stale meter t (Waiting m) stops = tt
stops-run s stale meter t Asleep stops = tt
stops-run s stale meter t Dead stops = tt

-- the record of the thread that made a trap, after it
abbrev pub finished : State → Trap → After → Record → Record
finished s trap after r = with_ticks trap.ticks (after_trap after trap.processor.number trap.used s.limits r)

module _ (s : State) (stale : List Node) (meter : Meter) (trap : Trap) (before : Record)
    (there : IsThere s.records trap.thread.number) (timely : IsTimely s.limits.quantum before) (some : 0 < trap.used)
    (processor : IsBetween 1 s.limits.processors trap.processor.number)
    (alone : RunsAlone s.records trap.processor.number trap.thread.number) where
  can-go : CanChange (threads_of s stale meter) trap.thread.number (finished s trap GoesOn before)
  can-go = by (nat_lt trap.used s.limits.quantum) refl
    where
      by : (b : Bool) → nat_lt trap.used s.limits.quantum ≡ b
          → CanChange (threads_of s stale meter) trap.thread.number (finished s trap GoesOn before)
      by true is = rw is (record { there = there; timely = (timely.0, ltb-true trap.used s.limits.quantum is); lend = tt; run = (processor, λ u more runs. alone u more runs) })
      by false is = rw is (record { there = there; timely = (tt, tt); lend = tt; run = tt })

  can-leave : (status : Status) → ((p used : ℕ) → ¬ (status ≡ Running p used))
      → CanLend (funding_of s) trap.thread.number (lend_of s.limits status)
      → CanChange (threads_of s stale meter) trap.thread.number (finished s trap (Leaves status) before)
  can-leave status stops lend =
      record { there = there; timely = (by (nat_lt trap.used s.limits.quantum), stops-below s.limits.quantum status stops); lend = lend; run = stops-run s stale meter trap.thread.number status stops }
    where
      compensated : (b : Bool) → IfSome (if b then None else Some trap.used) (λ n. 0 < n)
      compensated true = tt
      compensated false = some

      by : (b : Bool) → IfSome (if b then compensation_for s.limits trap.used else None) (λ n. 0 < n)
      by true = compensated s.limits.without_compensation
      by false = tt

  -- the thread may have the record that the trap leaves it with
  pub can-finish : (after : After) → StopsIfLeaves after → ((status : Status) → after ≡ Leaves status
      → CanLend (funding_of s) trap.thread.number (lend_of s.limits status))
      → CanChange (threads_of s stale meter) trap.thread.number (finished s trap after before)
  can-finish GoesOn stops lend = can-go
  can-finish (Leaves status) stops lend = can-leave status stops (lend status refl)
  can-finish Ends stops lend = record { there = there; timely = (tt, tt); lend = tt; run = tt }

-- the state after a trap is in order
pub finish-order : (s : State) (t p before ticks used : ℕ) (action : Action) → IsInOrder s
    → status_of s.records t ≡ Some (Running p before) → 0 < ticks → ticks ≤ used
    → IsInOrder (finish_trap s p t ticks used (effect_of s t action)).state
finish-order s t p before ticks used action order runs some within =
    let order_then = trap-order s p t before (used - ticks) (ticks - 1) action runs
    (runs-alone s.records p t before order.runs_apart runs) order in
    let cost : ticks - 1 + 1 ≡ ticks = omega (arith, some) in
    let all : used - ticks + (ticks - 1) + 1 ≡ used = omega (arith, some, within) in
    subst (λ n. IsInOrder (finish_trap s p t n used (effect_of s t action)).state) cost
    (subst (λ n. IsInOrder (finish_trap s p t (ticks - 1 + 1) n (effect_of s t action)).state) all order_then)

module _ (s mid : State) (t p before ticks used : ℕ) (action : Action) (order : IsInOrder s)
    (runs : status_of s.records t ≡ Some (Running p before)) (some : 0 < ticks) (within : ticks ≤ used)
    (effect : mid ≡ (effect_of s t action).state) (runs_on : status_of mid.records t ≡ Some (Running p before)) where
  -- what it lends as it leaves makes no cycle
  pub may-leave : (status : Status) → (effect_of s t action).after ≡ Leaves status → ((node : Node)
      → lend_node (lend_of mid.limits status) ≡ Some node → IsBorrower (funding_of mid) (lend_of mid.limits status))
      → CanLend (funding_of mid) t (lend_of mid.limits status)
  may-leave status leaves there =
      let ends = finish-order s t p before ticks used action order runs some within in
      let alone = lend-at mid.limits mid.records t (Running p before) runs_on in
      let same : funding_of (finish_trap s p t ticks used (effect_of s t action)).state
      ≡ record (funding_of mid) { lends = set_number (funding_of mid).lends t (lend_of mid.limits status) } = final in
      may-lend (funding_of mid) t (lend_of mid.limits status) alone (subst HasNoCycle same ends.no_cycle)
      (subst FundsThere same ends.funds_there) there
    where
      change : After → Record → Record
      change after r = with_ticks ticks (after_trap after p used s.limits r)

      lends : (r : Record) → at_number mid.records t ≡ Some r
          → map (λ (x : Record). lend_of mid.limits x.status) (change_record (change (Leaves status)) mid.records t)
          ≡ set_number (funding_of mid).lends t (lend_of mid.limits status)
      lends r is =
          rw is (map-set (λ (x : Record). lend_of mid.limits x.status) mid.records (t - 1) (change (Leaves status) r))

      final : funding_of (finish_trap s p t ticks used (effect_of s t action)).state
          ≡ record (funding_of mid) { lends = set_number (funding_of mid).lends t (lend_of mid.limits status) }
      final =
          let there_record = record-of mid.records t (Running p before) runs_on in
          let now : (finish_trap s p t ticks used (effect_of s t action)).state
          ≡ record mid { records = change_record (change (Leaves status)) mid.records t } =
          rw (← effect, leaves) refl in
          ap funding_of now
          ∙ ap (λ (ls : List Lend). record (funding_of mid) { lends = ls }) (lends there_record.0 there_record.1)
