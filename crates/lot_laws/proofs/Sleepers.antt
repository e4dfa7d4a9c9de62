-- A sleeping thread has nothing, and a sleep that ends at once is a yield.
use Rattle.lot_laws.proofs.Common.{Asleep, IsInOrder, Leaves, List, None, Option, Ready, Record, Refusal, Running, Sleep, Some, State, Status, Ticket, Trap, Wake, Yield, activates_within, after_trap, ap, at_number, borrower_of, change_record, event_effect, event_refusal, false, found-runs, funding_of, is_active, is_asleep, length, live_of, number-set_same, record-of, refl, set-set, set_number, status-now, status_of, step, sym, thread_at, thread_on, thread_there, unless_refused, used_there, value_of, wake, with_ticks, ℕ, ◌+◌, ◌-◌, ◌∙◌, ◌≡◌}
use Rattle.lot_machine.specs.declared.ticket.Target.TheVariants as target
use Rattle.lot_machine.specs.declared.record.Thread.{Thread}
use Rattle.lot_laws.proofs.Blocked.{lead-itself, lends-nobody, not-live}
use Rattle.lot_laws.proofs.CallReceived.{blocked-nothing, unbacked}

module _ (s : State) (t : ℕ) (sleeps : status_of s.records t ≡ Some Asleep) where
  pub sleeper-lends : borrower_of (funding_of s) t ≡ None
  sleeper-lends = lends-nobody s t Asleep sleeps refl

  pub sleeper-worth : IsInOrder s → value_of s t ≡ 0
  sleeper-worth order =
      blocked-nothing s t order.no_cycle order.funds_there sleeper-lends (not-live s.records t Asleep sleeps refl)

  pub sleeper-tickets : IsInOrder s → (ticket : Ticket) → ticket.target ≡ target.Thread t
      → is_active (funding_of s) (live_of s) ticket ≡ false
  sleeper-tickets order ticket funds =
      ap (activates_within (length (funding_of s).currencies) (funding_of s) (live_of s)) funds
      ∙ unbacked s t order.no_cycle order.funds_there sleeper-lends (not-live s.records t Asleep sleeps refl) t
      (lead-itself (funding_of s) t order.no_cycle)

-- ---- a sleep that ends at once

-- two changes of one record
again : (first second : Record → Record) (records : List Record) (t : ℕ) (r : Record) → at_number records t ≡ Some r
    → change_record second (change_record first records t) t ≡ set_number records t (second (first r))
again first second records t r there =
    let once : change_record first records t ≡ set_number records t (first r) = rw there refl in
    let twice : change_record second (set_number records t (first r)) t ≡ set_number (set_number records t (first r)) t
    (second (first r)) = rw (number-set_same records t (first r) r there) refl in
    ap (λ rs. change_record second rs t) once ∙ twice ∙ set-set records (t - 1) (first r) (second (first r))

module _ (s : State) (t : ℕ) (thread : Thread) (there : thread_at s.threads t ≡ Some thread) where
  -- who doesn't sleep isn't woken
  wake-nobody : (now : Status) → status_of s.records t ≡ Some now → is_asleep now ≡ false → (step s (Wake t)).state ≡ s
  wake-nobody now is awake = rw there (rw is (rw awake refl))

  wake-sleeper : status_of s.records t ≡ Some Asleep → (step s (Wake t)).state ≡ (wake s t).state
  wake-sleeper is = rw there (rw is refl)

module _ (s : State) (p t ran : ℕ) (thread : Thread) (on : thread_on s.records p ≡ Some t)
    (there : thread_at s.threads t ≡ Some thread) where
  abbrev leaves : Status → Record → Record
  leaves now r = with_ticks (ran + 1) (after_trap (Leaves now) p (used_there s p + ran + 1) s.limits r)

  runs : (used : ℕ) × (status_of s.records t ≡ Some (Running p used))
  runs = found-runs s.records p t on

  -- the trap isn't refused
  abbrev slept : State
  slept = record s { records = change_record (leaves Asleep) s.records t }

  woken : (step slept (Wake t)).state ≡ record s { records = change_record (leaves Ready) s.records t }
  woken =
      let now = status-now (leaves Asleep) s.records t (Running p runs.0) Asleep runs.1 (λ r. refl) in
      let (r, is, _) = record-of s.records t (Running p runs.0) runs.1 in
      let yielded : change_record (leaves Ready) s.records t ≡ set_number s.records t (leaves Ready r) = rw is refl in
      wake-sleeper slept t thread there now
      ∙ ap (λ (rs : List Record). record s { records = rs })
      (again (leaves Asleep) (λ x. record x { status = Ready }) s.records t r is ∙ sym yielded)

  pub sleep-wake : (step (step s (Trap p ran (Sleep tt))).state (Wake t)).state ≡ (step s (Trap p ran Yield)).state
  sleep-wake = by (event_refusal s (Trap p ran (Sleep tt))) refl
    where
      same : thread_there s p ≡ t
      same = rw on refl

      by : (o : Option Refusal) → event_refusal s (Trap p ran (Sleep tt)) ≡ o
          → (step (unless_refused s o (event_effect s (Trap p ran (Sleep tt)))).state (Wake t)).state
          ≡ (unless_refused s o (event_effect s (Trap p ran Yield))).state
      by (Some refusal) is = wake-nobody s t thread there (Running p runs.0) runs.1 refl
      by None is = rw same woken
