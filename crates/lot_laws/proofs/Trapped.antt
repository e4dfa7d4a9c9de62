-- The state after a done trap, by its reply.
use Rattle.lot_laws.proofs.Common.{Action, BadProcessor, BadTicks, Bool, GoesOn, List, Nobody, None, NotRunning, Option, Outcome, PortTrap, Record, Refusal, Refused, Running, Sizes, Some, State, Step, Trap, TrapRefusal, Trapped, after_trap, all-pass, ap, at_number, at_number-map, at_port, checked_effect, event_effect, event_refusal, false, finish_trap, is_bad_processor, is_live_status, is_none, lend_of, live_in, map, nat_lt, of_ports, option_map, refl, served-off, served_at, status_of, step, sym, there-runs, thread_on, thread_there, trap_effect, trap_refusal, true, unless_refused, used_there, with_ticks, ℕ, [], ◌+◌, ◌∙◌, ◌∷◌, ◌≡◌}

-- the thread ran on the processor, its trap wasn't refused and had this outcome, and this is the state then
pub record IsDone (s : State) (p ran : ℕ) (action : Action) (t : ℕ) (outcome : Outcome) (after : State) : Type 0 where
  pub used : ℕ
  pub before : ℕ
  pub runs : status_of s.records t ≡ Some (Running p before)
  pub passed : trap_refusal s t action ≡ None
  pub came : (trap_effect s t action).outcome ≡ outcome
  pub state : after ≡ (finish_trap s p t (ran + 1) used (trap_effect s t action)).state

module _ (s : State) (p ran : ℕ) (action : Action) (t ticks : ℕ) (outcome : Outcome) (ends : Bool)
    (unrefused : (refusal : TrapRefusal) → ¬ (Refused refusal ≡ outcome)) where
  abbrev Replies : Step → Type 0
  Replies next = next.reply ≡ Trapped t ticks outcome ends

  -- a trap of some thread
  of-thread : (u before used : ℕ) → status_of s.records u ≡ Some (Running p before) → (o : Option TrapRefusal)
      → trap_refusal s u action ≡ o
      → Replies (finish_trap s p u (ran + 1) used (checked_effect s o (trap_effect s u action)))
      → IsDone s p ran action t outcome
      (finish_trap s p u (ran + 1) used (checked_effect s o (trap_effect s u action))).state
  of-thread u before used runs (Some refusal) is replied = let same : Refused refusal ≡ outcome = cc in
      absurd (unrefused refusal same)
  of-thread u before used runs None is replied =
      let same : u ≡ t = cc in
      let came : (trap_effect s u action).outcome ≡ outcome = cc in
      record {
        used = used;
        before = before;
        runs = sym (ap (status_of s.records) same) ∙ runs;
        passed = sym (ap (λ x. trap_refusal s x action) same) ∙ is;
        came = sym (ap (λ x. (trap_effect s x action).outcome) same) ∙ came;
        state = ap (λ x. (finish_trap s p x (ran + 1) used (trap_effect s x action)).state) same;
      }

  pub trap-done : Replies (step s (Trap p ran action))
      → IsDone s p ran action t outcome (step s (Trap p ran action)).state
  trap-done = by (event_refusal s (Trap p ran action)) refl
    where
      by : (o : Option Refusal) → event_refusal s (Trap p ran action) ≡ o
          → Replies (unless_refused s o (event_effect s (Trap p ran action)))
          → IsDone s p ran action t outcome (unless_refused s o (event_effect s (Trap p ran action))).state
      by (Some refusal) is replied = cc
      by None is replied =
          let checks = all-pass ((is_bad_processor s p, BadProcessor) ∷ (is_none (thread_on s.records p), NotRunning)
          ∷ (nat_lt s.limits.quantum (used_there s p + ran + 1), BadTicks) ∷ []) is in
          let runs = there-runs s p checks.1.0 in
          of-thread (thread_there s p) runs.0 (used_there s p + ran + 1) runs.1
          (trap_refusal s (thread_there s p) action) refl replied

-- ---- what records say

pub lend-is : (without : Sizes) (records : List Record) (u : ℕ)
    → at_number (map (λ (r : Record). lend_of without r.status) records) u ≡ option_map (lend_of without)
    (status_of records u)
lend-is without records u = at_number-map (λ (r : Record). lend_of without r.status) records u
    ∙ by (at_number records u)
  where
    by : (o : Option Record) → option_map (λ (r : Record). lend_of without r.status) o ≡ option_map (lend_of without)
        (option_map (λ (r : Record). r.status) o)
    by None = refl
    by (Some r) = refl

pub live-is : (records : List Record) (u : ℕ)
    → at_number (live_in records) u ≡ option_map is_live_status (status_of records u)
live-is records u = at_number-map (λ (r : Record). is_live_status r.status) records u ∙ by (at_number records u)
  where
    by : (o : Option Record) → option_map (λ (r : Record). is_live_status r.status) o
        ≡ option_map is_live_status (option_map (λ (r : Record). r.status) o)
    by None = refl
    by (Some r) = refl

-- a thread that goes on after its trap lends to nobody, and is live
pub goes-on : (without : Sizes) (ticks p used : ℕ) (limits : Sizes) (r : Record)
    → (lend_of without (with_ticks ticks (after_trap GoesOn p used limits r)).status ≡ Nobody)
    × (is_live_status (with_ticks ticks (after_trap GoesOn p used limits r)).status ≡ true)
goes-on without ticks p used limits r = by (nat_lt used limits.quantum) refl
  where
    by : (b : Bool) → nat_lt used limits.quantum ≡ b
        → (lend_of without (with_ticks ticks (after_trap GoesOn p used limits r)).status ≡ Nobody)
        × (is_live_status (with_ticks ticks (after_trap GoesOn p used limits r)).status ≡ true)
    by true is = rw is (refl, refl)
    by false is = rw is (refl, refl)

-- a trap at a port that changes no server
pub port-stays : (s : State) (t port : ℕ) (e : PortTrap) → served_at s t port e.outcome ≡ s.mutexes
    → at_port s t port e ≡ of_ports s e
port-stays s t port e same = ap (λ mutexes.
    record { state = record (of_ports s e).state { mutexes = mutexes }; outcome = e.outcome; after = e.after }) same

-- as none does if queued calls don't lend
pub port-off : (s : State) (t port : ℕ) (e : PortTrap) → s.limits.queued_lend ≡ false
    → at_port s t port e ≡ of_ports s e
port-off s t port e off = port-stays s t port e (served-off s t port e.outcome off)
