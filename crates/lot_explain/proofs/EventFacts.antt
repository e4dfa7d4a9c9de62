-- The event of a turn.
use Rattle.lot_explain.proofs.Common.{Answered, Event, IfSome, IsFresh, IsSlice, Option, Parts, Program, Reply, Seen, TurnMade, World, ap, event-is, event_given, number_of, processor_event, refl, step, sym, system_turn, system_turn-processor, turn_in, world_of, ℕ, ◌<◌, ◌∙◌, ◌≡◌, ◌≤◌}

-- a turn of a processor answers its event
processor-answers : (program : Program) (w : World) (p : ℕ) (e : Event) (r : Reply) → 0 < p
    → p ≤ program.limits.processors → (system_turn program w p).answer ≡ Answered e r → e ≡ processor_event w p
processor-answers program w p e r some few is =
    let one : Answered (processor_event w p) (step w.state (processor_event w p)).reply ≡ Answered e r =
    sym (ap (λ (t : TurnMade). t.answer) (system_turn-processor program w p some few)) ∙ is in
    cc

-- and that is the event of the slice that is fresh
pub event-given : (seen : Seen) (p : ℕ) (given : Option Parts) (e : Event) (r : Reply) → 0 < p
    → p ≤ seen.setting.program.limits.processors → IsFresh seen p given → IfSome given IsSlice
    → (turn_in seen p).answer ≡ Answered e r
    → event_given p (number_of (world_of seen) p) given ≡ e
event-given seen p given e r some few fresh exact is =
    let w = world_of seen in
    sym (processor-answers seen.setting.program w p e r some few is
    ∙ event-is seen.setting.program w p (number_of w p) fresh.0 given some fresh.1 fresh.2 exact refl)
