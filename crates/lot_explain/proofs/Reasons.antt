-- A compensated thread has the weight of its reason, in each world that a program reaches.
use Rattle.lot_explain.proofs.Common.{All-nil, Bool, Command, Compensation, IfSome, List, None, Option, Program, Record, Sizes, Some, State, World, actor_event, ap, arith, at_number, compensation_of, cond, console_turn, false, le-div, mul-le-mul_left, next_name, opening_world, option_and_then, option_map, processor_turn, refl, resolved, some-injective, step-limits, subst, sym, system_after, system_run, system_turn, true, value_of, weight, weight_of, ℕ, [], ◌*◌, ◌/◌, ◌<◌, ◌==◌, ◌∙◌, ◌∷◌, ◌≡◌, ◌≤◌}
use Rattle.lot_machine.specs.declared.event.Event.TheVariants as event
use Rattle.lot_explain.proofs.PartQuanta.{AreParts, IsPart, command-parts, part-at, step-parts}
use Rattle.lot_explain.proofs.ShortTurns.{actor-on_time}

-- what each world keeps: its limits are the program's, and who is compensated used a part of a quantum
record HasParts (sizes : Sizes) (w : World) : Type 0 where
  limits : w.state.limits ≡ sizes
  parts : AreParts sizes.quantum w.state.records

console-parts : (program : Program) (w : World) (commands : List Command) → HasParts program.limits w
    → HasParts program.limits (console_turn program w commands).world
console-parts program w [] has = has
console-parts program w (next ∷ cs) has =
    let c : Command = resolved w.tickets (next_name w) next in
    record { limits = step-limits w.state (event.Command c) ∙ has.limits; parts = command-parts program.limits.quantum w.state c has.parts }

turn-parts : (program : Program) (w : World) (actor : ℕ) → HasParts program.limits w
    → HasParts program.limits (system_turn program w actor).world
turn-parts program w actor has = at (actor == 0)
  where
    at : (b : Bool) → HasParts program.limits
        (cond b (console_turn program w w.commands) (processor_turn w actor (actor_event program w actor))).world
    at true = console-parts program w w.commands has
    at false =
        let e = actor_event program w actor in
        let parts = step-parts w.state e (actor-on_time program w actor)
        (subst (λ (l : Sizes). AreParts l.quantum w.state.records) (sym has.limits) has.parts) in
        record { limits = step-limits w.state e ∙ has.limits; parts = subst (λ (l : Sizes). AreParts l.quantum (processor_turn w actor e).world.state.records) has.limits parts }

after-parts : (program : Program) (w : World) (actors : List ℕ) → HasParts program.limits w
    → HasParts program.limits (system_after program w actors)
after-parts program w [] has = has
after-parts program w (actor ∷ actors) has =
    after-parts program (system_turn program w actor).world actors (turn-parts program w actor has)

run-parts : (program : Program) (actors : List ℕ) → HasParts program.limits (system_run program actors)
run-parts program actors = after-parts program (opening_world program) actors
    (record { limits = refl; parts = All-nil (IsPart program.limits.quantum) })

-- a part of a quantum scales a value up, so it doesn't fall to 0
scaled-weight : (value used quantum : ℕ) → 0 < used → used < quantum
    → weight value (Some used) quantum ≡ value * quantum / used
scaled-weight value used quantum some part =
    let more : used ≤ quantum = omega (arith, part) in
    omega (arith, le-div value (value * quantum) used some (mul-le-mul_left value more))

-- the reason of a thread that was compensated by these ticks
abbrev reason_of : State → ℕ → Option ℕ → Option Compensation
reason_of s t ticks =
    option_map (λ used. record { value = value_of s t; quantum = s.limits.quantum; used = used }) ticks

module _ (program : Program) (actors : List ℕ) (t : ℕ) where
  abbrev reached : State
  reached = (system_run program actors).state

  -- a thread that is compensated
  pub reason-weight : (reason : Compensation) → compensation_of reached t ≡ Some reason
      → weight_of reached t ≡ reason.value * reason.quantum / reason.used
  reason-weight reason = at (at_number reached.records t) refl
    where
      has : HasParts program.limits (system_run program actors)
      has = run-parts program actors

      parts : AreParts reached.limits.quantum reached.records
      parts =
          subst (λ (l : Sizes). AreParts l.quantum (system_run program actors).state.records) (sym has.limits) has.parts

      of : (o : Option ℕ) → IfSome o (λ used. (0 < used) × (used < reached.limits.quantum))
          → reason_of reached t o ≡ Some reason
          → weight (value_of reached t) o reached.limits.quantum ≡ reason.value * reason.quantum / reason.used
      of None part is = cc
      of (Some used) part is =
          let same = some-injective _ reason is in
          scaled-weight (value_of reached t) used reached.limits.quantum part.0 part.1
          ∙ ap (λ (r : Compensation). r.value * r.quantum / r.used) same

      at : (o : Option Record) → at_number reached.records t ≡ o
          → reason_of reached t (option_and_then (λ (r : Record). r.compensation) o) ≡ Some reason
          → weight (value_of reached t) (option_and_then (λ (r : Record). r.compensation) o) reached.limits.quantum
          ≡ reason.value * reason.quantum / reason.used
      at None there is = cc
      at (Some r) there is = of r.compensation (part-at reached.limits.quantum reached.records t r parts there) is

-- and one that isn't weighs its value
pub plain-weight : (s : State) (t : ℕ) → compensation_of s t ≡ None → weight_of s t ≡ value_of s t
plain-weight s t = at (option_and_then (λ (r : Record). r.compensation) (at_number s.records t))
  where
    at : (o : Option ℕ) → reason_of s t o ≡ None → weight (value_of s t) o s.limits.quantum ≡ value_of s t
    at None is = refl
    at (Some used) is = cc
