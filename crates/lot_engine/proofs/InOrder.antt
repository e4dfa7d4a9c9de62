-- A history leads to a state in order.
use Rattle.lot_engine.proofs.Common.{Bool, Command, IsInOrder, IsWithinBounds, List, Program, TurnMade, World, actor_event, cond, console_turn, false, next_name, opening-order, opening_world, processor_turn, resolved, step-order, system_after, system_run, system_turn, true, ℕ, [], ◌==◌, ◌∷◌}
use Rattle.lot_machine.specs.declared.event.Event.TheVariants as event

module _ (program : Program) where
  console-in-order : (w : World) (commands : List Command) → IsInOrder w.state
      → IsInOrder (console_turn program w commands).world.state
  console-in-order w [] order = order
  console-in-order w (c ∷ cs) order = step-order w.state (event.Command (resolved w.tickets (next_name w) c)) order

  turn-in-order : (w : World) (actor : ℕ) → IsInOrder w.state → IsInOrder (system_turn program w actor).world.state
  turn-in-order w actor order = by (actor == 0)
    where
      by : (console : Bool) → IsInOrder (cond {A = TurnMade} console (console_turn program w w.commands)
          (processor_turn w actor (actor_event program w actor))).world.state
      by true = console-in-order w w.commands order
      by false = step-order w.state (actor_event program w actor) order

  after-in-order : (w : World) (actors : List ℕ) → IsInOrder w.state → IsInOrder (system_after program w actors).state
  after-in-order w [] order = order
  after-in-order w (actor ∷ actors) order =
      after-in-order (system_turn program w actor).world actors (turn-in-order w actor order)

  pub run-in-order : (history : List ℕ) → IsWithinBounds program.limits → IsInOrder (system_run program history).state
  run-in-order history bounds = after-in-order (opening_world program) history (opening-order program.limits bounds)
