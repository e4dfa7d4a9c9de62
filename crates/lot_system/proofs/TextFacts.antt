-- The output of `play` is the text of each of the program's turns, and then the report.
use Rattle.lot_system.proofs.Common.{List, None, Option, Program, Some, TimedTurn, Whole, World, ap, flat_map, last_report, made_texts, opening_world, played_output, refl, scheduled_turns, system_turn, timed_text, timed_turns, turn_text, turn_texts, turns_by, turns_in_time, ℕ, [], ◌++◌, ◌∷◌, ◌≡◌}

texts-scheduled : (program : Program) (w : World) (actors : List ℕ)
    → turn_texts program w actors ≡ made_texts (scheduled_turns program w actors)
texts-scheduled program w [] = refl
texts-scheduled program w (a ∷ actors) = ap (λ ts. turn_text Whole a (system_turn program w a) ++ ts)
    (texts-scheduled program (system_turn program w a).world actors)

texts-timed : (w : World) (turns : List TimedTurn) → flat_map timed_text turns ≡ made_texts (turns_in_time w turns)
texts-timed w [] = refl
texts-timed w (t ∷ turns) = ap (λ ts. timed_text t ++ ts) (texts-timed t.turn.world turns)

pub played-texts : (program : Program) (duration : Option ℕ)
    → played_output program duration ≡ made_texts (turns_by program duration) ++ last_report program duration
played-texts program None =
    ap (λ ts. ts ++ last_report program None) (texts-scheduled program (opening_world program) program.schedule)
played-texts program (Some duration) =
    ap (λ ts. ts ++ last_report program (Some duration)) (texts-timed (opening_world program) (timed_turns program))
