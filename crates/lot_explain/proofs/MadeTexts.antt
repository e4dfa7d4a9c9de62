-- The output of `explain` is the explanation of each of the program's turns, followed by the report.
use Rattle.lot_explain.proofs.Common.{Detail, List, None, Option, Program, Some, Timed, TimedTurn, Whole, World, ap, explained_program, explained_text, explained_texts, explained_times, explained_turns, last_report, opening_world, refl, scheduled_turns, system_turn, timed_turns, turns_by, turns_in_time, ℕ, [], ◌++◌, ◌∷◌, ◌≡◌}

texts-scheduled : (detail : Detail) (program : Program) (w : World) (actors : List ℕ)
    → explained_texts detail program w actors ≡ explained_turns detail (scheduled_turns program w actors)
texts-scheduled detail program w [] = refl
texts-scheduled detail program w (a ∷ actors) = ap (λ ts. explained_text detail Whole a w (system_turn program w a)
    ++ ts) (texts-scheduled detail program (system_turn program w a).world actors)

texts-timed : (detail : Detail) (w : World) (turns : List TimedTurn)
    → explained_times detail w turns ≡ explained_turns detail (turns_in_time w turns)
texts-timed detail w [] = refl
texts-timed detail w (t ∷ turns) =
    ap (λ ts. explained_text detail (Timed t.time) t.actor w t.turn ++ ts) (texts-timed detail t.turn.world turns)

pub program-texts : (detail : Detail) (program : Program) (duration : Option ℕ)
    → explained_program detail program duration ≡ explained_turns detail (turns_by program duration)
    ++ last_report program duration
program-texts detail program None =
    ap (λ ts. ts ++ last_report program None) (texts-scheduled detail program (opening_world program) program.schedule)
program-texts detail program (Some duration) = ap (λ ts. ts ++ last_report program (Some duration))
    (texts-timed detail (opening_world program) (timed_turns program))
