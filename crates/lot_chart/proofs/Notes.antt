-- Stretches gathered turn by turn.
use Rattle.lot_chart.proofs.Common.{ActorTurn, Answered, By, Ended, EndedTurn, Event, HasJustMade, HasMade, IsProgram, List, MadeTurn, None, Option, Program, Reply, Seen, Some, Stretch, TimedTurn, TurnAnswer, TurnMade, World, answer_in, ap, append-nil, append_assoc, arith, command_time, commands_in, counted_turn, counted_turns, curves_after, end_in, ended_at, false, flat_map, flat_map-append, length, length-append, lit<, map, max, names_by, opening_moment, opening_world, own_end, program_turns, refl, scheduled_turns, stretches_in, stretches_of_turn, suc, sym, system_turn, ticks_in, timed_turns, total_of, true, turn_stretches, turns-few, turns_by, turns_in_time, turns_made, turns_made-length, turns_of, world_of, ℕ, [], ◌*◌, ◌++◌, ◌+◌, ◌<◌, ◌^◌, ◌∙◌, ◌∷◌, ◌≡◌, ◌≤◌}
use Rattle.lot_simulation.specs.Timed.{timed_room}
use Rattle.lot_playback.specs.TicksBelow.{RanOn}
use Rattle.lot_playback.proofs.TickFacts.{ran-on}
use Rattle.lot_playback.specs.declared.turn.Turn.{Turn as ATurn}

-- ---- how many turns there are

timed-most : timed_room < 16000001
unfolding timed_room
timed-most = lit< tt

-- turns in the order of time are fewer than a counter can hold
pub timed-few : (program : Program) → length (timed_turns program) < 2147483648
timed-few program = omega (arith, turns-few program timed_room (opening_moment program), timed-most)

scheduled-count : (program : Program) (w : World) (actors : List ℕ)
    → length (scheduled_turns program w actors) ≡ length actors
scheduled-count program w [] = refl
scheduled-count program w (a ∷ actors) = ap suc (scheduled-count program (system_turn program w a).world actors)

timed-count : (w : World) (turns : List TimedTurn) → length (turns_in_time w turns) ≡ length turns
timed-count w [] = refl
timed-count w (t ∷ turns) = ap suc (timed-count t.turn.world turns)

by-few : (program : Program) → IsProgram program → (d : Option ℕ) → length (turns_by program d) ≤ 16000000
by-few program is None =
    omega (arith, scheduled-count program (opening_world program) program.schedule, is.schedule_length)
by-few program is (Some duration) = omega
    (arith, timed-count (opening_world program) (timed_turns program), turns-few program timed_room (opening_moment program), timed-most)

pub program-few : (program : Program) → IsProgram program → length (program_turns program) ≤ 16000000
program-few program is = by-few program is program.duration

-- no more turns are counted than are made
counted-few : (turns : List MadeTurn) → length (counted_turns turns) ≤ length turns
counted-few [] = omega arith
counted-few (t ∷ turns) = from t.turn.answer (counted-few turns)
  where
    from : (x : TurnAnswer) → length (counted_turns turns) ≤ length turns
        → length (counted_turn t.actor x ++ counted_turns turns) ≤ suc (length turns)
    from (Answered e r) few = omega (arith, few)
    from Ended few = omega (arith, few)

-- ---- the commands of one turn more

commands-one_more : (turns : List MadeTurn) (made : MadeTurn)
    → commands_in (turns ++ made ∷ []) ≡ commands_in turns ++ command_time made.time made.actor
commands-one_more turns made =
    flat_map-append (λ (m : MadeTurn). command_time m.time m.actor) turns (made ∷ [])
    ∙ ap (λ ts. commands_in turns ++ ts) (append-nil (command_time made.time made.actor))

-- ---- the stretches of one turn more

stretches-one_more : (what : By) (before turns : List MadeTurn) (made : MadeTurn) → stretches_in what before
    (turns ++ made ∷ []) ≡ stretches_in what before turns ++ stretches_of_turn what (before ++ turns) made
stretches-one_more what before [] made = append-nil (stretches_of_turn what before made)
    ∙ ap (λ (ts : List MadeTurn). stretches_of_turn what ts made) (sym (append-nil before))
stretches-one_more what before (t ∷ turns) made =
    let here = stretches_of_turn what before t in
    let now = before ++ t ∷ [] in
    ap (λ (ss : List Stretch). here ++ ss) (stretches-one_more what now turns made)
    ∙ sym (append_assoc here (stretches_in what now turns) (stretches_of_turn what (now ++ turns) made))
    ∙ ap (λ (ts : List MadeTurn). (here ++ stretches_in what now turns) ++ stretches_of_turn what ts made)
    (append_assoc before (t ∷ []) turns)

module _ (program : Program) (turns : List MadeTurn) (made : MadeTurn) (turn : ATurn) (seen : Seen)
    (just : HasJustMade program turns made turn seen) where
  abbrev all : List MadeTurn
  all = turns ++ made ∷ []

  counted-is : turns_made seen.setting.program seen.history ≡ counted_turns all
  counted-is = ap (λ (p : Program). turns_made p seen.history) just.has.program_is ∙ just.has.counted

  -- the thread that ran in it ran on its actor's processor
  pub turn-ran : turn.has_ended ≡ false → RanOn made.before.state made.actor turn.reply
  turn-ran answered =
      let answer : made.turn.answer ≡ Answered turn.event turn.reply = just.reports.answer
      ∙ ap (λ b. answer_in b turn.event turn.reply) answered in
      ran-on program made.before made.actor turn.event turn.reply
      (ap (λ (t : TurnMade). t.answer) (sym just.turn_is) ∙ answer)

  -- a turn that is answered ends once
  ended-is : (e : Event) (r : Reply) → made.turn.answer ≡ Answered e r → (time : Option ℕ)
      → ended_at time turns made ≡ record { time = end_in seen time made.actor; answer = Answered e r } ∷ []
  ended-is e r is (Some time) = ap (λ (x : TurnAnswer). record { time = time; answer = x } ∷ []) is
  ended-is e r is None =
      ap (λ (x : TurnAnswer). map (own_end (counted_turns all)) (counted_turn made.actor x)) is
      ∙ ap (λ (ts : List ActorTurn). record { time = total_of ticks_in (turns_of made.actor ts); answer = Answered e r }
      ∷ []) (sym counted-is)

  -- its stretches are noted
  pub answered-noted : (what : By) → turn.has_ended ≡ false → (end : ℕ) → end ≡ end_in seen turn.time turn.actor
      → (items after : List Stretch)
      → items ≡ stretches_in what [] turns → after ≡ items
      ++ turn_stretches what made.before.state (record { time = end; answer = Answered turn.event turn.reply })
      → after ≡ stretches_in what [] (turns ++ made ∷ [])
  answered-noted what answered end ends items after noted pushed =
      let answer : made.turn.answer ≡ Answered turn.event turn.reply = just.reports.answer
      ∙ ap (λ b. answer_in b turn.event turn.reply) answered in
      let own : end ≡ end_in seen made.time made.actor = ends ∙ ap
      (λ (t : Option ℕ). end_in seen t turn.actor) just.reports.time ∙ ap (end_in seen made.time) just.reports.actor in
      let of_end : ℕ → List Stretch =
      λ t. turn_stretches what made.before.state (record { time = t; answer = Answered turn.event turn.reply }) in
      let here : of_end end ≡ stretches_of_turn what turns made =
      ap of_end own ∙ sym (append-nil (of_end (end_in seen made.time made.actor))) ∙ ap (λ (es : List EndedTurn).
      flat_map (turn_stretches what made.before.state) es) (sym (ended-is turn.event turn.reply answer made.time)) in
      pushed ∙ ap (λ (xs : List Stretch). xs ++ of_end end) noted
      ∙ ap (λ (ss : List Stretch). stretches_in what [] turns ++ ss) here ∙ sym (stretches-one_more what [] turns made)

  -- a turn without a command has none
  pub ended-noted : (what : By) → turn.has_ended ≡ true → (items : List Stretch) → items ≡ stretches_in what [] turns
      → items ≡ stretches_in what [] (turns ++ made ∷ [])
  ended-noted what ended items noted =
      let answer : made.turn.answer ≡ Ended = just.reports.answer ∙ ap (λ b. answer_in b turn.event turn.reply) ended in
      let none : ended_at made.time turns made ≡ [] =
      ap (λ (t : Option ℕ). ended_at t turns made) (just.ended answer)
      ∙ ap (λ (x : TurnAnswer). map (own_end (counted_turns all)) (counted_turn made.actor x)) answer in
      let here : stretches_of_turn what turns made ≡ [] =
      ap (λ (es : List EndedTurn). flat_map (turn_stretches what made.before.state) es) none in
      noted ∙ sym (append-nil (stretches_in what [] turns)) ∙ ap
      (λ (ss : List Stretch). stretches_in what [] turns ++ ss) (sym here) ∙ sym (stretches-one_more what [] turns made)

  pub commands-noted : (items after : List ℕ) → items ≡ commands_in turns
      → after ≡ items ++ command_time turn.time turn.actor → after ≡ commands_in (turns ++ made ∷ [])
  commands-noted items after noted pushed =
      pushed ∙ ap (λ ts. ts ++ command_time turn.time turn.actor) noted
      ∙ ap (λ (t : Option ℕ). commands_in turns ++ command_time t turn.actor) just.reports.time
      ∙ ap (λ a. commands_in turns ++ command_time made.time a) just.reports.actor ∙ sym (commands-one_more turns made)

  pub ended-commands : turn.has_ended ≡ true → (items : List ℕ) → items ≡ commands_in turns
      → items ≡ commands_in (turns ++ made ∷ [])
  ended-commands ended items noted =
      let answer : made.turn.answer ≡ Ended = just.reports.answer ∙ ap (λ b. answer_in b turn.event turn.reply) ended in
      noted ∙ sym (append-nil (commands_in turns)) ∙ ap (λ (t : Option ℕ). commands_in turns
      ++ command_time t made.actor) (sym (just.ended answer)) ∙ sym (commands-one_more turns made)

  history-few : length seen.history ≤ length turns + 1
  history-few = omega (arith, turns_made-length program seen.history, ap length just.has.counted, counted-few all, length-append turns (made ∷ []))

  -- the last end is still early
  pub early-noted : (end last next : ℕ) → end ≤ (length seen.history + 1) * 2 ^ 32 → last ≤ (length turns + 1) * 2 ^ 32
      → next ≤ max end last → next ≤ (length (turns ++ made ∷ []) + 1) * 2 ^ 32
  early-noted end last next early before within =
      omega (arith, early, before, within, history-few, length-append turns (made ∷ []))

-- ---- what was gathered

pub gathered : {seen : Seen} (what : By) (program : Program) (system : Seen) (names : List (List ℕ))
    (stretches : List Stretch) (commands : List ℕ) → system ≡ seen → HasMade program (program_turns program) seen
    → names ≡ names_by what (world_of system).state → stretches ≡ stretches_in what [] (program_turns program)
    → commands ≡ commands_in (program_turns program)
    → record { by = what; names = names; stretches = stretches; origin = 0; window = None; commands = commands }
    ≡ curves_after what program (program_turns program)
gathered what program system names stretches commands same has named noted told =
    let world = ap world_of same ∙ has.world in
    let columns = named ∙ ap (λ (w : World). names_by what w.state) world in
    (λ i. record { by = what; names = columns i; stretches = noted i; origin = 0; window = None; commands = told i })
