-- A system that has made turns of its program, and one turn more.
use Rattle.lot_playback.proofs.Common.{ActorTurn, Answered, Bool, Command, Ended, Event, HasMade, IsEnded, List, MadeTurn, Order, Program, Reply, Seen, Setting, Stage, TurnAnswer, TurnMade, World, after_turn, ap, append-nil, console_turn, counted_turn, counted_turns, flat_map-append, made_in, opening_world, refl, sym, turn_in, turns_made, turns_made-answered, world_after_turns, world_of, ℕ, [], ◌++◌, ◌∙◌, ◌∷◌, ◌≡◌}

-- the world after turns is that which the last of them leaves
pub world-one_more : (w : World) (turns : List MadeTurn) (made : MadeTurn)
    → world_after_turns w (turns ++ made ∷ []) ≡ made.turn.world
world-one_more w [] made = refl
world-one_more w (t ∷ turns) made = world-one_more t.turn.world turns made

pub counted-one_more : (turns : List MadeTurn) (made : MadeTurn)
    → counted_turns (turns ++ made ∷ []) ≡ counted_turns turns ++ counted_turn made.actor made.turn.answer
counted-one_more turns made =
    flat_map-append (λ (m : MadeTurn). counted_turn m.actor m.turn.answer) turns (made ∷ [])
    ∙ ap (λ ts. counted_turns turns ++ ts) (append-nil (counted_turn made.actor made.turn.answer))

-- the progress of a play in this order
abbrev pub stage_in : Seen → Order → Stage
stage_in seen order = record { seen = seen; made = made_in seen order }

pub stage-known : (now : Stage) (seen : Seen) (order known : Order) → stage_in seen order ≡ now → order ≡ known
    → stage_in seen known ≡ now
stage-known now seen order known view is = ap (stage_in seen) (sym is) ∙ view

-- a system that was opened for the program has made no turn of it
pub opened-made : (program : Program) (room : ℕ) (timer : Bool)
    → HasMade program [] (record { setting = record { program = program; room = room; timer = timer }; history = [] })
opened-made program room timer = record { program_is = refl; world = refl; counted = refl }

module _ (old now : Seen) (actor : ℕ) (setting : now.setting ≡ old.setting)
    (world : world_of now ≡ (turn_in old actor).world) (made : MadeTurn) (its_actor : made.actor ≡ actor)
    (its_turn : made.turn ≡ turn_in old actor) (counted : turns_made old.setting.program now.history
    ≡ turns_made old.setting.program old.history ++ counted_turn actor (turn_in old actor).answer) where
  -- it has made one turn more
  pub made-more : (program : Program) (turns : List MadeTurn) → HasMade program turns old
      → HasMade program (turns ++ made ∷ []) now
  made-more program turns has = record {
    program_is = ap (λ (s : Setting). s.program) setting ∙ has.program_is;
    world = world ∙ ap (λ (t : TurnMade). t.world) (sym its_turn)
        ∙ sym (world-one_more (opening_world program) turns made);
    counted =
        ap (λ (p : Program). turns_made p now.history) (sym has.program_is)
        ∙ counted
        ∙ ap (λ (p : Program). turns_made p old.history ++ counted_turn actor (turn_in old actor).answer) has.program_is
        ∙ ap (λ (ts : List ActorTurn). ts ++ counted_turn actor (turn_in old actor).answer) has.counted
        ∙ ap (λ a. counted_turns turns ++ counted_turn a (turn_in old actor).answer) (sym its_actor)
        ∙ ap (λ (t : TurnMade). counted_turns turns ++ counted_turn made.actor t.answer) (sym its_turn)
        ∙ sym (counted-one_more turns made);
  }

-- a turn that is answered is counted
pub counted-answered : (old now : Seen) (actor : ℕ) (e : Event) (r : Reply) → now ≡ after_turn old actor
    → (turn_in old actor).answer ≡ Answered e r
    → turns_made old.setting.program now.history ≡ turns_made old.setting.program old.history
    ++ counted_turn actor (turn_in old actor).answer
counted-answered old now actor e r next is =
    ap (λ (s : Seen). turns_made old.setting.program s.history) next
    ∙ turns_made-answered old.setting.program old.history actor e r is
    ∙ ap (λ (a : TurnAnswer). turns_made old.setting.program old.history ++ counted_turn actor a) (sym is)

-- a turn of the console after its last command has no answer
pub ended-answer : (seen : Seen) (actor : ℕ) → IsEnded seen actor → (turn_in seen actor).answer ≡ Ended
ended-answer seen actor is =
    ap (λ a. (turn_in seen a).answer) is.0
    ∙ ap (λ (commands : List Command). (console_turn seen.setting.program (world_of seen) commands).answer) is.1

-- one without a command isn't
pub counted-ended : (old now : Seen) (actor : ℕ) → now ≡ old → (turn_in old actor).answer ≡ Ended
    → turns_made old.setting.program now.history ≡ turns_made old.setting.program old.history
    ++ counted_turn actor (turn_in old actor).answer
counted-ended old now actor same is =
    ap (λ (s : Seen). turns_made old.setting.program s.history) same
    ∙ sym (append-nil (turns_made old.setting.program old.history))
    ∙ ap (λ (a : TurnAnswer). turns_made old.setting.program old.history ++ counted_turn actor a) (sym is)
