-- The text written for a turn, with its explanation.
use Rattle.lot_explain.proofs.Common.{Answered, Begins, Bool, Command, Detail, Ended, Err, Event, Gathered, HasJustMade, HasLots, IfSome, IoFault, IsExplained, IsPut, LineStyle, List, Loan, Lot, MadeTurn, Ok, Option, Program, Put, Reply, Result, Seen, Sizes, State, TurnAnswer, TurnMade, World, actor_event, answer_in, answer_text, ap, append_assoc, begins-front, codes, cond, console_turn, decimal, detail_text, explained_made, false, front, funding_in, loans_of, lots_of, lots_text, newline, next_name, opening_world, printed_actor, processor_turn, puts-both, puts-stop, refl, refused, reply_text, resolved, step, step-limits, style_at, subst, sym, system_turn, total_of, true, won_in, won_lines, world-one_more, world_of, ℕ, [], ◌++◌, ◌==◌, ◌∙◌, ◌∷◌, ◌≡◌}
use Rattle.lot_machine.specs.declared.event.Event.TheVariants as event
use Rattle.lot_playback.specs.declared.turn.Turn.{Turn as ATurn}
use Rattle.lot_explain.specs.declared.detail.Detail.TheVariants as detail
use Rattle.lot_explain.proofs.FundingFacts.{funding-same}
use Rattle.lot_explain.proofs.WonFacts.{turn-state, won-total}

-- one text that is put after another
pub put-then : {U : Type 0} (old mid new : Option (List ℕ)) (before waits after a b : List ℕ) (failed : Bool)
    (r : Result U IoFault) → IsPut old mid before waits a → Put mid new waits after failed r b
    → Put old new before after failed r (a ++ b)
put-then old mid new before waits after a b failed (Ok done) one two =
    (two.0, puts-both old mid new before waits after a b one two.1)
put-then old mid new before waits after a b failed (Err fault) one two =
    (two.0, two.1, puts-stop old mid new before waits [] a b one two.2)

-- a beginning of the first is one of both
pub begins-first : (old new : Option (List ℕ)) (before a b : List ℕ) → Begins old new (before ++ a)
    → Begins old new (before ++ (a ++ b))
begins-first old new before a b one =
    subst (Begins old new) (append_assoc before a b) (begins-front old new (before ++ a) b one)

-- ---- the sizes

-- a turn leaves them as they are
turn-limits : (program : Program) (w : World) (actor : ℕ)
    → (system_turn program w actor).world.state.limits ≡ w.state.limits
turn-limits program w actor = at (actor == 0)
  where
    console : (commands : List Command) → (console_turn program w commands).world.state.limits ≡ w.state.limits
    console [] = refl
    console (c ∷ cs) = step-limits w.state (event.Command (resolved w.tickets (next_name w) c))

    at : (b : Bool) → (cond b (console_turn program w w.commands)
        (processor_turn w actor (actor_event program w actor))).world.state.limits ≡ w.state.limits
    at true = console w.commands
    at false = step-limits w.state (actor_event program w actor)

-- ---- the text of a turn

module _ (made : MadeTurn) (m : LineStyle) (a : ℕ) (of_m : m ≡ style_at made.time)
    (of_a : a ≡ printed_actor made.turn.world.state made.actor) where
  -- of one that goes
  answered-is : (detail : Detail) (u : ℕ) (lots : List Lot) (loans : List Loan) (s : State) (e : Event) (r : Reply)
      → u ≡ made.before.state.limits.unit → lots ≡ lots_of made.before.state e → loans ≡ loans_of made.before.state e
      → s ≡ made.turn.world.state → made.turn.answer ≡ Answered e r
      → funding_in detail (won_in e r) m u a made.before.state ++ (won_lines m u a lots loans (won_in e r)
      ++ (front m ++ (decimal a ++ (codes " " ++ reply_text m s e r)))) ≡ explained_made detail made
  answered-is detail.Funding u lots loans s e r of_u of_lots of_loans of_s is =
      rw (of_m, of_a, of_u, of_lots, of_loans, of_s)
      (ap (λ (x : TurnAnswer). detail_text detail.Funding (style_at made.time)
      (printed_actor made.turn.world.state made.actor) made.before.state x
      ++ (lots_text (style_at made.time) (printed_actor made.turn.world.state made.actor) made.before.state x
      ++ (front (style_at made.time) ++ (decimal (printed_actor made.turn.world.state made.actor)
      ++ (codes " " ++ answer_text (style_at made.time) made.turn.world.state x))))) (sym is))
  answered-is detail.Lots u lots loans s e r of_u of_lots of_loans of_s is =
      rw (of_m, of_a, of_u, of_lots, of_loans, of_s)
      (ap (λ (x : TurnAnswer). lots_text (style_at made.time) (printed_actor made.turn.world.state made.actor)
      made.before.state x ++ (front (style_at made.time) ++ (decimal (printed_actor made.turn.world.state made.actor)
      ++ (codes " " ++ answer_text (style_at made.time) made.turn.world.state x)))) (sym is))

  -- and of one without a command
  ended-is : (detail : Detail) → made.turn.answer ≡ Ended
      → front m ++ (decimal a ++ (codes " " ++ (refused 41 (codes "Ended") ++ newline))) ≡ explained_made detail made
  ended-is detail.Funding is =
      rw (of_m, of_a)
      (ap (λ (x : TurnAnswer). detail_text detail.Funding (style_at made.time)
      (printed_actor made.turn.world.state made.actor) made.before.state x
      ++ (lots_text (style_at made.time) (printed_actor made.turn.world.state made.actor) made.before.state x
      ++ (front (style_at made.time) ++ (decimal (printed_actor made.turn.world.state made.actor)
      ++ (codes " " ++ answer_text (style_at made.time) made.turn.world.state x))))) (sym is))
  ended-is detail.Lots is =
      rw (of_m, of_a)
      (ap (λ (x : TurnAnswer). lots_text (style_at made.time) (printed_actor made.turn.world.state made.actor)
      made.before.state x ++ (front (style_at made.time) ++ (decimal (printed_actor made.turn.world.state made.actor)
      ++ (codes " " ++ answer_text (style_at made.time) made.turn.world.state x)))) (sym is))

-- ---- a turn that the system has made

pub just-explained : (program : Program) (seen : Seen) (turn : ATurn) (lots : Gathered) (turns : List MadeTurn)
    (made : MadeTurn) → HasJustMade program turns made turn seen → HasLots program made.before made.actor lots
    → IsExplained seen turn lots made
just-explained program seen turn lots turns made just gathered =
    let same = sym just.has.program_is in
    record {
      turn_is = subst (λ (p : Program). made.turn ≡ system_turn p made.before made.actor) same just.turn_is;
      reports = just.reports;
      world = just.has.world ∙ world-one_more (opening_world program) turns made;
      gathered = subst (λ (p : Program). HasLots p made.before made.actor lots) same gathered;
    }

module _ (seen : Seen) (turn : ATurn) (lots : Gathered) (made : MadeTurn) (is : IsExplained seen turn lots made) where
  abbrev program : Program
  program = seen.setting.program

  unit-is : (world_of seen).state.limits.unit ≡ made.before.state.limits.unit
  unit-is =
      ap (λ (w : World). w.state.limits.unit) is.world
      ∙ ap (λ (t : TurnMade). t.world.state.limits.unit) is.turn_is
      ∙ ap (λ (l : Sizes). l.unit) (turn-limits program made.before made.actor)

  -- the actor is printed as that of the turn
  shown-is : printed_actor (world_of seen).state turn.actor ≡ printed_actor made.turn.world.state made.actor
  shown-is = ap (λ (w : World). printed_actor w.state turn.actor) is.world
      ∙ ap (printed_actor made.turn.world.state) is.reports.actor

  module _ (answered : turn.has_ended ≡ false) where
    abbrev r : Reply
    r = turn.reply

    answer-is : made.turn.answer ≡ Answered turn.event r
    answer-is = is.reports.answer ∙ ap (λ ended. answer_in ended turn.event turn.reply) answered

    system-answer : (system_turn program made.before made.actor).answer ≡ Answered turn.event r
    system-answer = ap (λ (t : TurnMade). t.answer) (sym is.turn_is) ∙ answer-is

    -- the state that the system is in now is that after the event
    after-is : (world_of seen).state ≡ (step made.before.state turn.event).state
    after-is = ap (λ (w : World). w.state) is.world ∙ ap (λ (t : TurnMade). t.world.state) is.turn_is
        ∙ turn-state program made.before made.actor turn.event r system-answer

    gathered-are : (lots.lots ≡ lots_of made.before.state turn.event)
        × (lots.loans ≡ loans_of made.before.state turn.event)
    gathered-are = is.gathered turn.event r system-answer

    -- if a lottery was won, its number is out of the total weight of these lots
    pub total-is : IfSome (won_in turn.event r) (λ won. won.total ≡ total_of lots.lots)
    total-is =
        subst (λ (xs : List Lot). IfSome (won_in turn.event r) (λ won. won.total ≡ total_of xs)) (sym gathered-are.0)
        (won-total program made.before made.actor turn.event r system-answer)

    pub answered-text : (detail : Detail) (m : LineStyle) (a u : ℕ) → m ≡ style_at turn.time
        → a ≡ printed_actor (world_of seen).state turn.actor → u ≡ (world_of seen).state.limits.unit
        → funding_in detail (won_in turn.event r) m u a (world_of seen).state
        ++ (won_lines m u a lots.lots lots.loans (won_in turn.event r) ++ (front m
        ++ (decimal a ++ (codes " " ++ reply_text m (world_of seen).state turn.event r)))) ≡ explained_made detail made
    answered-text detail m a u of_m of_a of_u =
        let rest = won_lines m u a lots.lots lots.loans (won_in turn.event r)
        ++ (front m ++ (decimal a ++ (codes " " ++ reply_text m (world_of seen).state turn.event r))) in
        let funding = ap (funding_in detail (won_in turn.event r) m u a) after-is
        ∙ funding-same m u a made.before.state detail turn.event r in
        ap (λ xs. xs ++ rest) funding
        ∙ answered-is made m a (of_m ∙ ap style_at is.reports.time) (of_a ∙ shown-is) detail u lots.lots lots.loans
        (world_of seen).state turn.event r
        (of_u ∙ unit-is) gathered-are.0 gathered-are.1 (ap (λ (w : World). w.state) is.world) answer-is

  pub ended-text : (detail : Detail) → turn.has_ended ≡ true → (m : LineStyle) (a : ℕ) → m ≡ style_at turn.time
      → a ≡ printed_actor (world_of seen).state turn.actor
      → front m ++ (decimal a ++ (codes " " ++ (refused 41 (codes "Ended") ++ newline))) ≡ explained_made detail made
  ended-text detail ended m a of_m of_a =
      ended-is made m a (of_m ∙ ap style_at is.reports.time) (of_a ∙ shown-is) detail
      (is.reports.answer ∙ ap (λ b. answer_in b turn.event turn.reply) ended)
