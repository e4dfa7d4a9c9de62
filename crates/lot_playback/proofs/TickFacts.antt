-- The ticks of the threads below currencies, turn by turn.
use Rattle.lot_playback.proofs.Common.{Answered, Answers, AreCurrencies, AreDue, Bool, Command, Currencies, CurrencyTable, Drawn, Ended, Event, FoundNodes, HasFound, HasFoundFor, HasOthersAbove, HaveAdded, HaveRun, IsBetween, IsTrue, List, None, Option, Program, RanOn, Record, Refusal, Reply, Running, ScriptTrap, Slice, Some, State, Step, TimedTurn, TurnAnswer, World, action_of, actor_event, ap, arith, cases_eq, cases_lt, command_effect, command_refusal, console_turn, currency_ticks_after, currency_ticks_from, currency_ticks_in, draw, eq-eqb, event-for, event_effect, event_for, event_of_slice, event_refusal, false, found-runs, get_or-set_at, get_or-set_other, if◌then◌else◌, inl, inr, length, length-set, makes_currency, map, nat_le, ne_eqb, next_name, number_of, numbered, processor_event, ready_threads, refl, resolved, set, slice_index, slice_on, stands_below, state_after, step, subst, sym, system_turn, thread_on, thread_there, ticks_below, ticks_in, true, unless_refused, unwrap_or, weight_of, winner, ℕ, [], ◌++◌, ◌+◌, ◌-◌, ◌<◌, ◌==◌, ◌^◌, ◌↔◌, ◌∙◌, ◌∷◌, ◌≡◌, ◌≢◌, ◌≤◌, ◌⊎◌}
use Rattle.lot_machine.specs.declared.command.Command.TheVariants as command
use Rattle.lot_machine.specs.declared.event.Event.TheVariants as event
use Rattle.lot_machine.specs.declared.reply.Reply.TheVariants as reply
use Rattle.lot_playback.proofs.MadeCurrencies.{new-told}

-- ---- the thread of a turn

unless-ran : (s : State) (p : ℕ) (o : Option Refusal) (next : Step) → RanOn s p next.reply
    → RanOn s p (unless_refused s o next).reply
unless-ran s p None next ran = ran
unless-ran s p (Some why) next ran = tt

-- a command runs no thread
command-ran : (s : State) (p : ℕ) (c : Command) → RanOn s p (command_effect s c).reply
command-ran s p (command.List kind) = tt
command-ran s p other = tt

draw-ran : (s : State) (p d : ℕ) → RanOn s p (draw s p d).reply
draw-ran s p d = at (winner (map (weight_of s) (ready_threads s.records)) d) refl
  where
    at : (o : Option Drawn) → winner (map (weight_of s) (ready_threads s.records)) d ≡ o → RanOn s p (draw s p d).reply
    at None is = rw is tt
    at (Some w) is = rw is tt

module _ (w : World) (p : ℕ) (low : 0 < p) where
  there-is : (t : ℕ) → thread_on w.state.records p ≡ Some t
      → (0 < p) × (thread_on w.state.records p ≡ Some (thread_there w.state p))
  there-is t is = (low, is ∙ ap Some (sym (ap (λ o. unwrap_or o 0) is)))

  -- the end of a slice is of the thread that runs there
  slice-ran : (t drawn : ℕ) (slice : Slice) → thread_on w.state.records p ≡ Some t
      → RanOn w.state p (step w.state (event_of_slice p drawn slice)).reply
  slice-ran t drawn slice is = by slice.trap refl
    where
      by : (o : Option ScriptTrap) → slice.trap ≡ o
          → RanOn w.state p (step w.state (event_of_slice p drawn slice)).reply
      by None none = rw none (unless-ran w.state p (event_refusal w.state (event.Expire p))
          (event_effect w.state (event.Expire p)) (there-is t is))
      by (Some trap) some =
          let action = action_of trap slice.end.accumulator drawn in
          rw some (unless-ran w.state p (event_refusal w.state (event.Trap p slice.ticks action))
          (event_effect w.state (event.Trap p slice.ticks action)) (there-is t is))

  processor-ran : RanOn w.state p (step w.state (processor_event w p)).reply
  processor-ran =
      subst (λ e. RanOn w.state p (step w.state e).reply) (sym (event-for w p)) (by (thread_on w.state.records p) refl)
    where
      by : (o : Option ℕ) → thread_on w.state.records p ≡ o → RanOn w.state p (step w.state (event_for w p o)).reply
      by None is = unless-ran w.state p (event_refusal w.state (event.Draw p (number_of w p)))
          (draw w.state p (number_of w p)) (draw-ran w.state p (number_of w p))
      by (Some t) is = slice-ran t (number_of w p) (slice_on w p t) is

-- the thread on a processor has a number
pub runner-there : (records : List Record) (p t : ℕ) → thread_on records p ≡ Some t → IsBetween 1 (length records) t
runner-there records p t on =
    let (used, runs) = found-runs records p t on in
    let (low, high) = numbered records t (Running p used) runs in
    (low, omega (arith, high))

-- a turn's reply says which thread ran
pub ran-on : (program : Program) (w : World) (actor : ℕ) (e : Event) (r : Reply)
    → (system_turn program w actor).answer ≡ Answered e r → RanOn w.state actor r
ran-on program w actor e r is = by (cases_eq actor 0)
  where
    reply_or : TurnAnswer → Reply
    reply_or (Answered x y) = y
    reply_or Ended = r

    made : (x : Event) → RanOn w.state actor (step w.state x).reply → Answered x (step w.state x).reply ≡ Answered e r
        → RanOn w.state actor r
    made x ran same = subst (RanOn w.state actor) (ap reply_or same) ran

    console : (cs : List Command) → (console_turn program w cs).answer ≡ Answered e r → RanOn w.state actor r
    console [] same = cc
    console (c ∷ cs) same =
        let command = resolved w.tickets (next_name w) c in
        made (event.Command command) (unless-ran w.state actor (command_refusal w.state command)
        (command_effect w.state command) (command-ran w.state actor command)) same

    other : 0 < actor → (b : Bool) → RanOn w.state actor
        (step w.state (if b then processor_event w actor else event.Wake (actor - program.limits.processors))).reply
    other low true = processor-ran w actor low
    other low false =
        let t = actor - program.limits.processors in
        unless-ran w.state actor (event_refusal w.state (event.Wake t)) (event_effect w.state (event.Wake t)) tt

    by : (actor ≡ 0) ⊎ (actor ≢ 0) → RanOn w.state actor r
    by (inl none) =
        let yes : (actor == 0) ≡ true = eq-eqb actor 0 none in
        console w.commands (rw yes at is)
    by (inr some) =
        let no : (actor == 0) ≡ false = ne_eqb actor 0 some in
        made (actor_event program w actor) (other (omega (arith, some)) (nat_le actor program.limits.processors))
        (rw no at is)

-- so what was found above the thread on the processor is above the one that ran
pub found-for : (s : State) (p : ℕ) (r : Reply) (above : FoundNodes) → RanOn s p r
    → ((t : ℕ) → 0 < p → thread_on s.records p ≡ Some t → HasOthersAbove s t above) → HasFoundFor s r above
found-for s p (reply.Expired t ticks) above ran looked = looked t ran.0 ran.1
found-for s p (reply.Trapped t ticks came ends) above ran looked = looked t ran.0 ran.1
found-for s p other above ran looked = tt

-- ---- adding ticks

module _ (above : FoundNodes) (ticks : ℕ) (old : List ℕ) where
  pub none-added : HaveAdded above ticks 0 old old
  none-added = record {
    count = refl;
    found = λ place before below has. absurd (omega (arith, before));
    others = λ place below lacks. refl;
    left = λ place past below. refl;
    least = λ place below. omega arith;
    most = λ place below. omega arith;
  }

  module _ (count : ℕ) (new : List ℕ) (was : HaveAdded above ticks count old new) (there : count < length new) where
    -- one more currency was found
    pub one-added : HasFound above (count + 1)
        → HaveAdded above ticks (count + 1) old (set new count (slice_index new count + ticks))
    one-added has = record { count = length-set new count _ ∙ was.count; found = found; others = others; left = left; least = least; most = most }
      where
        now : List ℕ
        now = set new count (slice_index new count + ticks)

        here : (place : ℕ) → place ≡ count → slice_index now place ≡ slice_index old place + ticks
        here place same =
            get_or-set_at new count place (slice_index new count + ticks) 0 same there
            ∙ ap (λ k. k + ticks) (ap (slice_index new) (sym same)
            ∙ was.left place (omega (arith, same)) (omega (arith, same, there, was.count)))

        elsewhere : (place : ℕ) → place ≢ count → slice_index now place ≡ slice_index new place
        elsewhere place other = get_or-set_other new count place (slice_index new count + ticks) 0 other

        found : (place : ℕ) → place < count + 1 → place < length old → HasFound above (place + 1)
            → slice_index now place ≡ slice_index old place + ticks
        found place before below is = by (cases_eq place count)
          where
            by : (place ≡ count) ⊎ (place ≢ count) → slice_index now place ≡ slice_index old place + ticks
            by (inl same) = here place same
            by (inr other) = elsewhere place other ∙ was.found place (omega (arith, before, other)) below is

        others : (place : ℕ) → place < length old → ¬ HasFound above (place + 1)
            → slice_index now place ≡ slice_index old place
        others place below lacks = elsewhere place (λ same. lacks (subst (λ k. HasFound above (k + 1)) (sym same) has))
            ∙ was.others place below lacks

        left : (place : ℕ) → count + 1 ≤ place → place < length old → slice_index now place ≡ slice_index old place
        left place past below = elsewhere place (λ same. omega (arith, same, past))
            ∙ was.left place (omega (arith, past)) below

        least : (place : ℕ) → place < length old → slice_index old place ≤ slice_index now place
        least place below = by (cases_eq place count)
          where
            by : (place ≡ count) ⊎ (place ≢ count) → slice_index old place ≤ slice_index now place
            by (inl same) = omega (arith, here place same)
            by (inr other) = omega (arith, elsewhere place other, was.least place below)

        most : (place : ℕ) → place < length old → slice_index now place ≤ slice_index old place + ticks
        most place below = by (cases_eq place count)
          where
            by : (place ≡ count) ⊎ (place ≢ count) → slice_index now place ≤ slice_index old place + ticks
            by (inl same) = omega (arith, here place same)
            by (inr other) = omega (arith, elsewhere place other, was.most place below)

    -- one more was not
    pub one-passed : ¬ HasFound above (count + 1) → HaveAdded above ticks (count + 1) old new
    one-passed lacks = record { count = was.count; found = found; others = was.others; left = λ place past below. was.left place (omega (arith, past)) below; least = was.least; most = was.most }
      where
        found : (place : ℕ) → place < count + 1 → place < length old → HasFound above (place + 1)
            → slice_index new place ≡ slice_index old place + ticks
        found place before below is = by (cases_eq place count)
          where
            by : (place ≡ count) ⊎ (place ≢ count) → slice_index new place ≡ slice_index old place + ticks
            by (inl same) = absurd (lacks (subst (λ k. HasFound above (k + 1)) same is))
            by (inr other) = was.found place (omega (arith, before, other)) below is

-- no currency beyond the table's
pub all-added : (above : FoundNodes) (ticks least count : ℕ) (old new : List ℕ)
    → ((place : ℕ) → place < count → place < length old → place < least) → least ≤ count
    → HaveAdded above ticks least old new → HaveAdded above ticks count old new
all-added above ticks least count old new reached within added = record {
  count = added.count;
  found = λ place before below has. added.found place (reached place before below) below has;
  others = added.others;
  left = λ place past below. added.left place (omega (arith, past, within)) below;
  least = added.least;
  most = added.most;
}

-- ---- a turn

-- the ticks of a thread that stands below the currency, or none
below-is : (b : Bool) (P : Type 0) (old new ticks : ℕ) → P ↔ IsTrue b → (P → new ≡ old + ticks) → (¬ P → new ≡ old)
    → new ≡ old + (if b then ticks else 0)
below-is true P old new ticks is found others = found (is.1 refl)
below-is false P old new ticks is found others = others (λ has. let e : false ≡ true = is.0 has in cc) ∙ omega arith

-- those of the thread that ran, or none if none did
ran-more : (s : State) (c : ℕ) (e : Event) (r : Reply) (above : FoundNodes) (old new : ℕ) → HasFoundFor s r above
    → ((t : ℕ) → HasOthersAbove s t above → new ≡ old + (if stands_below s c t then ticks_in r else 0))
    → (ticks_in r ≡ 0 → new ≡ old)
    → new ≡ old + ticks_below s c (Answered e r)
ran-more s c e (reply.Expired t ticks) above old new found ran none = ran t found
ran-more s c e (reply.Trapped t ticks came ends) above old new found ran none = ran t found
ran-more s c e other above old new found ran none = none refl ∙ omega arith

module _ (s next : State) (e : Event) (r : Reply) (answers : Answers s e r next) (above : FoundNodes)
    (found : HasFoundFor s r above) (old mid new : List ℕ)
    (added : HaveAdded above (ticks_in r) (length next.currencies - 1) old mid) (count : length new ≡ length mid)
    (forgotten : (place : ℕ) → place < length mid
    → slice_index new place ≡ (if makes_currency (place + 1) (Answered e r) then 0 else slice_index mid place))
    (short : ticks_in r ≤ 2 ^ 32) where
  -- each currency that isn't new has the ticks of those below it
  below-added : (place : ℕ) → place < length old → place + 1 < length next.currencies → makes_currency (place + 1)
      (Answered e r) ≡ false → slice_index mid place ≡ slice_index old place + ticks_below s (place + 1) (Answered e r)
  below-added place below there none = ran-more s (place + 1) e r above (slice_index old place)
      (slice_index mid place) found ran (λ no. omega (arith, no, added.least place below, added.most place below))
    where
      given : (place + 1 < length s.currencies) ⊎ (length s.currencies ≤ place + 1) → place + 1 < length s.currencies
      given (inl is) = is
      given (inr anew) =
          absurd (let wrong : true ≡ false = sym (new-told s e r next answers (place + 1) anew there) ∙ none in cc)

      ran : (t : ℕ) → HasOthersAbove s t above
          → slice_index mid place ≡ slice_index old place + (if stands_below s (place + 1) t then ticks_in r else 0)
      ran t others =
          below-is (stands_below s (place + 1) t) (HasFound above (place + 1)) (slice_index old place) (slice_index mid
          place) (ticks_in r) (others (place + 1) (omega arith) (given (cases_lt (place + 1) (length s.currencies))))
          (added.found place (omega (arith, there)) below) (added.others place below)

  pub have-run : HaveRun s next (Answered e r) old new
  have-run = record { count = count ∙ added.count; each = each; few = few }
    where
      each : (place : ℕ) → place < length old → place + 1 < length next.currencies
          → slice_index new place ≡ currency_ticks_after s (place + 1) (slice_index old place) (Answered e r)
      each place below there = forgotten place (omega (arith, below, added.count))
          ∙ by (makes_currency (place + 1) (Answered e r)) refl
        where
          by : (b : Bool) → makes_currency (place + 1) (Answered e r) ≡ b → (if b then 0 else slice_index mid place)
              ≡ (if b then 0 else slice_index old place + ticks_below s (place + 1) (Answered e r))
          by true is = refl
          by false is = below-added place below there is

      few : (place : ℕ) → place < length old → slice_index new place ≤ slice_index old place + 2 ^ 32
      few place below = by (makes_currency (place + 1) (Answered e r)) refl
        where
          by : (b : Bool) → makes_currency (place + 1) (Answered e r) ≡ b
              → slice_index new place ≤ slice_index old place + 2 ^ 32
          by true is = omega (arith, forgotten place (omega (arith, below, added.count)) ∙ ap (λ b. if b then 0 else slice_index mid place) is)
          by false is = omega (arith, forgotten place (omega (arith, below, added.count)) ∙ ap (λ b. if b then 0 else slice_index mid place) is, added.most place below, short)

-- ---- one turn more

ticks-more : (first : State) (c ticks : ℕ) (done : List TimedTurn) (turn : TimedTurn)
    → currency_ticks_from first c ticks (done ++ turn ∷ [])
    ≡ currency_ticks_after (state_after first done) c (currency_ticks_from first c ticks done) turn.turn.answer
ticks-more first c ticks [] turn = refl
ticks-more first c ticks (d ∷ done) turn =
    ticks-more d.turn.world.state c (currency_ticks_after first c ticks d.turn.answer) done turn

module _ (first s next : State) (done : List TimedTurn) (n : ℕ) (turn : TimedTurn) (e : Event) (r : Reply)
    (answers : Answers s e r next) (answered : turn.turn.answer ≡ Answered e r) (old new : CurrencyTable)
    (were : AreCurrencies first done n s old) where
  -- what a currency had, or none if it is new
  was-more : (place : ℕ) → place < length old.ticks.items → place + 1 < length next.currencies
      → currency_ticks_after s (place + 1) (slice_index old.ticks.items place)
      (Answered e r) ≡ currency_ticks_in first (done ++ turn ∷ []) (place + 1)
  was-more place below there =
      by (cases_lt (place + 1) (length s.currencies))
      ∙ sym (ticks-more first (place + 1) 0 done turn ∙ (λ i.
      currency_ticks_after (were.dues.state i) (place + 1) (currency_ticks_in first done (place + 1)) (answered i)))
    where
      after : ℕ → ℕ
      after ticks = currency_ticks_after s (place + 1) ticks (Answered e r)

      by : (place + 1 < length s.currencies) ⊎ (length s.currencies ≤ place + 1)
          → after (slice_index old.ticks.items place) ≡ after (currency_ticks_in first done (place + 1))
      by (inl given) = ap after (were.ticks place below given)
      by (inr anew) =
          let made = new-told s e r next answers (place + 1) anew there in
          let none : (ticks : ℕ) → after ticks ≡ 0 =
          λ ticks. ap (λ b. if b then 0 else ticks + ticks_below s (place + 1) (Answered e r)) made in
          none (slice_index old.ticks.items place) ∙ sym (none (currency_ticks_in first done (place + 1)))

  pub currencies-more : HaveRun s next (Answered e r) old.ticks.items new.ticks.items
      → AreDue Currencies first (done ++ turn ∷ []) (n + 1) next new.dues
      → AreCurrencies first (done ++ turn ∷ []) (n + 1) next new
  currencies-more run dues = record {
    ticks = λ place below there. let within : place < length old.ticks.items = omega (arith, below, run.count) in
        run.each place within there ∙ was-more place within there;
    few = λ place below. let within : place < length old.ticks.items = omega (arith, below, run.count) in
        omega (arith, run.few place within, were.few place within);
    dues = dues;
  }
