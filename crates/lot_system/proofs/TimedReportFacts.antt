-- The report of timed turns is that of the definitions for all of the program's turns.
use Rattle.lot_system.proofs.Common.{AreCurrencies, AreDue, AreReadyFor, AreRefusedTraps, AreSpans, Cell, Counts, Currency, Due, EarlyEnd, IsAtEnd, Layout, List, Moment, None, Option, PastLives, Processor, Program, Record, Seen, Sizes, Some, Spans, State, Subject, Thread, ThreadRow, Threads, TimedTurn, Timekeeper, Told, Total, World, [], actor_turns, ap, arith, at_number, counted, currency_cells, currency_name, early_end, early_text, end_of, ended_at, fold, fold_push, following, if_any, last_moment, length, length-map, life_change, live_part, map, mean, moment_after_all, moment_in, mutex_change, no_lives, opening, opening_moment, opening_world, option_and_then, option_map, option_map_or, quiet, range_with_len, range_with_len-push, refl, refusals_in, reply_change, report_at, room-few, room-small, row_of_thread, span_cells, spans_in, subject_text, subst, sym, system_after, system_turn, thread_cells, thread_name, thread_row, ticks_in, timed-made, timed_report, timed_report_of, timed_turns, told, told_in, told_text, total_of, turn-limits, turns_made, value_of, wait_cells, with_lives, within-room, world_of, ℕ, ◌++◌, ◌+◌, ◌<◌, ◌^◌, ◌∙◌, ◌∷◌, ◌≡◌}

-- ---- all of the program's turns

-- turns keep the sizes
run-limits : (program : Program) (w : World) (actors : List ℕ)
    → (system_after program w actors).state.limits ≡ w.state.limits
run-limits program w [] = refl
run-limits program w (actor ∷ actors) = run-limits program (system_turn program w actor).world actors
    ∙ turn-limits program w actor

module _ (seen : Seen) (timekeeper : Timekeeper) (end : IsAtEnd seen timekeeper) where
  abbrev all : List TimedTurn
  all = timed_turns seen.setting.program

  pub history-short : length seen.history < 2 ^ 31
  history-short = omega (arith, room-small, within-room seen.setting.program seen timekeeper end.followed)

  history-is : seen.history ≡ map (λ (turn : TimedTurn). turn.actor) all
  history-is = end.followed.history ∙ ap (map (λ (turn : TimedTurn). turn.actor)) end.all

  -- the turns that the system has made are the program's
  pub turns-are : turns_made seen.setting.program seen.history ≡ actor_turns all
  turns-are = ap (turns_made seen.setting.program) history-is ∙ sym (timed-made seen.setting.program)

  -- so many commands were refused
  pub refused-are : timekeeper.refused ≡ total_of refusals_in (actor_turns all)
  refused-are = end.followed.followed.refused ∙ ap (λ ts. total_of refusals_in (actor_turns ts)) end.all

  -- how the threads have waited
  pub mutexes-are : AreSpans mutex_change all (length seen.history) timekeeper.mutexes.threads.items
  mutexes-are = subst (λ ts. AreSpans mutex_change ts (length seen.history) timekeeper.mutexes.threads.items) end.all
      end.followed.followed.mutexes

  pub replies-are : AreSpans reply_change all (length seen.history) timekeeper.replies.threads.items
  replies-are = subst (λ ts. AreSpans reply_change ts (length seen.history) timekeeper.replies.threads.items) end.all
      end.followed.followed.replies

  -- how long they have lived
  pub lives-are : AreSpans life_change all (length seen.history) timekeeper.lives.threads.items
  lives-are = subst (λ ts. AreSpans life_change ts (length seen.history) timekeeper.lives.threads.items) end.all
      end.followed.followed.lives

  -- how long they have waited to run
  pub ready-are : AreReadyFor all (length seen.history) (world_of seen).state timekeeper.ready.threads.items
  ready-are = subst (λ ts. AreReadyFor ts (length seen.history) (world_of seen).state timekeeper.ready.threads.items)
      end.all end.followed.dues.ready

  pub turns-few : length seen.history < 2 ^ 24
  turns-few = omega (arith, room-few, within-room seen.setting.program seen timekeeper end.followed)

  -- what they are due
  pub dues-are : AreDue Threads (opening (world_of seen).state.limits) all (length seen.history)
      (world_of seen).state timekeeper.dues
  dues-are =
      subst (λ (sizes : Sizes). AreDue Threads (opening sizes) all (length seen.history) (world_of seen).state
      timekeeper.dues) (sym (run-limits seen.setting.program (opening_world seen.setting.program) seen.history))
      (subst (λ ts. AreDue Threads (opening seen.setting.program.limits) ts (length seen.history)
      (world_of seen).state timekeeper.dues) end.all end.followed.dues.dues)

  -- the ticks of the threads below currencies, and what those are due
  pub currencies-are : AreCurrencies (opening (world_of seen).state.limits) all (length seen.history)
      (world_of seen).state timekeeper.currencies
  currencies-are =
      subst (λ (sizes : Sizes). AreCurrencies (opening sizes) all (length seen.history) (world_of seen).state
      timekeeper.currencies) (sym (run-limits seen.setting.program (opening_world seen.setting.program) seen.history))
      (subst (λ ts. AreCurrencies (opening seen.setting.program.limits) ts (length seen.history)
      (world_of seen).state timekeeper.currencies) end.all end.followed.dues.currencies)

  -- how many of their traps were refused
  pub traps-are : AreRefusedTraps all (length seen.history) timekeeper.refused_traps.threads.items
  traps-are = subst (λ ts. AreRefusedTraps ts (length seen.history) timekeeper.refused_traps.threads.items) end.all
      end.followed.followed.refused_traps

  -- the moment after the last turn
  pub last-is : moment_in seen timekeeper ≡ last_moment seen.setting.program
  last-is = end.followed.moment ∙ ap (moment_after_all (opening_moment seen.setting.program)) end.all

  -- as many as the program makes
  count-is : length seen.history ≡ length all
  count-is = ap length history-is ∙ length-map all (λ (turn : TimedTurn). turn.actor)

  -- the report of what the system has come to is the program's
  pub report-is : (program : Program) → seen.setting.program ≡ program
      → timed_report_of program (moment_in seen timekeeper) (ended_at program (moment_in seen timekeeper)) all
      ++ early_text (early_end program (moment_in seen timekeeper) (length seen.history)) ≡ timed_report program
  report-is program same =
      let m = moment_in seen timekeeper in
      ap (λ n. timed_report_of program m (ended_at program m) all ++ early_text (early_end program m n)) count-is
      ∙ ap (λ (m : Moment). report_at program m all) last-is
      ∙ ap (λ (p : Program). report_at program (last_moment p) (timed_turns p)) same

-- ---- early ends

-- how a play ended early, if a turn would follow
pub early-is : (program : Program) (m : Moment) (due : Due) (end turns n : ℕ) → Some due ≡ following program m → end
    ≡ end_of program → turns ≡ n → Some (record { time = m.time; end = end; turns = turns }) ≡ early_end program m n
early-is program m due end turns n is last made =
    rw (last, made) (ap (option_map (λ (d : Due). record { time = m.time; end = end_of program; turns = n })) is)

-- the line of the early end of a system that stays as it is
pub early-line : (seen now : Seen) (timekeeper : Timekeeper) (program : Program) (early : Option EarlyEnd) → now ≡ seen
    → early ≡ early_end program (moment_in now timekeeper) (length now.history)
    → early_text early ≡ early_text (early_end program (moment_in seen timekeeper) (length seen.history))
early-line seen now timekeeper program early same is =
    ap early_text (is ∙ ap (λ (x : Seen). early_end program (moment_in x timekeeper) (length x.history)) same)

-- ---- what the report tells of a subject

-- a thread's row shows its value
row-value : (s : State) (t : ℕ) (row : ThreadRow) (name : Option (List ℕ)) (o : Option Record)
    → option_and_then (λ n. option_map (row_of_thread s t) o) name ≡ Some row → row.value ≡ value_of s t
row-value s t row None o is = absurd (cc)
row-value s t row (Some name) None is = absurd (cc)
row-value s t row (Some name) (Some r) is = let e : row_of_thread s t r ≡ row = cc in
    sym (ap (λ (x : ThreadRow). x.value) e)

-- the ticks of all turns
pub ticks-are : (seen last : Seen) (timekeeper : Timekeeper) (c : Counts) → IsAtEnd seen timekeeper → last ≡ seen
    → c ≡ counted (turns_made last.setting.program last.history)
    → c.ticks ≡ total_of ticks_in (actor_turns (timed_turns seen.setting.program))
ticks-are seen last timekeeper c end same counts =
    ap (λ (x : Counts). x.ticks) counts ∙ ap (λ (x : Seen). total_of ticks_in (turns_made x.setting.program x.history))
    same ∙ ap (total_of ticks_in) (turns-are seen timekeeper end)

-- a live thread's part is that of the value in its row
pub part-is : (s : State) (t : ℕ) (row : ThreadRow) → thread_row s t ≡ Some row
    → live_part s t (value_of s t) ≡ live_part s t row.value
part-is s t row is = ap (live_part s t) (sym (row-value s t row (thread_name s t) (at_number s.records t) is))

-- the text of what the report tells of a subject, if it exists
pub text-is : (layout : Layout) (m : Moment) (end : ℕ) (turns : List TimedTurn) (subject : Subject) (n : ℕ)
    → option_map_or (λ (told : Told). told_text layout subject n told.name told.cells.items)
    (told_in m end turns subject n) [] ≡ subject_text layout m end turns subject n
text-is layout m end turns Thread t = of-row (thread_row m.world.state t)
  where
    of-row : (o : Option ThreadRow)
        → option_map_or (λ (told : Told). told_text layout Thread t told.name told.cells.items)
        (option_map (λ (row : ThreadRow). told row.name (thread_cells m.world.state turns t row)) o) []
        ≡ option_map_or
        (λ (row : ThreadRow). told_text layout Thread t row.name (thread_cells m.world.state turns t row)) o []
    of-row None = refl
    of-row (Some row) = refl
text-is layout m end turns Currency c = of-name (currency_name m.world.state c)
  where
    of-name : (o : Option (List ℕ))
        → option_map_or (λ (told : Told). told_text layout Currency c told.name told.cells.items)
        (option_map (λ (name : List ℕ). told name (currency_cells m.world.state turns c)) o) []
        ≡ option_map_or
        (λ (name : List ℕ). told_text layout Currency c name (currency_cells m.world.state turns c)) o []
    of-name None = refl
    of-name (Some name) = refl
text-is layout m end turns Processor p = refl
text-is layout m end turns Total n = refl

-- ---- cells of spans of time

-- of a thread's waits of one kind
pub waits-are : (count average longest : Cell) (w v : Spans) → count ≡ quiet w.count → average ≡ mean w.total w.count
    → longest ≡ if_any w.count w.longest → w ≡ v → count ∷ average ∷ longest ∷ [] ≡ wait_cells v
waits-are count average longest w v one two three is = (λ i. one i ∷ two i ∷ three i ∷ []) ∙ ap wait_cells is

-- of past lives
pub lives-cells : (count average longest : Cell) (l m : PastLives) → count ≡ quiet l.count
    → average ≡ mean l.total l.count → longest ≡ if_any l.count l.longest → l ≡ m
    → count ∷ average ∷ longest ∷ [] ≡ span_cells m.count m.total m.longest
lives-cells count average longest l m one two three is = (λ i. one i ∷ two i ∷ three i ∷ [])
    ∙ ap (λ (lives : PastLives). span_cells lives.count lives.total lives.longest) is

-- ---- past lives

-- those of one number more
pub lives-more : (s : State) (turns : List TimedTurn) (k : ℕ) (lives : PastLives) (spans : Spans)
    → lives ≡ fold (λ l t. with_lives l (spans_in life_change turns t)) no_lives (range_with_len 1 k)
    → spans ≡ spans_in life_change turns (k + 1)
    → with_lives lives spans
    ≡ fold (λ l t. with_lives l (spans_in life_change turns t)) no_lives (range_with_len 1 (k + 1))
lives-more s turns k lives spans is own =
    let step : PastLives → ℕ → PastLives = λ l t. with_lives l (spans_in life_change turns t) in
    ap (λ l. with_lives l spans) is ∙ ap (with_lives (fold step no_lives (range_with_len 1 k))) own
    ∙ sym (fold_push step no_lives (range_with_len 1 k) (k + 1)) ∙ ap (fold step no_lives) (sym (range_with_len-push k))
