use Rattle.lot_playback.proofs.Lemmas.{Bool, Clock, HaveIdled, List, State, ap, arith, clock-at, clock_after_console, clock_of, clocks_after_console, console-idled, drop, get_or, idle_to, if◌then◌else◌, is_none, length, map, range_with_len, set, set-all, set-at, set-length, set-more, subst, sym, thread_on, world_of, ◌++◌, ◌+◌, ◌<◌, ◌||◌, ◌∙◌, ◌≡◌}
use Rattle.lot_playback.proofs.clocks.Clocks.follow_console.Goals as goal

pub after_console-requires : goal.after_console-requires
after_console-requires c =
    let xs = c.args.self.now.processors.items in
    let i = c.loop-place.place in
    let clock = c.index.result.now in
    let f = clock_after_console (world_of c.args.system.now).state c.args.time xs in
    let is : clock ≡ get_or xs i clock = c.index.ensures
    ∙ ap (λ (l : List Clock). get_or l i clock) c.loop-place.invariant.clocks
    ∙ set-at f xs 1 i clock (omega (arith, c.loop-place-test.true, c.len-place-end.ensures)) in
    let idle : clock.idle ≡ (get_or xs i clock).idle = ap (λ (k : Clock). k.idle) is in
    let bound = c.requires.idled.2 i clock (omega (arith, c.loop-place-test.true, c.len-place-end.ensures)) in
    omega (arith, idle, bound, c.requires.idled.1)

pub loop-place-preserved : goal.loop-place-preserved
loop-place-preserved c =
    let xs = c.args.self.now.processors.items in
    let i = c.loop-place.place in
    let s : State = (world_of c.args.system.now).state in
    let time = c.args.time in
    let f = clock_after_console s time xs in
    let clock = c.index.result.now in
    let inv = c.loop-place.invariant.clocks in
    let below : i < length xs = omega (arith, c.loop-place-test.true, c.len-place-end.ensures) in
    let is : clock ≡ clock_of xs (i + 1) = c.index.ensures ∙ ap (λ (l : List Clock). get_or l i clock) inv
    ∙ set-at f xs 1 i clock below ∙ sym (clock-at xs i clock below) in
    let idle : c.is_idle-is_idle.result ≡ is_none (thread_on s.records (i + 1)) = c.is_idle-is_idle.ensures in
    let new : c.after_console.result ≡ f (i + 1) =
    c.after_console.ensures
    ∙ ap (λ (b : Bool). if clock.waits || b then idle_to time clock else clock) idle
    ∙ ap (λ (k : Clock). if k.waits || is_none (thread_on s.records (i + 1)) then idle_to time k else k) is in
    record {
      time = c.loop-place.invariant.time;
      clocks = ap (λ (l : List Clock). set l i c.after_console.result) inv
          ∙ ap (set (map f (range_with_len 1 i) ++ drop i xs) i) new ∙ set-more f xs i below;
    }

pub returns-clause-clocks : goal.returns-clause-clocks
returns-clause-clocks c =
    let xs = c.args.self.now.processors.items in
    c.loop-place.invariant.clocks
    ∙ set-all (clock_after_console (world_of c.args.system.now).state c.args.time xs) xs c.loop-place.place
    (omega (arith, c.loop-place-test.false, c.loop-place.auto.place-end, c.len-place-end.ensures))

pub returns-clause-idled : goal.returns-clause-idled
returns-clause-idled c =
    let xs = c.args.self.now.processors.items in
    let s : State = (world_of c.args.system.now).state in
    let all : c.loop-place.self.processors.items ≡ clocks_after_console s c.args.time xs =
    c.loop-place.invariant.clocks ∙ set-all (clock_after_console s c.args.time xs) xs c.loop-place.place
    (omega (arith, c.loop-place-test.false, c.loop-place.auto.place-end, c.len-place-end.ensures)) in
    λ n idled. subst (HaveIdled (n + 1)) (sym all) (console-idled s n c.args.time xs (omega arith) idled)

pub returns-clause-count : goal.returns-clause-count
returns-clause-count c =
    let xs = c.args.self.now.processors.items in
    let now = c.loop-place.self.processors in
    let same : length now.items ≡ length xs =
    ap length c.loop-place.invariant.clocks ∙ set-length (clock_after_console (world_of c.args.system.now).state
    c.args.time xs) xs 1 c.loop-place.place (omega (arith, c.loop-place.auto.place-end, c.len-place-end.ensures)) in
    omega (arith, same, c.args.self.now.processors.ok.0, now.ok.0)
