use Rattle.lot_system.proofs.Lemmas.{Threads, ap, arith, dues-are, ended_cell, length, life_change, lives-are, made_cell, mutex_change, mutexes-are, opening, part-is, quiet, ready-are, replies-are, reply_change, share, tick_parts, ticks-are, timed_turns, traps-are, turns-few, waits-are, world_of, [], ◌*◌, ◌++◌, ◌∷◌, ◌∙◌}
use Rattle.lot_simulation.specs.TimedReport.{thread_cells}
use Rattle.lot_system.proofs.told.thread_cells.Goals as goal

pub of-due-requires-clause-few : goal.of-due-requires-clause-few
of-due-requires-clause-few c =
    let s = c.args.system.now in
    let w = c.args.timekeeper.now in
    (Threads, opening (world_of s).state.limits, (world_of s).state, timed_turns s.setting.program, length s.history, turns-few s w c.requires.end, dues-are s w c.requires.end)

pub due_share-requires-clause-time : goal.due_share-requires-clause-time
due_share-requires-clause-time c =
    let s = c.args.system.now in
    let w = c.args.timekeeper.now in
    omega (arith, (dues-are s w c.requires.end).short, turns-few s w c.requires.end)

pub returns-clause-cells : goal.returns-clause-cells
unfolding thread_cells
returns-clause-cells c =
    let s = c.args.system.now in
    let w = c.args.timekeeper.now in
    let t = c.args.thread in
    let end = c.requires.end in
    let turns = timed_turns s.setting.program in
    let count = length s.history in
    let row = c.args.row.now in
    let ticks = c.from-all_ticks.ensures ∙ ticks-are s c.live_value-live_value.new.self w c.total.result end
    c.live_value-live_value.ensures.state c.total.ensures in
    let due = c.of-due.ensures.due Threads (opening (world_of s).state.limits) (world_of s).state turns count
    (dues-are s w end) in
    let shared = (dues-are s w end).shared in
    let live = c.live_value-live_value.ensures.value ∙ part-is (world_of s).state t row c.requires.row in
    let ready = waits-are c.wait_count.result c.wait_mean.result c.longest_wait.result c.of-ready.result _
    c.wait_count.ensures c.wait_mean.ensures c.longest_wait.ensures
    (c.of-ready.ensures.ready (world_of s).state turns count (ready-are s w end)) in
    let mutexes = waits-are c.wait_count-2.result c.wait_mean-2.result c.longest_wait-2.result c.of-mutexes.result _
    c.wait_count-2.ensures c.wait_mean-2.ensures c.longest_wait-2.ensures
    (c.of-mutexes.ensures.spans mutex_change turns count (mutexes-are s w end)) in
    let replies = waits-are c.wait_count-3.result c.wait_mean-3.result c.longest_wait-3.result c.of-replies.result _
    c.wait_count-3.ensures c.wait_mean-3.ensures c.longest_wait-3.ensures
    (c.of-replies.ensures.spans reply_change turns count (replies-are s w end)) in
    let traps = c.quiet.ensures
    ∙ ap quiet (c.from.ensures ∙ c.of-refused_traps.ensures turns count (traps-are s w end)) in
    let lives = c.of-lives.ensures.spans life_change turns count (lives-are s w end) in
    let part = c.share.ensures ∙ ap (share row.ticks) ticks in
    let due_part = c.due_share.ensures ∙ (λ i. share (due i) (shared i * tick_parts)) in
    let value = c.share-2.ensures ∙ (λ i. share (live i) (c.requires.values i)) in
    let made = c.made.ensures ∙ ap made_cell lives in
    let ended = c.ended.ensures ∙ ap ended_cell lives in
    λ i. c.number.ensures i ∷ c.number-2.ensures i ∷ part i ∷ due_part i ∷ value i
    ∷ (ready i ++ (mutexes i ++ (replies i ++ (traps i ∷ made i ∷ ended i ∷ []))))
