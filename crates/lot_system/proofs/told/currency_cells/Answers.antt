use Rattle.lot_system.proofs.Lemmas.{ap, arith, currencies-are, length, number, opening, refl, share, tick_parts, ticks-are, timed_turns, turns-few, world_of, [], ◌*◌, ◌∷◌, ◌∙◌}
use Rattle.lot_simulation.specs.TimedReport.{currency_cells}
use Rattle.lot_system.proofs.told.currency_cells.Goals as goal

pub due_of-due-requires-clause-few : goal.due_of-due-requires-clause-few
due_of-due-requires-clause-few c =
    let s = c.args.system.now in
    let w = c.args.timekeeper.now in
    (opening (world_of s).state.limits, (world_of s).state, timed_turns s.setting.program, length s.history, turns-few s w c.requires.end, currencies-are s w c.requires.end)

pub due_share-requires-clause-time : goal.due_share-requires-clause-time
due_share-requires-clause-time c =
    let s = c.args.system.now in
    let w = c.args.timekeeper.now in
    omega (arith, (currencies-are s w c.requires.end).dues.short, turns-few s w c.requires.end)

pub returns : goal.returns
unfolding currency_cells
returns c =
    let s = c.args.system.now in
    let w = c.args.timekeeper.now in
    let end = c.requires.end in
    let are = currencies-are s w end in
    let first = opening (world_of s).state.limits in
    let turns = timed_turns s.setting.program in
    let ticks = c.ticks_of-ticks.ensures first (world_of s).state turns (length s.history) are c.requires.given in
    let all = c.from-all_ticks.ensures ∙ ticks-are s s w c.total.result end refl c.total.ensures in
    let due = c.due_of-due.ensures.due first (world_of s).state turns (length s.history) are in
    let counted = c.number.ensures ∙ ap number ticks in
    let part = c.share.ensures ∙ (λ i. share (ticks i) (all i)) in
    let due_part = c.due_share.ensures ∙ (λ i. share (due i) (are.dues.shared i * tick_parts)) in
    λ i. counted i ∷ part i ∷ due_part i ∷ []
