use Rattle.lot_system.proofs.Lemmas.{ActorTurn, Counts, TimedTurn, ap, counted, if_any, length-map, lives-cells, number, refused-are, timed_turns, turns-are, ◌∷◌, ◌∙◌}
use Rattle.lot_simulation.specs.TimedReport.{total_cells}
use Rattle.lot_system.proofs.told.total_cells.Goals as goal

pub returns : goal.returns
unfolding total_cells
returns c =
    let s = c.args.system.now in
    let w = c.args.timekeeper.now in
    let turns = timed_turns s.setting.program in
    let counts = c.total-counts.ensures ∙ ap counted (turns-are s w c.requires.end) in
    let made = ap (λ (t : Counts). t.turns) counts ∙ length-map turns (λ (done : TimedTurn). let answer : ActorTurn =
    record { actor = done.actor; answer = done.turn.answer } in answer) in
    let all = c.number.ensures ∙ ap number made in
    let quanta = c.number-2.ensures ∙ ap (λ (t : Counts). number t.quanta) counts in
    let ticks = c.number-3.ensures ∙ ap (λ (t : Counts). number t.ticks) counts in
    let refused = c.number-4.ensures ∙ ap number (refused-are s w c.requires.end) in
    let left = c.number-5.ensures ∙ ap number c.commands_left-left.ensures in
    let lives =
    lives-cells c.quiet.result c.mean.result c.if_any.result c.past_lives-lives.result _ c.quiet.ensures c.mean.ensures
    (c.if_any.ensures ∙ ap (if_any c.past_lives-lives.result.count) c.from.ensures) c.past_lives-lives.ensures.lives in
    λ i. all i ∷ quanta i ∷ ticks i ∷ refused i ∷ left i ∷ lives i
