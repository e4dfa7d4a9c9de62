use Rattle.lot_text.proofs.Lemmas.{All-actors_of, actors_of-more, arith, length-actors_of, sym, take, take_all, vec_len, ◌+◌, ◌-◌, ◌≡◌}
use Rattle.lot_text.proofs.runs.actors_of.Goals as goal

pub returns-clause-count : goal.returns-clause-count
returns-clause-count c =
    let all : take c.loop-run.run-index c.args.runs.now ≡ c.args.runs.now =
    take_all c.loop-run.run-index c.args.runs.now (omega arith) in
    rw (c.loop-run.invariant, all) (length-actors_of c.args.runs.now)

pub returns-clause-below : goal.returns-clause-below
returns-clause-below c p each =
    let all : take c.loop-run.run-index c.args.runs.now ≡ c.args.runs.now =
    take_all c.loop-run.run-index c.args.runs.now (omega arith) in
    rw (c.loop-run.invariant, all) (All-actors_of p c.args.runs.now each)

pub loop-run-preserved : goal.loop-run-preserved
loop-run-preserved c =
    let actors = c.loop-run.actors.items in
    let len = c.len.result in
    let count = c.run.inside.count in
    let all : take (len + count) actors ≡ actors = take_all (len + count) actors (omega (arith, c.len.ensures)) in
    let more : len + count - vec_len c.loop-run.actors ≡ count = omega (arith, c.len.ensures) in
    rw (c.in_ok-resize.ensures.items, all, more, c.loop-run.invariant)
    (sym (actors_of-more c.args.runs.now c.loop-run.run-index _ c.run-item.result c.loop-run-test.true c.run.view_is
    c.run-item.is))
