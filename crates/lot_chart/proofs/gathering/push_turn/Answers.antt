use Rattle.lot_chart.proofs.Lemmas.{Answered, Expire, Stretch, ap, arith, columns-pushed, on-both, on-ok, thread-pushed}
use Rattle.lot_chart.proofs.gathering.push_turn.Goals as goal

pub returns-in-Thread-clause-turn : goal.returns-in-Thread-clause-turn
returns-in-Thread-clause-turn c =
    on-ok c.push_stretch.result (λ pushed s actor e ran searched.
    thread-pushed s c.args.by (record { time = c.args.end; answer = Answered e c.args.reply }) c.new-stretch.result
    c.args.stretches.now.items c.push_stretch.new.stretches.items c.in-Thread.is (c.new-stretch.ensures e) pushed)
    c.push_stretch.ensures.pushed

pub returns-in-Thread-clause-early : goal.returns-in-Thread-clause-early
returns-in-Thread-clause-early c =
    let end = ap (λ (x : Stretch). x.end) (c.new-stretch.ensures (Expire 0)) in
    on-ok c.push_stretch.result (λ early. omega (arith, early, end)) c.push_stretch.ensures.early

pub returns-in-Currency-clause-turn : goal.returns-in-Currency-clause-turn
returns-in-Currency-clause-turn c =
    on-both c.push_columns.result (λ columns none s actor e ran searched.
    columns-pushed s actor c.args.by c.args.end e c.args.reply c.args.above.now c.args.count c.new-stretch.result
    c.has_run.result c.args.stretches.now.items c.push_columns.new.stretches.items c.in-Currency.is
    (c.new-stretch.ensures e) c.has_run.ensures ran searched columns none)
    c.push_columns.ensures.columns c.push_columns.ensures.none

pub returns-in-Currency-clause-early : goal.returns-in-Currency-clause-early
returns-in-Currency-clause-early c =
    let end = ap (λ (x : Stretch). x.end) (c.new-stretch.ensures (Expire 0)) in
    on-ok c.push_columns.result (λ early. omega (arith, early, end)) c.push_columns.ensures.early
