use Rattle.lot_chart.proofs.Lemmas.{HasPassed, HaveSome}
use Rattle.lot_chart.proofs.gauges.pass_all.Given as goal

-- the gauges passed so far have let the time pass
abbrev pub invariant-loop-place : goal.invariant-loop-place
invariant-loop-place l = HaveSome (HasPassed l.marks l.whole_value l.since l.time) l.place l.initial.gauges l.gauges
