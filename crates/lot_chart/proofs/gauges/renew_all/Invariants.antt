use Rattle.lot_chart.proofs.Lemmas.{HaveSome, IsRenewed}
use Rattle.lot_chart.proofs.gauges.renew_all.Given as goal

-- the gauges passed so far are renewed
abbrev pub invariant-loop-place : goal.invariant-loop-place
invariant-loop-place l = HaveSome (IsRenewed l.by l.settled.kernel.now.state) l.place l.initial.gauges l.gauges
