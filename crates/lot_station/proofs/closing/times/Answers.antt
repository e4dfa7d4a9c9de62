use Rattle.lot_station.proofs.Lemmas.{Counts, ap, length-turns_of, ◌∙◌}
use Rattle.lot_station.proofs.closing.times.Goals as goal

pub returns : goal.returns
returns c = ap (λ (k : Counts). k.turns) c.counts.ensures ∙ length-turns_of c.args.system.now c.args.actor
