use Rattle.lot_station.proofs.BatonSteps.{gives, gives_out}
use Rattle.lot_station.proofs.baton.station.give.Goals as goal

pub push_as-requires-clause-rule : goal.push_as-requires-clause-rule
push_as-requires-clause-rule g c =
    let r = c.requires.held in
    (gives _ _ _ _ r.1 r.0 r.2 r.3, gives_out _ _ r.1 r.0 r.2)
