use Rattle.lot_station.proofs.Lemmas.{ap, takes, ◌∙◌}
use Rattle.lot_station.proofs.baton.station.take.Goals as goal

pub pop_as-requires-clause-rule : goal.pop_as-requires-clause-rule
pop_as-requires-clause-rule g c =
    (takes _ _ (ap (λ v. v.fresh) c.loop.invariant.1 ∙ c.requires.opened), λ items views h at. tt)
