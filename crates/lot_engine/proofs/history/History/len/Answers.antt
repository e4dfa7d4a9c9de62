use Rattle.lot_engine.proofs.Lemmas.{KeptHistory, ap, arith, as_many, length}
use Rattle.lot_engine.proofs.history.History.len.Goals as goal

pub returns : goal.returns
returns c =
    let s = c.self.inside in
    omega (arith, c.len.ensures.value, as_many s.processors s.actors.items s.woken.items, ap (λ (h : KeptHistory). length h.items) c.self.view_is)
