use Rattle.lot_engine.proofs.Lemmas.{HasLayoutFor, HasLayoutOf, IfOk-weaker, layout-for}
use Rattle.lot_engine.proofs.system.System.above.Goals as goal

pub returns : goal.returns
returns c =
    let s = c.self.inside in
    let i = c.self.invariant in
    rw (← c.self.view_is) (IfOk-weaker c.above.result (HasLayoutOf s.kernel.state) (HasLayoutFor s.program)
    (layout-for s.program s.history.items s.kernel.state i.held.state i.held.kept.limits) c.above.ensures)
