-- A waiting thread isn't dead, so it wasn't removed.
use Rattle.lot_engine.proofs.Lemmas.{All, HasRow, IsInOrder, State, run-in-order, subst, sym, waiters-rows}
use Rattle.lot_engine.proofs.system.System.list_waiters.Goals as goal

pub returns-clause-shown : goal.returns-clause-shown
returns-clause-shown c =
    let s = c.self.inside in
    let i = c.self.invariant in
    let order : IsInOrder s.kernel.state =
    subst IsInOrder (sym i.held.state) (run-in-order s.program s.history.items i.program.limits) in
    let rows = subst (All (HasRow s.kernel.state)) (sym c.list_waiters.ensures.waiters)
    (waiters-rows s.kernel.state order i.held.kept.records c.args.mutex) in
    rw (← c.self.view_is) (subst (λ (x : State). All (HasRow x) c.list_waiters.new.out.items) i.held.state rows)
