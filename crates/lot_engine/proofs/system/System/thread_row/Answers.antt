-- Without a row, the thread was never made, or it was removed.
use Rattle.lot_engine.proofs.Lemmas.{IsInOrder, State, false, gone-idle, is_live, live_of, run-in-order, subst, sym, ◌∙◌, ◌≡◌}
use Rattle.lot_engine.proofs.system.System.thread_row.Goals as goal

pub returns-clause-gone : goal.returns-clause-gone
returns-clause-gone c none =
    let s = c.self.inside in
    let i = c.self.invariant in
    let order : IsInOrder s.kernel.state =
    subst IsInOrder (sym i.held.state) (run-in-order s.program s.history.items i.program.limits) in
    let idle = gone-idle s.kernel.state c.args.thread order i.held.kept.records (sym c.thread_row.ensures.row ∙ none) in
    rw (← c.self.view_is) (subst (λ (x : State). is_live (live_of x) c.args.thread ≡ false) i.held.state idle)
