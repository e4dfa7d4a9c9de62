use Rattle.lot_kernel.proofs.Common.{Snapshot, ap, false, inl, refl, served-off, sym, ◌∙◌, ◌≡◌}
use Rattle.lot_kernel.proofs.tables.Tables.note_server.Goals as goal

pub returns-then-not-self : goal.returns-then-not-self
returns-then-not-self c =
    let s = c.args.self.now.state in
    let off : s.limits.queued_lend ≡ false = ap (λ (x : Snapshot). x.state.limits.queued_lend) (sym c.self.view_is)
    ∙ c.if-not-self.true in
    record { state = ap (λ ms. record s { mutexes = ms }) (sym (served-off s c.args.thread.number c.args.port.number c.args.outcome off)); stale = λ x is. inl is; kept = λ x is. is; meter = refl }
