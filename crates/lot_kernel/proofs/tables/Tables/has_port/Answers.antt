use Rattle.lot_kernel.proofs.Lemmas.{Snapshot, ap, length, tested-count, tested-zero, within-count, ◌∙◌}
use Rattle.lot_kernel.proofs.tables.Tables.has_port.Goals as goal

pub returns-then-port-gt0-clause-missing : goal.returns-then-port-gt0-clause-missing
returns-then-port-gt0-clause-missing c = tested-count c.args.self.now.state.ports c.args.port.number c.ports.result
    c.if-port-gt0.true (c.ports.ensures ∙ ap (λ (x : Snapshot). length x.state.ports) c.self.view_is)

pub returns-then-port-gt0-clause-there : goal.returns-then-port-gt0-clause-there
returns-then-port-gt0-clause-there c = within-count c.args.self.now.state.ports c.args.port.number c.ports.result
    c.if-port-gt0.true (c.ports.ensures ∙ ap (λ (x : Snapshot). length x.state.ports) c.self.view_is)

pub returns-else-port-gt0-clause-missing : goal.returns-else-port-gt0-clause-missing
returns-else-port-gt0-clause-missing c = tested-zero c.args.self.now.state.ports c.args.port.number c.if-port-gt0.false
