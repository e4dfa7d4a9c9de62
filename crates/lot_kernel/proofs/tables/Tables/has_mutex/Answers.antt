use Rattle.lot_kernel.proofs.Lemmas.{Snapshot, ap, arith, le-of, length, mutex-zero, mutexes-enough, sizes_of, subst, tested-mutex, ◌≤◌}
use Rattle.lot_kernel.proofs.tables.Tables.has_mutex.Goals as goal

pub returns-then-mutex-gt0-clause-missing : goal.returns-then-mutex-gt0-clause-missing
returns-then-mutex-gt0-clause-missing c =
    let i = c.self.inside in
    let enough = subst (λ (x : Snapshot). x.state.limits.mutexes ≤ length x.state.mutexes) c.self.view_is
    (mutexes-enough (sizes_of i.limits) i.queues c.self.invariant.holders) in
    tested-mutex c.args.self.now.state c.args.mutex.number i.limits.mutexes c.if-mutex-gt0.true
    (ap (λ (x : Snapshot). x.state.limits.mutexes) c.self.view_is) enough

pub returns-then-mutex-gt0-clause-there : goal.returns-then-mutex-gt0-clause-there
returns-then-mutex-gt0-clause-there c is =
    let i = c.self.inside in
    let enough = subst (λ (x : Snapshot). x.state.limits.mutexes ≤ length x.state.mutexes) c.self.view_is
    (mutexes-enough (sizes_of i.limits) i.queues c.self.invariant.holders) in
    (c.if-mutex-gt0.true, omega (arith, le-of c.args.mutex.number i.limits.mutexes is, enough, ap (λ (x : Snapshot). x.state.limits.mutexes) c.self.view_is))

pub returns-then-mutex-gt0-clause-within : goal.returns-then-mutex-gt0-clause-within
returns-then-mutex-gt0-clause-within c is = let i = c.self.inside in omega
    (arith, le-of c.args.mutex.number i.limits.mutexes is, ap (λ (x : Snapshot). x.state.limits.mutexes) c.self.view_is)

pub returns-else-mutex-gt0-clause-missing : goal.returns-else-mutex-gt0-clause-missing
returns-else-mutex-gt0-clause-missing c = mutex-zero c.args.self.now.state c.args.mutex.number c.if-mutex-gt0.false
