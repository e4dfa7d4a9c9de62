use Rattle.lot_kernel.proofs.Lemmas.{AreGone, Snapshot, State, ap, arith, gone-all, gone-count, gone-next, gone-ports, holders, holders-next, holders-none, holders_from, left_by, length, mutexes-enough, port_holders, sizes_of, subst, sym, unserved-count, ◌+◌, ◌<◌, ◌==◌, ◌∙◌, ◌≡◌}
use Rattle.lot_kernel.proofs.tables.Tables.leave_ports.Goals as goal

pub loop-place-init : goal.loop-place-init
loop-place-init c =
    let start = c.args.self.now in
    let many : length start.state.mutexes ≡ holders start.state.limits = subst (λ (x : Snapshot). length x.state.mutexes
    ≡ holders x.state.limits) c.self.view_is c.self.invariant.holders.mutexes in
    let first : start.state.limits.mutexes ≡ c.self.inside.limits.mutexes =
    ap (λ (x : Snapshot). x.state.limits.mutexes) (sym c.self.view_is) in
    record {
      gone = subst (λ n. AreGone (λ server. server == c.args.thread.number) start start
          (left_by start.state c.args.thread.number) (holders_from (length start.state.mutexes) n)) first
          (gone-ports start c.args.thread.number many);
      from = omega (arith, first);
    }

pub leave_port-requires-clause-holder : goal.leave_port-requires-clause-holder
leave_port-requires-clause-holder c =
    omega (arith, c.loop-place.invariant.from, ap (λ (x : State). x.limits.mutexes) c.loop-place.invariant.gone.state)

pub leave_port-requires-clause-there : goal.leave_port-requires-clause-there
leave_port-requires-clause-there c =
    let start = c.args.self.now in
    let t = c.args.thread.number in
    let all =
    gone-count (λ server. server == t) start c.loop-place.self (left_by start.state t) _ c.loop-place.invariant.gone
    (unserved-count (λ server. server == t) start.state.mutexes (port_holders start.state.limits)) in
    (omega arith, omega (arith, all, c.loop-place-test.true, c.mutexes-place-end.ensures, ap (λ (x : Snapshot). length x.state.mutexes) c.self.view_is))

pub loop-place-preserved : goal.loop-place-preserved
loop-place-preserved c =
    let start = c.args.self.now in
    let t = c.args.thread.number in
    let count = length start.state.mutexes in
    let place = c.loop-place.place in
    let below : place < count = omega
    (arith, c.loop-place-test.true, c.mutexes-place-end.ensures, ap (λ (x : Snapshot). length x.state.mutexes) c.self.view_is) in
    let so_far = subst (λ ns. AreGone (λ server. server == t) start c.loop-place.self (left_by start.state t) ns)
    (holders-next count place below) c.loop-place.invariant.gone in
    record {
      gone = gone-next (λ server. server == t) start c.loop-place.self c.leave_port.new.self (left_by start.state t)
          (place + 1) (holders_from count (place + 1)) so_far c.leave_port.ensures.state c.leave_port.ensures.stale
          c.leave_port.ensures.kept
          c.leave_port.ensures.meter;
      from = omega (arith, c.loop-place.invariant.from);
    }

pub returns : goal.returns
returns c =
    let i = c.self.inside in
    let start = c.args.self.now in
    let t = c.args.thread.number in
    let count = length start.state.mutexes in
    let gone = c.loop-place.invariant.gone in
    let enough = mutexes-enough (sizes_of i.limits) i.queues c.self.invariant.holders in
    let ends : c.loop-place.place ≡ count =
    omega (arith, c.loop-place-test.false, c.loop-place.auto.place-end (omega (arith, enough, c.mutexes-place-end.ensures)), c.mutexes-place-end.ensures, ap (λ (x : Snapshot). length x.state.mutexes) c.self.view_is) in
    record {
      state = gone-all (λ server. server == t) start c.loop-place.self (left_by start.state t)
          (holders_from count c.loop-place.place) gone (ap (holders_from count) ends ∙ holders-none count);
      stale = gone.stale;
      kept = gone.kept;
      meter = gone.meter;
    }
