use Rattle.lot_engine.proofs.Lemmas.{Seen, State, ap, arith, at-lengths, length, system_run, world_of, ◌≡◌}
use Rattle.lot_engine.proofs.system.System.thread_count.Goals as goal

pub overflow_cast-result : goal.overflow_cast-result
overflow_cast-result c =
    let s = c.self.inside in
    let i = c.self.invariant in
    let lengths = at-lengths s.program s.kernel.state.threads s.places.items
    (system_run s.program s.history.items).contexts i.held.places_at in
    omega (arith, c.len.ensures.value, lengths.0, i.held.kept.count, ap (λ l. l.threads) i.held.kept.limits, i.program.limits.of_threads.1)

pub returns : goal.returns
returns c =
    let s = c.self.inside in
    let i = c.self.invariant in
    let w = system_run s.program s.history.items in
    let lengths = at-lengths s.program s.kernel.state.threads s.places.items w.contexts i.held.places_at in
    let records : length s.kernel.state.records ≡ length w.state.records =
    ap (λ (x : State). length x.records) i.held.state in
    let seen : length w.state.records ≡ length (world_of c.args.self.now).state.records =
    ap (λ (x : Seen). length (world_of x).state.records) c.self.view_is in
    let limits : s.program.limits.threads ≡ c.args.self.now.setting.program.limits.threads =
    ap (λ (x : Seen). x.setting.program.limits.threads) c.self.view_is in
    record {
      count = omega (arith, c.len.ensures.value, lengths.0, i.held.kept.records, records, seen);
      within = omega
          (arith, c.len.ensures.value, lengths.0, i.held.kept.count, ap (λ l. l.threads) i.held.kept.limits, limits);
    }
