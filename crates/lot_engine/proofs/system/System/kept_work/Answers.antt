-- The thread on a processor has a place in the table, and wasn't removed.
use Rattle.lot_engine.proofs.Lemmas.{IsScript, ap, arith, at-lengths, is_some, refl, runner-scripted, script-there, script_lines, subst, sym, system_run, work-is, ◌-◌, ◌∙◌, ◌≡◌, ◌≤◌}
use Rattle.lot_engine.proofs.system.System.kept_work.Goals as goal

pub index-requires : goal.index-requires
index-requires c =
    let s = c.self.inside in
    let i = c.self.invariant in
    let lengths = at-lengths s.program s.kernel.state.threads s.places.items
    (system_run s.program s.history.items).contexts i.held.places_at in
    let there = c.in_ok-runner.ensures.there in
    omega (arith, lengths.0, i.held.kept.records, there.0, there.1)

pub unwrap-script-requires : goal.unwrap-script-requires
unwrap-script-requires c =
    let s = c.self.inside in
    let i = c.self.invariant in
    let there = runner-scripted s.program (system_run s.program s.history.items) s.kernel.state s.places.items
    s.generators.items s.tickets s.spent i.held c.args.actor i.program.limits s.history.items refl
    c.in_ok-runner.runner.thread.number c.in_ok-runner.ensures.thread in
    ap is_some (c.script_of.ensures ∙ there.1)

pub script_numbered-requires : goal.script_numbered-requires
script_numbered-requires c =
    let s = c.self.inside in
    let i = c.self.invariant in
    let e = c.in_ok-runner.ensures in
    script-there s.program (system_run s.program s.history.items) s.kernel.state s.places.items s.generators.items
    s.tickets s.spent i.held c.args.actor c.in_ok-runner.runner.thread.number c.unwrap-script.result
    (omega (arith, e.there.0), e.there.1) (sym c.script_of.ensures ∙ c.unwrap-script.ensures)

pub returns : goal.returns
returns c =
    let s = c.self.inside in
    let i = c.self.invariant in
    let e = c.in_ok-runner.ensures in
    let its = c.script_numbered.ensures in
    let legal : IsScript (script_lines s.program c.unwrap-script.result) = subst IsScript its.lines its.legal in
    let quantum : c.limits.result.quantum ≡ s.kernel.state.limits.quantum = ap (λ l. l.quantum) c.limits.ensures in
    let most : s.kernel.state.limits.quantum ≤ 1000 =
    omega (arith, ap (λ l. l.quantum) i.held.kept.limits, i.program.limits.of_quantum.1) in
    rw (← c.self.view_is) (
      omega (arith, c.if-actor-eq0.false),
      work-is s.program (system_run s.program s.history.items) s.kernel.state s.places.items s.generators.items
          s.tickets s.spent i.held c.args.actor _ c.in_ok-runner.runner.used e.thread e.used
          (omega (arith, e.there.0), e.there.1) e.below most
          (sym c.script_of.ensures ∙ c.unwrap-script.ensures) c.index.result.now
          (rw c.index_of.ensures at c.index.ensures) (ap (λ n. n - c.in_ok-runner.runner.used) quantum) legal,
    )
