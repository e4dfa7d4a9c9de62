use Rattle.lot_threads.proofs.Lemmas.{IsBelowQuantum, IsTimely, None, Some, ap, arith, found-record, number-read, run-used, runner-found, runner-runs, runner_at, subst, sym, ◌-◌, ◌∙◌, ◌≡◌}
use Rattle.lot_threads.proofs.threads.Threads.runner.Goals as goal

pub returns-in_default-clause-thread : goal.returns-in_default-clause-thread
returns-in_default-clause-thread c =
    let i = c.self.inside in
    let none : None ≡ runner_at i.runners.items c.args.processor.number = c.in_default.ensures
    ∙ ap (λ rs. runner_at rs c.args.processor.number) c.deref.ensures.value in
    rw (← c.self.view_is) (sym
    (runner-runs i.records.items i.runners.items c.args.processor.number c.self.invariant.together.runs) ∙ sym none)

pub index-requires : goal.index-requires
index-requires c =
    let i = c.self.inside in
    let at : Some c.in-Some.number ≡ runner_at i.runners.items c.args.processor.number = c.in-Some.ensures
    ∙ ap (λ rs. runner_at rs c.args.processor.number) c.deref.ensures.value in
    let found = runner-found i.records.items i.runners.items c.args.processor.number c.in-Some.number
    c.self.invariant.together.runs at in
    omega (arith, found.0.0, found.0.1)

pub unreachable-requires : goal.unreachable-requires
unreachable-requires c =
    let i = c.self.inside in
    let t = c.in-Some.number in
    let at : Some t ≡ runner_at i.runners.items c.args.processor.number = c.in-Some.ensures
    ∙ ap (λ rs. runner_at rs c.args.processor.number) c.deref.ensures.value in
    let found =
    runner-found i.records.items i.runners.items c.args.processor.number t c.self.invariant.together.runs at in
    let there =
    number-read i.records.items t c.index.result.now found.0.0 found.0.1 (rw c.index_of.ensures at c.index.ensures) in
    let (used, is) = found-record i.records.items c.args.processor.number t c.index.result.now there found.1 in
    c.in_default-status.not-Running c.args.processor.number used is

pub returns-clause-thread : goal.returns-clause-thread
returns-clause-thread c =
    let i = c.self.inside in
    let at : Some c.in-Some.number ≡ runner_at i.runners.items c.args.processor.number = c.in-Some.ensures
    ∙ ap (λ rs. runner_at rs c.args.processor.number) c.deref.ensures.value in
    rw (← c.self.view_is)
    (sym (runner-runs i.records.items i.runners.items c.args.processor.number c.self.invariant.together.runs) ∙ sym at)

pub returns-clause-used : goal.returns-clause-used
returns-clause-used c =
    let i = c.self.inside in
    let t = c.in-Some.number in
    let at : Some t ≡ runner_at i.runners.items c.args.processor.number = c.in-Some.ensures
    ∙ ap (λ rs. runner_at rs c.args.processor.number) c.deref.ensures.value in
    let found =
    runner-found i.records.items i.runners.items c.args.processor.number t c.self.invariant.together.runs at in
    let there =
    number-read i.records.items t c.index.result.now found.0.0 found.0.1 (rw c.index_of.ensures at c.index.ensures) in
    rw (← c.self.view_is) (run-used i.records.items c.args.processor.number t c.index.result.now c.in-Running.processor
    c.in-Running.used there c.in-Running.is found.1)

pub returns-clause-there : goal.returns-clause-there
returns-clause-there c =
    let i = c.self.inside in
    let at : Some c.in-Some.number ≡ runner_at i.runners.items c.args.processor.number = c.in-Some.ensures
    ∙ ap (λ rs. runner_at rs c.args.processor.number) c.deref.ensures.value in
    rw (← c.self.view_is) (runner-found i.records.items i.runners.items c.args.processor.number c.in-Some.number
    c.self.invariant.together.runs at).0

pub returns-clause-below : goal.returns-clause-below
returns-clause-below c =
    let i = c.self.inside in
    let t = c.in-Some.number in
    let x = c.index.result.now in
    let at : Some t ≡ runner_at i.runners.items c.args.processor.number = c.in-Some.ensures
    ∙ ap (λ rs. runner_at rs c.args.processor.number) c.deref.ensures.value in
    let found =
    runner-found i.records.items i.runners.items c.args.processor.number t c.self.invariant.together.runs at in
    let timely = subst (IsTimely i.queue.quantum) (sym (rw c.index_of.ensures at c.index.ensures))
    (c.self.invariant.together.timely (t - 1) x (omega (arith, found.0.0, found.0.1))) in
    rw (← c.self.view_is) (subst (IsBelowQuantum i.queue.quantum) c.in-Running.is timely.1)
