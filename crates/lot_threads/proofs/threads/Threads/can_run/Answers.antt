use Rattle.lot_threads.proofs.Lemmas.{IsBetween, Some, Threaded, ap, eq-eqb, eqb-true, only-runner, runner-within, runner_at, subst, sym, ◌∙◌, ◌≡◌}
use Rattle.lot_threads.proofs.threads.Threads.can_run.Goals as goal

pub returns-in-Some : goal.returns-in-Some
returns-in-Some c =
    let i = c.self.inside in
    let at : Some c.in-Some.runner ≡ runner_at i.runners.items c.in-Running.processor = c.in-Some.ensures
    ∙ ap (λ rs. runner_at rs c.in-Running.processor) c.deref.ensures.value in
    let within = subst (λ (x : Threaded). IsBetween 1 x.processors c.in-Running.processor) c.self.view_is
    (runner-within i.runners.items c.in-Running.processor c.in-Some.runner (sym at)) in
    let both = only-runner c.args.self.now i.records.items i.runners.items c.in-Running.processor c.in-Running.used
    c.args.thread c.in-Some.runner c.args.status c.in-Running.is
    (ap (λ (x : Threaded). x.records) (sym c.self.view_is)) c.self.invariant.together.runs at within in
    (λ yes. both.0 (eqb-true c.in-Some.runner c.args.thread yes), λ can. eq-eqb c.in-Some.runner c.args.thread (both.1 can))
