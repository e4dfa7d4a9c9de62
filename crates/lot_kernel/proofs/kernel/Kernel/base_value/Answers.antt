use Rattle.lot_kernel.proofs.Lemmas.{Threaded, active_amount, ap, funding_in, live_in, tables-shown, ◌*◌, ◌∙◌}
use Rattle.lot_kernel.proofs.kernel.Kernel.base_value.Goals as goal

pub returns-clause-value : goal.returns-clause-value
returns-clause-value c =
    let amount =
    ap (λ (v : Threaded). active_amount (funding_in v) (live_in v.records) 0) c.self-inside.invariant.threads in
    rw (← tables-shown c.self-inside.inside.0.0 c.self.inside c.args.self.now c.self-inside.view_is c.self.view_is, c.from.ensures, c.from-2.ensures)
    (ap (λ n. n * c.self-inside.inside.0.0.limits.unit) (c.active_amount-active.ensures ∙ amount))
