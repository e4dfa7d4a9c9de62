use Rattle.lot_kernel.proofs.Lemmas.{LimitedFunding, Threaded, active_amount, ap, backing_currency, currency-row-of, funding_in, issued_in, length, live_in, threads-shown, ◌∙◌}
use Rattle.lot_kernel.proofs.settled.Settled.row_of_currency.Goals as goal

pub returns : goal.returns
returns c =
    let held = threads-shown c.kernel-inside.inside.0.0 c.kernel.inside c.args.self.now.kernel.now
    c.kernel-inside.view_is c.kernel.view_is c.kernel-inside.invariant in
    let number = c.args.currency.number in
    let backs = c.count_backing.ensures ∙ ap (λ (w : LimitedFunding). length (backing_currency w.funding number))
    c.graph-graph.ensures ∙ ap (λ (v : Threaded). length (backing_currency (funding_in v) number)) held in
    let issues = c.count_issued.ensures ∙ ap (λ (w : LimitedFunding). length (issued_in w.funding number))
    c.graph-graph.ensures ∙ ap (λ (v : Threaded). length (issued_in (funding_in v) number)) held in
    let active = c.active_amount.ensures
    ∙ ap (λ (v : Threaded). active_amount (funding_in v) (live_in v.records) number) held in
    currency-row-of c.args.self.now.kernel.now.state number c.args.name c.count_backing.result c.count_issued.result
    c.active_amount.result c.currency_value.result c.requires backs issues active c.currency_value.ensures
