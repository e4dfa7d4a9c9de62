use Rattle.lot_kernel.proofs.Common.{Currency, Snapshot, active_amount, ap, arith, currency_value, funding_of, if◌then◌else◌, live_of, ne_eqb, node_value, ◌∙◌}
use Rattle.lot_kernel.proofs.kernel.Kernel.currency_value.Goals as goal

pub returns-clause-value : goal.returns-clause-value
returns-clause-value c =
    let s = c.args.self.now.state in
    let n = c.args.currency.number in
    c.currency_value.ensures ∙ ap (λ (k : Snapshot).
    node_value k.state.limits.unit (funding_of k.state) (live_of k.state) (Currency n)) c.settle.ensures.settled
    ∙ ap (λ b. if b then active_amount (funding_of s) (live_of s) 0 else currency_value s.limits.unit (funding_of s)
    (live_of s) n) (ne_eqb n 0 (λ same. omega (arith, same, c.requires.user)))
