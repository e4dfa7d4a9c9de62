use Rattle.lot_chart.proofs.Lemmas.{active_amount, ap, arith, funding_of, if◌then◌else◌, live_of, ne_eqb, sym, worth-none, worth_of, ◌∙◌}
use Rattle.lot_chart.proofs.gauges.currency_value.Goals as goal

pub returns-then-currency-currency_count : goal.returns-then-currency-currency_count
returns-then-currency-currency_count c =
    sym (worth-none c.args.settled.kernel.now.state c.args.currency.number c.requires.sound
    (omega (arith, c.currency_count.ensures.count, c.if-currency-currency_count.true)))

pub returns : goal.returns
returns c =
    let s = c.args.settled.kernel.now.state in
    let n = c.args.currency.number in
    c.currency_value.ensures ∙ ap (λ b. if b then active_amount (funding_of s) (live_of s) 0 else worth_of s n)
    (ne_eqb n 0 (λ same. omega (arith, same, c.requires.user)))
