use Rattle.lot_chart.proofs.Lemmas.{ap, drop, length, length-range_with_len, length-rest, numbers_by, sym, ◌-◌, ◌∙◌}
use Rattle.lot_chart.proofs.gathering.column_count.Goals as goal

pub returns-in-Thread : goal.returns-in-Thread
returns-in-Thread c =
    let s = c.args.settled.kernel.now.state in
    c.thread_count.ensures
    ∙ sym (ap (λ what. length (numbers_by what s)) c.in-Thread.is ∙ length-range_with_len 1 (length s.records))

pub returns-in-Currency : goal.returns-in-Currency
returns-in-Currency c =
    let s = c.args.settled.kernel.now.state in
    c.saturating_sub.ensures ∙ ap (λ n. n - 1) c.currency_count.ensures.count
    ∙ sym (ap (λ what. length (numbers_by what s)) c.in-Currency.is
    ∙ length-range_with_len 1 (length (drop 1 s.currencies)) ∙ length-rest s.currencies)
