use Rattle.lot_explain.proofs.Common.{Err, arith, currency_funds, length, range-more, range-stops, rules, ◌≡◌}
use Rattle.lot_explain.proofs.funding.write_currencies.Goals as goal

pub returns-in_err-write_currency : goal.returns-in_err-write_currency
returns-in_err-write_currency g c =
    let is : c.from_residual.result ≡ Err c.in_err-write_currency.field-0.0 = search rules in
    let i = c.loop-number.invariant in
    let told = c.in_err-write_currency.ensures in
    let h = c.args.heading in
    let s = c.args.settled.kernel.now.state in
    rw is (
      told.0,
      told.1,
      range-stops (g.W.Write.contents c.args.writer.now.inner) (g.W.Write.contents c.loop-number.writer.inner)
          (g.W.Write.contents c.write_currency.new.writer.inner)
          (currency_funds h.style h.unit h.actor s) 0 c.loop-number.number
          (length s.currencies) (c.loop-number.number) (omega
          (arith, c.loop-number-test.true, c.currency_count-number-end.ensures.count)) (omega arith) i.bytes told.2,
    )

pub loop-number-preserved : goal.loop-number-preserved
loop-number-preserved g c =
    let i = c.loop-number.invariant in
    let told = c.in_ok-write_currency.ensures in
    let h = c.args.heading in
    let s = c.args.settled.kernel.now.state in
    record {
      working = told.0;
      bytes = range-more (g.W.Write.contents c.args.writer.now.inner) (g.W.Write.contents c.loop-number.writer.inner)
          (g.W.Write.contents c.write_currency.new.writer.inner)
          (currency_funds h.style h.unit h.actor s) 0 c.loop-number.number (c.loop-number.number)
          (omega arith) i.bytes told.1;
    }
