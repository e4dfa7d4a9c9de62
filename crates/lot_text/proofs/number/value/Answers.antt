use Rattle.lot_text.proofs.Lemmas.{arith, digits_value, digits_value_after-past, drop, drop_all, sym, within_64_bits-of, ◌≡◌}
use Rattle.lot_text.proofs.number.value.Goals as goal

pub returns : goal.returns
returns c =
    let end : drop c.loop-digit.digit-index c.args.digits.now ≡ _ =
    drop_all c.loop-digit.digit-index c.args.digits.now (omega arith) in
    rw (sym (rw end at c.loop-digit.invariant.read))
    (within_64_bits-of c.loop-digit.value c.loop-digit.invariant.within)

pub returns-in-None : goal.returns-in-None
returns-in-None c = digits_value_after-past c.loop-digit.value c.loop-digit.digit-index
    (digits_value 10 c.args.digits.now) c.args.digits.now (omega arith) c.loop-digit.invariant.read c.in-None.ensures
