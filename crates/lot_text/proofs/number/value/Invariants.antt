use Rattle.lot_text.proofs.Common.{digits_value, digits_value_after, drop, ◌<◌, ◌^◌, ◌≡◌}
use Rattle.lot_text.proofs.number.value.Given as goal

abbrev pub invariant-loop-digit : goal.invariant-loop-digit
invariant-loop-digit l =
    record { within : l.value < 2 ^ 64; read : digits_value_after 10 l.value (drop l.digit-index l.digits) ≡ digits_value 10 l.digits }
