use Rattle.std.proofs.Common.{append_assoc}
use Rattle.lot_print.proofs.funds.currency_text.Goals as goal

pub returns : goal.returns
returns c = rw (c.push_text-2.ensures.text, c.push_field-2.ensures.text, c.push_worth.ensures.text, c.push_named.ensures.text, c.push_text.ensures.text, c.push_field.ensures.text, c.push_front.ensures.text, c.new-line.ensures) (simp append_assoc)
