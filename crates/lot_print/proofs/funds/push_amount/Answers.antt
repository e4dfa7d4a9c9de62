use Rattle.std.proofs.Common.{append_assoc}
use Rattle.lot_print.proofs.funds.push_amount.Goals as goal

pub returns-clause-text : goal.returns-clause-text
returns-clause-text c =
    rw (c.push_bytes.ensures.text, c.as_bytes.ensures.bytes, c.push_text.ensures.text, c.push_field-2.ensures.text, c.push_field.ensures.text) (simp append_assoc)
