use Rattle.std.proofs.Common.{append_assoc}
use Rattle.lot_print.proofs.loans.push_lent.Goals as goal

pub returns : goal.returns
returns c = rw (c.push_text.ensures.text, c.push_field.ensures.text, c.push_value.ensures.text, c.from-value.ensures)
    (simp append_assoc)
