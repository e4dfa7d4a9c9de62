use Rattle.std.proofs.Common.{append_assoc}
use Rattle.lot_print.proofs.loans.loan_text.Goals as goal

pub returns : goal.returns
returns c = rw (c.push_lent.ensures, c.push_lender.ensures.text, c.push_field.ensures.text, c.push_front.ensures.text, c.new-line.ensures) (simp append_assoc)
