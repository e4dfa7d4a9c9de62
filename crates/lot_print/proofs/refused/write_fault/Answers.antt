use Rattle.lot_print.proofs.Lemmas.{Written, codes, decimal, fault_line, input_refusal_code, input_refusal_name, line-is, newline, subst, ◌++◌, ◌≡◌}
use Rattle.lot_print.proofs.refused.write_fault.Goals as goal

pub returns : goal.returns
returns g c =
    let is : c.push_reason.new.line ≡ fault_line c.args.fault =
    line-is c.new-line.result c.push_field.new.self c.push_reason.new.line (codes "refused line ")
    (decimal c.args.fault.line) (codes " " ++ (decimal (input_refusal_code c.args.fault.refusal)
    ++ (codes " " ++ (input_refusal_name c.args.fault.refusal ++ newline)))) c.new-line.ensures
    c.push_field.ensures.text c.push_reason.ensures in
    subst (Written (g.W.Write.contents c.args.writer.now.inner) (g.W.Write.contents c.write_to.new.writer.inner)
    c.write_to.new.writer.failed c.write_to.result) is c.write_to.ensures
