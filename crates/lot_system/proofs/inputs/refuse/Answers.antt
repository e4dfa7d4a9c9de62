use Rattle.lot_system.proofs.Common.{Begins, Err, append-nil, begins-after, fault_line, rules, subst, [], ◌≡◌}
use Rattle.lot_system.proofs.inputs.refuse.Goals as goal

pub returns-in_err-flush-clause-played : goal.returns-in_err-flush-clause-played
returns-in_err-flush-clause-played g c =
    let is : c.from_residual-in_err-flush.result ≡ Err c.in_err-flush.field-0.0 = search rules in
    let told = c.in_err-flush.ensures.text in
    let old = g.W.Write.contents c.args.writer.now.inner in
    let mid = g.W.Write.contents c.write_fault.new.writer.inner in
    let new = g.W.Write.contents c.flush.new.writer.inner in
    let text = fault_line c.args.fault in
    rw (is, told.0) (told.1, subst (Begins old new) (append-nil text) (begins-after old mid new text [] c.in_ok-write_fault.ensures.1 told.2))
