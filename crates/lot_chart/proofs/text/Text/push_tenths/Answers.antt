use Rattle.lot_chart.proofs.Lemmas.{codes, decimal, on_ok_weaker, parts-two, ◌%◌, ◌++◌, ◌/◌}
use Rattle.lot_chart.proofs.text.Text.push_tenths.Goals as goal

pub returns : goal.returns
returns c =
    let point = codes "." in
    let rest = decimal (c.args.tenths % 10) in
    on_ok_weaker c.push_number-2.result
    (λ put. parts-two c.args.self.now (decimal (c.args.tenths / 10))
    (point ++ rest) c.push_number.new.self c.push_number-2.new.self (rw c.from.ensures at c.in_ok-push_number.ensures)
    (parts-two c.push_number.new.self point rest c.push.new.self c.push_number-2.new.self c.in_ok-push.ensures put))
    (rw c.from-2.ensures at c.push_number-2.ensures)
