use Rattle.lot_chart.proofs.Lemmas.{leader, name_text, on_ok_weaker, parts-two}
use Rattle.lot_chart.proofs.charts.push_label.Goals as goal

pub returns : goal.returns
returns c =
    let line = c.args.line.now in
    on_ok_weaker c.push_name.result (parts-two c.args.text.now (leader line) (name_text c.args.names.now c.args.total
    line) c.push_leader.new.text c.push_name.new.text c.in_ok-push_leader.ensures) c.push_name.ensures
