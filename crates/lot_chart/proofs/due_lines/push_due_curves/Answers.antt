use Rattle.lot_chart.proofs.Common.{Dues, HaveDues, LineDues, None, Option, Some, due_curves, subst, ◌++◌, ◌≡◌}
use Rattle.lot_chart.proofs.due_lines.push_due_curves.Goals as goal

pub returns-in_ok-push_thin_lines-in-Some : goal.returns-in_ok-push_thin_lines-in-Some
returns-in_ok-push_thin_lines-in-Some c due shown have lines =
    by due (subst (λ (o : Option LineDues). HaveDues c.args.curves.now due shown o) c.in-Some.is have)
  where
    by : (o : Option Dues) → HaveDues c.args.curves.now o shown (Some c.in-Some.dues) → c.push_thin_lines.new.text
        ≡ c.args.text.now ++ due_curves c.args.curves.now o shown c.args.tops.now c.args.lines.now
    by None is = absurd is
    by (Some dues) is = c.in_ok-push_thin_lines-in-Some.ensures dues shown is lines
