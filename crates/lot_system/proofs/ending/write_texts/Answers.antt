-- The history's lines are written after the report.
use Rattle.lot_system.proofs.Common.{Err, List, Seen, Written, ap, begins-front, history_lines, report, rules, shown_history, subst, unit_of, writes-after, ℕ, ◌∙◌, ◌≡◌}
use Rattle.lot_system.proofs.ending.write_texts.Goals as goal

lines-are : (s now : Seen) (unit : ℕ) (history lines : List ℕ) → now ≡ s → unit ≡ now.setting.program.limits.unit
    → history ≡ lines → history_lines unit history ≡ history_lines s.setting.program.limits.unit lines
lines-are s now unit history lines same of_unit of_history =
    ap (λ u. history_lines u history) (of_unit ∙ ap (λ (x : Seen). x.setting.program.limits.unit) same)
    ∙ ap (λ (xs : List ℕ). history_lines s.setting.program.limits.unit xs) of_history

pub returns-in_err-write_report-clause-shown : goal.returns-in_err-write_report-clause-shown
returns-in_err-write_report-clause-shown g c =
    let s = c.args.system.now in
    let is : c.from_residual.result ≡ Err c.in_err-write_report.field-0.0 = search rules in
    let told = c.in_err-write_report.ensures.text in
    rw is (
      told.0,
      told.1,
      begins-front (g.W.Write.contents c.args.writer.now.inner) (g.W.Write.contents c.write_report.new.writer.inner)
          (report s.setting.program s.history) (history_lines s.setting.program.limits.unit (shown_history s)) told.2,
    )

pub returns-in_err-write_report-clause-text : goal.returns-in_err-write_report-clause-text
returns-in_err-write_report-clause-text g c untimed =
    let s = c.args.system.now in
    let is : c.from_residual.result ≡ Err c.in_err-write_report.field-0.0 = search rules in
    let told = c.in_err-write_report.ensures.text in
    rw is (
      told.0,
      told.1,
      begins-front (g.W.Write.contents c.args.writer.now.inner) (g.W.Write.contents c.write_report.new.writer.inner)
          (report s.setting.program s.history) (history_lines s.setting.program.limits.unit s.history) told.2,
    )

pub returns-clause-shown : goal.returns-clause-shown
returns-clause-shown g c =
    let s = c.args.system.now in
    let old = g.W.Write.contents c.args.writer.now.inner in
    let mid = g.W.Write.contents c.write_report.new.writer.inner in
    let new = g.W.Write.contents c.write_history.new.writer.inner in
    let failed = c.write_history.new.writer.failed in
    let result = c.write_history.result in
    let same = c.in_ok-write_report.ensures.same in
    let lines = lines-are s c.write_report.new.system (unit_of c.format.result) c.history.result.now
    (shown_history s) same c.format.ensures (c.history.ensures.shown ∙ ap shown_history same) in
    writes-after old mid new failed result (report s.setting.program s.history)
    (history_lines s.setting.program.limits.unit (shown_history s)) c.in_ok-write_report.ensures.text.1
    (subst (Written mid new failed result) lines c.write_history.ensures)

pub returns-clause-text : goal.returns-clause-text
returns-clause-text g c untimed =
    let s = c.args.system.now in
    let old = g.W.Write.contents c.args.writer.now.inner in
    let mid = g.W.Write.contents c.write_report.new.writer.inner in
    let new = g.W.Write.contents c.write_history.new.writer.inner in
    let failed = c.write_history.new.writer.failed in
    let result = c.write_history.result in
    let same = c.in_ok-write_report.ensures.same in
    let own = c.history.ensures.items (ap (λ (x : Seen). x.setting.timer) same ∙ untimed) in
    let lines = lines-are s c.write_report.new.system (unit_of c.format.result) c.history.result.now s.history same
    c.format.ensures (own ∙ ap (λ (x : Seen). x.history) same) in
    writes-after old mid new failed result (report s.setting.program s.history)
    (history_lines s.setting.program.limits.unit s.history) c.in_ok-write_report.ensures.text.1
    (subst (Written mid new failed result) lines c.write_history.ensures)
