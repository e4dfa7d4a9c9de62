use Rattle.lot_chart.proofs.Lemmas.{command_marks, flat_map, frame, height_mark, highest, last_end, marks, on_ok_weaker, parts-two, time_mark, time_marks, ◌++◌}
use Rattle.lot_chart.proofs.charts.push_axes.Goals as goal

pub returns : goal.returns
returns c =
    let curves = c.args.curves.now in
    let most = highest curves.window c.args.most in
    let heights = flat_map (height_mark most) (marks most) in
    let times = flat_map (time_mark curves) (time_marks curves.origin (last_end curves.stretches)) in
    let commands = command_marks curves in
    let last = frame curves.by curves.window in
    on_ok_weaker c.push_frame.result
    (λ put. parts-two c.args.text.now heights (times ++ (commands ++ last)) c.push_height_marks.new.text
    c.push_frame.new.text (rw c.highest.ensures at c.in_ok-push_height_marks.ensures)
    (parts-two c.push_height_marks.new.text times
    (commands ++ last) c.push_time_marks.new.text c.push_frame.new.text c.in_ok-push_time_marks.ensures
    (parts-two c.push_time_marks.new.text commands last c.push_command_marks.new.text c.push_frame.new.text
    c.in_ok-push_command_marks.ensures put)))
    (rw (c.window.ensures, c.by.ensures) at c.push_frame.ensures)
