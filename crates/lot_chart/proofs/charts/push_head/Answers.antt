use Rattle.lot_chart.proofs.Lemmas.{codes, decimal, escaped, on_ok_weaker, parts-after, parts-two, ◌++◌}
use Rattle.lot_chart.proofs.charts.push_head.Goals as goal

pub returns : goal.returns
returns c =
    let number = decimal c.args.width in
    let title = escaped c.args.title.now in
    let first = codes "<svg xmlns='http://www.w3.org/2000/svg' width='" in
    let second = codes "' height='540' viewBox='0 0 " in
    let font = codes " 540' role='img' aria-labelledby='title' font-family='sans-serif' font-size='12' fill='#222222'>\n<title id='title'>" in
    let third = codes "</title>\n<rect width='" in
    let fourth = codes "' height='540' fill='#ffffff'/>\n<text x='100' y='34' font-size='18'>" in
    let after = codes "</text>\n" in
    let end = title ++ after in
    let rest = third ++ (number ++ (fourth ++ end)) in
    let whole = c.push-2.new.self in
    on_ok_weaker c.push-2.result
    (λ put. parts-after c.args.text.now first number second
    (number ++ (font ++ (title ++ rest))) c.push_number_within.new.self whole c.in_ok-push_number_within.ensures
    (parts-two c.push_number_within.new.self number
    (font ++ (title ++ rest)) c.push_number.new.self whole c.in_ok-push_number.ensures
    (parts-two c.push_number.new.self font (title ++ rest) c.push.new.self whole c.in_ok-push.ensures
    (parts-two c.push.new.self title rest c.push_escaped.new.text whole c.in_ok-push_escaped.ensures
    (parts-after c.push_escaped.new.text third number fourth end c.push_number_within-2.new.self whole
    c.in_ok-push_number_within-2.ensures
    (parts-two c.push_number_within-2.new.self title after c.push_escaped-2.new.text whole
    c.in_ok-push_escaped-2.ensures put))))))
    c.push-2.ensures
