use Rattle.lot_chart.proofs.Lemmas.{List, ap, codes, flat_map, newline, next_field, on_ok_weaker, parts-next, parts-two, take_all, ℕ, ◌++◌, ◌∙◌}
use Rattle.lot_chart.proofs.tables.push_header.Goals as goal

pub loop-name-preserved : goal.loop-name-preserved
loop-name-preserved c =
    let name = c.name-item.result in
    let put = rw c.as_bytes.ensures.bytes at c.in_ok-push_bytes.ensures in
    parts-next next_field c.args.names.now c.loop-name.name-index name name c.push.new.self c.loop-name.text
    c.push_bytes.new.self c.loop-name-test.true c.name-item.is c.loop-name.invariant
    (parts-two c.loop-name.text
    (codes ",") name c.push-in-loop-name.new.self c.push_bytes.new.self c.in_ok-push-2.ensures put)

pub returns : goal.returns
returns c =
    let names = c.args.names.now in
    let fields = flat_map next_field names in
    let first = c.push.new.self in
    let all = c.loop-name.invariant ∙ ap (λ (ns : List (List ℕ)). first ++ flat_map next_field ns)
    (take_all c.loop-name.name-index names c.loop-name-test.false) in
    on_ok_weaker c.push-2.result
    (λ put. parts-two c.args.text.now (codes "tick") (fields ++ newline) first c.push-2.new.self c.in_ok-push.ensures
    (parts-two first fields newline c.loop-name.text c.push-2.new.self all put))
    c.push-2.ensures
