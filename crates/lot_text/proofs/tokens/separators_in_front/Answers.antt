use Rattle.lot_text.proofs.Common.{YieldsList-from_slice, YieldsList-from_take_while, count_from_yields_List, length-prefix_len, rules, separates, tests, ◌∙◌}
use Rattle.lot_text.proofs.tokens.separators_in_front.Goals as goal

pub returns-clause-front : goal.returns-clause-front
returns-clause-front c =
    let bytes = c.args.bytes.now in
    count_from_yields_List c.take_while.result _ c.count.ensures.ran
    (YieldsList-from_take_while _ (separates c.args.separators) (YieldsList-from_slice bytes cc)
    c.take_while.ensures.closure c.take_while.ensures.done (λ x b q k. search (rules, tests)))
    ∙ length-prefix_len (separates c.args.separators) bytes
