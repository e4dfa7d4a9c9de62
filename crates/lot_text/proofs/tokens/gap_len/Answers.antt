use Rattle.lot_text.proofs.Common.{YieldsList-from_slice, YieldsList-from_take_while, count_from_yields_List, length-prefix_len, nat_le, rules, tests, ◌∙◌}
use Rattle.lot_text.proofs.tokens.gap_len.Goals as goal

pub returns-clause-gap : goal.returns-clause-gap
returns-clause-gap c =
    let bytes = c.args.bytes.now in
    count_from_yields_List c.take_while.result _ c.count.ensures.ran
    (YieldsList-from_take_while _ (λ b. nat_le b 32) (YieldsList-from_slice bytes cc) c.take_while.ensures.closure
    c.take_while.ensures.done (λ x b q k. search (rules, tests))) ∙ length-prefix_len (λ b. nat_le b 32) bytes
