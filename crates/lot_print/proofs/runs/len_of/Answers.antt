use Rattle.lot_print.proofs.Common.{YieldsList-from_slice, YieldsList-from_take_while, count_from_yields_List, eqb, length-prefix_len, rules, tests, ◌∙◌}
use Rattle.lot_print.proofs.runs.len_of.Goals as goal

pub returns-clause-turns : goal.returns-clause-turns
returns-clause-turns c =
    let history = c.args.history.now in
    count_from_yields_List c.take_while.result _ c.count.ensures.ran (YieldsList-from_take_while _
    (λ a. eqb a c.args.actor) (YieldsList-from_slice history cc) c.take_while.ensures.closure c.take_while.ensures.done
    (λ x b q k. search (rules, tests))) ∙ length-prefix_len (λ a. eqb a c.args.actor) history
