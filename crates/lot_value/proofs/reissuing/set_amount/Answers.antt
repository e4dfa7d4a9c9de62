use Rattle.lot_value.proofs.Lemmas.{LimitedFunding, SetAmount, amount-same, ap, done, follows-none, sym, ticket_at, ◌∙◌}
use Rattle.lot_value.proofs.reissuing.set_amount.Goals as goal

pub returns-then-before-amount-clause-applied : goal.returns-then-before-amount-clause-applied
returns-then-before-amount-clause-applied c =
    let old = c.args.graph.now in
    let at = ap (λ (w : LimitedFunding). ticket_at w.funding c.args.ticket) (sym c.graph.ensures)
    ∙ sym c.ticket.ensures.ticket ∙ c.in-Some.is in
    let same = amount-same old.now old.now c.args.ticket c.in-Some.before at c.args.amount c.if-before-amount.true in
    (done (SetAmount c.args.ticket c.args.amount) old old (follows-none old _ same) (λ never. never) tt).applied_to
