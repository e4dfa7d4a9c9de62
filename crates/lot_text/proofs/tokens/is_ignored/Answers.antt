use Rattle.lot_text.proofs.Lemmas.{ap, arith, eqb-false, eqb-true, ignored-next, is_ignored, parts-end, refl, separates, sym, ◌∙◌}
use Rattle.lot_text.proofs.tokens.is_ignored.Goals as goal

pub returns-then-is_empty : goal.returns-then-is_empty
returns-then-is_empty c =
    sym (ap (λ each. is_ignored each)
    (parts-end (separates c.args.separators) c.args.line.now _ c.separators_in_front.result
    c.separators_in_front.ensures.front refl (eqb-true _ _ (sym c.is_empty.ensures ∙ c.if-is_empty.true))))

pub returns : goal.returns
returns c =
    c.begins_comment.ensures ∙ sym (ignored-next (separates c.args.separators) c.args.line.now _
    c.separators_in_front.result c.separators_in_front.ensures.front refl
    (omega (arith, eqb-false _ 0 (sym c.is_empty.ensures ∙ c.if-is_empty.false))))
