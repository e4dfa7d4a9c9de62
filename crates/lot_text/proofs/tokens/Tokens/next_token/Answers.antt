use Rattle.lot_text.proofs.Lemmas.{arith, eqb-false, eqb-true, nat_le, parts-alone, parts-end, parts-next, refl, sym, ◌∙◌}
use Rattle.lot_text.proofs.tokens.Tokens.next_token.Goals as goal

pub returns-then-is_empty-clause-next : goal.returns-then-is_empty-clause-next
returns-then-is_empty-clause-next c =
    let none = sym c.self.view_is ∙ parts-end (λ b. nat_le b 32) c.self.inside.rest.now _ c.gap_len.result
    c.gap_len.ensures.gap refl (eqb-true _ _ (sym c.is_empty.ensures ∙ c.if-is_empty.true)) in
    (none, none)

pub returns-clause-next : goal.returns-clause-next
returns-clause-next c = sym c.self.view_is ∙ parts-next
    (λ b. nat_le b 32) c.self.inside.rest.now _ _ c.gap_len.result c.word_len-len.result c.gap_len.ensures.gap refl
    (omega (arith, eqb-false _ 0 (sym c.is_empty.ensures ∙ c.if-is_empty.false))) c.word_len-len.ensures.word refl

pub returns-clause-alone : goal.returns-clause-alone
returns-clause-alone c = parts-alone
    (λ b. nat_le b 32) c.self.inside.rest.now _ c.gap_len.result c.word_len-len.result c.gap_len.ensures.gap refl
    (omega (arith, eqb-false _ 0 (sym c.is_empty.ensures ∙ c.if-is_empty.false))) c.word_len-len.ensures.word
