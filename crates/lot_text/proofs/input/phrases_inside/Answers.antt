use Rattle.lot_text.proofs.Lemmas.{Gives-fault, fewer-tokens, phrases-end, phrases-fail, phrases-go_on, sym, ◌∙◌}
use Rattle.lot_text.proofs.input.phrases_inside.Goals as goal

pub returns-in_err-phrase_inside : goal.returns-in_err-phrase_inside
returns-in_err-phrase_inside c =
    let fails = phrases-fail c.in_err-phrase_inside.field-0.0 c.loop-tokens.reading c.loop-tokens.word.now
    c.loop-tokens.tokens c.in_err-phrase_inside.ensures.read in
    Gives-fault _ c.from_residual.result c.in_err-phrase_inside.field-0.0 _ c.from_residual.ensures.1
    c.from_residual.ensures.0 (rw (← c.loop-tokens.invariant) fails)

pub loop-tokens-smaller : goal.loop-tokens-smaller
loop-tokens-smaller c = fewer-tokens c.loop-tokens.word.now c.in-Some.next.now c.loop-tokens.tokens
    c.phrase_inside.new.tokens c.next_token.new.self c.in_ok-phrase_inside.ensures.left c.in-Some.ensures.next

pub loop-tokens-preserved : goal.loop-tokens-preserved
loop-tokens-preserved c =
    phrases-go_on c.loop-tokens.reading c.phrase_inside.new.reading c.loop-tokens.word.now c.in-Some.next.now
    c.loop-tokens.tokens c.phrase_inside.new.tokens c.next_token.new.self c.in_ok-phrase_inside.ensures.read
    c.in_ok-phrase_inside.ensures.left c.in-Some.ensures.next
    ∙ c.loop-tokens.invariant

pub returns-in-None : goal.returns-in-None
returns-in-None c =
    sym c.loop-tokens.invariant ∙ phrases-end c.loop-tokens.reading c.phrase_inside.new.reading c.loop-tokens.word.now
    c.loop-tokens.tokens c.phrase_inside.new.tokens c.in_ok-phrase_inside.ensures.read
    c.in_ok-phrase_inside.ensures.left c.in-None.ensures.next.0
