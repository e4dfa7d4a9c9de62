use Rattle.lot_text.proofs.Common.{length, phrases_inside, phrases_of, ◌∷◌, ◌≡◌}
use Rattle.lot_text.proofs.input.phrases_inside.Given as goal

abbrev pub invariant-loop-tokens : goal.invariant-loop-tokens
invariant-loop-tokens l = phrases_inside l.reading (phrases_of (l.word ∷ l.tokens))
    ≡ phrases_inside l.initial.reading (phrases_of (l.first ∷ l.initial.tokens))

abbrev pub decreases-loop-tokens : goal.decreases-loop-tokens
decreases-loop-tokens l = length l.tokens
