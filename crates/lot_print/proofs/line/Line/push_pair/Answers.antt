use Rattle.lot_print.proofs.Lemmas.{List, PAIRS_at, ap, append_assoc, ℕ, [], ◌++◌, ◌∙◌, ◌∷◌, ◌≡◌}
use Rattle.lot_print.proofs.line.Line.push_pair.Goals as goal

-- one byte after another
two_bytes : (old mid new : List ℕ) (a b tens ones : ℕ) → mid ≡ old ++ a ∷ [] → new ≡ mid ++ b ∷ [] → a ≡ tens → b ≡ ones
    → new ≡ old ++ tens ∷ ones ∷ []
two_bytes old mid new a b tens ones first second is is_too =
    second ∙ ap (λ xs. xs ++ b ∷ []) first ∙ append_assoc old (a ∷ []) (b ∷ []) ∙ ap (λ x. old ++ x ∷ b ∷ []) is
    ∙ ap (λ x. old ++ tens ∷ x ∷ []) is_too

pub returns-clause-text : goal.returns-clause-text
returns-clause-text g c =
    let p = PAIRS_at c.args.number c.requires.1 in
    two_bytes c.args.self.now c.push_byte.new.self c.push_byte-2.new.self _ _ _ _ c.push_byte.ensures.text
    c.push_byte-2.ensures.text p.0 p.1
