use Rattle.lot_print.proofs.Common.{List, ap, append_assoc, codes, decimal, ℕ, [], ◌++◌, ◌∙◌, ◌∷◌}
use Rattle.lot_print.proofs.replies.push_replied_then.Goals as goal

pub returns-clause-text : goal.returns-clause-text
returns-clause-text g c =
    c.push_text.ensures.text ∙ ap (λ (xs : List ℕ). xs ++ 32 ∷ []) c.push_count.ensures.text
    ∙ append_assoc c.args.line.now (codes "reply client " ++ decimal c.args.client) (32 ∷ [])
