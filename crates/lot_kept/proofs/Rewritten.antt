-- A lemma for callers that write a table as a slice.
use Rattle.std.proofs.Common.{◌≡◌, List, ◌++◌, length, take, ap, ◌∙◌, append-nil, take_all, drop_of_length-le, arith}
use Rattle.lot_kept.specs.Table.{rewritten}

-- what was written as a slice of this length is what the list then is
pub rewritten_is : {T : Type 0} (xs written : List T) → length written ≡ length xs → rewritten xs written ≡ written
rewritten_is xs written same =
    ap (λ rest. take (length xs) (written ++ rest)) (drop_of_length-le xs (omega arith))
    ∙ ap (take (length xs)) (append-nil written) ∙ take_all (length xs) written (omega arith)
