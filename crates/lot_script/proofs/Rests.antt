-- The rest of a script at a place, and the items passed from there.
use Rattle.lot_script.proofs.Common.{Exit, Item, List, OpenLoop, Pieces, ScriptLine, Traps, Work, after_end, ap, append_assoc, drop, first_of_list, items_of, left_of, pieces, refl, repeat, suc, sym, ℕ, [], ⊤, ◌++◌, ◌∙◌, ◌∷◌, ◌≡◌}
use Rattle.lot_simulation.specs.declared.script.ScriptLine.TheVariants as line

-- neither a loop nor its end
abbrev pub IsPlain : ScriptLine → Type 0
IsPlain (line.Loop n) = ⊥
IsPlain line.End = ⊥
IsPlain other = ⊤

plain-pieces : (l : ScriptLine) (lines : List ScriptLine) → IsPlain l
    → pieces (l ∷ lines) ≡ record { first = items_of l ++ (pieces lines).first; others = (pieces lines).others }
plain-pieces (line.Loop n) lines plain = absurd plain
plain-pieces line.End lines plain = absurd plain
plain-pieces (line.Compute n) lines plain = refl
plain-pieces (line.Set n) lines plain = refl
plain-pieces (line.Add n) lines plain = refl
plain-pieces (line.Trap t) lines plain = refl

-- what the first pieces begin with comes first
left_of-front : (lines : List ScriptLine) (items : List Item) (p : Pieces) (loops : List OpenLoop)
    → left_of lines (record { first = items ++ p.first; others = p.others }) loops ≡ items ++ left_of lines p loops
left_of-front lines items p [] = refl
left_of-front lines items p (o ∷ outer) = append_assoc items p.first _

-- what is left at a line that is no loop and no end
pub left_of-plain : (lines : List ScriptLine) (l : ScriptLine) (following : List ScriptLine) (loops : List OpenLoop)
    → IsPlain l
    → left_of lines (pieces (l ∷ following)) loops ≡ items_of l ++ left_of lines (pieces following) loops
left_of-plain lines l following loops plain =
    rw (plain-pieces l following plain) (left_of-front lines (items_of l) (pieces following) loops)

regrouped : (b xs ys : List Item) → ((b ++ Work ∷ []) ++ xs) ++ ys ≡ b ++ Work ∷ (xs ++ ys)
regrouped b xs ys = append_assoc (b ++ Work ∷ []) xs ys ∙ append_assoc b (Work ∷ []) (xs ++ ys)

-- a loop is entered
left_of-looped : (lines : List ScriptLine) (n : ℕ) (p : Pieces) (o : OpenLoop) (outer : List OpenLoop)
    → (pieces (drop o.body lines)).first ≡ p.first → n ≡ suc o.left
    → left_of lines
    (record { first = Work ∷ repeat n (p.first ++ Work ∷ []) ++ first_of_list p.others; others = drop 1 p.others })
    outer
    ≡ Work ∷ left_of lines p (o ∷ outer)
left_of-looped lines n p o [] body count =
    rw (count, body)
    (ap (λ xs. Work ∷ xs) (regrouped p.first (repeat o.left (p.first ++ Work ∷ [])) (first_of_list p.others)))
left_of-looped lines n p o (next ∷ outer) body count =
    let copies : List Item = repeat o.left (p.first ++ Work ∷ []) in
    let rest : List Item = Work ∷ (repeat next.left ((pieces (drop next.body lines)).first ++ Work ∷ [])
    ++ left_of lines (after_end (after_end p)) outer) in
    rw (count, body) (ap (λ xs. Work ∷ xs) (ap (λ xs. xs ++ rest) (regrouped p.first copies (first_of_list p.others))
    ∙ append_assoc p.first (Work ∷ (copies ++ first_of_list p.others)) rest
    ∙ ap (λ xs. p.first ++ Work ∷ xs) (append_assoc copies (first_of_list p.others) rest)))

pub left_of-loop : (lines : List ScriptLine) (n : ℕ) (following : List ScriptLine) (o : OpenLoop)
    (outer : List OpenLoop) → drop o.body lines ≡ following → n ≡ suc o.left
    → left_of lines (pieces (line.Loop n ∷ following)) outer ≡ Work ∷ left_of lines (pieces following) (o ∷ outer)
left_of-loop lines n following o outer body count =
    left_of-looped lines n (pieces following) o outer (ap (λ ls. (pieces ls).first) body) count

-- a loop goes round again
left_of-round : (lines : List ScriptLine) (p : Pieces) (o again : OpenLoop) (outer : List OpenLoop) → p.first ≡ []
    → p.others ≡ (pieces (drop o.body lines)).others
    → again.body ≡ o.body → o.left ≡ suc again.left
    → left_of lines p (o ∷ outer) ≡ Work ∷ left_of lines (pieces (drop o.body lines)) (again ∷ outer)
left_of-round lines p o again outer none same_ends same_body count =
    let rest : List Item = left_of lines (after_end (pieces (drop o.body lines))) outer in
    rw (none, count, same_body, same_ends) (ap (λ xs. Work ∷ xs) (regrouped (pieces (drop o.body lines)).first
    (repeat again.left ((pieces (drop o.body lines)).first ++ Work ∷ [])) rest))

pub left_of-again : (lines : List ScriptLine) (following : List ScriptLine) (o again : OpenLoop) (outer : List OpenLoop)
    → (pieces (line.End ∷ following)).others ≡ (pieces (drop o.body lines)).others → again.body ≡ o.body
    → o.left ≡ suc again.left
    → left_of lines (pieces (line.End ∷ following)) (o ∷ outer) ≡ Work ∷ left_of lines (pieces (drop again.body lines))
    (again ∷ outer)
left_of-again lines following o again outer same_ends same_body count =
    left_of-round lines (pieces (line.End ∷ following)) o again outer refl same_ends same_body count
    ∙ ap (λ b. Work ∷ left_of lines (pieces (drop b lines)) (again ∷ outer)) (sym same_body)

-- one copy more is left
pub left_of-copy : (lines : List ScriptLine) (p : Pieces) (o : OpenLoop) (outer : List OpenLoop)
    → (pieces (drop o.body lines)).first ≡ p.first
    → left_of lines p (record o { left = suc o.left } ∷ outer) ≡ (p.first ++ Work ∷ []) ++ left_of lines p (o ∷ outer)
left_of-copy lines p o outer body =
    let rest : List Item = left_of lines (after_end p) outer in
    rw body (ap (λ xs. p.first ++ Work ∷ xs) (regrouped p.first (repeat o.left (p.first ++ Work ∷ [])) rest)
    ∙ sym (append_assoc p.first (Work ∷ []) _))

-- a loop is left
pub left_of-end : (lines : List ScriptLine) (following : List ScriptLine) (o : OpenLoop) (outer : List OpenLoop)
    → o.left ≡ 0
    → left_of lines (pieces (line.End ∷ following)) (o ∷ outer) ≡ Work ∷ left_of lines (pieces following) outer
left_of-end lines following o outer none = rw none refl

-- after the last line the exit comes next
pub left_of-exit : (lines : List ScriptLine) (loops : List OpenLoop)
    → (rest : List Item) × (left_of lines (pieces []) loops ≡ Traps Exit ∷ rest)
left_of-exit lines [] = ([], refl)
left_of-exit lines (o ∷ outer) = (_, refl)
