-- The loops open at a line.
use Rattle.lot_script.proofs.Common.{AreCopies, CanNest, IsCopy, IsScript, Item, List, None, OpenLoop, Option, ScriptLine, Some, ap, arith, drop, fold, length, loops_after, open_after, open_after_lines, open_at, pieces, refl, slice_get, slice_get_within, suc, take, zero, ℕ, [], ⊤, ◌+◌, ◌∙◌, ◌∷◌, ◌≡◌, ◌≤◌}
use Rattle.lot_simulation.specs.declared.script.ScriptLine.TheVariants as line
use Rattle.lot_script.proofs.Lists.{drop-element, slice_get_none}
use Rattle.lot_script.proofs.Nesting.{Nests-line}

-- as many are open as are counted
length-open_after : (i : ℕ) (l : ScriptLine) (loops : List OpenLoop)
    → length (open_after i l loops) ≡ loops_after (length loops) l
length-open_after i (line.Loop n) loops = omega arith
length-open_after i line.End [] = refl
length-open_after i line.End (o ∷ loops) = omega arith
length-open_after i (line.Compute n) loops = refl
length-open_after i (line.Set n) loops = refl
length-open_after i (line.Add n) loops = refl
length-open_after i (line.Trap t) loops = refl

pub length-open_after_lines : (i : ℕ) (loops : List OpenLoop) (lines : List ScriptLine)
    → length (open_after_lines i loops lines) ≡ fold loops_after (length loops) lines
length-open_after_lines i loops [] = refl
length-open_after_lines i loops (l ∷ lines) =
    length-open_after_lines (i + 1) (open_after i l loops) lines
    ∙ ap (λ count. fold loops_after count lines) (length-open_after i l loops)

-- each line nests in the loops that are open there
pub nests-there : (lines : List ScriptLine) (i : ℕ) (l : ScriptLine) → IsScript lines → slice_get lines i ≡ Some l
    → CanNest (length (open_at lines i)) l
nests-there lines i l script is =
    rw (length-open_after_lines 0 [] (take i lines)) (Nests-line 0 lines i l script.nests is)

-- one line further
open_after_lines-next : (k : ℕ) (loops : List OpenLoop) (lines : List ScriptLine) (i : ℕ) (l : ScriptLine)
    → slice_get lines i ≡ Some l
    → open_after_lines k loops (take (suc i) lines) ≡ open_after (k + i) l (open_after_lines k loops (take i lines))
open_after_lines-next k loops [] i l is = cc
open_after_lines-next k loops (x ∷ lines) zero l is =
    let same : x ≡ l = cc in
    let here : k + 0 ≡ k = omega arith in
    rw (same, here) refl
open_after_lines-next k loops (x ∷ lines) (suc i) l is =
    let here : k + 1 + i ≡ k + suc i = omega arith in
    open_after_lines-next (k + 1) (open_after k x loops) lines i l is
    ∙ ap (λ j. open_after j l (open_after_lines (k + 1) (open_after k x loops) (take i lines))) here

first : (i : ℕ) → 0 + i ≡ i
first i = omega arith

pub open_at-next : (lines : List ScriptLine) (i j : ℕ) (l : ScriptLine) → slice_get lines i ≡ Some l → j ≡ i + 1
    → open_at lines j ≡ open_after i l (open_at lines i)
open_at-next lines i j l is next =
    let following : j ≡ suc i = omega (arith, next) in
    rw following (open_after_lines-next 0 [] lines i l is ∙ ap (λ k. open_after k l (open_at lines i)) (first i))

-- The loops enclose a place at which these pieces are still to come: after the body of each the same pieces come, it
-- begins within the lines, and there it and those around it are open.
abbrev pub Encloses : List ScriptLine → List (List Item) → List OpenLoop → Type 0
Encloses lines others [] = ⊤
Encloses lines others (o ∷ loops) =
    (o.body ≤ length lines) × (others ≡ (pieces (drop o.body lines)).others) × (open_at lines o.body ≡ o ∷ loops)
    × Encloses lines (drop 1 others) loops

Encloses-end : (lines : List ScriptLine) (x : List Item) (others : List (List Item)) (loops : List OpenLoop)
    → Encloses lines (x ∷ others) loops → Encloses lines others (drop 1 loops)
Encloses-end lines x others [] encloses = tt
Encloses-end lines x others (o ∷ loops) encloses = encloses.3

-- one line further
Encloses-next : (lines : List ScriptLine) (i : ℕ) (l : ScriptLine) (loops : List OpenLoop) → slice_get lines i ≡ Some l
    → loops ≡ open_at lines i
    → Encloses lines (pieces (l ∷ drop (suc i) lines)).others loops
    → Encloses lines (pieces (drop (suc i) lines)).others (open_after i l loops)
Encloses-next lines i (line.Loop n) loops is here encloses =
    let next : suc i ≡ i + 1 = omega arith in
    let within : i + 1 ≤ length lines = omega (arith, slice_get_within lines i (line.Loop n) is) in
    (within, ap (λ j. (pieces (drop j lines)).others) next, rw here (open_at-next lines i (i + 1) (line.Loop n) is refl), encloses)
Encloses-next lines i line.End loops is here encloses =
    Encloses-end lines (pieces (drop (suc i) lines)).first (pieces (drop (suc i) lines)).others loops encloses
Encloses-next lines i (line.Compute n) loops is here encloses = encloses
Encloses-next lines i (line.Set n) loops is here encloses = encloses
Encloses-next lines i (line.Add n) loops is here encloses = encloses
Encloses-next lines i (line.Trap t) loops is here encloses = encloses

-- the loops that are open enclose each place
pub encloses-there : (lines : List ScriptLine) (i : ℕ) → i ≤ length lines
    → Encloses lines (pieces (drop i lines)).others (open_at lines i)
encloses-there lines zero within = tt
encloses-there lines (suc i) within = further (encloses-there lines i (omega (arith, within))) (slice_get lines i) refl
  where
    further : Encloses lines (pieces (drop i lines)).others (open_at lines i) → (o : Option ScriptLine)
        → slice_get lines i ≡ o
        → Encloses lines (pieces (drop (suc i) lines)).others (open_at lines (suc i))
    further before None none = absurd (omega (arith, within, slice_get_none lines i none))
    further before (Some l) is =
        let next : suc i ≡ i + 1 = omega arith in
        rw (open_at-next lines i (suc i) l is next)
        (Encloses-next lines i l (open_at lines i) is refl (rw (drop-element lines i l is) at before))

-- copies of a loop and those around it are copies of two lists in turn
pub copies-first : (o : OpenLoop) (outer firsts : List OpenLoop) → AreCopies (o ∷ outer) firsts
    → (f : OpenLoop) × (rest : List OpenLoop) × (firsts ≡ f ∷ rest) × IsCopy o f × AreCopies outer rest
copies-first o outer [] copies = absurd copies
copies-first o outer (f ∷ rest) copies = (f, rest, refl, copies.0, copies.1)
