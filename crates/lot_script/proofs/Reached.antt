-- The rest at a place that fits is a rest of the unrolled list.
use Rattle.lot_script.proofs.Common.{Add, AreCopies, Exit, Fits, IsLine, IsRestOf, IsScript, Item, List, None, OpenLoop, Option, Pieces, Place, ScriptLine, ScriptTrap, Set, Some, Stands, Traps, Work, ap, append_assoc, arith, drop, items_of, left_of, length, length-append, length-replicate, open_after, open_at, option_and_then, pieces, refl, rest_at, slice_get, subst, suc, take, take-append-drop, trap_of, unrolled, zero, ℕ, [], ◌++◌, ◌+◌, ◌-◌, ◌<◌, ◌∙◌, ◌∷◌, ◌≡◌, ◌≤◌}
use Rattle.lot_simulation.specs.declared.script.ScriptLine.TheVariants as line
use Rattle.lot_script.proofs.Lists.{slice_get_none, drop-element, All-element}
use Rattle.lot_script.proofs.Opened.{open_at-next, nests-there}
use Rattle.lot_script.proofs.Passed.{stands-done, stands-good, stands-nests, rest_at-begun, rest_at-plain, rest_at-compute, MakesTrap-exit}
use Rattle.lot_script.proofs.Rests.{IsPlain, left_of-plain, left_of-loop, left_of-end, left_of-copy}

-- what comes after the front of a rest is a rest
rest-after : (front items whole : List Item) → IsRestOf (front ++ items) whole → IsRestOf items whole
rest-after front items whole rest = (rest.0 ++ front, append_assoc rest.0 front items ∙ rest.1)

rest-drop : (k : ℕ) (items whole : List Item) → IsRestOf items whole → IsRestOf (drop k items) whole
rest-drop k items whole rest = rest-after (take k items) (drop k items) whole (rw (take-append-drop k items) rest)

-- with some of a loop's copies passed, what is left is a rest of what was
rest-copies : (lines : List ScriptLine) (p : Pieces) (o : OpenLoop) (outer : List OpenLoop) (whole : List Item)
    (more : ℕ) → (pieces (drop o.body lines)).first ≡ p.first
    → IsRestOf (left_of lines p (record o { left = more + o.left } ∷ outer)) whole
    → IsRestOf (left_of lines p (o ∷ outer)) whole
rest-copies lines p o outer whole zero body rest =
    let none : 0 + o.left ≡ o.left = omega arith in
    rw none at rest
rest-copies lines p o outer whole (suc more) body rest =
    let some : suc more + o.left ≡ suc (more + o.left) = omega arith in
    let fewer : OpenLoop = record o { left = more + o.left } in
    let first : left_of lines p (record o { left = suc more + o.left } ∷ outer) ≡ (p.first ++ Work ∷ [])
    ++ left_of lines p (fewer ∷ outer) = rw some (left_of-copy lines p fewer outer body) in
    rest-copies lines p o outer whole more body (rest-after (p.first ++ Work ∷ [])
    (left_of lines p (fewer ∷ outer)) whole (subst (λ items. IsRestOf items whole) first rest))

rest-plain : (lines : List ScriptLine) (i : ℕ) (l : ScriptLine) (loops : List OpenLoop) (whole : List Item) → IsPlain l
    → IsRestOf (left_of lines (pieces (l ∷ drop (suc i) lines)) loops) whole
    → IsRestOf (left_of lines (pieces (drop (suc i) lines)) loops) whole
rest-plain lines i l loops whole plain before =
    rest-after (items_of l) _ whole
    (subst (λ items. IsRestOf items whole) (left_of-plain lines l (drop (suc i) lines) loops plain) before)

-- one line further
rest-next : (lines : List ScriptLine) (i : ℕ) (l : ScriptLine) (loops : List OpenLoop) (whole : List Item)
    → IsScript lines → slice_get lines i ≡ Some l
    → AreCopies loops (open_after i l (open_at lines i))
    → ((before : List OpenLoop) → AreCopies before (open_at lines i)
    → IsRestOf (left_of lines (pieces (l ∷ drop (suc i) lines)) before) whole)
    → IsRestOf (left_of lines (pieces (drop (suc i) lines)) loops) whole
rest-next lines i (line.Loop n) [] whole script is copies before = absurd copies
rest-next lines i (line.Loop n) (o ∷ outer) whole script is copies before =
    let good : IsLine (line.Loop n) = All-element IsLine lines i (line.Loop n) script.each is in
    let first : OpenLoop = record { body = i + 1; left = n - 1 } in
    let next : i + 1 ≡ suc i = omega arith in
    let count : n ≡ suc (n - 1) = omega (arith, good.0) in
    let entered : IsRestOf (left_of lines (pieces (drop (suc i) lines)) (first ∷ outer)) whole =
    rest-after (Work ∷ []) _ whole (subst (λ items. IsRestOf items whole) (left_of-loop lines n
    (drop (suc i) lines) first outer (ap (λ j. drop j lines) next) count) (before outer copies.1)) in
    let more : n - 1 - o.left + o.left ≡ n - 1 = omega (arith, copies.0.left) in
    let body : (pieces (drop o.body lines)).first ≡ (pieces (drop (suc i) lines)).first =
    rw (copies.0.body, next) refl in
    let same : first ≡ record o { left = n - 1 - o.left + o.left } = rw (more, copies.0.body) refl in
    rest-copies lines (pieces (drop (suc i) lines)) o outer whole (n - 1 - o.left) body
    (subst (λ f. IsRestOf (left_of lines (pieces (drop (suc i) lines)) (f ∷ outer)) whole) same entered)
rest-next lines i line.End loops whole script is copies before = of_open (open_at lines i) refl
  where
    of_open : (loops_there : List OpenLoop) → open_at lines i ≡ loops_there
        → IsRestOf (left_of lines (pieces (drop (suc i) lines)) loops) whole
    of_open [] none = let some : 0 < length (open_at lines i) = nests-there lines i line.End script is in
        absurd (omega (arith, some, ap length none))
    of_open (f ∷ firsts) here =
        let last : OpenLoop = record f { left = 0 } in
        let following : AreCopies loops firsts = subst (λ fs. AreCopies loops (drop 1 fs)) here copies in
        let there : AreCopies (last ∷ loops) (open_at lines i) =
        rw here (record { body = refl; left = omega arith }, following) in
        rest-after (Work ∷ []) _ whole (subst (λ items. IsRestOf items whole)
        (left_of-end lines (drop (suc i) lines) last loops refl) (before (last ∷ loops) there))
rest-next lines i (line.Compute n) loops whole script is copies before =
    rest-plain lines i (line.Compute n) loops whole tt (before loops copies)
rest-next lines i (line.Set n) loops whole script is copies before =
    rest-plain lines i (line.Set n) loops whole tt (before loops copies)
rest-next lines i (line.Add n) loops whole script is copies before =
    rest-plain lines i (line.Add n) loops whole tt (before loops copies)
rest-next lines i (line.Trap t) loops whole script is copies before =
    rest-plain lines i (line.Trap t) loops whole tt (before loops copies)

-- what is left at the beginning of a line
rest-begun : (lines : List ScriptLine) (i : ℕ) (loops : List OpenLoop) → IsScript lines → i ≤ length lines
    → AreCopies loops (open_at lines i)
    → IsRestOf (left_of lines (pieces (drop i lines)) loops) (unrolled lines)
rest-begun lines zero [] script within copies = ([], refl)
rest-begun lines zero (o ∷ outer) script within copies = absurd copies
rest-begun lines (suc i) loops script within copies =
    further (λ before there. rest-begun lines i before script (omega (arith, within)) there) (slice_get lines i) refl
  where
    further : ((before : List OpenLoop) → AreCopies before (open_at lines i)
        → IsRestOf (left_of lines (pieces (drop i lines)) before) (unrolled lines))
        → (o : Option ScriptLine) → slice_get lines i ≡ o
        → IsRestOf (left_of lines (pieces (drop (suc i) lines)) loops) (unrolled lines)
    further before None none = absurd (omega (arith, within, slice_get_none lines i none))
    further before (Some l) is =
        let next : suc i ≡ i + 1 = omega arith in
        let there : AreCopies loops (open_after i l (open_at lines i)) =
        rw (open_at-next lines i (suc i) l is next) at copies in
        rest-next lines i l loops (unrolled lines) script is there
        (λ earlier fits. rw (drop-element lines i l is) at before earlier fits)

pub rest-there : (lines : List ScriptLine) (place : Place) → IsScript lines → Fits lines place
    → IsRestOf (rest_at lines place) (unrolled lines)
rest-there lines place script fits =
    rest-drop place.done _ (unrolled lines) (rest-begun lines place.line place.loops script fits.line fits.loops)

-- ---- something is left

some-first : (x : Item) (items : List Item) → 0 < length (x ∷ items)
some-first x items = omega arith

some-trap : (items : List Item) (t : ScriptTrap) → option_and_then trap_of (slice_get items 0) ≡ Some t
    → 0 < length items
some-trap [] t is = cc
some-trap (x ∷ items) t is = some-first x items

some-plain : (lines : List ScriptLine) (p : Place) (l : ScriptLine) (x : Item) → IsPlain l → Stands lines p l
    → p.done ≡ 0 → items_of l ≡ x ∷ [] → 0 < length (rest_at lines p)
some-plain lines p l x plain at none is = rw (rest_at-plain lines p l plain at none
    ∙ ap (λ items. items ++ left_of lines (pieces (drop (suc p.line) lines)) p.loops) is) (some-first x _)

some-compute : (lines : List ScriptLine) (p : Place) (n : ℕ) → Stands lines p (line.Compute n)
    → 0 < length (rest_at lines p)
some-compute lines p n at =
    let left : p.done < n = stands-done lines p (line.Compute n) at in
    let following : List Item = left_of lines (pieces (drop (suc p.line) lines)) p.loops in
    rw (rest_at-compute lines p n at.next left, length-append, length-replicate) (omega arith)

some-end : (lines : List ScriptLine) (p : Place) (loops : List OpenLoop) → p.loops ≡ loops → Stands lines p line.End
    → 0 < length (rest_at lines p)
some-end lines p [] none at = let some : 0 < length p.loops = stands-nests lines p line.End at in
    absurd (omega (arith, some, ap length none))
some-end lines p (o ∷ outer) is at =
    rw (rest_at-begun lines p line.End at (stands-done lines p line.End at)
    ∙ ap (λ loops. left_of lines (pieces (line.End ∷ drop (suc p.line) lines)) loops) is) (some-first Work _)

some-line : (lines : List ScriptLine) (p : Place) (l : ScriptLine) → Stands lines p l → 0 < length (rest_at lines p)
some-line lines p (line.Compute n) at = some-compute lines p n at
some-line lines p (line.Set n) at =
    some-plain lines p (line.Set n) (Set n) tt at (stands-done lines p (line.Set n) at) refl
some-line lines p (line.Add n) at =
    some-plain lines p (line.Add n) (Add n) tt at (stands-done lines p (line.Add n) at) refl
some-line lines p (line.Loop n) at =
    let good : IsLine (line.Loop n) = stands-good lines p (line.Loop n) at in
    let o : OpenLoop = record { body = p.line + 1; left = n - 1 } in
    let next : p.line + 1 ≡ suc p.line = omega arith in
    let count : n ≡ suc (n - 1) = omega (arith, good.0) in
    rw (rest_at-begun lines p (line.Loop n) at (stands-done lines p (line.Loop n) at)
    ∙ left_of-loop lines n (drop (suc p.line) lines) o p.loops (ap (λ j. drop j lines) next) count) (some-first Work _)
some-line lines p line.End at = some-end lines p p.loops refl at
some-line lines p (line.Trap t) at =
    some-plain lines p (line.Trap t) (Traps t) tt at (stands-done lines p (line.Trap t) at) refl

-- the exit is never passed, so something is left at each place that fits
pub some-there : (lines : List ScriptLine) (place : Place) → IsScript lines → Fits lines place
    → 0 < length (rest_at lines place)
some-there lines place script fits = at_line (slice_get lines place.line) refl
  where
    at_line : (o : Option ScriptLine) → slice_get lines place.line ≡ o → 0 < length (rest_at lines place)
    at_line None none = some-trap (rest_at lines place) Exit (MakesTrap-exit lines place fits none).stands
    at_line (Some l) is = some-line lines place l (record { script = script; fits = fits; next = is })
