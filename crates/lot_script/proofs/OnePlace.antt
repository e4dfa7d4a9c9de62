-- Two places of a script with the same rest of its list are one place, since a thread passes each mark and trap once.
use Rattle.lot_script.proofs.Common.{AreCopies, CanBeDone, Exit, Fits, IsScript, Item, List, None, OpenLoop, Option, Place, ScriptLine, Some, Stands, Traps, ap, arith, cases_lt, context_at, drop, drop_all, first_place, fold, inl, inr, length, length-drop, loops_after, open_after, open_at, refl, rest_after, rest_at, slice_get, slice_get_within, subst, suc, sym, take, take_all, unrolled, zero, ℕ, [], ⊤, ◌+◌, ◌-◌, ◌<◌, ◌∙◌, ◌∷◌, ◌≡◌, ◌≢◌, ◌≤◌, ◌⊎◌}
use Rattle.lot_simulation.specs.declared.script.ScriptLine.TheVariants as line
use Rattle.lot_script.proofs.Lists.{slice_get_none, drop-element, drop-add}
use Rattle.lot_script.proofs.Opened.{open_at-next, encloses-there, copies-first, length-open_after_lines}
use Rattle.lot_script.proofs.Passed.{stands-good, stands-nests, stands-done, Fits-line, Passes-some, Passes-whole, Passes-set, Passes-add, Passes-loop, Passes-after, Passes-again, trap-drops, MakesTrap-line}
use Rattle.lot_script.proofs.Reached.{some-there}

first_same : {x y : OpenLoop} {xs ys : List OpenLoop} → x ∷ xs ≡ y ∷ ys → x ≡ y
first_same e = cc

rest_same : {x y : OpenLoop} {xs ys : List OpenLoop} → x ∷ xs ≡ y ∷ ys → xs ≡ ys
rest_same e = cc

same_loop : (x y : OpenLoop) → x.body ≡ y.body → x.left ≡ y.left → x ≡ y
same_loop x y body left = of_fields x.body x.left y.body y.left body left
  where
    of_fields : (b l c m : ℕ) → b ≡ c → l ≡ m → (let u : OpenLoop = record { body = b; left = l } in u)
        ≡ (let v : OpenLoop = record { body = c; left = m } in v)
    of_fields b l c m one two = rw (one, two) refl

-- ---- which loops are open at a line

-- each loop's body begins at this line or before it
abbrev AreLow : ℕ → List OpenLoop → Type 0
AreLow i [] = ⊤
AreLow i (o ∷ loops) = (o.body ≤ i) × AreLow i loops

low-more : (i j : ℕ) (loops : List OpenLoop) → i ≤ j → AreLow i loops → AreLow j loops
low-more i j [] more low = tt
low-more i j (o ∷ loops) more low = (omega (arith, low.0, more), low-more i j loops more low.1)

low-drop : (i : ℕ) (loops : List OpenLoop) → AreLow i loops → AreLow i (drop 1 loops)
low-drop i [] low = tt
low-drop i (o ∷ loops) low = low.1

one-more : (i : ℕ) → i ≤ i + 1
one-more i = omega arith

low-after : (i : ℕ) (l : ScriptLine) (loops : List OpenLoop) → AreLow i loops → AreLow (i + 1) (open_after i l loops)
low-after i (line.Loop n) loops low = (omega arith, low-more i (i + 1) loops (one-more i) low)
low-after i line.End loops low = low-more i (i + 1) (drop 1 loops) (one-more i) (low-drop i loops low)
low-after i other loops low = low-more i (i + 1) loops (one-more i) low

low-there : (lines : List ScriptLine) (i : ℕ) → i ≤ length lines → AreLow i (open_at lines i)
low-there lines zero within = tt
low-there lines (suc i) within = further (low-there lines i (omega (arith, within))) (slice_get lines i) refl
  where
    next : suc i ≡ i + 1
    next = omega arith

    further : AreLow i (open_at lines i) → (o : Option ScriptLine) → slice_get lines i ≡ o
        → AreLow (suc i) (open_at lines (suc i))
    further low None none = absurd (omega (arith, within, slice_get_none lines i none))
    further low (Some l) is = rw (open_at-next lines i (suc i) l is next, next) (low-after i l (open_at lines i) low)

low-first : (i : ℕ) (loops : List OpenLoop) (f : OpenLoop) (rest : List OpenLoop) → AreLow i loops → loops ≡ f ∷ rest
    → f.body ≤ i
low-first i loops f rest low is = let both : AreLow i (f ∷ rest) = subst (AreLow i) is low in both.0

-- The loop whose body begins at this line is opened by the line before it, inside of those that are open there.
record IsOpened (lines : List ScriptLine) (k : ℕ) (f : OpenLoop) (rest : List OpenLoop) : Type 0 where
  before : ℕ
  times : ℕ
  next : k ≡ before + 1
  is : slice_get lines before ≡ Some (line.Loop times)
  first : f ≡ record { body = before + 1; left = times - 1 }
  outer : rest ≡ open_at lines before

opened : (lines : List ScriptLine) (k : ℕ) (f : OpenLoop) (rest : List OpenLoop) → k ≤ length lines
    → open_at lines k ≡ f ∷ rest → f.body ≡ k → IsOpened lines k f rest
opened lines zero f rest within here body = cc
opened lines (suc j) f rest within here body = at_line (slice_get lines j) refl
  where
    next : suc j ≡ j + 1
    next = omega arith

    low : AreLow j (open_at lines j)
    low = low-there lines j (omega (arith, within))

    of_line : (l : ScriptLine) → slice_get lines j ≡ Some l → open_after j l (open_at lines j) ≡ f ∷ rest
        → IsOpened lines (suc j) f rest
    of_line (line.Loop n) is there = record { before = j; times = n; next = next; is = is; first = cc; outer = cc }
    of_line line.End is there = absurd
        (omega (arith, body, low-first j (drop 1 (open_at lines j)) f rest (low-drop j (open_at lines j) low) there))
    of_line other is there = absurd (omega (arith, body, low-first j (open_at lines j) f rest low there))

    at_line : (o : Option ScriptLine) → slice_get lines j ≡ o → IsOpened lines (suc j) f rest
    at_line None none = absurd (omega (arith, within, slice_get_none lines j none))
    at_line (Some l) is = of_line l is (sym (open_at-next lines j (suc j) l is next) ∙ here)

-- no loop's body begins at this line
abbrev Avoid : ℕ → List OpenLoop → Type 0
Avoid k [] = ⊤
Avoid k (o ∷ loops) = (o.body ≢ k) × Avoid k loops

low-avoid : (j k : ℕ) (loops : List OpenLoop) → j < k → AreLow j loops → Avoid k loops
low-avoid j k [] less low = tt
low-avoid j k (o ∷ loops) less low = (omega (arith, low.0, less), low-avoid j k loops less low.1)

avoid-drop : (k : ℕ) (loops : List OpenLoop) → Avoid k loops → Avoid k (drop 1 loops)
avoid-drop k [] avoid = tt
avoid-drop k (o ∷ loops) avoid = avoid.1

avoid-after : (k i : ℕ) (l : ScriptLine) (loops : List OpenLoop) → k ≤ i → Avoid k loops
    → Avoid k (open_after i l loops)
avoid-after k i (line.Loop n) loops past avoid = (omega (arith, past), avoid)
avoid-after k i line.End loops past avoid = avoid-drop k loops avoid
avoid-after k i other loops past avoid = avoid

-- a loop that was left is never opened again
avoid-later : (lines : List ScriptLine) (k e d m : ℕ) → k ≤ e → m ≡ d + suc e → m ≤ length lines
    → Avoid k (open_at lines (suc e)) → Avoid k (open_at lines m)
avoid-later lines k e zero m past is within avoid =
    let same : m ≡ suc e = omega (arith, is) in
    rw same avoid
avoid-later lines k e (suc d) m past is within avoid =
    further (avoid-later lines k e d (d + suc e) past refl (omega (arith, is, within)) avoid)
    (slice_get lines (d + suc e)) refl
  where
    next : m ≡ d + suc e + 1
    next = omega (arith, is)

    further : Avoid k (open_at lines (d + suc e)) → (o : Option ScriptLine) → slice_get lines (d + suc e) ≡ o
        → Avoid k (open_at lines m)
    further earlier None none = absurd (omega (arith, within, next, slice_get_none lines (d + suc e) none))
    further earlier (Some l) here = rw (open_at-next lines (d + suc e) m l here next)
        (avoid-after k (d + suc e) l (open_at lines (d + suc e)) (omega (arith, past)) earlier)

-- ---- one mark or trap further

-- how much is done of a line, and which loops are open, before the line after it begins
abbrev IsPassed : ScriptLine → Place → Place → Type 0
IsPassed (line.Compute n) p q = (p.done + 1 ≡ n) × (p.loops ≡ q.loops)
IsPassed (line.Loop n) p q = (p.done ≡ 0) × (q.loops ≡ record { body = p.line + 1; left = n - 1 } ∷ p.loops)
IsPassed line.End p q = (p.done ≡ 0) × ((o : OpenLoop) × (p.loops ≡ o ∷ q.loops) × (o.left ≡ 0))
IsPassed other p q = (p.done ≡ 0) × (p.loops ≡ q.loops)

-- an `end` from which the next copy of its loop begins
record IsAgain (lines : List ScriptLine) (p q : Place) : Type 0 where
  is : slice_get lines p.line ≡ Some line.End
  begun : p.done ≡ 0
  there : q.done ≡ 0
  loop : OpenLoop
  outer : List OpenLoop
  left : ℕ
  inside : p.loops ≡ loop ∷ outer
  some : loop.left ≡ suc left
  body : q.line ≡ loop.body
  again : q.loops ≡ record { body = loop.body; left = left } ∷ outer

-- one mark or trap is passed, whatever becomes of the accumulator
data Step (lines : List ScriptLine) (p q : Place) : Type 0 where
  Within : (n : ℕ) → slice_get lines p.line ≡ Some (line.Compute n) → q.line ≡ p.line → q.done ≡ p.done + 1
      → q.loops ≡ p.loops → Step lines p q
  Past : (l : ScriptLine) → slice_get lines p.line ≡ Some l → q.line ≡ p.line + 1 → q.done ≡ 0 → IsPassed l p q
      → Step lines p q
  Again : IsAgain lines p q → Step lines p q

-- the same place but for the accumulator
record IsSameSpot (p q : Place) : Type 0 where
  line : p.line ≡ q.line
  done : p.done ≡ q.done
  loops : p.loops ≡ q.loops

-- ---- a place is reached from one place alone

-- the loops in which the next copy begins are opened by the line before their body
again-opened : (lines : List ScriptLine) (p q : Place) → IsScript lines → Fits lines p → (a : IsAgain lines p q)
    → (f : OpenLoop) × (rest : List OpenLoop) × (open_at lines p.line ≡ f ∷ rest) × (f.body ≡ q.line)
    × (suc a.left ≤ f.left) × IsOpened lines q.line f rest
again-opened lines p q script fits a =
    let first = copies-first a.loop a.outer (open_at lines p.line)
    (subst (λ l. AreCopies l (open_at lines p.line)) a.inside fits.loops) in
    let f : OpenLoop = first.0 in
    let encloses = rw (first.2, drop-element lines p.line line.End a.is) at (encloses-there lines p.line fits.line) in
    let body : f.body ≡ q.line = omega (arith, first.3.body, a.body) in
    let within : q.line ≤ length lines = omega (arith, body, encloses.0) in
    let here : open_at lines q.line ≡ f ∷ first.1 = rw (← body) encloses.2 in
    (f, first.1, first.2, body, omega (arith, a.some, first.3.left), opened lines q.line f first.1 within here body)

-- the line before the body doesn't lead to a later copy
past-again : (lines : List ScriptLine) (p r q : Place) (l : ScriptLine) → IsScript lines → Fits lines r
    → slice_get lines p.line ≡ Some l → q.line ≡ p.line + 1 → IsPassed l p q → IsAgain lines r q → ⊥
past-again lines p r q l script fits is next passed a =
    let there = again-opened lines r q script fits a in
    let o : IsOpened lines q.line there.0 there.1 = there.5 in
    let same : o.before ≡ p.line = omega (arith, o.next, next) in
    let loop : l ≡ line.Loop o.times = cc_line o.before o.times same o.is in
    let first : q.loops ≡ record { body = p.line + 1; left = o.times - 1 } ∷ p.loops =
    (subst (λ x. IsPassed x p q) loop passed).1 in
    let left : a.left ≡ o.times - 1 = ap (λ x. x.left) (first_same (sym a.again ∙ first)) in
    let most : there.0.left ≡ o.times - 1 = ap (λ x. x.left) o.first in
    omega (arith, left, most, there.4)
  where
    cc_line : (b n : ℕ) → b ≡ p.line → slice_get lines b ≡ Some (line.Loop n) → l ≡ line.Loop n
    cc_line b n same other = let here : slice_get lines p.line ≡ Some (line.Loop n) = rw (← same) other in cc

-- it ends at one `end` alone
again-line : (lines : List ScriptLine) (p r q : Place) → IsScript lines → Fits lines p → Fits lines r
    → IsAgain lines p q → IsAgain lines r q → p.line < r.line → ⊥
again-line lines p r q script fits other a b less =
    let here = again-opened lines p q script fits a in
    let there = again-opened lines r q script other b in
    let o : IsOpened lines q.line here.0 here.1 = here.5 in
    let inside : here.0.body ≤ p.line =
    low-first p.line (open_at lines p.line) here.0 here.1 (low-there lines p.line fits.line) here.2 in
    let past : q.line ≤ p.line = omega (arith, here.3, inside) in
    let before : o.before ≤ length lines = omega (arith, slice_get_within lines o.before (line.Loop o.times) o.is) in
    let outer : Avoid q.line here.1 = rw (o.outer)
    (low-avoid o.before q.line (open_at lines o.before) (omega (arith, o.next)) (low-there lines o.before before)) in
    let left : open_at lines (suc p.line) ≡ here.1 = open_at-next lines p.line (suc p.line) line.End a.is (omega arith)
    ∙ ap (drop 1) here.2 in
    let count : r.line ≡ r.line - suc p.line + suc p.line = omega (arith, less) in
    let avoid : Avoid q.line (open_at lines r.line) =
    avoid-later lines q.line p.line (r.line - suc p.line) r.line past count other.line (rw left outer) in
    let first : Avoid q.line (there.0 ∷ there.1) = subst (Avoid q.line) there.2 avoid in
    first.0 there.3

again-same : (lines : List ScriptLine) (p r q : Place) → IsScript lines → Fits lines p → Fits lines r
    → IsAgain lines p q → IsAgain lines r q → p.line ≡ r.line
again-same lines p r q script fits other a b = either (cases_lt p.line r.line) (cases_lt r.line p.line)
  where
    either : (p.line < r.line) ⊎ (r.line ≤ p.line) → (r.line < p.line) ⊎ (p.line ≤ r.line) → p.line ≡ r.line
    either (inl less) more = absurd (again-line lines p r q script fits other a b less)
    either (inr most) (inl less) = absurd (again-line lines r p q script other fits b a less)
    either (inr most) (inr least) = omega (arith, most, least)

-- the loops before the next copy
again-loops : (lines : List ScriptLine) (p r q : Place) → IsAgain lines p q → IsAgain lines r q → p.loops ≡ r.loops
again-loops lines p r q a b =
    let loops = sym a.again ∙ b.again in
    let left : a.left ≡ b.left = ap (λ x. x.left) (first_same loops) in
    let loop : a.loop ≡ b.loop = same_loop a.loop b.loop (sym a.body ∙ b.body) (a.some ∙ ap suc left ∙ sym b.some) in
    let outer : a.outer ≡ b.outer = rest_same loops in
    a.inside ∙ rw (loop, outer) refl ∙ sym b.inside

-- the loops before a line was passed
passed-same : (lines : List ScriptLine) (p r q : Place) (l : ScriptLine) → Fits lines p → Fits lines r → p.line ≡ r.line
    → IsPassed l p q → IsPassed l r q → (p.done ≡ r.done) × (p.loops ≡ r.loops)
passed-same lines p r q (line.Compute n) fits other same one two = (omega (arith, one.0, two.0), one.1 ∙ sym two.1)
passed-same lines p r q (line.Loop n) fits other same one two = (one.0 ∙ sym two.0, rest_same (sym one.1 ∙ two.1))
passed-same lines p r q line.End fits other same one two =
    (one.0 ∙ sym two.0, one.1.1 ∙ ap (λ o. o ∷ q.loops) loop ∙ sym two.1.1)
  where
    body : (s : Place) → Fits lines s → (o : OpenLoop) → s.loops ≡ o ∷ q.loops
        → (f : OpenLoop) × (rest : List OpenLoop) × (open_at lines s.line ≡ f ∷ rest) × (o.body ≡ f.body)
    body s there o is = let first = copies-first o q.loops (open_at lines s.line)
        (subst (λ l. AreCopies l (open_at lines s.line)) is there.loops) in (first.0, first.1, first.2, first.3.body)

    bodies : one.1.0.body ≡ two.1.0.body
    bodies =
        let mine = body p fits one.1.0 one.1.1 in
        let yours = body r other two.1.0 two.1.1 in
        let firsts : mine.0 ∷ mine.1 ≡ yours.0 ∷ yours.1 = sym mine.2 ∙ ap (open_at lines) same ∙ yours.2 in
        mine.3 ∙ ap (λ f. f.body) (first_same firsts) ∙ sym yours.3

    loop : one.1.0 ≡ two.1.0
    loop = same_loop one.1.0 two.1.0 bodies (one.1.2 ∙ sym two.1.2)
passed-same lines p r q other_line fits other same one two = (one.0 ∙ sym two.0, one.1 ∙ sym two.1)

step-back : (lines : List ScriptLine) (p r q : Place) → IsScript lines → Fits lines p → Fits lines r → Step lines p q
    → Step lines r q → IsSameSpot p r
step-back lines p r q script fits other (Within n is next done loops) (Within m there onward more around) =
    record { line = sym next ∙ onward; done = omega (arith, done, more); loops = sym loops ∙ around }
step-back lines p r q script fits other (Within n is next done loops) (Past l there onward begun passed) =
    absurd (omega (arith, done, begun))
step-back lines p r q script fits other (Within n is next done loops) (Again b) = absurd (omega (arith, done, b.there))
step-back lines p r q script fits other (Past l is next begun passed) (Within m there onward more around) =
    absurd (omega (arith, begun, more))
step-back lines p r q script fits other (Past l is next begun passed) (Past k there onward also after) =
    let same : p.line ≡ r.line = omega (arith, next, onward) in
    let one : l ≡ k = (let here : slice_get lines r.line ≡ Some l = rw (← same) is in cc) in
    let both = passed-same lines p r q l fits other same passed (rw one after) in
    record { line = same; done = both.0; loops = both.1 }
step-back lines p r q script fits other (Past l is next begun passed) (Again b) =
    absurd (past-again lines p r q l script other is next passed b)
step-back lines p r q script fits other (Again a) (Within m there onward more around) =
    absurd (omega (arith, a.there, more))
step-back lines p r q script fits other (Again a) (Past l there onward begun passed) =
    absurd (past-again lines r p q l script fits there onward passed a)
step-back lines p r q script fits other (Again a) (Again b) =
    record { line = again-same lines p r q script fits other a b; done = a.begun ∙ sym b.begun; loops = again-loops lines p r q a b }

-- a step leads to a spot, whatever the accumulator there
step-spot : (lines : List ScriptLine) (r q s : Place) → IsSameSpot s q → Step lines r q → Step lines r s
step-spot lines r q s spot (Within n is next done loops) =
    Within n is (spot.line ∙ next) (spot.done ∙ done) (spot.loops ∙ loops)
step-spot lines r q s spot (Past l is next begun passed) =
    Past l is (spot.line ∙ next) (spot.done ∙ begun) (passed-spot l passed)
  where
    passed-spot : (m : ScriptLine) → IsPassed m r q → IsPassed m r s
    passed-spot (line.Compute n) h = (h.0, h.1 ∙ sym spot.loops)
    passed-spot (line.Loop n) h = (h.0, spot.loops ∙ h.1)
    passed-spot line.End h = (h.0, (h.1.0, h.1.1 ∙ ap (λ xs. h.1.0 ∷ xs) (sym spot.loops), h.1.2))
    passed-spot other h = (h.0, h.1 ∙ sym spot.loops)
step-spot lines r q s spot (Again a) =
    Again (record { is = a.is; begun = a.begun; there = spot.done ∙ a.there; loop = a.loop; outer = a.outer; left = a.left; inside = a.inside; some = a.some; body = spot.line ∙ a.body; again = spot.loops ∙ a.again })

-- ---- each place but the last leads to another

-- a place that is one mark or trap further
record IsStepped (lines : List ScriptLine) (p q : Place) : Type 0 where
  step : Step lines p q
  fits : Fits lines q
  rest : rest_at lines q ≡ drop 1 (rest_at lines p)

-- the line is left
left_line : (lines : List ScriptLine) (p q : Place) (l : ScriptLine) → slice_get lines p.line ≡ Some l → q.line ≡ p.line
    + 1 → q.done ≡ 0 → IsPassed l p q → Fits lines q → rest_at lines q ≡ drop 1 (rest_at lines p) → IsStepped lines p q
left_line lines p q l is next begun passed fits rest =
    record { step = Past l is next begun passed; fits = fits; rest = rest }

stepped-compute : (lines : List ScriptLine) (p : Place) (n : ℕ) → Stands lines p (line.Compute n)
    → (p.done + 1 < n) ⊎ (n ≤ p.done + 1) → (q : Place) × IsStepped lines p q
stepped-compute lines p n at (inl more) =
    let passes = Passes-some lines p n 1 at more in
    (record p { done = p.done + 1 }, record { step = Within n at.next refl refl refl; fits = passes.fits; rest = passes.rest })
stepped-compute lines p n at (inr last) =
    let done : p.done < n = stands-done lines p (line.Compute n) at in
    let passes = Passes-whole lines p n at in
    let count : n - p.done ≡ 1 = omega (arith, done, last) in
    let whole : p.done + 1 ≡ n = omega (arith, done, last) in
    (record p { line = p.line + 1; done = 0 }, left_line lines p (record p { line = p.line + 1; done = 0 }) (line.Compute n) at.next refl refl (whole, refl) passes.fits (passes.rest ∙ ap (λ k. drop k (rest_at lines p)) count))

stepped-end : (lines : List ScriptLine) (p : Place) (loops : List OpenLoop) → Stands lines p line.End → p.loops ≡ loops
    → (q : Place) × IsStepped lines p q
stepped-end lines p [] at none = let some : 0 < length p.loops = stands-nests lines p line.End at in
    absurd (omega (arith, some, ap length none))
stepped-end lines p (o ∷ outer) at is = of_left o.left refl
  where
    begun : p.done ≡ 0
    begun = stands-done lines p line.End at

    of_left : (left : ℕ) → o.left ≡ left → (q : Place) × IsStepped lines p q
    of_left zero none =
        let passes = Passes-after lines p o outer at is none in
        (record p { line = p.line + 1; done = 0; loops = outer }, left_line lines p (record p { line = p.line + 1; done = 0; loops = outer }) line.End at.next refl refl (begun, (o, is, none)) passes.fits passes.rest)
    of_left (suc left) some =
        let passes = Passes-again lines p o outer at is (omega (arith, some)) in
        let fewer : o.left - 1 ≡ left = omega (arith, some) in
        let again : IsAgain lines p
        (record p { line = o.body; done = 0; loops = record o { left = o.left - 1 } ∷ outer }) =
        record { is = at.next; begun = begun; there = refl; loop = o; outer = outer; left = left; inside = is; some = some; body = refl; again = rw fewer refl } in
        (record p { line = o.body; done = 0; loops = record o { left = o.left - 1 } ∷ outer }, record { step = Again again; fits = passes.fits; rest = passes.rest })

stepped : (lines : List ScriptLine) (p : Place) (l : ScriptLine) → Stands lines p l → (q : Place) × IsStepped lines p q
stepped lines p (line.Compute n) at = stepped-compute lines p n at (cases_lt (p.done + 1) n)
stepped lines p (line.Loop n) at =
    let q : Place =
    record p { line = p.line + 1; done = 0; loops = record { body = p.line + 1; left = n - 1 } ∷ p.loops } in
    let passes = Passes-loop lines p n at in
    (q, left_line lines p q (line.Loop n) at.next refl refl (stands-done lines p (line.Loop n) at, refl) passes.fits passes.rest)
stepped lines p line.End at = stepped-end lines p p.loops at refl
stepped lines p (line.Set n) at =
    let q : Place = record p { line = p.line + 1; done = 0; accumulator = n } in
    let passes = Passes-set lines p n at in
    (q, left_line lines p q (line.Set n) at.next refl refl (stands-done lines p (line.Set n) at, refl) passes.fits passes.rest)
stepped lines p (line.Add n) at =
    let passes = Passes-add lines p n at in
    (_, left_line lines p _ (line.Add n) at.next refl refl (stands-done lines p (line.Add n) at, refl) passes.fits passes.rest)
stepped lines p (line.Trap t) at =
    let makes = MakesTrap-line lines p t at in
    (_, left_line lines p _ (line.Trap t) at.next refl refl (stands-done lines p (line.Trap t) at, refl) makes.fits (makes.rest ∙ trap-drops t (rest_at lines p) (stands-good lines p (line.Trap t) at)))

-- ---- the last place

-- after the last line no loop is open
none-open : (lines : List ScriptLine) (i : ℕ) → IsScript lines → length lines ≤ i → length (open_at lines i) ≡ 0
none-open lines i script past = length-open_after_lines 0 [] (take i lines)
    ∙ ap (λ ls. fold loops_after 0 ls) (take_all i lines past) ∙ script.closed

no-copies : (loops firsts : List OpenLoop) → AreCopies loops firsts → length firsts ≡ 0 → loops ≡ []
no-copies [] firsts copies none = refl
no-copies (o ∷ loops) [] copies none = absurd copies
no-copies (o ∷ loops) (f ∷ firsts) copies none = cc

-- a place after the last line
record IsLast (lines : List ScriptLine) (p : Place) : Type 0 where
  line : p.line ≡ length lines
  done : p.done ≡ 0
  loops : p.loops ≡ []
  rest : rest_at lines p ≡ Traps Exit ∷ []

last-there : (lines : List ScriptLine) (p : Place) → IsScript lines → Fits lines p → slice_get lines p.line ≡ None
    → IsLast lines p
last-there lines p script fits none =
    let past : length lines ≤ p.line = slice_get_none lines p.line none in
    let begun : p.done ≡ 0 = subst (λ l. CanBeDone l p.done) none fits.done in
    let loops : p.loops ≡ [] =
    no-copies p.loops (open_at lines p.line) fits.loops (none-open lines p.line script past) in
    record { line = omega (arith, past, fits.line); done = begun; loops = loops; rest = rw (begun, loops, drop_all p.line lines past) refl }

-- ---- one place for each rest

-- as much is left at both places
same-spot : (lines : List ScriptLine) (n : ℕ) (p r : Place) → IsScript lines → Fits lines p → Fits lines r
    → length (rest_at lines p) ≡ n → length (rest_at lines r) ≡ n → IsSameSpot p r
same-spot lines zero p r script fits other one two = absurd (omega (arith, one, some-there lines p script fits))
same-spot lines (suc n) p r script fits other one two =
    either (λ q s back forth a b. same-spot lines n q s script back forth a b) (slice_get lines p.line)
    (slice_get lines r.line) refl refl
  where
    fewer : (q s : Place) → IsStepped lines q s → length (rest_at lines q) ≡ suc n → length (rest_at lines s) ≡ n
    fewer q s next count = ap length next.rest ∙ length-drop 1 (rest_at lines q) ∙ omega (arith, count)

    -- of two places with as much left, one is last only if the other is
    ended : (q s t : Place) → IsLast lines q → IsStepped lines s t → length (rest_at lines q) ≡ suc n
        → length (rest_at lines s) ≡ suc n → ⊥
    ended q s t last next a b =
        omega (arith, ap length last.rest, a, fewer s t next b, some-there lines t script next.fits)

    either : ((q s : Place) → Fits lines q → Fits lines s → length (rest_at lines q) ≡ n → length (rest_at lines s) ≡ n
        → IsSameSpot q s)
        → (a b : Option ScriptLine) → slice_get lines p.line ≡ a → slice_get lines r.line ≡ b → IsSameSpot p r
    either same None None here there =
        let a = last-there lines p script fits here in
        let b = last-there lines r script other there in
        record { line = a.line ∙ sym b.line; done = a.done ∙ sym b.done; loops = a.loops ∙ sym b.loops }
    either same None (Some m) here there =
        let next = stepped lines r m (record { script = script; fits = other; next = there }) in
        absurd (ended p r next.0 (last-there lines p script fits here) next.1 one two)
    either same (Some l) None here there =
        let next = stepped lines p l (record { script = script; fits = fits; next = here }) in
        absurd (ended r p next.0 (last-there lines r script other there) next.1 two one)
    either same (Some l) (Some m) here there =
        let mine = stepped lines p l (record { script = script; fits = fits; next = here }) in
        let yours = stepped lines r m (record { script = script; fits = other; next = there }) in
        let spot =
        same mine.0 yours.0 mine.1.fits yours.1.fits (fewer p mine.0 mine.1 one) (fewer r yours.0 yours.1 two) in
        step-back lines p r mine.0 script fits other mine.1.step (step-spot lines r yours.0 mine.0 spot yours.1.step)

same-place : (p r : Place) → IsSameSpot p r → p.accumulator ≡ r.accumulator → p ≡ r
same-place p r spot accumulator = of_fields p.line p.done p.accumulator r.line r.done r.accumulator p.loops r.loops
    spot.line spot.done accumulator spot.loops
  where
    of_fields : (l d a m e b : ℕ) (xs ys : List OpenLoop) → l ≡ m → d ≡ e → a ≡ b → xs ≡ ys
        → (let u : Place = record { line = l; done = d; loops = xs; accumulator = a } in u)
        ≡ (let v : Place = record { line = m; done = e; loops = ys; accumulator = b } in v)
    of_fields l d a m e b xs ys one two three four = rw (one, two, three, four) refl

-- two places that mean the same are the same
pub one-place : (lines : List ScriptLine) (p r : Place) → IsScript lines → Fits lines p → Fits lines r
    → context_at lines p ≡ context_at lines r → p ≡ r
one-place lines p r script fits other same =
    let rests : rest_at lines p ≡ rest_at lines r = ap (λ c. c.rest) same in
    same-place p r (same-spot lines (length (rest_at lines r)) p r script fits other (ap length rests) refl)
    (ap (λ c. c.accumulator) same)

-- each rest in which something is left is meant by a place that fits
pub some-place : (lines : List ScriptLine) (k : ℕ) → IsScript lines → k < length (unrolled lines)
    → (p : Place) × Fits lines p × (rest_at lines p ≡ drop k (unrolled lines))
some-place lines zero script some = (first_place, Fits-line lines 0 0 [] script (omega arith) tt, refl)
some-place lines (suc k) script some =
    let before = some-place lines k script (omega (arith, some)) in
    of_line before (slice_get lines before.0.line) refl
  where
    of_line : (b : (p : Place) × Fits lines p × (rest_at lines p ≡ drop k (unrolled lines))) → (o : Option ScriptLine)
        → slice_get lines b.0.line ≡ o
        → (p : Place) × Fits lines p × (rest_at lines p ≡ drop (suc k) (unrolled lines))
    of_line b None here =
        let last = last-there lines b.0 script b.1 here in
        absurd (omega (arith, some, ap length last.rest, ap length b.2, length-drop k (unrolled lines)))
    of_line b (Some l) here =
        let next = stepped lines b.0 l (record { script = script; fits = b.1; next = here }) in
        let next_count : k + 1 ≡ suc k = omega arith in
        let rest : drop 1 (drop k (unrolled lines)) ≡ drop (suc k) (unrolled lines) =
        sym (drop-add k 1 (unrolled lines)) ∙ ap (λ j. drop j (unrolled lines)) next_count in
        (next.0, next.1.fits, next.1.rest ∙ ap (drop 1) b.2 ∙ rest)
