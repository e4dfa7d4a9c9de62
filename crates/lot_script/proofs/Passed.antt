-- The items passed from a place, line by line.
use Rattle.lot_script.proofs.Common.{Add, AreCopies, CanBeDone, CanNest, Exit, Fits, IsCopy, IsLine, IsScript, Item, List, MakesTrap, None, OpenLoop, Option, Passes, Place, ScriptLine, ScriptTrap, Set, Some, Stands, Traps, Work, accumulated, ap, arith, cases_lt, drop, drop_all, inl, inr, is_mark, items_of, left_of, length, min, open_at, pieces, prefix_len, refl, replicate, rest_after, rest_at, slice_get, slice_get_within, subst, suc, sym, true, ℕ, [], ◌%◌, ◌++◌, ◌+◌, ◌-◌, ◌<◌, ◌∙◌, ◌∷◌, ◌≡◌, ◌≤◌, ◌⊎◌}
use Rattle.lot_simulation.specs.declared.script.ScriptLine.TheVariants as line
use Rattle.lot_script.proofs.Lists.{slice_get_none, drop-element, All-element, drop-add, fold-take-add, prefix_len_then, marks_front, fold-work, take-work, drop-work}
use Rattle.lot_script.proofs.Copies.{copies-length}
use Rattle.lot_script.proofs.Opened.{open_at-next, nests-there, encloses-there, copies-first}
use Rattle.lot_script.proofs.Rests.{IsPlain, left_of-plain, left_of-loop, left_of-again, left_of-end, left_of-exit}

pub stands-within : (lines : List ScriptLine) (p : Place) (l : ScriptLine) → Stands lines p l → p.line < 1024
stands-within lines p l at = omega (arith, slice_get_within lines p.line l at.next, at.script.count)

pub stands-good : (lines : List ScriptLine) (p : Place) (l : ScriptLine) → Stands lines p l → IsLine l
stands-good lines p l at = All-element IsLine lines p.line l at.script.each at.next

pub stands-nests : (lines : List ScriptLine) (p : Place) (l : ScriptLine) → Stands lines p l
    → CanNest (length p.loops) l
stands-nests lines p l at =
    rw (copies-length p.loops (open_at lines p.line) at.fits.loops) (nests-there lines p.line l at.script at.next)

pub stands-done : (lines : List ScriptLine) (p : Place) (l : ScriptLine) → Stands lines p l → CanBeDone (Some l) p.done
stands-done lines p l at = subst (λ o. CanBeDone o p.done) at.next at.fits.done

-- ---- places that fit

-- at the beginning of a line nothing is done of it
done-none : (l : Option ScriptLine) → ((x : ScriptLine) → l ≡ Some x → IsLine x) → CanBeDone l 0
done-none None good = refl
done-none (Some (line.Compute n)) good = good (line.Compute n) refl
done-none (Some (line.Set n)) good = refl
done-none (Some (line.Add n)) good = refl
done-none (Some (line.Loop n)) good = refl
done-none (Some line.End) good = refl
done-none (Some (line.Trap t)) good = refl

-- the beginning of a line fits
pub Fits-line : (lines : List ScriptLine) (i a : ℕ) (loops : List OpenLoop) → IsScript lines → i ≤ length lines
    → AreCopies loops (open_at lines i)
    → Fits lines (record { line = i; done = 0; loops = loops; accumulator = a })
Fits-line lines i a loops script within copies = record {
  line = within;
  done = done-none (slice_get lines i) (λ x is. All-element IsLine lines i x script.each is);
  loops = copies;
}

-- after a plain line the same loops are open
open_at-plain : (lines : List ScriptLine) (p : Place) (l : ScriptLine) → IsPlain l → Stands lines p l
    → open_at lines (p.line + 1) ≡ open_at lines p.line
open_at-plain lines p (line.Loop n) plain at = absurd plain
open_at-plain lines p line.End plain at = absurd plain
open_at-plain lines p (line.Compute n) plain at = open_at-next lines p.line (p.line + 1) (line.Compute n) at.next refl
open_at-plain lines p (line.Set n) plain at = open_at-next lines p.line (p.line + 1) (line.Set n) at.next refl
open_at-plain lines p (line.Add n) plain at = open_at-next lines p.line (p.line + 1) (line.Add n) at.next refl
open_at-plain lines p (line.Trap t) plain at = open_at-next lines p.line (p.line + 1) (line.Trap t) at.next refl

next-within : (lines : List ScriptLine) (p : Place) (l : ScriptLine) → Stands lines p l → p.line + 1 ≤ length lines
next-within lines p l at = omega (arith, slice_get_within lines p.line l at.next)

-- the beginning of the line after a plain one fits
Fits-after : (lines : List ScriptLine) (p : Place) (l : ScriptLine) (a : ℕ) → IsPlain l → Stands lines p l
    → Fits lines (record { line = p.line + 1; done = 0; loops = p.loops; accumulator = a })
Fits-after lines p l a plain at = Fits-line lines (p.line + 1) a p.loops at.script (next-within lines p l at)
    (rw (open_at-plain lines p l plain at) at.fits.loops)

-- ---- what is left

-- what is left at the beginning of a line
pub rest_at-begun : (lines : List ScriptLine) (p : Place) (l : ScriptLine) → Stands lines p l → p.done ≡ 0
    → rest_at lines p ≡ left_of lines (pieces (l ∷ drop (suc p.line) lines)) p.loops
rest_at-begun lines p l at none = rw (none, drop-element lines p.line l at.next) refl

-- what is left after it
rest_at-after : (lines : List ScriptLine) (i a : ℕ) (loops : List OpenLoop)
    → rest_at lines (record { line = i + 1; done = 0; loops = loops; accumulator = a })
    ≡ left_of lines (pieces (drop (suc i) lines)) loops
rest_at-after lines i a loops = let next : i + 1 ≡ suc i = omega arith in rw next refl

-- what is left at a plain line
pub rest_at-plain : (lines : List ScriptLine) (p : Place) (l : ScriptLine) → IsPlain l → Stands lines p l → p.done ≡ 0
    → rest_at lines p ≡ items_of l ++ left_of lines (pieces (drop (suc p.line) lines)) p.loops
rest_at-plain lines p l plain at none = rest_at-begun lines p l at none
    ∙ left_of-plain lines l (drop (suc p.line) lines) p.loops plain

-- what is left at a `compute`
pub rest_at-compute : (lines : List ScriptLine) (p : Place) (n : ℕ) → slice_get lines p.line ≡ Some (line.Compute n)
    → p.done < n
    → rest_at lines p ≡ replicate (n - p.done) Work ++ left_of lines (pieces (drop (suc p.line) lines)) p.loops
rest_at-compute lines p n is some =
    let within : p.done ≤ n = omega arith in
    let following : List ScriptLine = drop (suc p.line) lines in
    ap (λ ls. drop p.done (left_of lines (pieces ls) p.loops)) (drop-element lines p.line (line.Compute n) is)
    ∙ ap (λ items. drop p.done items) (left_of-plain lines (line.Compute n) following p.loops tt)
    ∙ drop-work p.done n (left_of lines (pieces following) p.loops) within

-- ---- marks

-- nothing is passed
pub Passes-none : (lines : List ScriptLine) (p : Place) → Fits lines p → Passes lines p p 0
Passes-none lines p fits = record { fits = fits; marks = omega arith; rest = refl; accumulator = refl }

-- marks are passed, and then more
pub Passes-then : (lines : List ScriptLine) (p q r : Place) (j k : ℕ) → Passes lines p q j → Passes lines q r k
    → Passes lines p r (j + k)
Passes-then lines p q r j k first then =
    let items : List Item = rest_at lines p in
    let more : k ≤ prefix_len is_mark (drop j items) = subst (λ xs. k ≤ prefix_len is_mark xs) first.rest then.marks in
    record {
      fits = then.fits;
      marks = prefix_len_then is_mark j k items first.marks more;
      rest = then.rest ∙ ap (λ xs. drop k xs) first.rest ∙ sym (drop-add j k items);
      accumulator = then.accumulator
          ∙ rw (first.accumulator, first.rest) (sym (fold-take-add accumulated p.accumulator j k items));
    }

-- one mark is passed
Passes-one : (lines : List ScriptLine) (p q : Place) (item : Item) → Fits lines q
    → rest_at lines p ≡ item ∷ rest_at lines q → is_mark item ≡ true
    → q.accumulator ≡ accumulated p.accumulator item → Passes lines p q 1
Passes-one lines p q item fits rest mark accumulator = record {
  fits = fits;
  marks = rw (rest, mark) (omega arith);
  rest = rw rest refl;
  accumulator = rw rest accumulator;
}

-- the accumulator is set, or added to
pub Passes-set : (lines : List ScriptLine) (p : Place) (n : ℕ) → Stands lines p (line.Set n)
    → Passes lines p (record p { line = p.line + 1; done = 0; accumulator = n }) 1
Passes-set lines p n at =
    Passes-one lines p (record p { line = p.line + 1; done = 0; accumulator = n }) (Set n)
    (Fits-after lines p (line.Set n) n tt at)
    (rest_at-plain lines p (line.Set n) tt at (stands-done lines p (line.Set n) at)
    ∙ ap (λ items. Set n ∷ items) (sym (rest_at-after lines p.line n p.loops))) refl refl

pub Passes-add : (lines : List ScriptLine) (p : Place) (n : ℕ) → Stands lines p (line.Add n)
    → Passes lines p (record p { line = p.line + 1; done = 0; accumulator = (p.accumulator + n) % 4294967296 }) 1
Passes-add lines p n at =
    let sum : ℕ = (p.accumulator + n) % 4294967296 in
    Passes-one lines p (record p { line = p.line + 1; done = 0; accumulator = sum }) (Add n)
    (Fits-after lines p (line.Add n) sum tt at)
    (rest_at-plain lines p (line.Add n) tt at (stands-done lines p (line.Add n) at)
    ∙ ap (λ items. Add n ∷ items) (sym (rest_at-after lines p.line sum p.loops))) refl refl

-- a loop is entered
pub Passes-loop : (lines : List ScriptLine) (p : Place) (n : ℕ) → Stands lines p (line.Loop n)
    → Passes lines p
    (record p { line = p.line + 1; done = 0; loops = record { body = p.line + 1; left = n - 1 } ∷ p.loops }) 1
Passes-loop lines p n at =
    let o : OpenLoop = record { body = p.line + 1; left = n - 1 } in
    let same : IsCopy o o = record { body = refl; left = omega arith } in
    let copies : AreCopies (o ∷ p.loops) (open_at lines (p.line + 1)) =
    rw (open_at-next lines p.line (p.line + 1) (line.Loop n) at.next refl) (same, at.fits.loops) in
    let next : p.line + 1 ≡ suc p.line = omega arith in
    let count : n ≡ suc (n - 1) = let some = (stands-good lines p (line.Loop n) at) in omega (arith, some.0) in
    Passes-one lines p (record p { line = p.line + 1; done = 0; loops = o ∷ p.loops }) Work
    (Fits-line lines (p.line + 1) p.accumulator (o ∷ p.loops) at.script (next-within lines p (line.Loop n) at) copies)
    (rest_at-begun lines p (line.Loop n) at (stands-done lines p (line.Loop n) at)
    ∙ left_of-loop lines n (drop (suc p.line) lines) o p.loops (ap (λ i. drop i lines) next) count
    ∙ ap (λ items. Work ∷ items) (sym (rest_at-after lines p.line p.accumulator (o ∷ p.loops))))
    refl refl

-- a loop is left
pub Passes-after : (lines : List ScriptLine) (p : Place) (o : OpenLoop) (outer : List OpenLoop)
    → Stands lines p line.End → p.loops ≡ o ∷ outer → o.left ≡ 0
    → Passes lines p (record p { line = p.line + 1; done = 0; loops = outer }) 1
Passes-after lines p o outer at loops none =
    let first =
    copies-first o outer (open_at lines p.line) (subst (λ l. AreCopies l (open_at lines p.line)) loops at.fits.loops) in
    let copies : AreCopies outer (open_at lines (p.line + 1)) =
    rw (open_at-next lines p.line (p.line + 1) line.End at.next refl, first.2) first.4 in
    Passes-one lines p (record p { line = p.line + 1; done = 0; loops = outer }) Work
    (Fits-line lines (p.line + 1) p.accumulator outer at.script (next-within lines p line.End at) copies)
    (rest_at-begun lines p line.End at (stands-done lines p line.End at)
    ∙ ap (λ l. left_of lines (pieces (line.End ∷ drop (suc p.line) lines)) l) loops
    ∙ left_of-end lines (drop (suc p.line) lines) o outer none
    ∙ ap (λ items. Work ∷ items) (sym (rest_at-after lines p.line p.accumulator outer)))
    refl refl

-- a loop goes round again
pub Passes-again : (lines : List ScriptLine) (p : Place) (o : OpenLoop) (outer : List OpenLoop)
    → Stands lines p line.End → p.loops ≡ o ∷ outer → 0 < o.left
    → Passes lines p (record p { line = o.body; done = 0; loops = record o { left = o.left - 1 } ∷ outer }) 1
Passes-again lines p o outer at loops some =
    let again : OpenLoop = record o { left = o.left - 1 } in
    let first =
    copies-first o outer (open_at lines p.line) (subst (λ l. AreCopies l (open_at lines p.line)) loops at.fits.loops) in
    let here = encloses-there lines p.line at.fits.line in
    let encloses = rw (first.2, drop-element lines p.line line.End at.next) at here in
    let f : OpenLoop = first.0 in
    let body : o.body ≡ f.body = first.3.body in
    let copies : AreCopies (again ∷ outer) (open_at lines o.body) =
    rw (body, encloses.2) (record { body = refl; left = omega (arith, first.3.left) }, first.4) in
    let within : o.body ≤ length lines = omega (arith, body, encloses.0) in
    let count : o.left ≡ suc (o.left - 1) = omega (arith, some) in
    Passes-one lines p (record p { line = o.body; done = 0; loops = again ∷ outer }) Work
    (Fits-line lines o.body p.accumulator (again ∷ outer) at.script within copies)
    (rest_at-begun lines p line.End at (stands-done lines p line.End at)
    ∙ ap (λ l. left_of lines (pieces (line.End ∷ drop (suc p.line) lines)) l) loops
    ∙ left_of-again lines (drop (suc p.line) lines) o again outer (rw body encloses.1) refl count)
    refl refl

-- some of a `compute` is passed
pub Passes-some : (lines : List ScriptLine) (p : Place) (n k : ℕ) → Stands lines p (line.Compute n) → p.done + k < n
    → Passes lines p (record p { done = p.done + k }) k
Passes-some lines p n k at within =
    let left : p.done < n = omega arith in
    let following : List Item = left_of lines (pieces (drop (suc p.line) lines)) p.loops in
    let old_rest : rest_at lines p ≡ replicate (n - p.done) Work ++ following =
    rest_at-compute lines p n at.next left in
    let new_rest : rest_at lines (record p { done = p.done + k }) ≡ replicate (n - (p.done + k)) Work ++ following =
    rest_at-compute lines (record p { done = p.done + k }) n at.next within in
    let fewer : k ≤ n - p.done = omega arith in
    let less : n - p.done - k ≡ n - (p.done + k) = omega arith in
    record {
      fits = record { line = at.fits.line; done = rw at.next within; loops = at.fits.loops };
      marks = rw old_rest (omega (arith, marks_front (n - p.done) following));
      rest = rw (old_rest, new_rest, drop-work k (n - p.done) following fewer, less) refl;
      accumulator = rw (old_rest, take-work k (n - p.done) following fewer, fold-work k p.accumulator) refl;
    }

-- the rest of a `compute` is passed
pub Passes-whole : (lines : List ScriptLine) (p : Place) (n : ℕ) → Stands lines p (line.Compute n)
    → Passes lines p (record p { line = p.line + 1; done = 0 }) (n - p.done)
Passes-whole lines p n at =
    let left : p.done < n = stands-done lines p (line.Compute n) at in
    let following : List Item = left_of lines (pieces (drop (suc p.line) lines)) p.loops in
    let old_rest : rest_at lines p ≡ replicate (n - p.done) Work ++ following =
    rest_at-compute lines p n at.next left in
    let all : n - p.done ≤ n - p.done = omega arith in
    let none : n - p.done - (n - p.done) ≡ 0 = omega arith in
    record {
      fits = Fits-after lines p (line.Compute n) p.accumulator tt at;
      marks = rw old_rest (marks_front (n - p.done) following);
      rest = rw (old_rest, drop-work (n - p.done) (n - p.done) following all, none)
          (rest_at-after lines p.line p.accumulator p.loops);
      accumulator =
          rw (old_rest, take-work (n - p.done) (n - p.done) following all, fold-work (n - p.done) p.accumulator) refl;
    }

-- ---- traps

-- a trap of a line is no exit, so the item that stands first is dropped
pub trap-drops : (t : ScriptTrap) (items : List Item) → IsLine (line.Trap t) → rest_after items (Some t) ≡ drop 1 items
trap-drops Exit items good = absurd good
trap-drops t items good = refl

-- the trap of a line is made
pub MakesTrap-line : (lines : List ScriptLine) (p : Place) (t : ScriptTrap) → Stands lines p (line.Trap t)
    → MakesTrap lines p (record p { line = p.line + 1; done = 0 }) t
MakesTrap-line lines p t at =
    let following : List Item = left_of lines (pieces (drop (suc p.line) lines)) p.loops in
    let here : rest_at lines p ≡ Traps t ∷ following =
    rest_at-plain lines p (line.Trap t) tt at (stands-done lines p (line.Trap t) at) in
    record {
      fits = Fits-after lines p (line.Trap t) p.accumulator tt at;
      stands = rw here refl;
      rest = rest_at-after lines p.line p.accumulator p.loops ∙ sym (ap (λ items. rest_after items (Some t)) here
          ∙ trap-drops t (Traps t ∷ following) (stands-good lines p (line.Trap t) at));
      accumulator = refl;
    }

-- after the last line the exit is made
pub MakesTrap-exit : (lines : List ScriptLine) (p : Place) → Fits lines p → slice_get lines p.line ≡ None
    → MakesTrap lines p p Exit
MakesTrap-exit lines p fits none =
    let past : length lines ≤ p.line = slice_get_none lines p.line none in
    let undone : p.done ≡ 0 = subst (λ l. CanBeDone l p.done) none fits.done in
    let exit = left_of-exit lines p.loops in
    let here : rest_at lines p ≡ Traps Exit ∷ exit.0 = rw (undone, drop_all p.line lines past) exit.1 in
    record { fits = fits; stands = rw here refl; rest = refl; accumulator = refl }

-- ---- what is made or passed at a line, for the code's own goals

-- of a `compute` as much as is left, and at most this much
pub Passes-compute : (lines : List ScriptLine) (p q : Place) (n most k : ℕ) → Stands lines p (line.Compute n)
    → k ≡ min most (n - p.done)
    → (most < n - p.done → q ≡ record p { done = p.done + most })
    → (n - p.done ≤ most → q ≡ record p { line = p.line + 1; done = 0 }) → Passes lines p q k
Passes-compute lines p q n most k at count some all = either (cases_lt most (n - p.done))
  where
    either : (most < n - p.done) ⊎ (n - p.done ≤ most) → Passes lines p q k
    either (inl fewer) =
        let same : k ≡ most = omega (arith, count, fewer) in
        rw (some fewer, same) (Passes-some lines p n most at (omega (arith, fewer)))
    either (inr enough) =
        let same : k ≡ n - p.done = omega (arith, count, enough) in
        rw (all enough, same) (Passes-whole lines p n at)

-- an `end`
pub Passes-end : (lines : List ScriptLine) (p q : Place) → Stands lines p line.End
    → ((o : OpenLoop) (outer : List OpenLoop) → p.loops ≡ o ∷ outer → 0 < o.left
    → q ≡ record p { line = o.body; done = 0; loops = record o { left = o.left - 1 } ∷ outer })
    → ((o : OpenLoop) (outer : List OpenLoop) → p.loops ≡ o ∷ outer → o.left ≡ 0
    → q ≡ record p { line = p.line + 1; done = 0; loops = outer }) → Passes lines p q 1
Passes-end lines p q at again following = of_loops p.loops refl
  where
    of_left : (o : OpenLoop) (outer : List OpenLoop) → p.loops ≡ o ∷ outer → (0 < o.left) ⊎ (o.left ≤ 0)
        → Passes lines p q 1
    of_left o outer loops (inl some) = rw (again o outer loops some) (Passes-again lines p o outer at loops some)
    of_left o outer loops (inr none) =
        let zero_left : o.left ≡ 0 = omega (arith, none) in
        rw (following o outer loops zero_left) (Passes-after lines p o outer at loops zero_left)

    of_loops : (loops : List OpenLoop) → p.loops ≡ loops → Passes lines p q 1
    of_loops [] none = let some : 0 < length p.loops = stands-nests lines p line.End at in
        absurd (omega (arith, some, ap length none))
    of_loops (o ∷ outer) loops = of_left o outer loops (cases_lt 0 o.left)
