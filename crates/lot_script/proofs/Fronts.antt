-- A slice is a prefix of the rest.
use Rattle.lot_script.proofs.Common.{Add, Item, List, MakesTrap, None, Passes, Place, ScriptLine, ScriptTrap, Set, Some, Traps, Work, accumulated, ap, arith, context_at, drop, false, fold, is_mark, le-ltb, lt-ltb, min, nat_lt, option_and_then, prefix_len, refl, rest_after, rest_at, slice, slice_get, sym, take, trap_of, true, ℕ, [], ◌<◌, ◌∙◌, ◌∷◌, ◌≡◌, ◌≤◌}
use Rattle.lot_script.proofs.Lists.{prefix_len-stops, slice_get-after}

-- what is no mark stands before the rest
trap-first : (items : List Item) (t : ScriptTrap) → option_and_then trap_of (slice_get items 0) ≡ Some t
    → (x : Item) × (rest : List Item) × (items ≡ x ∷ rest) × (is_mark x ≡ false)
trap-first [] t is = cc
trap-first (Work ∷ rest) t is = cc
trap-first (Set n ∷ rest) t is = cc
trap-first (Add n ∷ rest) t is = cc
trap-first (Traps s ∷ rest) t is = (Traps s, rest, refl, refl)

-- a trap follows the marks that are passed
pub slice-trap : (lines : List ScriptLine) (start there end : Place) (budget k : ℕ) (t : ScriptTrap)
    → Passes lines start there k → k < budget → MakesTrap lines there end t
    → slice (context_at lines start) budget ≡ record { ticks = k; trap = Some t; end = context_at lines end }
slice-trap lines start there end budget k t passes within makes =
    let items : List Item = rest_at lines start in
    let first = trap-first (rest_at lines there) t makes.stands in
    let marks : prefix_len is_mark items ≡ k =
    prefix_len-stops is_mark k items first.0 first.1 (sym passes.rest ∙ first.2) first.3 passes.marks in
    let fewer : min budget k ≡ k = omega arith in
    let before : nat_lt k budget ≡ true = lt-ltb k budget within in
    let trap : option_and_then trap_of (slice_get items k) ≡ Some t = ap (option_and_then trap_of)
    (sym (slice_get-after k items) ∙ ap (λ xs. slice_get xs 0) (sym passes.rest)) ∙ makes.stands in
    let rest : rest_at lines end ≡ rest_after (drop k items) (Some t) = makes.rest
    ∙ ap (λ xs. rest_after xs (Some t)) passes.rest in
    let sum : end.accumulator ≡ fold accumulated start.accumulator (take k items) = makes.accumulator
    ∙ passes.accumulator in
    rw (marks, fewer, before, trap, rest, sum) refl

-- the budget is used up by the marks that are passed
pub slice-expiry : (lines : List ScriptLine) (start end : Place) (budget : ℕ) → Passes lines start end budget
    → slice (context_at lines start) budget ≡ record { ticks = budget; trap = None; end = context_at lines end }
slice-expiry lines start end budget passes =
    let first : min budget (prefix_len is_mark (rest_at lines start)) ≡ budget = omega (arith, passes.marks) in
    let same : budget ≤ budget = omega arith in
    let before : nat_lt budget budget ≡ false = le-ltb budget budget same in
    rw (first, before, ← passes.accumulator, ← passes.rest) refl
