-- Lines that nest.
use Rattle.lot_script.proofs.Common.{All-append, CanNest, Draft, IsDraft, IsLine, List, Nests, ScriptLine, Some, arith, fold, fold-append, length, length-append, loops_after, pushed, refl, rules, slice_get, subst, suc, take, zero, ℕ, [], ◌++◌, ◌<◌, ◌∷◌, ◌≡◌, ◌≤◌}
use Rattle.lot_simulation.specs.declared.script.ScriptLine.TheVariants as line

-- no more than eight loops are open
pub after-most : (loops : ℕ) (l : ScriptLine) → loops ≤ 8 → CanNest loops l → loops_after loops l ≤ 8
after-most loops (line.Loop n) most nests = omega (arith, nests)
after-most loops line.End most nests = omega (arith, most)
after-most loops (line.Compute n) most nests = most
after-most loops (line.Set n) most nests = most
after-most loops (line.Add n) most nests = most
after-most loops (line.Trap t) most nests = most

pub count-most : (loops : ℕ) (lines : List ScriptLine) → loops ≤ 8 → Nests loops lines
    → fold loops_after loops lines ≤ 8
count-most loops [] most nests = most
count-most loops (l ∷ lines) most nests =
    count-most (loops_after loops l) lines (after-most loops l most nests.0) nests.1

-- one line more nests too
pub Nests-more : (loops : ℕ) (lines : List ScriptLine) (l : ScriptLine) → Nests loops lines
    → CanNest (fold loops_after loops lines) l → Nests loops (lines ++ l ∷ [])
Nests-more loops [] l nests more = (more, tt)
Nests-more loops (x ∷ lines) l nests more = (nests.0, Nests-more (loops_after loops x) lines l nests.1 more)

-- each line nests where it stands
pub Nests-line : (loops : ℕ) (lines : List ScriptLine) (i : ℕ) (l : ScriptLine) → Nests loops lines
    → slice_get lines i ≡ Some l → CanNest (fold loops_after loops (take i lines)) l
Nests-line loops [] i l nests is = cc
Nests-line loops (x ∷ lines) zero l nests is = let same : x ≡ l = cc in subst (λ y. CanNest loops y) same nests.0
Nests-line loops (x ∷ lines) (suc i) l nests is = Nests-line (loops_after loops x) lines i l nests.1 is

-- a draft with one line more is one
pub IsDraft-pushed : (d : Draft) (l : ScriptLine) → IsDraft d → IsLine l → CanNest d.loops l → length d.lines < 1024
    → IsDraft (pushed d l)
IsDraft-pushed d l draft good nests room = record {
  count = rw length-append (omega (arith, room));
  lines = All-append IsLine d.lines (l ∷ []) draft.lines (search (rules, good));
  nests = Nests-more 0 d.lines l draft.nests (rw (draft.loops) at nests);
  loops = rw (fold-append loops_after 0 d.lines (l ∷ []), ← draft.loops) refl;
}
