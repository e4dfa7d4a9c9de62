use Rattle.lot_script.proofs.Lemmas.{CanNest, IsScript, List, OpenLoop, ScriptLine, arith, get_or, length, nests-there, open_after, open_at, open_at-next, refl, slice_get_read, sym, ℕ, ◌+◌, ◌<◌, ◌≡◌, ◌≤◌}
use Rattle.lot_script.proofs.script.Script.open_at.Goals as goal

can_nest : (lines fields : List ScriptLine) (i stop : ℕ) (l : ScriptLine) (loops : List OpenLoop) → fields ≡ lines
    → IsScript fields → loops ≡ open_at lines i → i < stop → stop ≤ length lines
    → l ≡ get_or fields i l → CanNest (length loops) l
can_nest lines fields i stop l loops view script here before within is =
    let inside : i < length fields = rw view (omega (arith, before, within)) in
    rw (here, ← view) (nests-there fields i l script (slice_get_read fields (length fields) i l refl inside is))

pub follow-requires-clause-nests : goal.follow-requires-clause-nests
follow-requires-clause-nests c = can_nest _ _ _ _ _ _ c.self.view_is c.self.invariant c.loop-number.invariant
    c.loop-number-test.true c.requires c.index.ensures

next : (lines fields : List ScriptLine) (i stop : ℕ) (l : ScriptLine) (loops after : List OpenLoop) → fields ≡ lines
    → loops ≡ open_at lines i → i < stop → stop ≤ length lines → l ≡ get_or fields i l
    → after ≡ open_after i l loops → after ≡ open_at lines (i + 1)
next lines fields i stop l loops after view here before within is followed =
    let inside : i < length fields = rw view (omega (arith, before, within)) in
    rw (followed, here, ← view)
    (sym (open_at-next fields i (i + 1) l (slice_get_read fields (length fields) i l refl inside is) refl))

pub loop-number-preserved : goal.loop-number-preserved
loop-number-preserved c = next _ _ _ _ _ _ _ c.self.view_is c.loop-number.invariant c.loop-number-test.true c.requires
    c.index.ensures c.follow.ensures
