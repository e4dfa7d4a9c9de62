use Rattle.lot_script.proofs.Lemmas.{Fits, IsScript, List, MakesTrap-exit, MakesTrap-line, Option, Place, ScriptLine, Some, Stands, slice_get, stands-within, sym, ◌∙◌, ◌≡◌}
use Rattle.lot_script.proofs.script.Script.advance.Goals as goal

stands : (lines : List ScriptLine) (p : Place) (l : ScriptLine) (next : Option ScriptLine) → IsScript lines
    → Fits lines p → next ≡ slice_get lines p.line → next ≡ Some l → Stands lines p l
stands lines p l next script fits here is = record { script = script; fits = fits; next = sym here ∙ is }

pub returns-in_default : goal.returns-in_default
returns-in_default c = MakesTrap-exit _ _ c.requires.fits (sym c.next_line.ensures.line ∙ c.in_default.is)

pub leave_line-requires : goal.leave_line-requires
leave_line-requires c =
    stands-within _ _ _ (stands _ _ _ _ c.next_line.ensures.legal c.requires.fits c.next_line.ensures.line c.in-Some.is)

pub returns-in-Trap : goal.returns-in-Trap
returns-in-Trap c =
    rw c.leave_line.ensures (MakesTrap-line _ _ _ (rw c.in-Trap.is at
    (stands _ _ _ _ c.next_line.ensures.legal c.requires.fits c.next_line.ensures.line c.in-Some.is)))

pub pass-requires-clause-stands : goal.pass-requires-clause-stands
pass-requires-clause-stands c =
    stands _ _ _ _ c.next_line.ensures.legal c.requires.fits c.next_line.ensures.line c.in-Some.is
