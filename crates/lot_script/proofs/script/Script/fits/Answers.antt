use Rattle.lot_script.proofs.Lemmas.{Fits, IsRestOf, IsScript, List, Place, ScriptLine, length, rest-there, rest_at, some-there, unrolled, ◌<◌, ◌≡◌}
use Rattle.lot_script.proofs.script.Script.fits.Goals as goal

rest_of : (lines fields : List ScriptLine) (place : Place) → fields ≡ lines → IsScript fields → Fits lines place
    → IsRestOf (rest_at lines place) (unrolled lines)
rest_of lines fields place view script fits = rest-there lines place (rw view at script) fits

some_of : (lines fields : List ScriptLine) (place : Place) → fields ≡ lines → IsScript fields → Fits lines place
    → 0 < length (rest_at lines place)
some_of lines fields place view script fits = some-there lines place (rw view at script) fits

pub returns-then-can_be_done-clause-some : goal.returns-then-can_be_done-clause-some
returns-then-can_be_done-clause-some c = some_of _ _ _ c.self.view_is c.self.invariant

pub returns-else-can_be_done-clause-some : goal.returns-else-can_be_done-clause-some
returns-else-can_be_done-clause-some c = some_of _ _ _ c.self.view_is c.self.invariant

pub returns-then-can_be_done-clause-rest : goal.returns-then-can_be_done-clause-rest
returns-then-can_be_done-clause-rest c = rest_of _ _ _ c.self.view_is c.self.invariant

pub returns-else-can_be_done-clause-rest : goal.returns-else-can_be_done-clause-rest
returns-else-can_be_done-clause-rest c = rest_of _ _ _ c.self.view_is c.self.invariant
