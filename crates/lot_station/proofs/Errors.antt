-- The remaining goals of an error.
use Rattle.lot_station.proofs.Common.{Err, IfOk, IsErr, Ok, Result}

-- nothing, of what is said of a success
pub if-ok-none : {A E : Type 0} (r : Result A E) (P : A → Type 0) → IsErr r → IfOk r P
if-ok-none (Ok x) P is = cc
if-ok-none (Err e) P is = tt
