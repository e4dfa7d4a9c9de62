use Rattle.lot_explain.proofs.Common.{done_of, sym}
use Rattle.lot_explain.proofs.entrants.entrants_of_slice.Goals as goal

pub returns-in-Some-clause-entrants : goal.returns-in-Some-clause-entrants
returns-in-Some-clause-entrants c processor drawn =
    rw c.in-Some.is (c.entrants_of_trap.ensures processor drawn (done_of c.in-Some.slice) (sym c.trap.ensures.trap))
