-- The reachable states, and the properties of their fundings.
use Rattle.std.specs.Prelude.{◌≡◌, List}
use Rattle.lot_machine.specs.declared.event.Event.{Event}
use Rattle.lot_machine.specs.declared.sizes.Sizes.{Sizes}
use Rattle.lot_machine.specs.Bounds.{IsWithinBounds}
use Rattle.lot_machine.specs.Funding.{Funding}
use Rattle.lot_machine.specs.State.{State, opening}
use Rattle.lot_machine.specs.Facts.{HasNoCycle, FundsThere}
use Rattle.lot_machine.specs.Step.{state_after}
use Rattle.lot_laws.specs.Conservation.{HasAmounts}
use Rattle.lot_laws.specs.Insulation.{FundsNoBase}

-- some run from the start, with sizes within their bounds, leads to the state
abbrev pub IsReachable : State → Type 0
IsReachable s = (limits : Sizes) × (events : List Event) × IsWithinBounds limits × (s ≡ state_after (opening limits) events)

-- nothing makes a cycle, tickets have amounts above 0, and they fund only existing threads and user currencies
pub record IsWellFormed (f : Funding) : Type 0 where
  pub no_cycle : HasNoCycle f
  pub funds_there : FundsThere f
  pub amounts : HasAmounts f
  pub no_base : FundsNoBase f
