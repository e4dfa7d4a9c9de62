-- The results that a parsing function may return, given the result of the definitions.
use Rattle.std.specs.Prelude.{◌≡◌, ℕ, Result, Ok, Err}
use Rattle.lot_simulation.specs.declared.input.InputRefusal.{InputRefusal}
use Rattle.lot_simulation.specs.declared.input.InputFault.{InputFault}
use Rattle.lot_text.specs.declared.fault.LineFault.{LineFault}
use Rattle.lot_text.specs.declared.fault.LineFault.TheVariants.{Memory, Refused}
use Rattle.lot_text.specs.declared.fault.ParseFault.{ParseFault}
use Rattle.lot_text.specs.declared.fault.ParseFault.TheVariants as parse_fault

-- a refusal that is the definitions'; `Memory` is always allowed
abbrev pub Fails : {A : Type 0} → LineFault → Result A InputRefusal → Type 0
Fails Memory given = Unit {0}
Fails (Refused refusal) given = given ≡ Err refusal

-- on Ok the result is the definitions', and otherwise it fails as in `Fails`
abbrev pub Gives : {A U : Type 0} → A → Result U LineFault → Result A InputRefusal → Type 0
Gives now (Ok done) given = given ≡ Ok now
Gives now (Err fault) given = Fails fault given

-- the fault, for the line with this number
abbrev pub fault_on : ℕ → LineFault → ParseFault
fault_on n Memory = parse_fault.Memory
fault_on n (Refused refusal) = parse_fault.Input (record { line = n; refusal = refusal })

-- a refused line and its refusal that are the definitions'; `Memory` is always allowed
abbrev pub IsFaultOf : {A : Type 0} → Result A InputFault → ParseFault → Type 0
IsFaultOf given parse_fault.Memory = Unit {0}
IsFaultOf given (parse_fault.Input fault) = given ≡ Err fault
