-- Scripts by their names.
use Rattle.lot_text.proofs.Common.{Bool, List, NamedScript, None, Some, ap, arith, bytes_eq, cond, length-map, map, not, number_named, position, prefix_len, refl, unwrap_or, ℕ, [], ◌+◌, ◌∷◌, ◌≡◌}
use Rattle.lot_machine.specs.Actions.{TrapWord, with_numbers}
use Rattle.lot_machine.specs.declared.trap.Trap.TheVariants as trap
use Rattle.lot_simulation.specs.declared.input.ScriptWord.TheVariants as script
use Rattle.lot_simulation.specs.declared.script.ScriptLine.TheVariants as line
use Rattle.lot_simulation.specs.Words.{arguments_of}
use Rattle.lot_script.specs.Drafts.{IsLine}
use Rattle.lot_text.specs.LineArguments.{Fits}

-- how many stand at the front is not changed by looking at a part of each
prefix_len-map : {X Y : Type 0} (p : Y → Bool) (f : X → Y) (xs : List X)
    → prefix_len p (map f xs) ≡ prefix_len (λ x. p (f x)) xs
prefix_len-map p f [] = refl
prefix_len-map p f (x ∷ xs) = ap (λ n. cond (p (f x)) (1 + n) 0) (prefix_len-map p f xs)

-- the place of a name among the names is that of its script
position-name : (name : List ℕ) (scripts : List NamedScript)
    → position (bytes_eq name)
    (map (λ s. s.name) scripts) ≡ position (λ (s : NamedScript). bytes_eq name s.name) scripts
position-name name scripts =
    rw (prefix_len-map (λ (n : List ℕ). not (bytes_eq name n)) (λ (s : NamedScript). s.name) scripts, length-map {A = NamedScript} {B = List ℕ}) refl

-- a script that is found has the number after its place
pub number_named-found : (name : List ℕ) (scripts : List NamedScript) (place : ℕ)
    → Some place ≡ position (λ (s : NamedScript). bytes_eq name s.name) scripts
    → place + 1 ≡ unwrap_or (number_named (map (λ s. s.name) scripts) name) 0
number_named-found name scripts place is = rw (position-name name scripts, ← is) refl

-- a script that isn't has none
pub number_named-none : (name : List ℕ) (scripts : List NamedScript)
    → None ≡ position (λ (s : NamedScript). bytes_eq name s.name) scripts
    → 0 ≡ unwrap_or (number_named (map (λ s. s.name) scripts) name) 0
number_named-none name scripts is = rw (position-name name scripts, ← is) refl

-- a trap with the number that its word's argument gives is a line of a script
pub trap-line : (word : TrapWord) (n : ℕ) → Fits (arguments_of (script.Trap word)) n
    → IsLine (line.Trap (with_numbers word n tt tt n))
trap-line (trap.Sleep t) n fits = omega (arith, fits.0)
trap-line trap.Exit n fits = absurd (omega (arith, fits.0, fits.1))
trap-line other n fits = tt
