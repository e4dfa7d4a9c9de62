-- Tables and stacks in contracts.
use Rattle.std.specs.Prelude.{ℕ, List, length, slice_set, refl}
use Rattle.std.specs.List.{refill}
use Rattle.std.specs.Coded.{Coded, code_by, coded_list, coded_ℕ, coded×}

-- the elements of a full table, in order
pub record Full (T : Type 0) : Type 0 where
  pub items : List T

-- the elements of a stack, the last one on top, and its capacity
pub record Stacked (T : Type 0) : Type 0 where
  pub items : List T
  pub room : ℕ

-- a full table is stored as the list of its elements
abbrev pub full_code : {T : Type 0} → Coded T → Coded (Full T)
full_code {T} code = code_by (List T) (coded_list code) (λ t. t.items) (λ xs. record { items = xs }) (λ _. refl)

-- a stack is stored as the list of its elements and its capacity
abbrev pub stacked_code : {T : Type 0} → Coded T → Coded (Stacked T)
stacked_code {T} code =
    code_by (List T × ℕ) (coded× (coded_list code) coded_ℕ) (λ s. (s.items, s.room)) (λ p. record { items = p.0; room = p.1 }) (λ _. refl)

module _ {T : Type 0} where
  -- the list after a slice write, which keeps its length
  abbrev pub rewritten : List T → List T → List T
  rewritten xs written = refill (length xs) xs written
