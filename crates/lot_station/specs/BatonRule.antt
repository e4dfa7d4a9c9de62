-- The invariant of the queue, which holds the system, or nothing while a pass holds it.
use Rattle.std.specs.Prelude.{◌≡◌, ◌⊎◌, ℕ, ◌<◌, ◌≤◌, ⊤, List, [], ◌∷◌, Some, Bool, true, false}
use mathlib.Core.Option.{some}
use lib.ListN.{get_elem?}
use Rattle.lot_engine.specs.Seen.{Seen}
use Rattle.lot_station.specs.declared.baton.view.Claim.{Claim}
use Rattle.lot_station.specs.declared.baton.view.View.{View}
use Rattle.lot_station.specs.BatonViews.{newcomer, Sees}

-- A claim of the pass with this number is valid: it saw a prefix of the present history, and its actors have made no
-- turn since. Each actor is owned by one pass.
abbrev pub IsClaimOf : (ℕ → ℕ) → Seen → ℕ → Claim → Type 0
IsClaimOf owner now port c = Sees now c × ((a : ℕ) → c.from ≤ a → a < c.to → owner a ≡ port)

-- each of these claims is valid
abbrev pub AllFit : (ℕ → ℕ) → Seen → ℕ → List Claim → Type 0
AllFit owner now port [] = ⊤
AllFit owner now port (c ∷ cs) = IsClaimOf owner now port c × AllFit owner now port cs

-- the invariant for one view
abbrev pub ViewFits : (ℕ → ℕ) → Seen → Bool → ℕ → ℕ → View → Type 0
ViewFits owner now out holder port v =
    (v.fresh ≡ false) × AllFit owner now port v.claims
    × ((x : Seen) → v.held ≡ Some x → (out ≡ true) × (port ≡ holder) × (x ≡ now))

-- the queue's content: nothing while the system is out, otherwise the system
abbrev pub content : Bool → Seen → List Seen
content true now = []
content false now = now ∷ []

-- the view with this number holds the system
abbrev pub HoldsSystem : ℕ → List View → Type 0
HoldsSystem holder views = (v : View) × (x : Seen) × (get_elem? views holder ≡ some v) × (v.held ≡ Some x)

-- The system is in the queue and no view holds it, or the queue is empty and exactly the holder does. Each view is
-- valid.
abbrev pub Opened : List Seen → List View → Type 0
Opened items views =
    (owner : ℕ → ℕ) × (now : Seen) × (out : Bool) × (holder : ℕ)
    × (items ≡ content out now)
    × (out ≡ true → HoldsSystem holder views)
    × ((port : ℕ) (v : View) → get_elem? views port ≡ some v → ViewFits owner now out holder port v)

-- no push has been made, and there is one pass without knowledge; or the queue is open
abbrev pub Kept : List Seen → List View → Type 0
Kept items views = ((items ≡ []) × (views ≡ newcomer ∷ [])) ⊎ Opened items views
