-- The knowledge that a pass has of the shared system.
use Rattle.std.specs.Prelude.{◌≡◌, ◌⊎◌, ℕ, ◌+◌, ◌<◌, ◌≤◌, ⊤, List, [], ◌∷◌, ◌++◌, map, Option, Some, None, Bool, true, false}
use Rattle.lot_engine.specs.Seen.{Seen}
use Rattle.lot_station.specs.Settings.{turns_by}
use Rattle.lot_station.specs.declared.baton.view.Claim.{Claim}
use Rattle.lot_station.specs.declared.baton.view.View.{View}

-- ---- claims and views

-- the pass owns the actors from `from` to below `to`, and saw the system like this
abbrev pub claim : ℕ → ℕ → Seen → Claim
claim from to seen = record { from = from; to = to; seen = seen }

-- the claim of all actors with a 32-bit number
abbrev pub all_actors : Seen → Claim
all_actors seen = claim 0 4294967296 seen

-- a view with these three fields
abbrev pub known : Bool → Option Seen → List Claim → View
known fresh held claims = record { fresh = fresh; held = held; claims = claims }

-- the view before anything is pushed
abbrev pub newcomer : View
newcomer = known true None []

-- the view of a pass that holds nothing
abbrev pub resting : List Claim → View
resting claims = known false None claims

-- the view of a pass that holds the system
abbrev pub holding : Seen → Claim → View
holding x c = known false (Some x) (c ∷ [])

-- ---- prefixes of the history

-- the history begins with this prefix
abbrev pub StartsWith : List ℕ → List ℕ → Type 0
StartsWith history seen = (rest : List ℕ) × (history ≡ seen ++ rest)

-- the system has this program and room, and its history extends this one
abbrev pub Extends : Seen → Seen → Type 0
Extends x seen = (x.setting ≡ seen.setting) × StartsWith x.history seen.history

-- the system is as the claim saw it, followed by turns of other actors
abbrev pub Sees : Seen → Claim → Type 0
Sees x c = Extends x c.seen × ((a : ℕ) → c.from ≤ a → a < c.to → turns_by a x.history ≡ turns_by a c.seen.history)

-- the system is as each claim saw it, followed by turns of other actors
abbrev pub SeesAll : Seen → List Claim → Type 0
SeesAll x [] = ⊤
SeesAll x (c ∷ cs) = Sees x c × SeesAll x cs

-- ---- the outcome of each step

-- the first claim only
abbrev pub first_only : List Claim → List Claim
first_only [] = []
first_only (c ∷ cs) = c ∷ []

-- the view after a pop: it holds the system, and only its first claim remains
abbrev pub took : View → Seen → View
took v x = known false (Some x) (first_only v.claims)

-- the view after a push: its claims saw the system as it pushed it
abbrev pub gave : View → Seen → View
gave v x = resting (map (λ c. claim c.from c.to x) v.claims)

-- the history gains one turn of the claim's first actor, or none
abbrev pub Next : Claim → Seen → Seen → Type 0
Next c was x =
    (x.setting ≡ was.setting) × ((x.history ≡ was.history) ⊎ ((x.history ≡ was.history ++ c.from ∷ []) × (c.from < c.to)))

-- the view that keeps all actors except the first, which goes to a new pass
abbrev pub all_but_first : View → View
all_but_first v = known v.fresh v.held (map (λ c. claim (c.from + 1) c.to c.seen) v.claims)

-- the view of the new pass, with the first actor and an equal history seen
abbrev pub first_actor : View → View
first_actor v = resting (map (λ c. claim c.from (c.from + 1) c.seen) v.claims)

-- the view with this history seen and no actor
abbrev pub note_of : View → View
note_of v = resting (map (λ c. claim 0 0 c.seen) v.claims)

-- the view of two joined passes
abbrev pub together : View → View → View
together v w = known v.fresh v.held (v.claims ++ w.claims)
