-- Printed histories, read again.
use Rattle.lot_print.proofs.Common.{ActorRun, Bool, HasRoom, IsReadAs, IsTrue, List, Reading, actors_of, ap, arith, eqb-true, false, flat_map, flat_map-append, groups_of, history_lines, if◌then◌else◌, length, refl, runs_in, runs_line, runs_lines, schedule_line, schedule_lines, sym, true, ℕ, [], ◌++◌, ◌==◌, ◌||◌, ◌∙◌, ◌∷◌, ◌≡◌, ◌≤◌}
use Rattle.lot_print.proofs.GroupLemmas.{Each-from_All, IsGroup, groups_of-each, groups_of-joined}
use Rattle.lot_print.proofs.ReadBack.{Shown-schedule, read-blocks, read-schedule, schedule_line-text, schedule_text}
use Rattle.lot_print.proofs.RunsBack.{IsRun, Each-readable, Shown-runs, actors_of-runs_in, read-runs, runs_line-text, runs_text}

-- texts that are equal one by one are together
flat_map-same : {X : Type 0} (f g : X → List ℕ) → ((x : X) → f x ≡ g x) → (xs : List X) → flat_map f xs ≡ flat_map g xs
flat_map-same f g same [] = refl
flat_map-same {X} f g same (x ∷ xs) = ap (λ (t : List ℕ). t ++ flat_map f xs) (same x)
    ∙ ap (λ (others : List ℕ). g x ++ others) (flat_map-same f g same xs)

-- from one text and history to equal ones
read_same : (n start : ℕ) (r : Reading) (text text' history history' : List ℕ) → text' ≡ text → history' ≡ history
    → IsReadAs n start r text' history' → IsReadAs n start r text history
read_same n start r text text' history history' texts histories read = rw (sym texts, sym histories) read

-- schedule lines
schedule-back : (n start : ℕ) (r : Reading) (history : List ℕ) → HasRoom r start history (schedule_lines history)
    → IsReadAs n start r (schedule_lines history) history
schedule-back n start r history room =
    let gs : List (List ℕ) = groups_of 64 history in
    let texts : flat_map (λ (g : List ℕ). schedule_text g ++ 10 ∷ []) gs ≡ schedule_lines history =
    sym (flat_map-same schedule_line (λ (g : List ℕ). schedule_text g ++ 10 ∷ []) schedule_line-text gs) in
    let histories : flat_map (λ (g : List ℕ). g) gs ≡ history =
    groups_of-joined (λ (g : List ℕ). g) (λ xs ys. refl) refl 63 history in
    read_same n start r (schedule_lines history) _ history _ texts histories (read-blocks schedule_text
    (λ (g : List ℕ). g) (IsGroup (λ (actor : ℕ). actor ≤ r.processors) 64) r.processors r.unit
    (Shown-schedule r.processors room.processors)
    (λ n' end r' g good unclosed untimed processors unit short within.
    read-schedule r.processors room.processors n' end r' g good unclosed untimed processors short within)
    n start r gs (groups_of-each (λ (actor : ℕ). actor ≤ r.processors) 63 history
    (Each-from_All (λ (actor : ℕ). actor ≤ r.processors) history room.actors))
    room.no_script room.untimed refl refl (rw histories room.schedule_length) (rw texts room.input_length))

-- lines of runs
runs-back : (n start : ℕ) (r : Reading) (history : List ℕ) → r.unit ≡ 256 → HasRoom r start history (runs_lines history)
    → IsReadAs n start r (runs_lines history) history
runs-back n start r history unit room =
    let runs : List ActorRun = runs_in history in
    let gs : List (List ActorRun) = groups_of 32 runs in
    let few : length history ≤ 1000000 = omega (arith, room.schedule_length) in
    let texts : flat_map (λ (g : List ActorRun). runs_text g ++ 10 ∷ []) gs ≡ runs_lines history =
    sym (flat_map-same runs_line (λ (g : List ActorRun). runs_text g ++ 10 ∷ []) runs_line-text gs) in
    let histories : flat_map actors_of gs ≡ history =
    groups_of-joined actors_of (λ xs ys. flat_map-append _ xs ys) refl 31 runs ∙ actors_of-runs_in history in
    read_same n start r (runs_lines history) _ history _ texts histories
    (read-blocks runs_text actors_of (IsGroup (IsRun r.processors 1000000) 32) r.processors 256
    (Shown-runs r.processors room.processors)
    (λ n' end r' g good unclosed untimed processors finer short within.
    read-runs r.processors room.processors n' end r' g good unclosed untimed processors finer short within)
    n start r gs (groups_of-each (IsRun r.processors 1000000) 31 runs
    (Each-readable r.processors history few (Each-from_All (λ (actor : ℕ). actor ≤ r.processors) history room.actors)))
    room.no_script room.untimed refl unit (rw histories room.schedule_length) (rw texts room.input_length))

-- of the two versions
pub history-back : (n start : ℕ) (r : Reading) (history : List ℕ)
    → HasRoom r start history (history_lines r.unit history) → IsReadAs n start r (history_lines r.unit history) history
history-back n start r history room = at (r.unit == 1) refl room.unit room
  where
    at : (e : Bool) → (r.unit == 1) ≡ e → IsTrue (e || (r.unit == 256))
        → HasRoom r start history (if e then schedule_lines history else runs_lines history)
        → IsReadAs n start r (if e then schedule_lines history else runs_lines history) history
    at true one unit room = schedule-back n start r history room
    at false other unit room = runs-back n start r history (eqb-true r.unit 256 unit) room
