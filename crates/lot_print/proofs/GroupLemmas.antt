-- The first of the groups of a list, and those after it.
use Rattle.lot_print.proofs.Common.{All, All-head, All-tail, List, ap, arith, drop, drop_min, flat_map, groups_after, groups_of, length, length-drop, length-take, min, refl, runs_in, runs_line, runs_lines, schedule_line, schedule_lines, suc, sym, take, take-append-drop, take_min, with_first, zero, ℕ, [], ⊤, ◌++◌, ◌-◌, ◌<◌, ◌∙◌, ◌∷◌, ◌≡◌, ◌≤◌}

groups_after-first : {A : Type 0} (s room : ℕ) (x : A) (xs : List A)
    → groups_after (suc s) (suc room) (x ∷ xs) ≡ take (suc room) (x ∷ xs) ∷ groups_of (suc s) (drop (suc room) (x ∷ xs))
groups_after-first s zero x [] = refl
groups_after-first s (suc room) x [] = refl
groups_after-first s zero x (y ∷ ys) = let less : suc s - 1 ≡ s = omega arith in rw less refl
groups_after-first s (suc room) x (y ∷ ys) = ap (with_first x) (groups_after-first s room y ys)

-- the first group has as many as the size, and the others are the groups after it
groups_of-first : {A : Type 0} (s : ℕ) (xs : List A) → 0 < length xs
    → groups_of (suc s) xs ≡ take (suc s) xs ∷ groups_of (suc s) (drop (suc s) xs)
groups_of-first s [] some = absurd (omega (arith, some))
groups_of-first s (x ∷ xs) some = groups_after-first s s x xs

-- the first schedule line, and those after it
pub schedule_lines-first : (len : ℕ) (xs more : List ℕ) → 0 < length xs → len ≡ min (length xs) 64 → more ≡ drop len xs
    → schedule_lines xs ≡ schedule_line (take len xs) ++ schedule_lines more
schedule_lines-first len xs more some is rest =
    let size : len ≡ min 64 (length xs) = omega (arith, is) in
    let others : more ≡ drop 64 xs = rest ∙ ap (λ n. drop n xs) size ∙ drop_min 64 xs in
    let first : take len xs ≡ take 64 xs = ap (λ n. take n xs) size ∙ take_min 64 xs in
    ap (λ groups. flat_map schedule_line groups) (groups_of-first 63 xs some) ∙ rw (others, first) refl

-- the first line of runs, and those after it
pub runs_lines-first : (xs more : List ℕ) → 0 < length (runs_in xs) → runs_in more ≡ drop 32 (runs_in xs)
    → runs_lines xs ≡ runs_line (take 32 (runs_in xs)) ++ runs_lines more
runs_lines-first xs more some rest = ap (λ groups. flat_map runs_line groups) (groups_of-first 31 (runs_in xs) some)
    ∙ rw rest refl

-- each element is good
abbrev pub Each : {A : Type 0} → (A → Type 0) → List A → Type 0
Each Good [] = ⊤
Each Good (x ∷ xs) = Good x × Each Good xs

pub Each-from_All : {A : Type 0} (Good : A → Type 0) (xs : List A) → All Good xs → Each Good xs
Each-from_All Good [] all = tt
Each-from_All Good (x ∷ xs) all = (All-head Good x xs all, Each-from_All Good xs (All-tail Good x xs all))

Each-take : {A : Type 0} (Good : A → Type 0) (n : ℕ) (xs : List A) → Each Good xs → Each Good (take n xs)
Each-take Good zero [] each = tt
Each-take Good (suc n) [] each = tt
Each-take Good zero (x ∷ xs) each = tt
Each-take Good (suc n) (x ∷ xs) each = (each.0, Each-take Good n xs each.1)

Each-drop : {A : Type 0} (Good : A → Type 0) (n : ℕ) (xs : List A) → Each Good xs → Each Good (drop n xs)
Each-drop Good zero [] each = tt
Each-drop Good (suc n) [] each = tt
Each-drop Good zero (x ∷ xs) each = each
Each-drop Good (suc n) (x ∷ xs) each = Each-drop Good n xs each.1

-- a group has one to this many elements, each of them good
abbrev pub IsGroup : {A : Type 0} → (A → Type 0) → ℕ → List A → Type 0
IsGroup Good size group = (0 < length group) × (length group ≤ size) × Each Good group

Each-group : {A : Type 0} (Good : A → Type 0) (s fuel : ℕ) (xs : List A) → length xs ≤ fuel → Each Good xs
    → Each (IsGroup Good (suc s)) (groups_of (suc s) xs)
Each-group Good s fuel [] short each = tt
Each-group Good s zero (x ∷ xs) short each = absurd (omega (arith, short))
Each-group Good s (suc fuel) (x ∷ xs) short each =
    let some : 0 < length (x ∷ xs) = omega arith in
    let first : length (take (suc s) (x ∷ xs)) ≡ min (suc s) (length (x ∷ xs)) = length-take (suc s) (x ∷ xs) in
    let rest : length (drop (suc s) (x ∷ xs)) ≡ length (x ∷ xs) - suc s = length-drop (suc s) (x ∷ xs) in
    rw (groups_of-first s (x ∷ xs) some) (
      (omega (arith, first), omega (arith, first), Each-take Good (suc s) (x ∷ xs) each),
      Each-group Good s fuel (drop (suc s) (x ∷ xs)) (omega (arith, rest, short))
          (Each-drop Good (suc s) (x ∷ xs) each),
    )

-- the groups of good elements are groups of them
pub groups_of-each : {A : Type 0} (Good : A → Type 0) (s : ℕ) (xs : List A) → Each Good xs
    → Each (IsGroup Good (suc s)) (groups_of (suc s) xs)
groups_of-each Good s xs each = Each-group Good s (length xs) xs (omega arith) each

joined : {A : Type 0} (content : List A → List ℕ) → ((xs ys : List A) → content (xs ++ ys) ≡ content xs ++ content ys)
    → content [] ≡ []
    → (s fuel : ℕ) (xs : List A) → length xs ≤ fuel → flat_map content (groups_of (suc s) xs) ≡ content xs
joined content append none s fuel [] short = sym none
joined content append none s zero (x ∷ xs) short = absurd (omega (arith, short))
joined content append none s (suc fuel) (x ∷ xs) short =
    let some : 0 < length (x ∷ xs) = omega arith in
    let rest : length (drop (suc s) (x ∷ xs)) ≡ length (x ∷ xs) - suc s = length-drop (suc s) (x ∷ xs) in
    let others : flat_map content (groups_of (suc s) (drop (suc s) (x ∷ xs))) ≡ content (drop (suc s) (x ∷ xs)) =
    joined content append none s fuel (drop (suc s) (x ∷ xs)) (omega (arith, rest, short)) in
    ap (flat_map content) (groups_of-first s (x ∷ xs) some)
    ∙ ap (λ (more : List ℕ). content (take (suc s) (x ∷ xs)) ++ more) others
    ∙ sym (append (take (suc s) (x ∷ xs)) (drop (suc s) (x ∷ xs)))
    ∙ ap content (take-append-drop (suc s) (x ∷ xs))

-- the groups together are the list
pub groups_of-joined : {A : Type 0} (content : List A → List ℕ)
    → ((xs ys : List A) → content (xs ++ ys) ≡ content xs ++ content ys) → content [] ≡ []
    → (s : ℕ) (xs : List A) → flat_map content (groups_of (suc s) xs) ≡ content xs
groups_of-joined content append none s xs = joined content append none s (length xs) xs (omega arith)
