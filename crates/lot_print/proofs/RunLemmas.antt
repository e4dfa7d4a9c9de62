-- The first of the runs of a history, and those after it.
use Rattle.lot_print.proofs.Common.{ActorRun, Bool, List, arith, drop, eqb-true, false, flat_map, length, prefix_len, refl, run_before, run_text, runs_in, suc, take, true, ℕ, [], ◌++◌, ◌+◌, ◌-◌, ◌<◌, ◌==◌, ◌∙◌, ◌∷◌, ◌≡◌}

-- a history's first run is as long as its first actor has turns at the front
pub runs_in-first : (a : ℕ) (bs : List ℕ) (n : ℕ) → n ≡ prefix_len (λ x. x == a) bs
    → runs_in (a ∷ bs) ≡ record { actor = a; count = n + 1 } ∷ runs_in (drop n bs)
runs_in-first a [] n is = rw is refl
runs_in-first a (b ∷ bs) n is = at (b == a) refl (runs_in-first b bs (prefix_len (λ x. x == b) bs) refl)
  where
    at : (e : Bool) → (b == a) ≡ e → runs_in (b ∷ bs) ≡ record { actor = b; count = prefix_len (λ x. x == b) bs + 1 }
        ∷ runs_in (drop (prefix_len (λ x. x == b) bs) bs)
        → run_before a (runs_in (b ∷ bs)) ≡ record { actor = a; count = n + 1 } ∷ runs_in (drop n (b ∷ bs))
    at true same next =
        let equal : b ≡ a = eqb-true b a same in
        let count : n ≡ suc (prefix_len (λ x. x == a) bs) = is ∙ rw same (omega arith) in
        let more : prefix_len (λ x. x == a) bs + 1 ≡ suc (prefix_len (λ x. x == a) bs) = omega arith in
        rw (count, next, same, equal, more) refl
    at false other next =
        let count : n ≡ 0 = is ∙ rw other refl in
        rw (count, next, other) refl

-- a history with a turn has a run
pub runs_in-some : (xs : List ℕ) → 0 < length xs → 0 < length (runs_in xs)
runs_in-some [] some = absurd (omega (arith, some))
runs_in-some (a ∷ bs) some = rw (runs_in-first a bs (prefix_len (λ x. x == a) bs) refl) (omega arith)

-- one run more of those that a line has room for
pub run_texts-first : (n : ℕ) (run : ActorRun) (runs rest : List ActorRun) → n < 32 → runs ≡ run ∷ rest
    → flat_map run_text (take (32 - n) runs) ≡ run_text run ++ flat_map run_text (take (32 - (n + 1)) rest)
run_texts-first n run runs rest short is =
    let left : 32 - n ≡ suc (32 - (n + 1)) = omega (arith, short) in
    rw (is, left) refl

-- the same of the whole history
pub runs_in-split : (a n : ℕ) (xs bs : List ℕ) → xs ≡ a ∷ bs → n ≡ prefix_len (λ x. x == a) bs
    → runs_in xs ≡ record { actor = a; count = n + 1 } ∷ runs_in (drop (n + 1) xs)
runs_in-split a n xs bs is count =
    let more : n + 1 ≡ suc n = omega arith in
    rw is (runs_in-first a bs n count ∙ rw more refl)
