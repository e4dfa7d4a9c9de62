-- The value of live threads, one after another.
use Rattle.lot_playback.proofs.Common.{Bool, List, State, ap, arith, cond, false, filter, if◌then◌else◌, is_live, live_of, live_part, range_with_len, refl, subst, suc, sum_by, sum_by-cons, sym, true, value_of, zero, ℕ, [], ◌+◌, ◌∙◌, ◌∷◌, ◌≡◌}

-- one number more counts if it passes
passed-push : (f : ℕ → ℕ) (test : ℕ → Bool) (a k : ℕ) → sum_by f (filter test (range_with_len a (suc k)))
    ≡ sum_by f (filter test (range_with_len a k)) + (if test (a + k) then f (a + k) else 0)
passed-push f test a zero = let e : a + 0 ≡ a = omega arith in rw e (from (test a))
  where
    from : (b : Bool) → sum_by f (cond b (a ∷ []) []) ≡ 0 + (if b then f a else 0)
    from true = refl
    from false = refl
passed-push f test a (suc k) =
    let e : a + 1 + k ≡ a + suc k = omega arith in
    let more = subst (λ n. sum_by f (filter test (range_with_len (a + 1) (suc k))) ≡ sum_by f
    (filter test (range_with_len (a + 1) k)) + (if test n then f n else 0)) e (passed-push f test (a + 1) k) in
    from (test a) (filter test (range_with_len (a + 1) (suc k))) (filter test (range_with_len (a + 1) k))
    (if test (a + suc k) then f (a + suc k) else 0) more
  where
    from : (b : Bool) (longer shorter : List ℕ) (last : ℕ) → sum_by f longer ≡ sum_by f shorter + last
        → sum_by f (cond b (a ∷ longer) longer) ≡ sum_by f (cond b (a ∷ shorter) shorter) + last
    from true longer shorter last is = let one : sum_by f (a ∷ longer) ≡ sum_by f (a ∷ shorter) + last =
        omega (arith, is, sum_by-cons f a longer, sum_by-cons f a shorter) in one
    from false longer shorter last is = is

-- the value of one thread more
pub value-more : (s : State) (k j value : ℕ) → j ≡ k + 1 → value ≡ live_part s j (value_of s j)
    → sum_by (value_of s) (filter (is_live (live_of s)) (range_with_len 1 k)) + value ≡ sum_by (value_of s)
    (filter (is_live (live_of s)) (range_with_len 1 (k + 1)))
value-more s k j value is own =
    let e : k + 1 ≡ suc k = omega arith in
    let n : j ≡ 1 + k = omega arith in
    ap (λ v. sum_by (value_of s) (filter (is_live (live_of s)) (range_with_len 1 k)) + v)
    (own ∙ ap (λ i. live_part s i (value_of s i)) n)
    ∙ sym (passed-push (value_of s) (is_live (live_of s)) 1 k)
    ∙ ap (λ i. sum_by (value_of s) (filter (is_live (live_of s)) (range_with_len 1 i))) (sym e)
