-- Text written in parts.
use Rattle.std.proofs.lemmas.List.{take_all}
use Rattle.lot_system.proofs.Common.{Appends, Begins, Bool, Err, IoFault, List, Ok, Option, Put, Result, Written, ap, append-nil, append_assoc, appends-both, arith, begins-after, begins-front, drop, flat_map, length, range-push, range_with_len, slice_index_or, subst, suc, sym, take, zero, ℕ, [], ◌++◌, ◌+◌, ◌-◌, ◌<◌, ◌∙◌, ◌∷◌, ◌≡◌, ◌≤◌}

-- a text that is written after what waited, so that nothing waits
pub put-written : {U : Type 0} (old mid new : Option (List ℕ)) (before after text : List ℕ) (failed : Bool)
    (r : Result U IoFault) → after ≡ [] → Appends old mid before → Written mid new failed r text
    → Put old new before after failed r text
put-written old mid new before after text failed (Ok done) none one two =
    (two.0, (before ++ text, sym (append-nil (before ++ text)) ∙ ap (λ xs. (before ++ text) ++ xs) (sym none), appends-both old mid new before text one two.1))
put-written old mid new before after text failed (Err fault) none one two =
    (two.0, two.1, begins-after old mid new before text one two.2)

-- ---- texts of the numbers of a range

-- one text more is written
pub range-more : (old mid new : Option (List ℕ)) (f : ℕ → List ℕ) (a k j : ℕ) → j ≡ a + k
    → Appends old mid (flat_map f (range_with_len a k)) → Appends mid new (f j)
    → Appends old new (flat_map f (range_with_len a (k + 1)))
range-more old mid new f a k j is one given =
    let two = subst (λ m. Appends mid new (f m)) is given in
    let e : k + 1 ≡ suc k = omega arith in
    subst (λ n. Appends old new (flat_map f (range_with_len a n))) (sym e) (subst (Appends old new)
    (sym (range-push f a k)) (appends-both old mid new (flat_map f (range_with_len a k)) (f (a + k)) one two))

range-front : (f : ℕ → List ℕ) (a k n : ℕ)
    → (rest : List ℕ) × (flat_map f (range_with_len a (k + n)) ≡ flat_map f (range_with_len a k) ++ rest)
range-front f a zero n = let e : 0 + n ≡ n = omega arith in
    (flat_map f (range_with_len a n), ap (λ m. flat_map f (range_with_len a m)) e)
range-front f a (suc k) n =
    let more = range-front f (a + 1) k n in
    let e : suc k + n ≡ suc (k + n) = omega arith in
    (more.0, ap (λ m. flat_map f (range_with_len a m)) e ∙ ap (λ xs. f a ++ xs) more.1 ∙ sym (append_assoc (f a) (flat_map f (range_with_len (a + 1) k)) more.0))

-- a beginning of the next text is one of all
pub range-stops : (old mid new : Option (List ℕ)) (f : ℕ → List ℕ) (a k n j : ℕ) → k < n → j ≡ a + k
    → Appends old mid (flat_map f (range_with_len a k)) → Begins mid new (f j)
    → Begins old new (flat_map f (range_with_len a n))
range-stops old mid new f a k n j below is one given =
    let two = subst (λ m. Begins mid new (f m)) is given in
    let e : suc k + (n - suc k) ≡ n = omega arith in
    let split = range-front f a (suc k) (n - suc k) in
    let whole : flat_map f (range_with_len a n) ≡ (flat_map f (range_with_len a k) ++ f (a + k)) ++ split.0 =
    ap (λ m. flat_map f (range_with_len a m)) (sym e) ∙ split.1 ∙ ap (λ xs. xs ++ split.0) (range-push f a k) in
    subst (Begins old new) (sym whole) (begins-front old new (flat_map f (range_with_len a k) ++ f (a + k)) split.0
    (begins-after old mid new (flat_map f (range_with_len a k)) (f (a + k)) one two))

-- ---- texts of the items of a list, of which some are left

-- the text that is written, so that those of the items that are left make it whole
abbrev pub IsPart : {A : Type 0} → (A → List ℕ) → Option (List ℕ) → Option (List ℕ) → List ℕ → List A → Type 0
IsPart f old new whole left = (done : List ℕ) × (done ++ flat_map f left ≡ whole) × Appends old new done

-- the first text of those is written
pub part-more : {A : Type 0} (f : A → List ℕ) (old mid new : Option (List ℕ)) (whole : List ℕ) (left : List A) (d : A)
    → 1 ≤ length left → IsPart f old mid whole left → Appends mid new (f (slice_index_or left 0 d))
    → IsPart f old new whole (take (length left - 1) (drop 1 left))
part-more f old mid new whole [] d some so_far one = absurd (omega (arith, some))
part-more f old mid new whole (x ∷ left) d some so_far one =
    let count : length (x ∷ left) - 1 ≡ length left = omega arith in (
      so_far.0 ++ f x,
      append_assoc so_far.0 (f x) (flat_map f (take (length (x ∷ left) - 1) left))
          ∙ ap (λ items. so_far.0 ++ (f x ++ flat_map f items))
          (take_all (length (x ∷ left) - 1) left (omega (arith, count))) ∙ so_far.1,
      appends-both old mid new so_far.0 (f x) so_far.2 one,
    )

-- a beginning of it is one of all
pub part-stops : {A : Type 0} (f : A → List ℕ) (old mid new : Option (List ℕ)) (whole : List ℕ) (left : List A) (d : A)
    → 1 ≤ length left → IsPart f old mid whole left → Begins mid new (f (slice_index_or left 0 d))
    → Begins old new whole
part-stops f old mid new whole [] d some so_far one = absurd (omega (arith, some))
part-stops f old mid new whole (x ∷ left) d some so_far one =
    subst (Begins old new) so_far.1 (begins-after old mid new so_far.0 (f x ++ flat_map f left) so_far.2
    (begins-front mid new (f x) (flat_map f left) one))
