-- The number of draws of n lotteries in which an index wins, and how often.
use Rattle.lot_laws.proofs.Common.{All, All-contains, Bool, Contains, Contains-append_cases, Contains-append_left, Contains-append_right, Contains-get_or, HasEachOnce, IsApart, List, None, Option, Ready, Some, State, add-mul, all_draws, ap, apart-append, apart-map, apart-range, arith, cases_lt, choose, cond, contains-later, contains-mapped, contains-nothing, count_by, count_by-le-length, draws_first_won_after, eq-eqb, eqb-false, eqb-true, false, first_win, flat_map, get_or, inl, inr, length, length-range_with_len, lists_of, map, mapped-contains, mul_comm, ne_eqb, once-from, option_any, option_map, place-share, place_wins, pow-suc, pow-succ', pow-zero, range-contains, range_with_len, refl, slice_get, squared_distance, status_of, subst, suc, sum, sum-mapped, sum-nothing, sum-plus, sum-same, sum-times, sum_by, sum_by-append, sum_by-cons, sym, thread-share, thread_wins, total_weight, true, weight_of, wins_in_all, zero, ℕ, [], ◌*◌, ◌+◌, ◌-◌, ◌<◌, ◌==◌, ◌^◌, ◌∙◌, ◌∷◌, ◌≡◌, ◌≤◌, ◌⊎◌}

-- ---- sums over lists of n elements

sum-flat : {A B : Type 0} (g : B → ℕ) (f : A → List B) (xs : List A)
    → sum_by g (flat_map f xs) ≡ sum_by (λ x. sum_by g (f x)) xs
sum-flat g f [] = refl
sum-flat g f (x ∷ xs) =
    omega (arith, sum_by-append g (f x) (flat_map f xs), sum_by-cons (λ y. sum_by g (f y)) x xs, sum-flat g f xs)

-- the same amount for each element
sum-all : {A : Type 0} (amount : ℕ) (xs : List A) → sum_by (λ x. amount) xs ≡ length xs * amount
sum-all amount [] = omega arith
sum-all amount (x ∷ xs) = omega (arith, sum_by-cons (λ y. amount) x xs, sum-all amount xs)

-- one amount for each element that passes the test, and another for each that doesn't
pub sum-either : {A : Type 0} (p : A → Bool) (a b : ℕ) (xs : List A)
    → sum_by (λ x. cond (p x) a b) xs + count_by p xs * b ≡ count_by p xs * a + length xs * b
sum-either p a b [] = omega arith
sum-either p a b (x ∷ xs) =
    at (p x) (sum_by-cons (λ y. cond (p y) a b) x xs) (sum_by-cons (λ y. cond (p y) 1 0) x xs) (sum-either p a b xs)
  where
    at : (c : Bool) → sum_by (λ y. cond (p y) a b) (x ∷ xs) ≡ cond c a b + sum_by (λ y. cond (p y) a b) xs
        → count_by p (x ∷ xs) ≡ cond c 1 0 + count_by p xs
        → sum_by (λ y. cond (p y) a b) xs + count_by p xs * b ≡ count_by p xs * a + length xs * b
        → sum_by (λ y. cond (p y) a b)
        (x ∷ xs) + count_by p (x ∷ xs) * b ≡ count_by p (x ∷ xs) * a + suc (length xs) * b
    at true here count more = rw (here, count) (omega (arith, more))
    at false here count more = rw (here, count) (omega (arith, more))

-- lists of one element more: each element, before each list
pub sum-lists : {A : Type 0} (g : List A → ℕ) (xs : List A) (n : ℕ)
    → sum_by g (lists_of xs (suc n)) ≡ sum_by (λ x. sum_by (λ rest. g (x ∷ rest)) (lists_of xs n)) xs
sum-lists {A = A} g xs n =
    sum-flat g (λ x. map (λ rest. x ∷ rest) (lists_of xs n)) xs
    ∙ sum-same (λ (x : A). sum_by g (map (λ rest. x ∷ rest) (lists_of xs n)))
    (λ x. sum_by (λ rest. g (x ∷ rest)) (lists_of xs n)) xs (λ x. sum-mapped g (λ rest. x ∷ rest) (lists_of xs n))

length-ones : {A : Type 0} (xs : List A) → length xs ≡ sum_by (λ x. 1) xs
length-ones xs = omega (arith, sum-all 1 xs)

pub lists-many : {A : Type 0} (xs : List A) (n : ℕ) → length (lists_of xs n) ≡ length xs ^ n
lists-many xs zero = sym (pow-zero (length xs))
lists-many {A = A} xs (suc n) =
    length-ones (lists_of xs (suc n)) ∙ sum-lists (λ rest. 1) xs n
    ∙ omega (arith, sum-all (sum_by (λ (rest : List A). 1) (lists_of xs n)) xs, ap (λ m. length xs * m) (sym (length-ones (lists_of xs n)) ∙ lists-many xs n), pow-succ' (length xs) n)

-- ---- the lists of n, each once

module _ {A B : Type 0} (f : A → List B) where
  contains-flat : (xs : List A) (y : B) → Contains (flat_map f xs) y → (x : A) × Contains xs x × Contains (f x) y
  contains-flat [] y c = absurd (contains-nothing y c)
  contains-flat (x ∷ xs) y c = by (contains-flat xs y) (Contains-append_cases (f x) (flat_map f xs) y c)
    where
      by : (Contains (flat_map f xs) y → (z : A) × Contains xs z × Contains (f z) y)
          → Contains (f x) y ⊎ Contains (flat_map f xs) y → (z : A) × Contains (x ∷ xs) z × Contains (f z) y
      by later (inl here) = (x, (zero, omega arith, refl), here)
      by later (inr more) = let r = later more in (r.0, contains-later x xs r.0 r.1, r.2)

  flat-contains : (xs : List A) (x : A) (y : B) → Contains xs x → Contains (f x) y → Contains (flat_map f xs) y
  flat-contains [] x y c there = absurd (contains-nothing x c)
  flat-contains (z ∷ xs) x y (zero, low, is) there =
      Contains-append_left (f z) (flat_map f xs) y (subst (λ v. Contains (f v) y) (sym is) there)
  flat-contains (z ∷ xs) x y (suc i, low, is) there =
      Contains-append_right (f z) (flat_map f xs) y (flat-contains xs x y (i, omega (arith, low), is) there)

  -- if no two pieces share an element
  apart-flat : ((x z : A) (y : B) → Contains (f x) y → Contains (f z) y → x ≡ z) → ((x : A) → IsApart (f x))
      → (xs : List A) → IsApart xs → IsApart (flat_map f xs)
  apart-flat tells each [] apart = tt
  apart-flat tells each (x ∷ xs) apart =
      apart-append (f x) (flat_map f xs) (each x) (apart-flat tells each xs apart.1)
      (λ y here more. let r = contains-flat xs y more in
      apart.0 (subst (Contains xs) (sym (tells x r.0 y here r.2)) r.1))

-- the first element of a list, or else this, and the others
first-or : {A : Type 0} → A → List A → A
first-or other [] = other
first-or other (x ∷ xs) = x

others-of : {A : Type 0} → List A → List A
others-of [] = []
others-of (x ∷ xs) = xs

module _ {A : Type 0} where
  before-lists : List (List A) → A → List (List A)
  before-lists lists x = map (λ rest. x ∷ rest) lists

  begins : (lists : List (List A)) (x z : A) (list : List A) → Contains (map (λ rest. x ∷ rest) lists) list
      → Contains (map (λ rest. z ∷ rest) lists) list → x ≡ z
  unfolding first-or
  begins lists x z list one other =
      let r = contains-mapped (λ rest. x ∷ rest) lists list one in
      let s = contains-mapped (λ rest. z ∷ rest) lists list other in
      ap (first-or x) (r.2 ∙ sym s.2)

  pub lists-apart : (xs : List A) → IsApart xs → (n : ℕ) → IsApart (lists_of xs n)
  unfolding others-of
  lists-apart xs apart zero = ((λ c. contains-nothing [] c), tt)
  lists-apart xs apart (suc n) =
      apart-flat (λ x. map (λ rest. x ∷ rest) (lists_of xs n)) (begins (lists_of xs n))
      (λ x. apart-map (λ rest. x ∷ rest) others-of (λ rest. refl) (lists_of xs n) (lists-apart xs apart n)) xs apart

  -- a list of n elements is there
  pub list-there : (xs : List A) (n : ℕ) (list : List A) → length list ≡ n → ((x : A) → Contains list x → Contains xs x)
      → Contains (lists_of xs n) list
  list-there xs zero [] long each = (zero, omega arith, refl)
  list-there xs zero (x ∷ list) long each = absurd (omega (arith, long))
  list-there xs (suc n) [] long each = absurd (omega (arith, long))
  list-there xs (suc n) (x ∷ list) long each =
      flat-contains (λ z. map (λ rest. z ∷ rest) (lists_of xs n)) xs x (x ∷ list) (each x (zero, omega arith, refl))
      (mapped-contains (λ rest. x ∷ rest) (lists_of xs n) list
      (list-there xs n list (omega (arith, long)) (λ z c. each z (contains-later x list z c))))

  -- and what is there is such a list
  pub there-list : (xs : List A) (n : ℕ) (list : List A) → Contains (lists_of xs n) list
      → (length list ≡ n) × ((x : A) → Contains list x → Contains xs x)
  there-list xs zero list (zero, low, is) =
      (ap length (sym is), λ x c. absurd (contains-nothing x (subst (λ l. Contains l x) (sym is) c)))
  there-list xs zero list (suc i, low, is) = absurd (omega (arith, low))
  there-list xs (suc n) list c =
      let r = contains-flat (λ z. map (λ rest. z ∷ rest) (lists_of xs n)) xs list c in
      let s = contains-mapped (λ rest. r.0 ∷ rest) (lists_of xs n) list r.2 in
      let more = there-list xs n s.0 s.1 in
      (ap length (sym s.2) ∙ ap suc more.0, λ x there. first r.0 s.0 x (subst (λ l. Contains l x) (sym s.2) there) r.1 more.1)
    where
      first : (y : A) (rest : List A) (x : A) → Contains (y ∷ rest) x → Contains xs y
          → ((z : A) → Contains rest z → Contains xs z) → Contains xs x
      first y rest x (zero, low, is) here more = subst (Contains xs) is here
      first y rest x (suc i, low, is) here more = more x (i, omega (arith, low), is)

-- ---- numbers of passes

same-test : (a b c d : ℕ) → (a ≡ b → c ≡ d) → (c ≡ d → a ≡ b) → (a == b) ≡ (c == d)
same-test a b c d to back = at (c == d) refl
  where
    at : (test : Bool) → (c == d) ≡ test → (a == b) ≡ test
    at true e = eq-eqb a b (back (eqb-true c d e))
    at false e = ne_eqb a b (λ h. eqb-false c d e (to h))

-- how many passes all lists of n have together
together : (p w t n : ℕ) → p * t * w + t * (suc n * (w * p)) ≡ suc (suc n) * (w * (p * t))
together p w t n = omega arith

module _ {A : Type 0} (p : A → Bool) (xs : List A) where
  -- passes of the lists of n
  pub passes : ℕ → ℕ
  passes n = sum_by (count_by p) (lists_of xs n)

  passes-before : (x : A) (lists : List (List A))
      → sum_by (λ rest. count_by p (x ∷ rest)) lists ≡ cond (p x) 1 0 * length lists + sum_by (count_by p) lists
  passes-before x lists =
      sum-same (λ rest. count_by p (x ∷ rest)) (λ rest. cond (p x) 1 0 + count_by p rest) lists
      (λ rest. sum_by-cons (λ y. cond (p y) 1 0) x rest)
      ∙ omega (arith, sum-plus (λ (rest : List A). cond (p x) 1 0) (count_by p) lists, sum-all (cond (p x) 1 0) lists)

  passes-more : (n : ℕ) → passes (suc n) ≡ count_by p xs * length (lists_of xs n) + length xs * passes n
  unfolding passes
  passes-more n =
      let lists = lists_of xs n in
      sum-lists (count_by p) xs n
      ∙ sum-same (λ x. sum_by (λ rest. count_by p (x ∷ rest)) lists) (λ x. cond (p x) 1 0 * length lists + passes n) xs
      (λ x. passes-before x lists)
      ∙ omega (arith, sum-plus (λ x. cond (p x) 1 0 * length lists) (λ x. passes n) xs, sum-times (λ x. cond (p x) 1 0) (length lists) xs, sum-all (passes n) xs)

  pub passes-next : (n : ℕ) → passes (suc n) ≡ suc n * (count_by p xs * length xs ^ n)
  unfolding passes
  passes-next zero =
      passes-more zero ∙ rw pow-zero (omega arith)
  passes-next (suc n) =
      passes-more (suc n)
      ∙ ap (λ m. count_by p xs * m + length xs * passes (suc n)) (lists-many xs (suc n) ∙ pow-suc (length xs) n)
      ∙ ap (λ m. count_by p xs * (length xs ^ n * length xs) + length xs * m) (passes-next n)
      ∙ ap (λ m. m + length xs * (suc n * (count_by p xs * length xs ^ n)))
      (mul_comm (count_by p xs) (length xs ^ n * length xs))
      ∙ together (length xs ^ n) (count_by p xs) (length xs) n
      ∙ ap (λ m. suc (suc n) * (count_by p xs * m)) (sym (pow-suc (length xs) n))

  pub passes-all : (n : ℕ) → sum_by (count_by p) (lists_of xs n) ≡ n * count_by p xs * length xs ^ (n - 1)
  unfolding passes
  passes-all zero = omega arith
  passes-all (suc n) = let one : suc n - 1 ≡ n = omega arith in passes-next n ∙ rw one (omega arith)

  -- how many of the lists of n have just k passes
  pub with-passes : ℕ → ℕ → ℕ
  with-passes n k = count_by (λ list. count_by p list == k) (lists_of xs n)

  -- those that begin with this element
  none-before : (x : A) (lists : List (List A)) → sum_by (λ rest. cond (count_by p (x ∷ rest) == 0) 1 0) lists
      ≡ cond (p x) 0 (count_by (λ list. count_by p list == 0) lists)
  none-before x lists = at (p x) (λ rest. sum_by-cons (λ y. cond (p y) 1 0) x rest)
    where
      at : (b : Bool) → ((rest : List A) → count_by p (x ∷ rest) ≡ cond b 1 0 + count_by p rest)
          → sum_by (λ rest. cond (count_by p (x ∷ rest) == 0) 1 0) lists
          ≡ cond b 0 (count_by (λ list. count_by p list == 0) lists)
      at true count =
          sum-same (λ (rest : List A). cond (count_by p (x ∷ rest) == 0) 1 0) (λ rest. 0) lists
          (λ rest. ap (λ c. cond c 1 0) (ne_eqb (count_by p (x ∷ rest)) 0 (λ h. absurd (omega (arith, h, count rest)))))
          ∙ sum-nothing lists
      at false count =
          sum-same (λ (rest : List A). cond (count_by p (x ∷ rest) == 0) 1 0)
          (λ rest. cond (count_by p rest == 0) 1 0) lists
          (λ rest. ap (λ c. cond c 1 0) (same-test (count_by p (x ∷ rest)) 0 (count_by p rest) 0
          (λ h. omega (arith, h, count rest)) (λ h. omega (arith, h, count rest))))

  some-before : (x : A) (k : ℕ) (lists : List (List A))
      → sum_by (λ rest. cond (count_by p (x ∷ rest) == suc k) 1 0) lists
      ≡ cond (p x) (count_by (λ list. count_by p list == k) lists) (count_by (λ list. count_by p list == suc k) lists)
  some-before x k lists = at (p x) (λ rest. sum_by-cons (λ y. cond (p y) 1 0) x rest)
    where
      at : (b : Bool) → ((rest : List A) → count_by p (x ∷ rest) ≡ cond b 1 0 + count_by p rest)
          → sum_by (λ rest. cond (count_by p (x ∷ rest) == suc k) 1 0) lists
          ≡ cond b (count_by (λ list. count_by p list == k) lists) (count_by (λ list. count_by p list == suc k) lists)
      at true count =
          sum-same (λ (rest : List A). cond (count_by p (x ∷ rest) == suc k) 1 0)
          (λ rest. cond (count_by p rest == k) 1 0) lists
          (λ rest. ap (λ c. cond c 1 0) (same-test (count_by p (x ∷ rest)) (suc k) (count_by p rest) k
          (λ h. omega (arith, h, count rest)) (λ h. omega (arith, h, count rest))))
      at false count =
          sum-same (λ (rest : List A). cond (count_by p (x ∷ rest) == suc k) 1 0)
          (λ rest. cond (count_by p rest == suc k) 1 0) lists
          (λ rest. ap (λ c. cond c 1 0) (same-test (count_by p (x ∷ rest)) (suc k) (count_by p rest) (suc k)
          (λ h. omega (arith, h, count rest)) (λ h. omega (arith, h, count rest))))

  pub with-none : (n : ℕ) → with-passes (suc n) 0 + count_by p xs * with-passes n 0 ≡ length xs * with-passes n 0
  unfolding with-passes
  with-none n =
      let lists = lists_of xs n in
      let begun = sum-lists (λ list. cond (count_by p list == 0) 1 0) xs n
      ∙ sum-same (λ x. sum_by (λ rest. cond (count_by p (x ∷ rest) == 0) 1 0) lists)
      (λ x. cond (p x) 0 (with-passes n 0)) xs (λ x. none-before x lists) in
      omega (arith, begun, sum-either p 0 (with-passes n 0) xs)

  pub with-some : (n k : ℕ) → with-passes (suc n) (suc k) + count_by p xs * with-passes n (suc k)
      ≡ count_by p xs * with-passes n k + length xs * with-passes n (suc k)
  unfolding with-passes
  with-some n k =
      let lists = lists_of xs n in
      let begun = sum-lists (λ list. cond (count_by p list == suc k) 1 0) xs n
      ∙ sum-same (λ x. sum_by (λ rest. cond (count_by p (x ∷ rest) == suc k) 1 0) lists)
      (λ x. cond (p x) (with-passes n k) (with-passes n (suc k))) xs (λ x. some-before x k lists) in
      omega (arith, begun, sum-either p (with-passes n k) (with-passes n (suc k)) xs)

-- ---- squares

-- the square of one more pass, or of as many
square-more : (b : Bool) (w : ℕ) → (cond b 1 0 + w) * (cond b 1 0 + w) ≡ cond b 1 0 * (1 + 2 * w) + w * w
square-more true w = omega arith
square-more false w = omega arith

-- the squares come to one more lottery
squares-step : (n w t p : ℕ)
    → (w * (p * t) + (2 * w * (suc n * (w * p)))) * t + t * (suc n * w * (p * t) + suc n * n * w * w * p)
    ≡ suc (suc n) * w * (p * t * t) + suc (suc n) * suc n * w * w * (p * t)
squares-step n w t p = omega arith

module _ {A : Type 0} (p : A → Bool) (xs : List A) where
  -- the squares of the passes of the lists of n
  pub squares : ℕ → ℕ
  squares n = sum_by (λ list. count_by p list * count_by p list) (lists_of xs n)

  squares-before : (x : A) (lists : List (List A))
      → sum_by (λ rest. count_by p (x ∷ rest) * count_by p (x ∷ rest)) lists
      ≡ cond (p x) 1 0 * (length lists + 2 * sum_by (count_by p) lists)
      + sum_by (λ rest. count_by p rest * count_by p rest) lists
  squares-before x [] = omega arith
  squares-before x (list ∷ lists) =
      let one : count_by p (x ∷ list) ≡ cond (p x) 1 0 + count_by p list = sum_by-cons (λ y. cond (p y) 1 0) x list in
      sum_by-cons (λ rest. count_by p (x ∷ rest) * count_by p (x ∷ rest)) list lists
      ∙ ap (λ m. m * m + sum_by (λ rest. count_by p (x ∷ rest) * count_by p (x ∷ rest)) lists) one
      ∙ ap (λ m. (cond (p x) 1 0 + count_by p list) * (cond (p x) 1 0 + count_by p list) + m) (squares-before x lists)
      ∙ ap (λ m. m + (cond (p x) 1 0 * (length lists + 2 * sum_by (count_by p) lists) + sum_by
      (λ rest. count_by p rest * count_by p rest) lists)) (square-more (p x) (count_by p list))
      ∙ joined (cond (p x) 1 0) (count_by p list) (length lists) (sum_by (count_by p) lists)
      (sum_by (λ rest. count_by p rest * count_by p rest) lists)
      ∙ ap (λ m. cond (p x) 1 0 * (suc (length lists) + 2 * m) + (count_by p list * count_by p list + sum_by
      (λ rest. count_by p rest * count_by p rest) lists)) (sym (sum_by-cons (count_by p) list lists))
      ∙ ap (λ m. cond (p x) 1 0 * (suc (length lists) + 2 * sum_by (count_by p) (list ∷ lists)) + m)
      (sym (sum_by-cons (λ rest. count_by p rest * count_by p rest) list lists))
    where
      joined : (b w l s q : ℕ)
          → b * (1 + 2 * w) + w * w + (b * (l + 2 * s) + q) ≡ b * (suc l + 2 * (w + s)) + (w * w + q)
      joined b w l s q = omega arith

  squares-next : (n : ℕ)
      → squares (suc n) ≡ count_by p xs * (length (lists_of xs n) + 2 * passes p xs n) + length xs * squares n
  unfolding squares passes
  squares-next n =
      let lists = lists_of xs n in
      sum-lists (λ list. count_by p list * count_by p list) xs n
      ∙ sum-same (λ x. sum_by (λ rest. count_by p (x ∷ rest) * count_by p (x ∷ rest)) lists)
      (λ x. cond (p x) 1 0 * (length lists + 2 * sum_by (count_by p) lists) + sum_by
      (λ rest. count_by p rest * count_by p rest) lists) xs (λ x. squares-before x lists)
      ∙ omega (
        arith,
        sum-plus (λ x. cond (p x) 1 0 * (length lists + 2 * sum_by (count_by p) lists))
            (λ x. sum_by (λ rest. count_by p rest * count_by p rest) lists) xs,
        sum-times (λ x. cond (p x) 1 0) (length lists + 2 * sum_by (count_by p) lists) xs,
        sum-all (sum_by (λ rest. count_by p rest * count_by p rest) lists) xs,
      )

  -- in all, times the length
  pub squares-all : (n : ℕ) → squares (suc n) * length xs
      ≡ suc n * count_by p xs * (length xs ^ n * length xs) + suc n * n * count_by p xs * count_by p xs * length xs ^ n
  unfolding squares passes
  squares-all zero = ap (λ m. m * length xs) (squares-next zero) ∙ rw pow-zero (omega arith)
  squares-all (suc n) =
      let w = count_by p xs in
      let t = length xs in
      ap (λ m. m * t) (squares-next (suc n))
      ∙ ap (λ m. (w * (m + 2 * passes p xs (suc n)) + t * squares (suc n)) * t) (lists-many xs (suc n) ∙ pow-suc t n)
      ∙ ap (λ m. (w * (t ^ n * t + 2 * m) + t * squares (suc n)) * t) (passes-next p xs n)
      ∙ apart w t (t ^ n) n (squares (suc n))
      ∙ ap (λ m. (w * (t ^ n * t) + (2 * w * (suc n * (w * t ^ n)))) * t + t * m) (squares-all n)
      ∙ squares-step n w t (t ^ n)
      ∙ ap (λ m. suc (suc n) * w * (m * t) + suc (suc n) * suc n * w * w * m) (sym (pow-suc t n))
    where
      apart : (w t p n q : ℕ) → (w * (p * t + 2 * (suc n * (w * p))) + t * q) * t
          ≡ (w * (p * t) + (2 * w * (suc n * (w * p)))) * t + t * (q * t)
      apart w t p n q = omega arith

-- ---- distances

distance-up : (a d : ℕ) → squared_distance a (a + d) + 2 * (a * (a + d)) ≡ a * a + (a + d) * (a + d)
distance-up a d =
    let none : a - (a + d) ≡ 0 = omega arith in
    let some : a + d - a ≡ d = omega arith in
    rw (none, some) (omega arith)

distance-down : (b d : ℕ) → squared_distance (b + d) b + 2 * ((b + d) * b) ≡ (b + d) * (b + d) + b * b
distance-down b d =
    let none : b - (b + d) ≡ 0 = omega arith in
    let some : b + d - b ≡ d = omega arith in
    rw (none, some) (omega arith)

distance : (a b : ℕ) → squared_distance a b + 2 * (a * b) ≡ a * a + b * b
distance a b = by (cases_lt a b)
  where
    by : (a < b) ⊎ (b ≤ a) → squared_distance a b + 2 * (a * b) ≡ a * a + b * b
    by (inl below) = let is : a + (b - a) ≡ b = omega (arith, below) in
        subst (λ x. squared_distance a x + 2 * (a * x) ≡ a * a + x * x) is (distance-up a (b - a))
    by (inr above) = let is : b + (a - b) ≡ a = omega (arith, above) in
        subst (λ x. squared_distance x b + 2 * (x * b) ≡ x * x + b * b) is (distance-down b (a - b))

no-distance : (t w : ℕ) → squared_distance (0 * t) (0 * w) ≡ 0
no-distance t w =
    let first : 0 * t ≡ 0 = omega arith in
    let second : 0 * w ≡ 0 = omega arith in
    rw (first, second) refl

-- over lists, each against the same
distances : {A : Type 0} (g : A → ℕ) (t b : ℕ) (lists : List A) → sum_by (λ x. squared_distance (g x * t) b) lists + 2
    * (sum_by g lists * t * b) ≡ sum_by (λ x. g x * g x) lists * (t * t) + length lists * (b * b)
distances g t b [] = omega arith
distances g t b (x ∷ lists) =
    ap (λ m. m + 2 * (sum_by g (x ∷ lists) * t * b)) (sum_by-cons (λ y. squared_distance (g y * t) b) x lists)
    ∙ ap (λ m. squared_distance (g x * t) b + sum_by (λ y. squared_distance (g y * t) b) lists + 2 * (m * t * b))
    (sum_by-cons g x lists)
    ∙ joined (squared_distance (g x * t) b) (g x) t b (sum_by (λ y. squared_distance (g y * t) b) lists)
    (sum_by g lists) (sum_by (λ y. g y * g y) lists) (length lists) (distance (g x * t) b) (distances g t b lists)
    ∙ ap (λ m. m * (t * t) + suc (length lists) * (b * b)) (sym (sum_by-cons (λ y. g y * g y) x lists))
  where
    joined : (d v t b e s q l : ℕ) → d + 2 * (v * t * b) ≡ v * t * (v * t) + b * b → e + 2 * (s * t * b)
        ≡ q * (t * t) + l * (b * b) → d + e + 2 * ((v + s) * t * b) ≡ (v * v + q) * (t * t) + suc l * (b * b)
    joined d v t b e s q l first second = omega (arith, first, second)

-- what is left of the squares is the spread
spread-left : (n w o p d : ℕ) → d + 2 * (suc n * (w * p) * (w + o) * (suc n * w))
    ≡ (suc n * w * (p * (w + o)) + suc n * n * w * w * p) * (w + o) + p * (w + o) * (suc n * w * (suc n * w))
    → d ≡ suc n * w * o * (p * (w + o))
spread-left n w o p d is = omega (arith, is)

-- ---- binomials

choose-zero : (n : ℕ) → choose n 0 ≡ 1
choose-zero zero = refl
choose-zero (suc n) = refl

-- more than there are can't be chosen
choose-none : (n k : ℕ) → n < k → choose n k ≡ 0
choose-none n zero more = absurd (omega (arith, more))
choose-none zero (suc k) more = refl
choose-none (suc n) (suc k) more =
    omega (arith, choose-none n k (omega (arith, more)), choose-none n (suc k) (omega (arith, more)))

-- a power of the others, by one more
others-more : (others n k c : ℕ) → k < n → others * (c * others ^ (n - suc k)) ≡ c * others ^ (n - k)
others-more others n k c below =
    let one : n - k ≡ suc (n - suc k) = omega (arith, below) in
    rw (one, pow-suc) (omega arith)

-- the two ways to come to one more
two-ways : (one more w p q : ℕ) → w * (one * p * q) + more * (p * w) * q ≡ (one + more) * (p * w) * q
two-ways one more w p q = omega arith

-- What comes one by one is a binomial.
binomial : (counted : ℕ → ℕ → ℕ) (w others : ℕ) → counted 0 0 ≡ 1 → ((k : ℕ) → counted 0 (suc k) ≡ 0)
    → ((n : ℕ) → counted (suc n) 0 ≡ others * counted n 0)
    → ((n k : ℕ) → counted (suc n) (suc k) ≡ w * counted n k + others * counted n (suc k)) → (n k : ℕ)
    → counted n k ≡ choose n k * w ^ k * others ^ (n - k)
binomial counted w others start none first next zero zero =
    let zero_of : 0 - 0 ≡ 0 = omega arith in
    start ∙ rw (pow-zero w, pow-zero others) (omega arith)
binomial counted w others start none first next zero (suc k) = none k ∙ omega arith
binomial counted w others start none first next (suc n) zero =
    let before = binomial counted w others start none first next n zero in
    let all : n - 0 ≡ n = omega arith in
    let one_more : suc n - 0 ≡ suc n = omega arith in
    first n ∙ ap (λ m. others * m) (before ∙ ap (λ c. c * w ^ 0 * others ^ (n - 0)) (choose-zero n))
    ∙ rw (all, one_more, pow-zero w, pow-suc others n) (omega arith)
binomial counted w others start none first next (suc n) (suc k) = at (binomial counted w others start none first next n
    k) (binomial counted w others start none first next n (suc k)) (cases_lt k n)
  where
    at : counted n k ≡ choose n k * w ^ k * others ^ (n - k)
        → counted n (suc k) ≡ choose n (suc k) * w ^ suc k * others ^ (n - suc k) → (k < n) ⊎ (n ≤ k)
        → counted (suc n) (suc k) ≡ (choose n k + choose n (suc k)) * w ^ suc k * others ^ (suc n - suc k)
    at one more (inl below) =
        let same : suc n - suc k ≡ n - k = omega arith in
        next n k ∙ ap (λ m. w * m + others * counted n (suc k)) one
        ∙ ap (λ m. w * (choose n k * w ^ k * others ^ (n - k)) + others * m) more
        ∙ ap (λ m. w * (choose n k * w ^ k * others ^ (n - k)) + m)
        (others-more others n k (choose n (suc k) * w ^ suc k) below)
        ∙ rw (same, pow-suc w k) (two-ways (choose n k) (choose n (suc k)) w (w ^ k) (others ^ (n - k)))
    at one more (inr above) =
        let same : suc n - suc k ≡ n - k = omega arith in
        let no_more : choose n (suc k) ≡ 0 = choose-none n (suc k) (omega (arith, above)) in
        next n k ∙ ap (λ m. w * m + others * counted n (suc k)) one
        ∙ ap (λ m. w * (choose n k * w ^ k * others ^ (n - k)) + others * m)
        (more ∙ ap (λ c. c * w ^ suc k * others ^ (n - suc k)) no_more)
        ∙ rw (same, pow-suc w k, no_more) (omega arith)

-- ---- all draws

range-high : (n d : ℕ) → Contains (range_with_len 0 n) d → d < n
range-high n d c = omega (arith, below 0 n d c)
  where
    below : (a m x : ℕ) → Contains (range_with_len a m) x → x < a + m
    below a zero x c = absurd (contains-nothing x c)
    below a (suc m) x (zero, low, is) = omega (arith, is)
    below a (suc m) x (suc i, low, is) = omega (arith, below (a + 1) m x (i, omega (arith, low), is))

pub draws-many : (total n : ℕ) → length (all_draws total n) ≡ total ^ n
draws-many total n = lists-many (range_with_len 0 total) n ∙ ap (λ t. t ^ n) (length-range_with_len 0 total)

pub draws-once : (total n : ℕ)
    → HasEachOnce (all_draws total n) (λ draws. (length draws ≡ n) × All (λ d. d < total) draws)
draws-once total n = record {
  each = λ draws c. let r = there-list (range_with_len 0 total) n draws c in
      (r.0, λ k d low. range-high total (get_or draws k d) (r.1 (get_or draws k d) (Contains-get_or draws k d low)));
  all = λ draws is. list-there (range_with_len 0 total) n draws is.0
      (λ d c. range-contains 0 total d (omega arith) (omega (arith, All-contains (λ x. x < total) draws d is.1 c)));
  once = once-from (all_draws total n) (lists-apart (range_with_len 0 total) (apart-range 0 total) n);
}

-- ---- numbers below a total, of which as many pass as the weight

-- the numbers
abbrev pub numbers-below : ℕ → List ℕ
numbers-below total = range_with_len 0 total

module _ (test : ℕ → Bool) (total weight : ℕ) (one : count_by test (numbers-below total) ≡ weight) where
  -- how many lists of n have just k passes
  abbrev pub just : ℕ → ℕ → ℕ
  just n k = count_by (λ list. count_by test list == k) (lists_of (numbers-below total) n)

  pub all-of : (n : ℕ) → sum_by (count_by test) (lists_of (numbers-below total) n) ≡ n * weight * total ^ (n - 1)
  all-of n =
      passes-all test (numbers-below total) n ∙ ap (λ w. n * w * length (numbers-below total) ^ (n - 1)) one
      ∙ ap (λ t. n * weight * t ^ (n - 1)) (length-range_with_len 0 total)

  within : weight ≤ total
  within = omega (arith, one, count_by-le-length test (numbers-below total), length-range_with_len 0 total)

  both : weight + (total - weight) ≡ total
  both = let some = within in omega (arith, some)

  -- the weight of the others
  parts : (lists : ℕ) → weight * lists + (total - weight) * lists ≡ total * lists
  parts lists = sym (add-mul weight (total - weight) lists) ∙ ap (λ t. t * lists) both

  own : (lists : ℕ) → count_by test (numbers-below total) * lists ≡ weight * lists
  own lists = ap (λ w. w * lists) one

  whole : (lists : ℕ) → length (numbers-below total) * lists ≡ total * lists
  whole lists = ap (λ t. t * lists) (length-range_with_len 0 total)

  pub none-of : (n : ℕ) → just (suc n) 0 ≡ (total - weight) * just n 0
  unfolding with-passes
  none-of n = let found = with-none test (numbers-below total) n in
      omega (arith, found, own (just n 0), whole (just n 0), parts (just n 0))

  pub more-of : (n k : ℕ) → just (suc n) (suc k) ≡ weight * just n k + (total - weight) * just n (suc k)
  unfolding with-passes
  more-of n k =
      let found = with-some test (numbers-below total) n k in
      omega (arith, found, own (just n k), own (just n (suc k)), whole (just n (suc k)), parts (just n (suc k)))

  pub binomial-of : (n k : ℕ) → just n k ≡ choose n k * weight ^ k * (total - weight) ^ (n - k)
  binomial-of = binomial just weight (total - weight) refl (λ k. let none : (0 == suc k) ≡ false =
      ne_eqb 0 (suc k) (λ h. absurd (omega (arith, h))) in rw none refl) none-of more-of

  pub never-of : (n : ℕ) → just n 0 ≡ (total - weight) ^ n
  never-of n =
      let all : n - 0 ≡ n = omega arith in
      binomial-of n 0 ∙ ap (λ c. c * weight ^ 0 * (total - weight) ^ (n - 0)) (choose-zero n)
      ∙ rw (all, pow-zero weight) (omega arith)

  pub spread-of : (n : ℕ) → sum_by (λ list. squared_distance (count_by test list * total) (n * weight))
      (lists_of (numbers-below total) n) ≡ n * weight * (total - weight) * total ^ n
  unfolding passes squares
  spread-of zero =
      let none : squared_distance (count_by test [] * total) (0 * weight) ≡ 0 = no-distance total weight in
      sum_by-cons (λ list. squared_distance (count_by test list * total) (0 * weight)) [] [] ∙ ap (λ m. m + 0) none
      ∙ omega arith
  spread-of (suc n) =
      let lists = lists_of (numbers-below total) (suc n) in
      let d = sum_by (λ list. squared_distance (count_by test list * total) (suc n * weight)) lists in
      let here = distances (count_by test) total (suc n * weight) lists in
      let long : length lists ≡ total ^ n * total = lists-many (numbers-below total) (suc n)
      ∙ ap (λ t. t ^ suc n) (length-range_with_len 0 total) ∙ pow-suc total n in
      let sum_is : sum_by (count_by test) lists ≡ suc n * (weight * total ^ n) =
      passes-next test (numbers-below total) n ∙ ap (λ w. suc n * (w * length (numbers-below total) ^ n)) one
      ∙ ap (λ t. suc n * (weight * t ^ n)) (length-range_with_len 0 total) in
      let square_is : sum_by (λ list. count_by test list * count_by test list) lists * total ≡ suc n * weight
      * (total ^ n * total) + suc n * n * weight * weight * total ^ n =
      ap (λ t. sum_by (λ list. count_by test list * count_by test list) lists * t) (sym (length-range_with_len 0 total))
      ∙ squares-all test (numbers-below total) n
      ∙ ap (λ w. suc n * w * (length (numbers-below total) ^ n * length (numbers-below total)) + suc n * n * w * w
      * length (numbers-below total) ^ n) one
      ∙ ap (λ t. suc n * weight * (t ^ n * t) + suc n * n * weight * weight * t ^ n) (length-range_with_len 0 total) in
      let all : d + 2 * (suc n * (weight * total ^ n) * total * (suc n * weight)) ≡ (suc n * weight
      * (total ^ n * total) + suc n * n * weight * weight * total ^ n) * total + total ^ n * total
      * (suc n * weight * (suc n * weight)) =
      ap (λ m. d + 2 * (m * total * (suc n * weight))) (sym sum_is) ∙ here
      ∙ ap (λ m. m + length lists * (suc n * weight * (suc n * weight)))
      (twice (sum_by (λ list. count_by test list * count_by test list) lists) total)
      ∙ ap (λ m. m * total + length lists * (suc n * weight * (suc n * weight))) square_is
      ∙ ap (λ m. (suc n * weight * (total ^ n * total) + suc n * n * weight * weight * total ^ n) * total + m
      * (suc n * weight * (suc n * weight))) long in
      spread-left n weight (total - weight) (total ^ n) d
      (subst (λ t. d + 2 * (suc n * (weight * total ^ n) * t * (suc n * weight))
      ≡ (suc n * weight * (total ^ n * t) + suc n * n * weight * weight * total ^ n) * t + total ^ n * t
      * (suc n * weight * (suc n * weight))) (sym both) all)
      ∙ ap (λ t. suc n * weight * (total - weight) * (total ^ n * t)) both
      ∙ ap (λ m. suc n * weight * (total - weight) * m) (sym (pow-suc total n))
    where
      twice : (q t : ℕ) → q * (t * t) ≡ q * t * t
      twice q t = omega arith

  pub mean-of : (n : ℕ) → wins_in_all test total n * total ≡ n * weight * length (all_draws total n)
  mean-of zero = omega arith
  mean-of (suc n) =
      let one_less : suc n - 1 ≡ n = omega arith in
      ap (λ m. m * total) (all-of (suc n)) ∙ rw (one_less, draws-many total (suc n), pow-suc total n) (omega arith)

  -- ---- the first win

  -- in how many of these lists the first win is this one
  firsts : ℕ → List (List ℕ) → ℕ
  firsts k lists = count_by (λ draws. option_any (λ j. j == k) (first_win test draws)) lists

  one-later : (o : Option ℕ) (k : ℕ) → option_any (λ j. j == suc k) (option_map suc o) ≡ option_any (λ j. j == k) o
  one-later None k = refl
  one-later (Some j) k = same-test (suc j) (suc k) j k (λ h. omega (arith, h)) (λ h. omega (arith, h))

  not-first : (o : Option ℕ) → option_any (λ j. j == 0) (option_map suc o) ≡ false
  not-first None = refl
  not-first (Some j) = ne_eqb (suc j) 0 (λ h. absurd (omega (arith, h)))

  first-now : (d : ℕ) (lists : List (List ℕ))
      → sum_by (λ rest. cond (option_any (λ j. j == 0) (first_win test (d ∷ rest))) 1 0) lists ≡ cond (test d)
      (length lists) 0
  first-now d lists = by (test d) refl
    where
      by : (b : Bool) → test d ≡ b → sum_by
          (λ rest. cond (option_any (λ j. j == 0) (first_win test (d ∷ rest))) 1 0) lists ≡ cond b (length lists) 0
      by true is =
          sum-same (λ (rest : List ℕ). cond (option_any (λ j. j == 0) (first_win test (d ∷ rest))) 1 0)
          (λ rest. 1) lists (λ rest. rw is refl) ∙ sym (length-ones lists)
      by false is =
          sum-same (λ (rest : List ℕ). cond (option_any (λ j. j == 0) (first_win test (d ∷ rest))) 1 0)
          (λ rest. 0) lists (λ rest. rw (is, not-first (first_win test rest)) refl) ∙ sum-nothing lists

  first-later : (d k : ℕ) (lists : List (List ℕ))
      → sum_by (λ rest. cond (option_any (λ j. j == suc k) (first_win test (d ∷ rest))) 1 0) lists
      ≡ cond (test d) 0 (firsts k lists)
  unfolding firsts
  first-later d k lists = by (test d) refl
    where
      no : (0 == suc k) ≡ false
      no = ne_eqb 0 (suc k) (λ h. absurd (omega (arith, h)))

      by : (b : Bool) → test d ≡ b
          → sum_by (λ rest. cond (option_any (λ j. j == suc k) (first_win test (d ∷ rest))) 1 0) lists
          ≡ cond b 0 (firsts k lists)
      by true is =
          sum-same (λ (rest : List ℕ). cond (option_any (λ j. j == suc k) (first_win test (d ∷ rest))) 1 0)
          (λ rest. 0) lists (λ rest. rw is (rw no refl)) ∙ sum-nothing lists
      by false is =
          sum-same (λ (rest : List ℕ). cond (option_any (λ j. j == suc k) (first_win test (d ∷ rest))) 1 0)
          (λ rest. cond (option_any (λ j. j == k) (first_win test rest)) 1 0) lists
          (λ rest. rw (is, one-later (first_win test rest) k) refl)

  pub first-wins : (n k : ℕ) → k < n
      → draws_first_won_after test total n k ≡ (total - weight) ^ k * weight * total ^ (n - (k + 1))
  unfolding firsts
  first-wins zero k below = absurd (omega (arith, below))
  first-wins (suc n) zero below =
      let lists = all_draws total n in
      let begun =
      sum-lists (λ draws. cond (option_any (λ j. j == 0) (first_win test draws)) 1 0) (range_with_len 0 total) n
      ∙ sum-same (λ d. sum_by (λ rest. cond (option_any (λ j. j == 0) (first_win test (d ∷ rest))) 1 0) lists)
      (λ d. cond (test d) (length lists) 0) (range_with_len 0 total) (λ d. first-now d lists) in
      let rest : suc n - (0 + 1) ≡ n = omega arith in
      let split = sum-either test (length lists) 0 (range_with_len 0 total) in
      let own_part : count_by test (range_with_len 0 total) * length lists ≡ weight * total ^ n =
      ap (λ w. w * length lists) one ∙ ap (λ m. weight * m) (draws-many total n) in
      let found : draws_first_won_after test total (suc n) 0 ≡ weight * total ^ n =
      omega (arith, begun, split, own_part) in
      found ∙ rw (rest, pow-zero (total - weight)) (omega arith)
  first-wins (suc n) (suc k) below =
      let lists = all_draws total n in
      let before : draws_first_won_after test total n k ≡ (total - weight) ^ k * weight * total ^ (n - (k + 1)) =
      first-wins n k (omega (arith, below)) in
      let begun =
      sum-lists (λ draws. cond (option_any (λ j. j == suc k) (first_win test draws)) 1 0) (range_with_len 0 total) n
      ∙ sum-same (λ d. sum_by (λ rest. cond (option_any (λ j. j == suc k) (first_win test (d ∷ rest))) 1 0) lists) (λ d.
      cond (test d) 0 (draws_first_won_after test total n k)) (range_with_len 0 total) (λ d. first-later d k lists) in
      let rest : suc n - (suc k + 1) ≡ n - (k + 1) = omega arith in
      let split = sum-either test 0 (draws_first_won_after test total n k) (range_with_len 0 total) in
      let found : draws_first_won_after test total (suc n) (suc k) ≡ (total - weight)
      * draws_first_won_after test total n k =
      omega (
        arith,
        begun,
        split,
        own (draws_first_won_after test total n k),
        whole (draws_first_won_after test total n k),
        parts (draws_first_won_after test total n k),
      ) in
      found ∙ ap (λ m. (total - weight) * m) before ∙ rw (rest, pow-suc (total - weight) k) (omega arith)

-- ---- places and threads

-- a place's numbers are as many as its weight, and so are a Ready thread's
pub place-of : (ws : List ℕ) (place weight : ℕ) → slice_get ws place ≡ Some weight
    → count_by (place_wins ws place) (numbers-below (sum ws)) ≡ weight
place-of = place-share

pub thread-of : (s : State) (p t : ℕ) → status_of s.records t ≡ Some Ready
    → count_by (thread_wins s p t) (numbers-below (total_weight s)) ≡ weight_of s t
thread-of = thread-share
