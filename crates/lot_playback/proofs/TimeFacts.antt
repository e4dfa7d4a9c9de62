-- The actor whose turn is next in time.
use Rattle.lot_playback.proofs.Common.{Bool, Clock, Due, HaveIdled, List, Moment, None, Option, Some, State, ap, append-nil, append_assoc, arith, at_number-suc, clock_after_console, clock_of, clocks_after_console, cost_of, drop, earliest, false, flat_map, get_or, is_none, le-leb, leb-false, leb-true, length, map, nat_le, option_map, processor_due, processor_event, range_with_len, refl, replicate, set, slice_get, sooner, sooner_of, subst, suc, sym, take, thread_on, true, unwrap_or, within, woken, zero, ℕ, [], ◌*◌, ◌++◌, ◌+◌, ◌<◌, ◌||◌, ◌∙◌, ◌∷◌, ◌≡◌, ◌≤◌}

-- ---- lists of the numbers of a range

pub range-push : {A : Type 0} (f : ℕ → List A) (a k : ℕ)
    → flat_map f (range_with_len a (suc k)) ≡ flat_map f (range_with_len a k) ++ f (a + k)
range-push f a zero = let e : a + 0 ≡ a = omega arith in append-nil (f a) ∙ ap f (sym e)
range-push f a (suc k) =
    let e : a + 1 + k ≡ a + suc k = omega arith in
    ap (λ xs. f a ++ xs) (range-push f (a + 1) k) ∙ sym (append_assoc (f a) (flat_map f (range_with_len (a + 1) k))
    (f (a + 1 + k))) ∙ ap (λ n. (f a ++ flat_map f (range_with_len (a + 1) k)) ++ f n) e

-- ---- the first of the turns that may come next

after-test : (m n : ℕ) → nat_le m n ≡ false → n < m
after-test m n failed = omega (arith, leb-false m n failed)

-- which of three is the first doesn't depend on which two are compared first
three-in-time : (x y z : Due)
    → Some (sooner x (sooner_of (Some y) (Some z))) ≡ sooner_of (Some (sooner x (Some y))) (Some z)
three-in-time x y z = at (nat_le y.time z.time) refl (nat_le x.time y.time) refl (nat_le x.time z.time) refl
  where
    at : (yz : Bool) → nat_le y.time z.time ≡ yz → (xy : Bool) → nat_le x.time y.time ≡ xy → (xz : Bool)
        → nat_le x.time z.time ≡ xz
        → Some (sooner x (sooner_of (Some y) (Some z))) ≡ sooner_of (Some (sooner x (Some y))) (Some z)
    at true a true b true c = rw (a, b, c) refl
    at true a true b false c =
        let all : nat_le x.time z.time ≡ true =
        le-leb x.time z.time (omega (arith, leb-true y.time z.time a, leb-true x.time y.time b)) in
        absurd (let no : true ≡ false = sym all ∙ c in cc)
    at true a false b xz c = rw (a, b) (rw a refl)
    at false a true b true c = rw (a, b, c) refl
    at false a true b false c = rw (a, b, c) refl
    at false a false b true c =
        let one : nat_le y.time z.time ≡ true =
        le-leb y.time z.time (omega (arith, leb-true x.time z.time c, after-test x.time y.time b)) in
        absurd (let no : true ≡ false = sym one ∙ a in cc)
    at false a false b false c = rw (a, b, c) (rw a refl)

one-more-in-time : (x : Due) (a b : Option Due) → Some (sooner x (sooner_of a b)) ≡ sooner_of (Some (sooner x a)) b
one-more-in-time x None None = refl
one-more-in-time x None (Some z) = at (nat_le x.time z.time) refl
  where
    at : (xz : Bool) → nat_le x.time z.time ≡ xz → Some (sooner x (Some z)) ≡ sooner_of (Some x) (Some z)
    at true c = rw c refl
    at false c = rw c refl
one-more-in-time x (Some y) None = refl
one-more-in-time x (Some y) (Some z) = three-in-time x y z

-- the first of two lists' turns is the sooner of the first of each
pub earliest-both : (xs ys : List Due) → earliest (xs ++ ys) ≡ sooner_of (earliest xs) (earliest ys)
earliest-both [] ys = refl
earliest-both (x ∷ xs) ys = ap (λ o. Some (sooner x o)) (earliest-both xs ys)
    ∙ one-more-in-time x (earliest xs) (earliest ys)

-- ---- the turns that may come next

-- one processor's turn more
pub earliest-more : (front : List Due) (due : ℕ → List Due) (k : ℕ)
    → sooner_of (earliest (front ++ flat_map due (range_with_len 1 k)))
    (earliest (due (k + 1))) ≡ earliest (front ++ flat_map due (range_with_len 1 (k + 1)))
earliest-more front due k =
    let e : k + 1 ≡ 1 + k = omega arith in
    let s : suc k ≡ k + 1 = omega arith in
    sym (earliest-both (front ++ flat_map due (range_with_len 1 k)) (due (k + 1)))
    ∙ ap earliest (append_assoc front (flat_map due (range_with_len 1 k)) (due (k + 1))
    ∙ ap (λ xs. front ++ xs) (ap (λ n. flat_map due (range_with_len 1 k) ++ due n) e ∙ sym (range-push due 1 k)
    ∙ ap (λ n. flat_map due (range_with_len 1 n)) s))

-- the console's turn is at the time of the first command that is left
pub console-first : (f : ℕ → Due) (times : List ℕ) (k : ℕ)
    → earliest (map f (take 1 (drop k times))) ≡ option_map f (slice_get times k)
console-first f [] zero = refl
console-first f [] (suc k) = refl
console-first f (t ∷ times) zero = refl
console-first f (t ∷ times) (suc k) = console-first f times k

-- a processor that doesn't wait has its turn when it is done
pub processor-first : (m : Moment) (p cost : ℕ) (clock : Clock) → clock ≡ clock_of m.clocks p → clock.waits ≡ false
    → cost ≡ cost_of m.world (processor_event m.world p)
    → Some (record { time = clock.time + cost; actor = p }) ≡ earliest (processor_due m p)
processor-first m p cost clock is goes costs =
    let runs : (clock_of m.clocks p).waits ≡ false = ap (λ (c : Clock). c.waits) (sym is) ∙ goes in
    rw (is, costs, runs) refl

-- ---- clocks that are woken in turn

module _ {A : Type 0} (f : A → A) where
  -- the place i, if those before it are done
  pub turned-at : (xs : List A) (i : ℕ) (d : A) → get_or (map f (take i xs) ++ drop i xs) i d ≡ get_or xs i d
  turned-at [] zero d = refl
  turned-at [] (suc i) d = refl
  turned-at (x ∷ xs) zero d = refl
  turned-at (x ∷ xs) (suc i) d = turned-at xs i d

  turned-suc : (xs : List A) (i : ℕ) (d : A) → i < length xs
      → set (map f (take i xs) ++ drop i xs) i (f (get_or xs i d)) ≡ map f (take (suc i) xs) ++ drop (suc i) xs
  turned-suc [] i d below = absurd (omega arith)
  turned-suc (x ∷ xs) zero d below = refl
  turned-suc (x ∷ xs) (suc i) d below = ap (λ ys. f x ∷ ys) (turned-suc xs i d (omega (arith, below)))

  -- one more is done
  pub turned-more : (xs : List A) (i : ℕ) (d : A) → i < length xs
      → set (map f (take i xs) ++ drop i xs) i (f (get_or xs i d)) ≡ map f (take (i + 1) xs) ++ drop (i + 1) xs
  turned-more xs i d below =
      let e : suc i ≡ i + 1 = omega arith in
      turned-suc xs i d below ∙ ap (λ n. map f (take n xs) ++ drop n xs) e

  pub turned-all : (xs : List A) (i : ℕ) → length xs ≤ i → map f (take i xs) ++ drop i xs ≡ map f xs
  turned-all [] zero all = refl
  turned-all [] (suc i) all = refl
  turned-all (x ∷ xs) zero all = absurd (omega (arith, all))
  turned-all (x ∷ xs) (suc i) all = ap (λ ys. f x ∷ ys) (turned-all xs i (omega (arith, all)))

  pub turned-length : (xs : List A) (i : ℕ) → length (map f (take i xs) ++ drop i xs) ≡ length xs
  turned-length [] zero = refl
  turned-length [] (suc i) = refl
  turned-length (x ∷ xs) zero = refl
  turned-length (x ∷ xs) (suc i) = ap suc (turned-length xs i)

-- ---- clocks that are set in turn, each by its number

module _ {A : Type 0} (f : ℕ → A) where
  -- the place i, if those before it are set
  pub set-at : (xs : List A) (a i : ℕ) (d : A) → i < length xs
      → get_or (map f (range_with_len a i) ++ drop i xs) i d ≡ get_or xs i d
  set-at [] a i d below = absurd (omega arith)
  set-at (x ∷ xs) a zero d below = refl
  set-at (x ∷ xs) a (suc i) d below = set-at xs (a + 1) i d (omega (arith, below))

  set-suc : (xs : List A) (a i : ℕ) → i < length xs → set (map f (range_with_len a i) ++ drop i xs) i (f (a + i))
      ≡ map f (range_with_len a (suc i)) ++ drop (suc i) xs
  set-suc [] a i below = absurd (omega arith)
  set-suc (x ∷ xs) a zero below = let e : a + 0 ≡ a = omega arith in ap (λ n. f n ∷ xs) e
  set-suc (x ∷ xs) a (suc i) below =
      let e : a + suc i ≡ a + 1 + i = omega arith in
      ap (λ n. f a ∷ set (map f (range_with_len (a + 1) i) ++ drop i xs) i (f n)) e
      ∙ ap (λ ys. f a ∷ ys) (set-suc xs (a + 1) i (omega (arith, below)))

  -- one more is set
  pub set-more : (xs : List A) (i : ℕ) → i < length xs → set (map f (range_with_len 1 i) ++ drop i xs) i (f (i + 1))
      ≡ map f (range_with_len 1 (i + 1)) ++ drop (i + 1) xs
  set-more xs i below =
      let n : i + 1 ≡ 1 + i = omega arith in
      let e : suc i ≡ i + 1 = omega arith in
      ap (λ k. set (map f (range_with_len 1 i) ++ drop i xs) i (f k)) n ∙ set-suc xs 1 i below
      ∙ ap (λ k. map f (range_with_len 1 k) ++ drop k xs) e

  nothing-left : (xs : List A) → drop (length xs) xs ≡ []
  nothing-left [] = refl
  nothing-left (x ∷ xs) = nothing-left xs

  pub set-all : (xs : List A) (i : ℕ) → i ≡ length xs
      → map f (range_with_len 1 i) ++ drop i xs ≡ map f (range_with_len 1 (length xs))
  set-all xs i all =
      ap (λ k. map f (range_with_len 1 k) ++ drop k xs) all ∙ ap (λ ys. map f (range_with_len 1 (length xs)) ++ ys)
      (nothing-left xs) ∙ append-nil (map f (range_with_len 1 (length xs)))

  pub set-length : (xs : List A) (a i : ℕ) → i ≤ length xs
      → length (map f (range_with_len a i) ++ drop i xs) ≡ length xs
  set-length xs a zero few = refl
  set-length [] a (suc i) few = absurd (omega arith)
  set-length (x ∷ xs) a (suc i) few = ap suc (set-length xs (a + 1) i (omega (arith, few)))

-- ---- how long processors were idle

abbrev IsIdled : ℕ → Clock → Type 0
IsIdled n clock = clock.idle ≤ n * 4294967296

woken-idled : (n time : ℕ) (clock : Clock) → time < 4294967296 → IsIdled n clock → IsIdled (n + 1) (woken time clock)
woken-idled n time clock early idled = at clock.waits refl
  where
    at : (waits : Bool) → clock.waits ≡ waits → IsIdled (n + 1) (woken time clock)
    at true is = rw is (omega arith)
    at false is = rw is (omega arith)

-- clocks that are woken have idled for one turn more at most
pub all-woken : (n time : ℕ) (clocks : List Clock) → time < 4294967296 → HaveIdled n clocks
    → HaveIdled (n + 1) (map (woken time) clocks)
all-woken n time [] early idled k d below = absurd (omega arith)
all-woken n time (c ∷ cs) early idled zero d below = woken-idled n time c early (idled zero d (omega arith))
all-woken n time (c ∷ cs) early idled (suc k) d below =
    all-woken n time cs early (λ j e within. idled (suc j) e (omega (arith, within))) k d (omega (arith, below))

-- and so do those of which one is set
pub all-set : (n i : ℕ) (clock : Clock) (clocks : List Clock) → IsIdled n clock → HaveIdled n clocks
    → HaveIdled n (set clocks i clock)
all-set n i clock [] this idled k d below = absurd (omega arith)
all-set n zero clock (c ∷ cs) this idled zero d below = this
all-set n zero clock (c ∷ cs) this idled (suc k) d below = idled (suc k) d below
all-set n (suc i) clock (c ∷ cs) this idled zero d below = idled zero d (omega arith)
all-set n (suc i) clock (c ∷ cs) this idled (suc k) d below =
    all-set n i clock cs this (λ j e within. idled (suc j) e (omega (arith, within))) k d (omega (arith, below))

got-idled : (n i : ℕ) (clocks : List Clock) (d : Clock) → i < length clocks → HaveIdled n clocks
    → IsIdled n (unwrap_or (slice_get clocks i) d)
got-idled n i [] d below idled = absurd (omega arith)
got-idled n zero (c ∷ cs) d below idled = idled zero c (omega arith)
got-idled n (suc i) (c ∷ cs) d below idled =
    got-idled n i cs d (omega (arith, below)) (λ j e within. idled (suc j) e (omega (arith, within)))

pub clock-idled : (n p : ℕ) (clocks : List Clock) → 1 ≤ p → p ≤ length clocks → HaveIdled n clocks
    → IsIdled n (clock_of clocks p)
clock-idled n zero clocks above within idled = absurd (omega arith)
clock-idled n (suc i) clocks above within idled =
    let outside : Clock = record { time = 0; waits = true; idle = 0 } in
    subst (λ o. IsIdled n (unwrap_or o outside)) (sym (at_number-suc clocks i))
    (got-idled n i clocks outside (omega (arith, within)) idled)

pub idled-longer : (n : ℕ) (clocks : List Clock) → HaveIdled n clocks → HaveIdled (n + 1) clocks
idled-longer n clocks idled k d below = omega (arith, idled k d below)

-- at the start no clock has idled
pub none-idled : (count : ℕ) → HaveIdled 0 (replicate count (record { time = 0; waits = false; idle = 0 }))
none-idled zero k d below = absurd (omega arith)
none-idled (suc count) zero d below = omega arith
none-idled (suc count) (suc k) d below = none-idled count k d (omega (arith, below))

-- clocks that are each idled, by number
map-idled : (f : ℕ → Clock) (n a k : ℕ) → ((p : ℕ) → a ≤ p → p < a + k → IsIdled n (f p))
    → HaveIdled n (map f (range_with_len a k))
map-idled f n a zero each j d below = absurd (omega arith)
map-idled f n a (suc k) each zero d below = each a (omega arith) (omega arith)
map-idled f n a (suc k) each (suc j) d below =
    map-idled f n (a + 1) k (λ p low high. each p (omega (arith, low)) (omega (arith, high))) j d (omega (arith, below))

-- clocks after a turn of the console have idled for one turn more at most
pub console-idled : (s : State) (n time : ℕ) (clocks : List Clock) → time < 4294967296 → HaveIdled n clocks
    → HaveIdled (n + 1) (clocks_after_console s time clocks)
console-idled s n time clocks early idled =
    map-idled (clock_after_console s time clocks) (n + 1) 1 (length clocks)
    (λ p low high. from p (clock-idled n p clocks low (omega (arith, high)) idled))
  where
    from : (p : ℕ) → IsIdled n (clock_of clocks p) → IsIdled (n + 1) (clock_after_console s time clocks p)
    from p was = at ((clock_of clocks p).waits || is_none (thread_on s.records p)) refl
      where
        at : (b : Bool) → ((clock_of clocks p).waits || is_none (thread_on s.records p)) ≡ b
            → IsIdled (n + 1) (clock_after_console s time clocks p)
        at true is = rw is (omega (arith, was, early))
        at false is = rw is (omega (arith, was))

-- the clock at a place is that of its processor
pub clock-at : (clocks : List Clock) (i : ℕ) (d : Clock) → i < length clocks
    → clock_of clocks (i + 1) ≡ get_or clocks i d
clock-at clocks i d below =
    let e : i + 1 ≡ suc i = omega arith in
    ap (clock_of clocks) e
    ∙ ap (λ o. unwrap_or o (record { time = 0; waits = true; idle = 0 })) (at_number-suc clocks i) ∙ from clocks i below
  where
    from : (xs : List Clock) (j : ℕ) → j < length xs
        → unwrap_or (slice_get xs j) (record { time = 0; waits = true; idle = 0 }) ≡ get_or xs j d
    from [] j below = absurd (omega arith)
    from (x ∷ xs) zero below = refl
    from (x ∷ xs) (suc j) below = from xs j (omega (arith, below))
