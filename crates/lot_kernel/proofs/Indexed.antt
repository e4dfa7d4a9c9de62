-- An index after a name is added or removed, and the places that it finds.
use Rattle.lot_kernel.proofs.Common.{Bool, Contains, HasSameSize, IfNone, IfSome, IsConsistent, IsFree, IsIndexOf, List, NodeLists, None, Option, Some, State, Thread, ThreadRef, ap, arith, at_number, at_number-suc, bucket_at, bucket_of, bytes_eq, bytes_eq-Decides, cases_eq, cases_lt, cond, contains-filter, contains-nothing, false, filter, filter-contains, flatten-some, fold, get_or, get_or_from_slice_get, hash_of, inl, inr, is_meant_by, is_no_name, is_some, le-ltb, length, lt-ltb, min, min-le_left, min-le_right, mirror-free, mirror-push, mirror-remove, mirror-same, names_of, nat_lt, node_at, nodes_of, not, option_and_then, option_any, option_flatten, option_map, place-set_other, place-set_same, position, position-Some, position_or_len_is, reduce, refl, slice_get, slice_get-get_or, slice_get-map, slice_get_past, slice_get_within, slice_set, some-injective, subst, suc, sym, thread_at, thread_meant, true, with_pushed, with_removed, zero, ℕ, [], ◌%◌, ◌&&◌, ◌++◌, ◌+◌, ◌-◌, ◌<◌, ◌∙◌, ◌∷◌, ◌≡◌, ◌≤◌, ◌⊎◌}
use Rattle.lot_machine.specs.declared.reference.ThreadRef.TheVariants as thread_ref

-- ---- tables

push-here : {A : Type 0} (xs : List A) (x : A) → slice_get (xs ++ x ∷ []) (length xs) ≡ Some x
push-here [] x = refl
push-here (y ∷ ys) x = push-here ys x

push-other : {A : Type 0} (xs : List A) (x : A) (k : ℕ) → ¬ (k ≡ length xs)
    → slice_get (xs ++ x ∷ []) k ≡ slice_get xs k
push-other [] x zero off = absurd (off refl)
push-other [] x (suc k) off = refl
push-other (y ∷ ys) x zero off = refl
push-other (y ∷ ys) x (suc k) off = push-other ys x k (λ same. off (ap suc same))

none-here : {A : Type 0} (xs : List (Option A)) (i : ℕ) → option_flatten (slice_get (slice_set xs i None) i) ≡ None
none-here [] i = refl
none-here (y ∷ ys) zero = refl
none-here (y ∷ ys) (suc i) = none-here ys i

-- ---- names that are added and removed

-- the bucket of what stands at a place
abbrev bucket_in : ℕ → Option (Option (List ℕ)) → Option ℕ
bucket_in buckets o = option_and_then (bucket_of buckets) (option_flatten o)

module _ (v : NodeLists) (names : List (Option (List ℕ))) (index : IsIndexOf v names) where
  next-none : bucket_at (length v.lists) names (length names) ≡ None
  next-none = ap (bucket_in (length v.lists)) (slice_get_past names (length names) (omega arith))

  -- the next place is in no list
  pub next-free : IsFree v (length names)
  next-free = mirror-free index (length names) next-none

  gap-none : (place : ℕ) → slice_get names place ≡ Some None → bucket_at (length v.lists) names place ≡ None
  gap-none place gap = ap (bucket_in (length v.lists)) gap

  -- nor is a place whose name was removed
  pub gap-free : (place : ℕ) → slice_get names place ≡ Some None → IsFree v place
  gap-free place gap = mirror-free index place (gap-none place gap)

  -- a table that differs at one place alone, and has no bucket there before and after
  same-index : (table : List (Option (List ℕ))) (place : ℕ)
      → ((other : ℕ) → ¬ (other ≡ place) → slice_get table other ≡ slice_get names other)
      → bucket_at (length v.lists) table place ≡ None → bucket_at (length v.lists) names place ≡ None
      → IsIndexOf v table
  same-index table place others now was =
      mirror-same index (bucket_at (length v.lists) table) (λ other. elim (cases_eq other place) [
        | inl same ↦ ap (bucket_at (length v.lists) table) same ∙ now
            ∙ sym (ap (bucket_at (length v.lists) names) same ∙ was)
        | inr off ↦ ap (bucket_in (length v.lists)) (others other off)
      ])

  -- no bytes are added
  pub index-nameless : (name : List ℕ) → None ≡ bucket_of (length v.lists) name → IsIndexOf v (names ++ Some name ∷ [])
  index-nameless name none =
      same-index (names ++ Some name ∷ []) (length names) (push-other names (Some name))
      (ap (bucket_in (length v.lists)) (push-here names (Some name)) ∙ sym none) next-none

  pub index-nameless_again : (name : List ℕ) (place : ℕ) → None ≡ bucket_of (length v.lists) name
      → slice_get names place ≡ Some None → IsIndexOf v (slice_set names place (Some name))
  index-nameless_again name place none gap =
      same-index (slice_set names place (Some name)) place (place-set_other names place (Some name))
      (ap (bucket_in (length v.lists)) (place-set_same names place (Some name) None gap) ∙ sym none)
      (gap-none place gap)

  -- nothing is removed from a place that is in no list
  pub index-unlisted : (place : ℕ) → IsFree v place → IsIndexOf v (slice_set names place None)
  index-unlisted place free =
      same-index (slice_set names place None) place (place-set_other names place None) (ap (option_and_then
      (bucket_of (length v.lists))) (none-here names place)) (by (bucket_at (length v.lists) names place) refl)
    where
      by : (o : Option ℕ) → bucket_at (length v.lists) names place ≡ o → bucket_at (length v.lists) names place ≡ None
      by None is = is
      by (Some list) is = absurd (free list (index.all list place is))

  module _ (w : NodeLists) (size : HasSameSize v w) (consistent : IsConsistent w) where
    -- where the same stands, the bucket is the same
    same-bucket : (table : List (Option (List ℕ))) (place : ℕ) → slice_get table place ≡ slice_get names place
        → bucket_at (length w.lists) table place ≡ bucket_at (length v.lists) names place
    same-bucket table place is = ap (bucket_in (length w.lists)) is
        ∙ ap (λ n. bucket_in n (slice_get names place)) size.1

    pub index-added : (name : List ℕ) (bucket : ℕ) → Some bucket ≡ bucket_of (length v.lists) name
        → bucket < length v.lists → w ≡ with_pushed v bucket (length names) → IsIndexOf w (names ++ Some name ∷ [])
    index-added name bucket has low is =
        mirror-push index (bucket_at (length w.lists) (names ++ Some name ∷ [])) bucket (length names)
        (λ other off. same-bucket (names ++ Some name ∷ []) other (push-other names (Some name) other off)) w consistent
        low next-none here is
      where
        here : bucket_at (length w.lists) (names ++ Some name ∷ []) (length names) ≡ Some bucket
        here = ap (bucket_in (length w.lists)) (push-here names (Some name)) ∙ ap (λ n. bucket_of n name) size.1
            ∙ sym has

    pub index-again : (name : List ℕ) (place bucket : ℕ) → Some bucket ≡ bucket_of (length v.lists) name
        → slice_get names place ≡ Some None → bucket < length v.lists → w ≡ with_pushed v bucket place
        → IsIndexOf w (slice_set names place (Some name))
    index-again name place bucket has gap low is =
        mirror-push index (bucket_at (length w.lists) (slice_set names place (Some name))) bucket place
        (λ other off. same-bucket (slice_set names place (Some name)) other
        (place-set_other names place (Some name) other off)) w consistent low (gap-none place gap) here is
      where
        here : bucket_at (length w.lists) (slice_set names place (Some name)) place ≡ Some bucket
        here = ap (bucket_in (length w.lists)) (place-set_same names place (Some name) None gap)
            ∙ ap (λ n. bucket_of n name) size.1 ∙ sym has

    pub index-removed : (place list : ℕ) → Contains (nodes_of v list) place → IsFree w place
        → ((k p : ℕ) → node_at v k p ≡ Some place → w ≡ with_removed v k p) → IsIndexOf w (slice_set names place None)
    index-removed place list listed free is =
        mirror-remove index (bucket_at (length w.lists) (slice_set names place None)) list place
        (λ other off. same-bucket (slice_set names place None) other (place-set_other names place None other off)) w
        consistent
        (index.each list place listed)
        (ap (option_and_then (bucket_of (length w.lists))) (none-here names place)) free is

-- ---- the least

fold-min_low : (a : ℕ) (xs : List ℕ) → (fold min a xs ≤ a) × ((x : ℕ) → Contains xs x → fold min a xs ≤ x)
fold-min_low a [] = (omega arith, λ x c. absurd (contains-nothing x c))
fold-min_low a (y ∷ ys) =
    let (low, all) = fold-min_low (min a y) ys in
    (omega (arith, low, min-le_left a y), each low all)
  where
    each : fold min (min a y) ys ≤ min a y → ((x : ℕ) → Contains ys x → fold min (min a y) ys ≤ x) → (x : ℕ)
        → Contains (y ∷ ys) x → fold min (min a y) ys ≤ x
    each low all x (zero, there, is) = omega (arith, low, min-le_right a y, is)
    each low all x (suc i, there, is) = all x (i, omega (arith, there), is)

fold-min_all : (a : ℕ) (xs : List ℕ) (x : ℕ) → Contains (a ∷ xs) x → fold min a xs ≤ x
fold-min_all a xs x (zero, there, is) = omega (arith, (fold-min_low a xs).0, is)
fold-min_all a xs x (suc i, there, is) = (fold-min_low a xs).1 x (i, omega (arith, there), is)

fold-min_in : (a : ℕ) (xs : List ℕ) → Contains (a ∷ xs) (fold min a xs)
fold-min_in a [] = (zero, omega arith, refl)
fold-min_in a (y ∷ ys) = by (fold-min_in (min a y) ys)
  where
    -- the lesser one is one of the two
    lesser : (min a y ≡ a) ⊎ (min a y ≡ y)
    lesser = elim (cases_lt a y) [ inl low ↦ inl (omega (arith, low)) | inr high ↦ inr (omega (arith, high)) ]

    by : Contains (min a y ∷ ys) (fold min (min a y) ys) → Contains (a ∷ y ∷ ys) (fold min (min a y) ys)
    by (zero, there, is) = first lesser
      where
        first : (min a y ≡ a) ⊎ (min a y ≡ y) → Contains (a ∷ y ∷ ys) (fold min (min a y) ys)
        first (inl left) = (zero, omega arith, sym left ∙ is)
        first (inr right) = (suc zero, omega arith, sym right ∙ is)
    by (suc i, there, is) = (suc (suc i), omega (arith, there), is)

-- if none passes, none is the first
none-first : {A : Type 0} (test : A → Bool) (table : List A) (default : A)
    → ((k : ℕ) → k < length table → test (get_or table k default) ≡ false) → position test table ≡ None
none-first test table default none =
    ap at (position_or_len_is test table (length table) default (omega arith) none (λ low. absurd (omega (arith, low))))
    ∙ ap (λ b. cond b (Some (length table)) None) (le-ltb (length table) (length table) (omega arith))
  where
    at : ℕ → Option ℕ
    at n = cond (nat_lt n (length table)) (Some n) None

-- The places that pass are those of a list that pass: so the least of these is the first that passes.
module _ {A : Type 0} (test : A → Bool) (table : List A) (default : A) (xs : List ℕ)
    (all : (place : ℕ) → option_any test (slice_get table place) ≡ true → Contains xs place) where
  -- a place that passes
  passed : (place : ℕ) → option_any test (slice_get table place) ≡ true
      → (place < length table) × (test (get_or table place default) ≡ true)
  passed place is = by (slice_get table place) refl is
    where
      by : (o : Option A) → slice_get table place ≡ o → option_any test o ≡ true
          → (place < length table) × (test (get_or table place default) ≡ true)
      by None none so = cc
      by (Some x) some so =
          (slice_get_within table place x some, ap test (get_or_from_slice_get table place x default some) ∙ so)

  -- a place that is none of the list's that pass doesn't pass
  failed : (place : ℕ) → place < length table → ¬ Contains (filter (λ p. option_any test (slice_get table p)) xs) place
      → test (get_or table place default) ≡ false
  failed place low none = by (test (get_or table place default)) refl
    where
      by : (b : Bool) → test (get_or table place default) ≡ b → test (get_or table place default) ≡ false
      by false is = is
      by true is =
          let so : option_any test (slice_get table place) ≡ true =
          ap (option_any test) (slice_get-get_or table place default low) ∙ is in
          absurd (none (filter-contains (λ p. option_any test (slice_get table p)) xs place so (all place so)))

  pub least-first : reduce min (filter (λ place. option_any test (slice_get table place)) xs) ≡ position test table
  least-first = by (filter (λ place. option_any test (slice_get table place)) xs) refl
    where
      at : ℕ → Option ℕ
      at n = cond (nat_lt n (length table)) (Some n) None

      by : (ys : List ℕ) → filter (λ place. option_any test (slice_get table place)) xs ≡ ys
          → reduce min ys ≡ position test table
      by [] is = sym (none-first test table default
          (λ k low. failed k low (λ c. contains-nothing k (subst (λ (zs : List ℕ). Contains zs k) is c))))
      by (y ∷ ys) is =
          let least = fold min y ys in
          let so = passed least (contains-filter (λ place. option_any test (slice_get table place)) xs least
          (subst (λ (zs : List ℕ). Contains zs least) (sym is) (fold-min_in y ys))).1 in
          sym (
          ap at (position_or_len_is test table least default (omega (arith, so.0))
          (λ k low. failed k (omega (arith, low, so.0))
          (λ c. absurd (omega (arith, low, fold-min_all y ys k (subst (λ (zs : List ℕ). Contains zs k) is c)))))
          (λ low. so.1))
          ∙ ap (λ b. cond b (Some least) None) (lt-ltb least (length table) so.0))

-- ---- what is found

module _ (v : NodeLists) (names : List (Option (List ℕ))) (index : IsIndexOf v names) (name : List ℕ) (bucket : ℕ)
    (has : bucket_of (length v.lists) name ≡ Some bucket) where
  -- a place with the name is in the list of its bucket
  pub named-listed : (place : ℕ) → option_any (option_any (bytes_eq name)) (slice_get names place) ≡ true
      → Contains (nodes_of v bucket) place
  named-listed place is = by (slice_get names place) refl is
    where
      by : (o : Option (Option (List ℕ))) → slice_get names place ≡ o → option_any (option_any (bytes_eq name)) o ≡ true
          → Contains (nodes_of v bucket) place
      by None at so = cc
      by (Some None) at so = cc
      by (Some (Some other)) at so =
          let same = (bytes_eq-Decides name other).0 so in
          index.all bucket place (ap (bucket_in (length v.lists)) at ∙ ap (bucket_of (length v.lists)) (sym same) ∙ has)

-- what has a bucket has bytes
has-bytes : (buckets : ℕ) (name : List ℕ) (bucket : ℕ) → bucket_of buckets name ≡ Some bucket → is_no_name name ≡ false
has-bytes buckets name bucket has = by (is_no_name name) refl
  where
    by : (b : Bool) → is_no_name name ≡ b → is_no_name name ≡ false
    by false is = is
    by true is = let none : None ≡ Some bucket = sym (ap (λ b. cond b None (Some (hash_of name % buckets))) is) ∙ has in
        cc

-- and what has none has none
no-bytes : (buckets : ℕ) (name : List ℕ) → bucket_of buckets name ≡ None → is_no_name name ≡ true
no-bytes buckets name none = by (is_no_name name) refl
  where
    by : (b : Bool) → is_no_name name ≡ b → is_no_name name ≡ true
    by true is = is
    by false is = let some : Some (hash_of name % buckets) ≡ None =
        sym (ap (λ b. cond b None (Some (hash_of name % buckets))) is) ∙ none in cc

-- the bucket whose places these are
pub bucket-of : (v : NodeLists) (name : List ℕ) (places : List ℕ)
    → Some places ≡ option_map (nodes_of v) (bucket_of (length v.lists) name)
    → (bucket : ℕ) × (bucket_of (length v.lists) name ≡ Some bucket) × (nodes_of v bucket ≡ places)
bucket-of v name places is = by (bucket_of (length v.lists) name) refl is
  where
    by : (o : Option ℕ) → bucket_of (length v.lists) name ≡ o → Some places ≡ option_map (nodes_of v) o
        → (bucket : ℕ) × (bucket_of (length v.lists) name ≡ Some bucket) × (nodes_of v bucket ≡ places)
    by None has so = cc
    by (Some bucket) has so = (bucket, has, cc)

pub no-bucket : (v : NodeLists) (name : List ℕ) → None ≡ option_map (nodes_of v) (bucket_of (length v.lists) name)
    → bucket_of (length v.lists) name ≡ None
no-bucket v name is = by (bucket_of (length v.lists) name) refl is
  where
    by : (o : Option ℕ) → bucket_of (length v.lists) name ≡ o → None ≡ option_map (nodes_of v) o
        → bucket_of (length v.lists) name ≡ None
    by None has so = has
    by (Some bucket) has so = cc

-- where it is told whether there is one
pub when-some : {A : Type 0} {P : A → Type 0} (o : Option A) → is_some o ≡ true → IfSome o P → (x : A) × P x
when-some None some is = cc
when-some (Some x) some is = (x, is)

pub when-none : {A P : Type 0} (o : Option A) → is_some o ≡ false → IfNone o P → P
when-none None none is = is
when-none (Some x) none is = cc

-- by a name, what has it is meant
pub meant-named : {A : Type 0} (buckets : ℕ) (name : List ℕ) (bucket : ℕ) (name_of : A → List ℕ)
    (table : List (Option A)) → bucket_of buckets name ≡ Some bucket
    → position (option_any (λ x. bytes_eq name (name_of x))) table
    ≡ position (option_any (λ x. is_meant_by name (name_of x))) table
meant-named buckets name bucket name_of table has = ap (λ b.
    position (option_any (λ x. not b && bytes_eq name (name_of x))) table) (sym (has-bytes buckets name bucket has))

-- by no bytes, nothing is
pub none-meant : {A : Type 0} (buckets : ℕ) (name : List ℕ) (name_of : A → List ℕ) (table : List (Option A))
    → bucket_of buckets name ≡ None → None ≡ position (option_any (λ x. is_meant_by name (name_of x))) table
none-meant {A = A} buckets name name_of table none =
    sym (none-first (option_any (λ x. is_meant_by name (name_of x))) table None (λ k low. by (get_or table k None)))
  where
    by : (o : Option A) → option_any (λ x. is_meant_by name (name_of x)) o ≡ false
    by None = refl
    by (Some x) = ap (λ b. not b && bytes_eq name (name_of x)) (no-bytes buckets name none)

-- the thread has the name that the table of names has at its place
pub thread-named : (threads : List (Option Thread)) (name : List ℕ) (place : ℕ)
    → option_any (option_any (λ t. bytes_eq name t.name)) (slice_get threads place) ≡ true
    → option_any (option_any (bytes_eq name)) (slice_get (names_of threads) place) ≡ true
thread-named threads name place is = ap (option_any (option_any (bytes_eq name)))
    (slice_get-map (option_map (λ (t : Thread). t.name)) threads place) ∙ by (slice_get threads place) is
  where
    by : (o : Option (Option Thread)) → option_any (option_any (λ t. bytes_eq name t.name)) o ≡ true
        → option_any (option_any (bytes_eq name)) (option_map (option_map (λ (t : Thread). t.name)) o) ≡ true
    by None so = so
    by (Some None) so = so
    by (Some (Some t)) so = so

-- ---- threads that are meant

-- a thread that is there has its number
pub thread-there : (s : State) (thread : ThreadRef) (n : ℕ) → thread_meant s thread ≡ Some n
    → (place : ℕ) × (t : Thread) × (n ≡ suc place) × (slice_get s.threads place ≡ Some (Some t))
thread-there s (thread_ref.Named name) n is = by (position named s.threads) refl is
  where
    named : Option Thread → Bool
    named = option_any (λ t. is_meant_by name t.name)

    there : (place : ℕ) (o : Option Thread) → slice_get s.threads place ≡ Some o
        → option_any (λ t. is_meant_by name t.name) o ≡ true → n ≡ suc place
        → (place : ℕ) × (t : Thread) × (n ≡ suc place) × (slice_get s.threads place ≡ Some (Some t))
    there place None at so same = cc
    there place (Some t) at so same = (place, t, same, at)

    by : (o : Option ℕ) → position (option_any (λ (t : Thread). is_meant_by name t.name)) s.threads ≡ o
        → option_map (λ place. place + 1) o ≡ Some n
        → (place : ℕ) × (t : Thread) × (n ≡ suc place) × (slice_get s.threads place ≡ Some (Some t))
    by None at so = cc
    by (Some place) at so =
        let found = position-Some (option_any (λ (t : Thread). is_meant_by name t.name)) s.threads place None at in
        let number = some-injective (place + 1) n so in
        there place (get_or s.threads place None) (slice_get-get_or s.threads place None found.0) found.1
        (omega (arith, number))
thread-there s (thread_ref.Numbered m) n is = by (thread_at s.threads m) refl is
  where
    at-place : (k : ℕ) (t : Thread) → thread_at s.threads k ≡ Some t
        → (place : ℕ) × (t : Thread) × (k ≡ suc place) × (slice_get s.threads place ≡ Some (Some t))
    at-place zero t at = cc
    at-place (suc place) t at =
        (place, t, refl, sym (at_number-suc s.threads place) ∙ flatten-some (at_number s.threads (suc place)) t at)

    by : (o : Option Thread) → thread_at s.threads m ≡ o → option_map (λ (t : Thread). m) o ≡ Some n
        → (place : ℕ) × (t : Thread) × (n ≡ suc place) × (slice_get s.threads place ≡ Some (Some t))
    by None at so = cc
    by (Some t) at so =
        let same : m ≡ n = some-injective m n so in
        at-place n t (ap (thread_at s.threads) (sym same) ∙ at)

-- the place of a thread that is meant
pub meant-place : (s : State) (thread : ThreadRef) (n k : ℕ) → Some n ≡ thread_meant s thread → k ≡ n - 1
    → (t : Thread) × (n ≡ suc k) × (slice_get s.threads k ≡ Some (Some t))
meant-place s thread n k meant is =
    let (place, t, number, at) = thread-there s thread n (sym meant) in
    let same : place ≡ k = omega (arith, number, is) in
    (t, omega (arith, number, same), ap (slice_get s.threads) (sym same) ∙ at)
