-- The threads' places in their scripts, with one changed or one more.
use Rattle.lot_engine.proofs.Common.{AreAt, Context, IfSome, IsAt, IsBetween, IsNext, List, MakesNone, None, OneMore, Option, Place, Program, Some, State, Thread, ap, arith, at_number, at_number-suc, contexts_with, delivered_to, delivered_to_place, first_place, free_threads, get_or, get_or-set_same, inl, inr, length, length-append, length-set, new_context, number-some, option_flatten, option_map, place-set_same, place_of, placed, refl, script_in, script_lines, set-get_or, set-set, set_number, slice_get, slice_get-get_or, slice_set, some-injective, start, subst, suc, sym, thread_at, unwrap_or, unwrap_or-slice_get, zero, ℕ, [], ◌++◌, ◌+◌, ◌-◌, ◌<◌, ◌∙◌, ◌∷◌, ◌≡◌, ◌≤◌, ◌⊎◌}

-- the element with a number stands at the place before it
pub number-or : {A : Type 0} (xs : List A) (n : ℕ) (d : A) → 1 ≤ n → unwrap_or (at_number xs n) d ≡ get_or xs (n - 1) d
number-or xs zero d some = absurd (omega arith)
number-or xs (suc i) d some = let place : suc i - 1 ≡ i = omega arith in ap (λ o. unwrap_or o d) (at_number-suc xs i)
    ∙ unwrap_or-slice_get xs i d ∙ ap (λ k. get_or xs k d) (sym place)

-- a place that is put where it stands changes nothing
pub place-same : (places : List Place) (t : ℕ) → IsBetween 1 (length places) t
    → set_number places t (place_of places t) ≡ places
place-same places t within = ap (set_number places t) (number-or places t first_place within.0)
    ∙ set-get_or places (t - 1) first_place

-- where the thread is that was moved
pub place-set : (places : List Place) (t : ℕ) (place : Place) → IsBetween 1 (length places) t
    → place_of (set_number places t place) t ≡ place
place-set places t place within = number-or (set_number places t place) t first_place within.0
    ∙ get_or-set_same places (t - 1) place first_place (omega (arith, within))

pub place-is : (places : List Place) (t : ℕ) (place : Place) → IsBetween 1 (length places) t
    → place ≡ get_or places (t - 1) place → place ≡ place_of places t
place-is places t place within is = is ∙ sym (ap (λ o. unwrap_or o first_place) (number-some places t place within))

-- what is handed over to a thread that was moved
pub delivered-set : (places : List Place) (t : ℕ) (place : Place) (number : Option ℕ) → IsBetween 1 (length places) t
    → set_number (set_number places t place) t (delivered_to_place number (place_of (set_number places t place) t))
    ≡ set_number places t (delivered_to_place number place)
delivered-set places t place number within =
    ap (λ (p : Place). set_number (set_number places t place) t (delivered_to_place number p))
    (place-set places t place within) ∙ set-set places (t - 1) place (delivered_to_place number place)

-- a number that is handed over changes the accumulator alone
pub at-delivered_to : (program : Program) (t : Thread) (p : Place) (c : Context) (number : Option ℕ)
    → IsAt program t p c → IsAt program t (delivered_to_place number p) (delivered_to number c)
at-delivered_to program t p c None at = at
at-delivered_to program t p c (Some n) at =
    record { script = at.script; fits = record { line = at.fits.line; done = at.fits.done; loops = at.fits.loops }; means = ap (λ (d : Context). record d { accumulator = n }) at.means }

module _ (program : Program) where
  pub at-lengths : (threads : List (Option Thread)) (places : List Place) (contexts : List Context)
      → AreAt program threads places contexts → (length places ≡ length threads) × (length contexts ≡ length threads)
  at-lengths [] [] [] at = (refl, refl)
  at-lengths [] [] (c ∷ cs) at = absurd at
  at-lengths [] (p ∷ ps) cs at = absurd at
  at-lengths (t ∷ ts) [] cs at = absurd at
  at-lengths (t ∷ ts) (p ∷ ps) [] at = absurd at
  at-lengths (t ∷ ts) (p ∷ ps) (c ∷ cs) at = let rest = at-lengths ts ps cs at.1 in (ap suc rest.0, ap suc rest.1)

  -- one more of each
  pub at-more : (threads : List (Option Thread)) (places : List Place) (contexts : List Context) (t : Thread)
      (p : Place) (c : Context) → AreAt program threads places contexts → IsAt program t p c
      → AreAt program (threads ++ Some t ∷ []) (places ++ p ∷ []) (contexts ++ c ∷ [])
  at-more [] [] [] t p c at more = (more, tt)
  at-more [] [] (d ∷ ds) t p c at more = absurd at
  at-more [] (q ∷ qs) ds t p c at more = absurd at
  at-more (u ∷ us) [] ds t p c at more = absurd at
  at-more (u ∷ us) (q ∷ qs) [] t p c at more = absurd at
  at-more (u ∷ us) (q ∷ qs) (d ∷ ds) t p c at more = (at.0, at-more us qs ds t p c at.1 more)

  -- one more of each, in the place of what was there before
  at-again : (threads : List (Option Thread)) (places : List Place) (contexts : List Context) (i : ℕ) (t : Thread)
      (p : Place) (c : Context) → AreAt program threads places contexts → IsAt program t p c
      → AreAt program (slice_set threads i (Some t)) (slice_set places i p) (slice_set contexts i c)
  at-again [] [] [] i t p c at now = tt
  at-again [] [] (d ∷ ds) i t p c at now = absurd at
  at-again [] (q ∷ qs) ds i t p c at now = absurd at
  at-again (u ∷ us) [] ds i t p c at now = absurd at
  at-again (u ∷ us) (q ∷ qs) [] i t p c at now = absurd at
  at-again (u ∷ us) (q ∷ qs) (d ∷ ds) zero t p c at now = (now, at.1)
  at-again (u ∷ us) (q ∷ qs) (d ∷ ds) (suc i) t p c at now = (at.0, at-again us qs ds i t p c at.1 now)

  pub at-placed : (threads : List (Option Thread)) (places : List Place) (contexts : List Context) (free : List ℕ)
      (t : Thread) (p : Place) (c : Context) → AreAt program threads places contexts → IsAt program t p c
      → AreAt program (placed threads free (Some t)) (placed places free p) (placed contexts free c)
  at-placed threads places contexts [] t p c at now = at-more threads places contexts t p c at now
  at-placed threads places contexts (i ∷ free) t p c at now = at-again threads places contexts i t p c at now

  -- what is known of the thread at a place
  pub at-place : (threads : List (Option Thread)) (places : List Place) (contexts : List Context) (i : ℕ) (p : Place)
      (c : Context) → AreAt program threads places contexts → i < length threads
      → IfSome (get_or threads i None) (λ t. IsAt program t (get_or places i p) (get_or contexts i c))
  at-place [] [] [] i p c at below = absurd (omega arith)
  at-place [] [] (d ∷ ds) i p c at below = absurd at
  at-place [] (q ∷ qs) ds i p c at below = absurd at
  at-place (u ∷ us) [] ds i p c at below = absurd at
  at-place (u ∷ us) (q ∷ qs) [] i p c at below = absurd at
  at-place (u ∷ us) (q ∷ qs) (d ∷ ds) zero p c at below = at.0
  at-place (u ∷ us) (q ∷ qs) (d ∷ ds) (suc i) p c at below = at-place us qs ds i p c at.1 (omega (arith, below))

  -- the thread at a place is elsewhere in its script
  pub at-set : (threads : List (Option Thread)) (places : List Place) (contexts : List Context) (i : ℕ) (p : Place)
      (c : Context) → AreAt program threads places contexts
      → IfSome (get_or threads i None) (λ t. IsAt program t p c)
      → AreAt program threads (slice_set places i p) (slice_set contexts i c)
  at-set [] [] [] i p c at now = tt
  at-set [] [] (d ∷ ds) i p c at now = absurd at
  at-set [] (q ∷ qs) ds i p c at now = absurd at
  at-set (u ∷ us) [] ds i p c at now = absurd at
  at-set (u ∷ us) (q ∷ qs) [] i p c at now = absurd at
  at-set (u ∷ us) (q ∷ qs) (d ∷ ds) zero p c at now = (now, at.1)
  at-set (u ∷ us) (q ∷ qs) (d ∷ ds) (suc i) p c at now = (at.0, at-set us qs ds i p c at.1 now)

  -- the thread at a place is removed
  pub at-gone : (threads : List (Option Thread)) (places : List Place) (contexts : List Context) (i : ℕ)
      → AreAt program threads places contexts → AreAt program (slice_set threads i None) places contexts
  at-gone [] places contexts i at = at
  at-gone (u ∷ us) [] ds i at = absurd at
  at-gone (u ∷ us) (q ∷ qs) [] i at = absurd at
  at-gone (u ∷ us) (q ∷ qs) (d ∷ ds) zero at = (tt, at.1)
  at-gone (u ∷ us) (q ∷ qs) (d ∷ ds) (suc i) at = (at.0, at-gone us qs ds i at.1)

  -- what is known of the thread with a number, if it is there
  pub at-number : (threads : List (Option Thread)) (places : List Place) (contexts : List Context) (t : ℕ)
      (thread : Thread) (p : Place) (c : Context) → AreAt program threads places contexts
      → IsBetween 1 (length threads) t → thread_at threads t ≡ Some thread
      → IsAt program thread (get_or places (t - 1) p) (get_or contexts (t - 1) c)
  at-number threads places contexts t thread p c at between there =
      let numbered : at_number threads t ≡ Some (get_or threads (t - 1) None) = number-some threads t None between in
      let same : get_or threads (t - 1) None ≡ Some thread = sym (ap option_flatten numbered) ∙ there in
      subst (λ o. IfSome o (λ x. IsAt program x (get_or places (t - 1) p) (get_or contexts (t - 1) c))) same
      (at-place threads places contexts (t - 1) p c at (omega (arith, between)))

-- a thread with a script is there
pub scripted : (o : Option Thread) (script : ℕ) → option_map (λ (t : Thread). t.script) o ≡ Some script
    → (thread : Thread) × (o ≡ Some thread) × (thread.script ≡ script)
scripted None script is = cc
scripted (Some thread) script is = (thread, refl, some-injective thread.script script is)

-- a number that is handed over to a thread, if it is there
pub if-delivered_to : (program : Program) (o : Option Thread) (p : Place) (c : Context) (number : Option ℕ)
    → IfSome o (λ t. IsAt program t p c)
    → IfSome o (λ t. IsAt program t (delivered_to_place number p) (delivered_to number c))
if-delivered_to program None p c number at = tt
if-delivered_to program (Some t) p c number at = at-delivered_to program t p c number at

-- the last of some has their count as its number
number-last : (threads : List (Option Thread)) (t : Thread)
    → thread_at (threads ++ Some t ∷ []) (length threads + 1) ≡ Some t
number-last threads t =
    let next : length threads + 1 ≡ suc (length threads) = omega arith in
    ap (thread_at (threads ++ Some t ∷ [])) next
    ∙ ap option_flatten (at_number-suc (threads ++ Some t ∷ []) (length threads) ∙ last threads)
  where
    last : (ts : List (Option Thread)) → slice_get (ts ++ Some t ∷ []) (length ts) ≡ Some (Some t)
    last [] = refl
    last (u ∷ us) = last us

-- one more thread has the next number
pub number-placed : (threads : List (Option Thread)) (free : List ℕ) (n : ℕ) (t : Thread) → IsNext threads free n
    → thread_at (placed threads free (Some t)) n ≡ Some t
number-placed threads [] n t next = ap (thread_at (threads ++ Some t ∷ [])) next.number ∙ number-last threads t
number-placed threads (i ∷ free) n t next =
    let number : n ≡ suc i = omega (arith, next.number) in
    let there : slice_get threads i ≡ Some (get_or threads i None) =
    slice_get-get_or threads i None (next.within i refl) in
    ap (thread_at (slice_set threads i (Some t))) number ∙ ap option_flatten
    (at_number-suc (slice_set threads i (Some t)) i ∙ place-set_same threads i (Some t) (get_or threads i None) there)

-- the thread that was made is there
pub made-there : (s after : State) (n : ℕ) (more : OneMore s after n) → thread_at after.threads n ≡ Some more.thread
made-there s after n more = ap (λ ts. thread_at ts n) more.threads
    ∙ number-placed s.threads (free_threads s) n more.thread more.next

-- the same number is next in a list as long
pub next-same : {A B : Type 0} (xs : List A) (ys : List B) (free : List ℕ) (n : ℕ) → length ys ≡ length xs
    → IsNext xs free n → IsNext ys free n
next-same xs ys [] n same next =
    record { number = next.number ∙ ap (λ k. k + 1) (sym same); within = λ place first. cc }
next-same xs ys (i ∷ free) n same next =
    record { number = next.number; within = λ place first. omega (arith, next.within place first, same) }

-- the next number is at most one above the count
pub next-few : {A : Type 0} (xs : List A) (free : List ℕ) (n : ℕ) → IsNext xs free n → IsBetween 1 (length xs + 1) n
next-few xs [] n next = (omega (arith, next.number), omega (arith, next.number))
next-few xs (i ∷ free) n next = (omega (arith, next.number), omega (arith, next.number, next.within i refl))

-- and is within the count, if a place is free
pub next-within : {A : Type 0} (xs : List A) (free : List ℕ) (n room : ℕ) → IsNext xs free n → length xs ≤ room
    → (free ≡ [] → length xs + 1 ≤ room) → n ≤ room
next-within xs [] n room next few last = omega (arith, next.number, last refl)
next-within xs (i ∷ free) n room next few last = omega (arith, next.number, next.within i refl, few)

-- lists as long stay so with one more element each
pub placed-lengths : {A B : Type 0} (xs : List A) (ys : List B) (free : List ℕ) (x : A) (y : B) → length xs ≡ length ys
    → length (placed xs free x) ≡ length (placed ys free y)
placed-lengths xs ys [] x y same = length-append xs (x ∷ []) ∙ ap (λ n. n + 1) same ∙ sym (length-append ys (y ∷ []))
placed-lengths xs ys (i ∷ free) x y same = length-set xs i x ∙ same ∙ sym (length-set ys i y)

-- a thread that was made is where its script begins
pub new-at : (program : Program) (s after : State) (n script : ℕ) (places : List Place) (before : List Context)
    (place : Place) → OneMore s after n → AreAt program s.threads places before
    → Some script ≡ option_map (λ (t : Thread). t.script) (thread_at after.threads n)
    → ((t : Thread) → t.script ≡ script → IsAt program t place (start (script_lines program script)))
    → AreAt program after.threads (placed places (free_threads s) place) (contexts_with program s after before (Some n))
new-at program s after n script places before place more at is begins =
    let there = made-there s after n more in
    let same : Some script ≡ Some more.thread.script = is ∙ ap (option_map (λ (t : Thread). t.script)) there in
    let number : more.thread.script ≡ script = cc in
    let known : script_in after n ≡ script = ap (λ o. unwrap_or (option_map (λ (t : Thread). t.script) o) 0) there
    ∙ number in
    subst (λ ts. AreAt program ts (placed places (free_threads s) place)
    (contexts_with program s after before (Some n))) (sym more.threads)
    (subst (λ k. AreAt program (placed s.threads (free_threads s) (Some more.thread))
    (placed places (free_threads s) place) (placed before (free_threads s) (new_context program k))) (sym known)
    (at-placed program s.threads places before (free_threads s) more.thread place
    (start (script_lines program script)) at (begins more.thread number)))

-- no thread is made, so each is where it was
pub none-at : (program : Program) (s after : State) (places : List Place) (before : List Context) → MakesNone s after
    → AreAt program s.threads places before → AreAt program after.threads places before
none-at program s after places before none at = by none.threads
  where
    by : (after.threads ≡ s.threads) ⊎ ((t : ℕ) × (after.threads ≡ set_number s.threads t None))
        → AreAt program after.threads places before
    by (inl same) = subst (λ ts. AreAt program ts places before) (sym same) at
    by (inr (t, is)) =
        subst (λ ts. AreAt program ts places before) (sym is) (at-gone program s.threads places before (t - 1) at)
