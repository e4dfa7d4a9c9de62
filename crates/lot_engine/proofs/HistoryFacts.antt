-- The history that its stored bytes represent.
use Rattle.lot_engine.proofs.Common.{All, All-tail, List, None, Some, actors_from, ap, ap₂, arith, cases_lt, cond, cond-false, cond-true, cons_option, count_by, drop, get_or, inl, inr, le-ltb, length, lt-ltb, ltb, map, min, min-eq_left, min-eq_right, refl, suc, sum_by-cons, sym, woken_in, ℕ, [], ◌++◌, ◌+◌, ◌-◌, ◌<◌, ◌∙◌, ◌∷◌, ◌≡◌, ◌≤◌}

-- The first actor is a processor's or the console's, or else it is the timer's.
first-own : (p a : ℕ) (bytes woken : List ℕ) → a ≤ p → actors_from p (a ∷ bytes) woken ≡ a ∷ actors_from p bytes woken
first-own p a bytes woken own = cond-false (ltb p a) _ _ (le-ltb p a own)

first-wake : (p a : ℕ) (bytes woken : List ℕ) → p < a
    → actors_from p (a ∷ bytes) woken ≡ (p + get_or woken 0 0) ∷ actors_from p bytes (drop 1 woken)
first-wake p a bytes woken above = cond-true (ltb p a) _ _ (lt-ltb p a above)

-- The timer's turns among these actors.
wakes-own : (p a : ℕ) (bytes : List ℕ) → a ≤ p → count_by (ltb p) (a ∷ bytes) ≡ count_by (ltb p) bytes
wakes-own p a bytes own = rw (le-ltb p a own) refl

wakes-wake : (p a : ℕ) (bytes : List ℕ) → p < a → count_by (ltb p) (a ∷ bytes) ≡ 1 + count_by (ltb p) bytes
wakes-wake p a bytes above =
    sum_by-cons (λ (x : ℕ). cond (ltb p x) 1 0) a bytes
    ∙ ap (λ b. cond b 1 0 + count_by (ltb p) bytes) (lt-ltb p a above)

-- There are bytes many actors bytes bytes.
pub as_many : (p : ℕ) (bytes woken : List ℕ) → length (actors_from p bytes woken) ≡ length bytes
as_many p [] woken = refl
as_many p (a ∷ bytes) woken = elim (cases_lt p a) [
  | inl above ↦ ap length (first-wake p a bytes woken above) ∙ ap suc (as_many p bytes (drop 1 woken))
  | inr own ↦ ap length (first-own p a bytes woken own) ∙ ap suc (as_many p bytes woken)
]

-- One more turn of the console or of a processor.
pub own-more : (p b : ℕ) (bytes woken : List ℕ) → b ≤ p
    → actors_from p (bytes ++ b ∷ []) woken ≡ actors_from p bytes woken ++ b ∷ []
own-more p b [] woken own = first-own p b [] woken own
own-more p b (a ∷ bytes) woken own = elim (cases_lt p a) [
  | inl above ↦ first-wake p a (bytes ++ b ∷ []) woken above ∙ ap (λ l. (p + get_or woken 0 0) ∷ l)
      (own-more p b bytes (drop 1 woken) own) ∙ ap (λ l. l ++ b ∷ []) (sym (first-wake p a bytes woken above))
  | inr below ↦ first-own p a (bytes ++ b ∷ []) woken below ∙ ap (λ l. a ∷ l) (own-more p b bytes woken own)
      ∙ ap (λ l. l ++ b ∷ []) (sym (first-own p a bytes woken below))
]

-- One more turn of the timer.
pub wake-more : (p b t : ℕ) (bytes woken : List ℕ) → p < b → count_by (ltb p) bytes ≡ length woken
    → actors_from p (bytes ++ b ∷ []) (woken ++ t ∷ []) ≡ actors_from p bytes woken ++ (p + t) ∷ []
wake-more p b t [] [] above even = first-wake p b [] (t ∷ []) above
wake-more p b t [] (u ∷ us) above even = absurd (omega (arith, even))
wake-more p b t (a ∷ bytes) [] above even = elim (cases_lt p a) [
  | inl wakes ↦ absurd (omega (arith, even, wakes-wake p a bytes wakes))
  | inr own ↦ first-own p a (bytes ++ b ∷ []) (t ∷ []) own ∙ ap (λ l. a ∷ l) (wake-more p b t bytes [] above
      (sym (wakes-own p a bytes own) ∙ even)) ∙ ap (λ l. l ++ (p + t) ∷ []) (sym (first-own p a bytes [] own))
]
wake-more p b t (a ∷ bytes) (u ∷ us) above even = elim (cases_lt p a) [
  | inl wakes ↦
      first-wake p a (bytes ++ b ∷ []) (u ∷ us ++ t ∷ []) wakes
      ∙ ap (λ l. (p + u) ∷ l) (wake-more p b t bytes us above (omega (arith, even, wakes-wake p a bytes wakes)))
      ∙ ap (λ l. l ++ (p + t) ∷ []) (sym (first-wake p a bytes (u ∷ us) wakes))
  | inr own ↦
      first-own p a (bytes ++ b ∷ []) (u ∷ us ++ t ∷ []) own
      ∙ ap (λ l. a ∷ l) (wake-more p b t bytes (u ∷ us) above (sym (wakes-own p a bytes own) ∙ even))
      ∙ ap (λ l. l ++ (p + t) ∷ []) (sym (first-own p a bytes (u ∷ us) own))
]

-- The bytes are the actors, with the timer bytes one number.
pub bytes_are : (p : ℕ) (bytes woken : List ℕ) → All (λ actor. actor ≤ p + 1) bytes → All (λ thread. 0 < thread) woken
    → count_by (ltb p) bytes ≡ length woken → map (λ actor. min actor (p + 1)) (actors_from p bytes woken) ≡ bytes
bytes_are p [] woken each threads even = refl
bytes_are p (a ∷ bytes) [] each threads even = elim (cases_lt p a) [
  | inl above ↦ absurd (omega (arith, even, wakes-wake p a bytes above))
  | inr own ↦ ap (map (λ actor. min actor (p + 1))) (first-own p a bytes [] own)
      ∙ ap₂ ◌∷◌ (min-eq_left (omega (arith, own))) (bytes_are p bytes []
      (All-tail (λ actor. actor ≤ p + 1) a bytes each) threads (sym (wakes-own p a bytes own) ∙ even))
]
bytes_are p (a ∷ bytes) (u ∷ us) each threads even = elim (cases_lt p a) [
  | inl above ↦
      ap (map (λ actor. min actor (p + 1))) (first-wake p a bytes (u ∷ us) above)
      ∙ ap₂ ◌∷◌ (min-eq_right {n = p + 1} {m = p + u} (omega (arith, threads 0 0 (omega arith))) ∙ omega
      (arith, above, each 0 0 (omega arith))) (bytes_are p bytes us (All-tail (λ actor. actor ≤ p + 1) a bytes each)
      (All-tail (λ thread. 0 < thread) u us threads) (omega (arith, even, wakes-wake p a bytes above)))
  | inr own ↦ ap (map (λ actor. min actor (p + 1))) (first-own p a bytes (u ∷ us) own)
      ∙ ap₂ ◌∷◌ (min-eq_left (omega (arith, own))) (bytes_are p bytes (u ∷ us)
      (All-tail (λ actor. actor ≤ p + 1) a bytes each) threads (sym (wakes-own p a bytes own) ∙ even))
]

-- The threads are those that the timer's turns wake.
pub threads_are : (p : ℕ) (bytes woken : List ℕ) → All (λ thread. 0 < thread) woken
    → count_by (ltb p) bytes ≡ length woken → woken_in p (actors_from p bytes woken) ≡ woken
threads_are p [] [] threads even = refl
threads_are p [] (u ∷ us) threads even = absurd (omega (arith, even))
threads_are p (a ∷ bytes) [] threads even = elim (cases_lt p a) [
  | inl above ↦ absurd (omega (arith, even, wakes-wake p a bytes above))
  | inr own ↦
      ap (woken_in p) (first-own p a bytes [] own)
      ∙ ap (λ o. cons_option o (woken_in p (actors_from p bytes [])))
      (cond-false (ltb p a) (Some (a - p)) None (le-ltb p a own))
      ∙ threads_are p bytes [] threads (sym (wakes-own p a bytes own) ∙ even)
]
threads_are p (a ∷ bytes) (u ∷ us) threads even = elim (cases_lt p a) [
  | inl above ↦
      ap (woken_in p) (first-wake p a bytes (u ∷ us) above)
      ∙ ap (λ o. cons_option o (woken_in p (actors_from p bytes us)))
      (cond-true (ltb p (p + u)) (Some (p + u - p)) None (lt-ltb p (p + u) (omega (arith, threads 0 0 (omega arith)))))
      ∙ ap₂ ◌∷◌ (omega arith) (threads_are p bytes us (All-tail (λ thread. 0 < thread) u us threads)
      (omega (arith, even, wakes-wake p a bytes above)))
  | inr own ↦
      ap (woken_in p) (first-own p a bytes (u ∷ us) own)
      ∙ ap (λ o. cons_option o (woken_in p (actors_from p bytes (u ∷ us))))
      (cond-false (ltb p a) (Some (a - p)) None (le-ltb p a own))
      ∙ threads_are p bytes (u ∷ us) threads (sym (wakes-own p a bytes own) ∙ even)
]

-- Without turns of the timer a history is printed as it is.
pub shown-own : (p : ℕ) (actors : List ℕ) → All (λ actor. actor ≤ p) actors
    → map (λ actor. min actor (p + 1)) actors ≡ actors
shown-own p [] each = refl
shown-own p (a ∷ actors) each = ap₂ ◌∷◌ (min-eq_left (omega (arith, each 0 0 (omega arith))))
    (shown-own p actors (All-tail (λ actor. actor ≤ p) a actors each))
