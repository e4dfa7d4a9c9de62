-- The competitors are the Ready threads.
use Rattle.lot_draw.proofs.Common.{AreReady, Bool, Competitor, List, None, Option, Record, Some, ap, arith, at_number, at_number-suc, competing_threads, competitor_at, competitor_of, cond, drawn_among, false, filter, is_ready, is_some, length, map, numbers, option_and_then, option_any, option_map, range_with_len, ready_threads, refl, slice_get_past, status_of, suc, true, weight, weight_among, weight_with, winner, winner_among, zero, ℕ, [], ◌+◌, ◌-◌, ◌∙◌, ◌∷◌, ◌≡◌, ◌≤◌}

-- ---- lists

-- two tests that say the same keep the same
filter-same : (p q : ℕ → Bool) → ((t : ℕ) → p t ≡ q t) → (ts : List ℕ) → filter p ts ≡ filter q ts
filter-same p q same [] = refl
filter-same p q same (t ∷ ts) = ap (λ b. cond b (t ∷ filter p ts) (filter p ts)) (same t)
    ∙ ap (λ (xs : List ℕ). cond (q t) (t ∷ xs) xs) (filter-same p q same ts)

-- numbers past a last one that passes add nothing
filter-past : (q : ℕ → Bool) (start count : ℕ) → ((t : ℕ) → start ≤ t → q t ≡ false)
    → filter q (range_with_len start count) ≡ []
filter-past q start zero fails = refl
filter-past q start (suc count) fails =
    ap (λ b. cond b (start ∷ filter q (range_with_len (start + 1) count)) (filter q (range_with_len (start + 1) count)))
    (fails start (omega arith)) ∙ filter-past q (start + 1) count (λ t past. fails t (omega (arith, past)))

filter-more : (q : ℕ → Bool) (start count more all : ℕ) → all ≡ count + more
    → ((t : ℕ) → start + count ≤ t → q t ≡ false)
    → filter q (range_with_len start all) ≡ filter q (range_with_len start count)
filter-more q start zero more all is fails = filter-past q start all (λ t past. fails t (omega (arith, past)))
filter-more q start (suc count) more zero is fails = absurd (omega (arith, is))
filter-more q start (suc count) more (suc all) is fails =
    ap (λ (xs : List ℕ). cond (q start) (start ∷ xs) xs)
    (filter-more q (start + 1) count more all (omega (arith, is)) (λ t past. fails t (omega (arith, past))))

-- two functions that are the same at what passes
map-passing : (q : ℕ → Bool) (f g : ℕ → ℕ) → ((t : ℕ) → q t ≡ true → f t ≡ g t) → (ts : List ℕ)
    → map f (filter q ts) ≡ map g (filter q ts)
map-passing q f g same [] = refl
map-passing q f g same (t ∷ ts) = by (q t) (same t) (map-passing q f g same ts)
  where
    by : (b : Bool) → (b ≡ true → f t ≡ g t) → map f (filter q ts) ≡ map g (filter q ts)
        → map f (cond b (t ∷ filter q ts) (filter q ts)) ≡ map g (cond b (t ∷ filter q ts) (filter q ts))
    by true here rest = ap (λ x. x ∷ map f (filter q ts)) (here refl) ∙ ap (λ (xs : List ℕ). g t ∷ xs) rest
    by false here rest = rest

-- ---- one record

-- who competes is Ready
competes-ready : (o : Option Record)
    → is_some (option_and_then competitor_of o) ≡ option_any is_ready (option_map (λ (r : Record). r.status) o)
competes-ready None = refl
competes-ready (Some r) = by (is_ready r.status)
  where
    competitor : Competitor
    competitor = record { compensation = r.compensation }

    by : (b : Bool) → is_some (cond b (Some competitor) None) ≡ b
    by true = refl
    by false = refl

-- and weighs what a Ready thread does
weighs-ready : (value quantum : ℕ) (o : Option Record) → option_any is_ready (option_map (λ (r : Record). r.status) o)
    ≡ true → weight_with value quantum (option_and_then competitor_of o)
    ≡ weight value (option_and_then (λ (r : Record). r.compensation) o) quantum
weighs-ready value quantum None ready = cc
weighs-ready value quantum (Some r) ready =
    ap (λ b. weight_with value quantum (cond b (Some (record { compensation = r.compensation })) None)) ready

-- ---- all records

module _ (records : List Record) (quantum : ℕ) (value : ℕ → ℕ) (competitors : List (Option Competitor))
    (are : AreReady records competitors) where
  abbrev pub weighs : ℕ → ℕ
  weighs t = weight (value t) (option_and_then (λ (r : Record). r.compensation) (at_number records t)) quantum

  abbrev is-ready : ℕ → Bool
  is-ready t = option_any is_ready (status_of records t)

  past : (t : ℕ) → 1 + length records ≤ t → is-ready t ≡ false
  past zero high = absurd (omega (arith, high))
  past (suc i) high = ap (λ (o : Option Record). option_any is_ready (option_map (λ (r : Record). r.status) o))
      (at_number-suc records i ∙ slice_get_past records i (omega (arith, high)))

  threads : competing_threads competitors ≡ ready_threads records
  threads =
      filter-same (λ t. is_some (competitor_at competitors t)) is-ready
      (λ t. ap is_some (are.each t) ∙ competes-ready (at_number records t)) (numbers competitors)
      ∙ filter-more is-ready 1 (length records) (length competitors - length records) (length competitors)
      (omega (arith, are.few)) past

  weights : map (weight_among quantum competitors value) (ready_threads records) ≡ map weighs (ready_threads records)
  weights =
      map-passing is-ready (weight_among quantum competitors value) weighs
      (λ t ready. ap (weight_with (value t) quantum) (are.each t)
      ∙ weighs-ready (value t) quantum (at_number records t) ready) (numbers records)

  pub ready-drawn : (d : ℕ) → drawn_among quantum competitors value d ≡ winner_among (ready_threads records)
      (winner (map weighs (ready_threads records)) d)
  ready-drawn d =
      ap (λ (ts : List ℕ). winner_among ts (winner (map (weight_among quantum competitors value) ts) d)) threads
      ∙ ap (λ (ws : List ℕ). winner_among (ready_threads records) (winner ws d)) weights
