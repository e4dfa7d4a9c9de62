-- The rest of a share after some seats are dealt.
use Rattle.lot_station.proofs.Common.{All, Holder, IsEnough, IsLegal, List, None, Reply, Seen, Some, ap, arith, counts-add_up, dealt, inl, inr, length, lengths-add_up, quanta_in, range_with_len, refl, slice_get, subst, suc, sum-same, sum_by, sum_by-cons, sym, ticks_in, times_in, total_of, turns_in, turns_made-actors, turns_made-length, turns_of, zero, ℕ, [], ⊎_elim, ◌++◌, ◌+◌, ◌<◌, ◌∙◌, ◌∷◌, ◌≡◌, ◌⊎◌}
use Rattle.lot_station.proofs.Counting.{length-turns_of}

-- There is a part for each actor from k on, of n, and what is counted of these actors.
pub record IsLeft (f : ℕ → ℕ) (k n parts amount : ℕ) : Type 0 where
  pub parts_left : parts + k ≡ n
  pub amount_left : amount ≡ sum_by f (range_with_len k parts)

-- as long as an actor comes, there is enough for it
pub left-enough : (f : ℕ → ℕ) (k n parts amount taken : ℕ) → IsLeft f k n parts amount → k < n → taken ≡ f k
    → IsEnough parts amount taken
left-enough f k n zero amount taken left some is = absurd (omega (arith, left.parts_left, some))
left-enough f k n (suc parts) amount taken left some is =
    let all = left.amount_left ∙ sum_by-cons f k (range_with_len (k + 1) parts) in
    record { some_part = omega arith; has = omega (arith, all, is); last = λ one. is ∙ sym (last parts all (omega (arith, one))) }
  where
    last : (m : ℕ) → amount ≡ f k + sum_by f (range_with_len (k + 1) m) → m ≡ 0 → amount ≡ f k
    last zero all none = omega (arith, all)
    last (suc m) all none = absurd (omega (arith, none))

-- and then what the actors after it have is left
pub left-next : (f : ℕ → ℕ) (k n parts amount parts' amount' taken : ℕ) → IsLeft f k n parts amount → taken ≡ f k
    → parts' + 1 ≡ parts → amount' + taken ≡ amount → IsLeft f (k + 1) n parts' amount'
left-next f k n zero amount parts' amount' taken left is less_parts less = absurd (omega (arith, less_parts))
left-next f k n (suc parts) amount parts' amount' taken left is less_parts less =
    let all = left.amount_left ∙ sum_by-cons f k (range_with_len (k + 1) parts) in
    let same : parts ≡ parts' = omega (arith, less_parts) in
    let rest : amount' ≡ sum_by f (range_with_len (k + 1) parts) = omega (arith, all, is, less) in
    record { parts_left = omega (arith, left.parts_left, less_parts); amount_left = rest ∙ ap (λ m. sum_by f (range_with_len (k + 1) m)) same }

at_last_or_before : (xs : List Holder) (y s : Holder) (k : ℕ) → slice_get (xs ++ y ∷ []) k ≡ Some s
    → (slice_get xs k ≡ Some s) ⊎ ((k ≡ length xs) × (y ≡ s))
at_last_or_before [] y s zero e = inr (refl, cc)
at_last_or_before [] y s (suc k) e = absurd cc
at_last_or_before (x ∷ xs) y s zero e = inl e
at_last_or_before (x ∷ xs) y s (suc k) e =
    ⊎_elim (λ p. inl p) (λ p. inr (ap suc p.0, p.1)) (at_last_or_before xs y s k e)

-- a seat with what is counted of its actor
pub dealt_one : (x : Seen) (k turns quanta ticks : ℕ) → turns ≡ times_in x k
    → quanta ≡ total_of quanta_in (turns_of k (turns_in x)) → ticks ≡ total_of ticks_in (turns_of k (turns_in x))
    → record { actor = k; turns = turns; quanta = quanta; ticks = ticks; stopped = None } ≡ dealt x k
dealt_one x k turns quanta ticks t q u j = record { actor = k; turns = t j; quanta = q j; ticks = u j; stopped = None }

-- one seat more is dealt
pub deals_one : (x : Seen) (old new : List Holder) (n : ℕ) (y : Holder)
    → ((k : ℕ) (s : Holder) → slice_get old k ≡ Some s → s ≡ dealt x k) → length old ≡ n → y ≡ dealt x n
    → new ≡ old ++ y ∷ []
    → (k : ℕ) (s : Holder) → slice_get new k ≡ Some s → s ≡ dealt x k
deals_one x old new n y each len is now k s e =
    ⊎_elim
    (λ (p : slice_get old k ≡ Some s). each k s p)
    (λ (p : (k ≡ length old) × (y ≡ s)). sym p.1 ∙ is ∙ ap (dealt x) (sym (p.0 ∙ len)))
    (at_last_or_before old y s k (ap (λ l. slice_get l k) (sym now) ∙ e))

-- ---- before the first seat is dealt

module _ (x : Seen) (legal : IsLegal x.setting.program x.setting.room x.history) (n parts amount : ℕ)
    (actors : n ≡ x.setting.program.limits.processors + 1)
    (all_parts : parts ≡ x.setting.program.limits.processors + 1) where
  actors-there : All (λ turn. turn.actor < n) (turns_in x)
  actors-there =
      subst (λ m. All (λ turn. turn.actor < m) (turns_in x)) (sym actors)
      (turns_made-actors x.setting.program x.setting.room x.history legal)

  whole : (f : ℕ → ℕ) (total : ℕ) → sum_by f (range_with_len 0 n) ≡ total → amount ≡ total → IsLeft f 0 n parts amount
  whole f total adds all =
      let same : n ≡ parts = actors ∙ sym all_parts in
      record { parts_left = omega (arith, same); amount_left = all ∙ sym adds ∙ ap (λ m. sum_by f (range_with_len 0 m)) same }

  pub all-turns : amount ≡ length x.history → IsLeft (times_in x) 0 n parts amount
  all-turns all =
      whole (times_in x) (length x.history)
      (sum-same (times_in x) (λ actor. length (turns_of actor (turns_in x))) (range_with_len 0 n)
      (λ actor. sym (length-turns_of x actor))
      ∙ lengths-add_up n (turns_in x) actors-there ∙ turns_made-length x.setting.program x.history) all

  pub all-counted : (count : Reply → ℕ) → amount ≡ total_of count (turns_in x)
      → IsLeft (λ actor. total_of count (turns_of actor (turns_in x))) 0 n parts amount
  all-counted count all =
      whole (λ actor. total_of count (turns_of actor (turns_in x))) (total_of count (turns_in x))
      (counts-add_up n count (turns_in x) actors-there) all
