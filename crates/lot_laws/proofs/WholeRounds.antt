-- Rounds of whole quanta: wins and ticks in proportion to value.
use Rattle.lot_laws.proofs.Common.{Drawn, Event, IsBetweenRounds, IsSameLottery, List, None, NotRunning, Ready, Record, Some, State, Step, all_draws, ap, arith, choose, cond, count_by, draw, expire, false, inl, inr, is_bad_processor, length, range_with_len, record-of, refl, replies, rounds, state_after, status_of, subst, sum-same, sum-times, sum_by, sym, thread_on, thread_wins, ticks_in_rounds, ticks_of, total_weight, value_of, weight, weight_of, win_count, wins_in_all, wins_in_rounds, wins_of, with_ticks, ℕ, [], ◌*◌, ◌-◌, ◌==◌, ◌^◌, ◌∙◌, ◌∷◌, ◌≡◌, ◌⊎◌}
use Rattle.lot_machine.specs.declared.event.Event.TheVariants as event
use Rattle.lot_machine.specs.declared.reply.Reply.TheVariants as answer
use Rattle.lot_laws.proofs.AllDraws.{all-of, binomial-of, mean-of, never-of, thread-of}
use Rattle.lot_laws.proofs.RoundKept.{SameDraws, begun, begun-found, begun-used, draw-either, left, left-compensation, left-free, left-same, left-values, nothing-drawn, same-itself, won}
use Rattle.lot_laws.proofs.RoundRuns.{IsRound, after-all, draws-as, expires-as, expires-nobody, first-of, named-ticks, round-by, run-keeps, run-ticks, run-wins, second-of, told, unwon-tells, won-tells}

-- the event that ends a quantum on the processor
abbrev expiry : ℕ → State → Event
expiry p s = event.Expire p

replies-told : (p : ℕ) (s : State) (draws : List ℕ) → replies s (rounds p draws) ≡ told (expiry p) p s draws
replies-told p s [] = refl
replies-told p s (d ∷ draws) =
    ap (λ rest. (first-of p s d).reply ∷ (second-of (expiry p) p s d).reply ∷ rest)
    (replies-told p (second-of (expiry p) p s d).state draws)

after-told : (p : ℕ) (s : State) (draws : List ℕ) → state_after s (rounds p draws) ≡ after-all (expiry p) p s draws
after-told p s [] = refl
after-told p s (d ∷ draws) = after-told p (second-of (expiry p) p s d).state draws

-- ---- one round

-- between rounds, with this quantum
pub record IsSteady (p quantum : ℕ) (s : State) : Type 0 where
  pub between : IsBetweenRounds s p
  pub whole : s.limits.quantum ≡ quantum

steady-stays : (p quantum : ℕ) (s after : State) → IsSteady p quantum s → SameDraws s after
    → thread_on after.records p ≡ None → IsSteady p quantum after
steady-stays p quantum s after steady same free = record {
  between = record {
    exists = ap (λ l. is_bad_processor (record s { limits = l }) p) same.limits ∙ steady.between.exists;
    free = free;
    plain = λ t ready. same.lottery.weights t
        ∙ steady.between.plain t (sym (same.lottery.statuses t) ∙ ready) ∙ sym (same.values t);
  };
  whole = ap (λ l. l.quantum) same.limits ∙ steady.whole;
}

-- the record of a thread whose quantum has ended
abbrev rested : State → Record → Record
rested s r = with_ticks (s.limits.quantum - 0) (record r { status = Ready; compensation = None })

-- the step of that event, after a draw that this thread won
abbrev expired : State → ℕ → ℕ → Step
expired s p t = record { state = left s p t (rested s); reply = answer.Expired t (s.limits.quantum - 0) }

module _ (s : State) (p d quantum : ℕ) (steady : IsSteady p quantum s) where
  -- the winner weighs its value again
  weighs-again : (t : ℕ) → status_of s.records t ≡ Some Ready → weight_of (left s p t (rested s)) t ≡ weight_of s t
  weighs-again t ready =
      let r = record-of s.records t Ready ready in
      let free = steady.between.free in
      ap (λ o. weight (value_of (left s p t (rested s)) t) o s.limits.quantum)
      (left-compensation s p t free ready (rested s) (λ x. refl) r.0 r.1)
      ∙ left-values s p t free ready (rested s) (λ x. refl) t ∙ sym (steady.between.plain t ready)

  is-round : IsRound s p d (λ t. quantum) (first-of p s d) (second-of (expiry p) p s d)
  is-round = by (draw-either s p d)
    where
      exists : is_bad_processor s p ≡ false
      exists = steady.between.exists

      free : thread_on s.records p ≡ None
      free = steady.between.free

      by : (draw s p d ≡ nothing-drawn s)
          ⊎ ((t : ℕ) × ((w : Drawn) × ((status_of s.records t ≡ Some Ready) × (draw s p d ≡ won s p t w))))
          → IsRound s p d (λ t. quantum) (first-of p s d) (second-of (expiry p) p s d)
      by (inl is) =
          round-by s p d (λ t. quantum) (expiry p) (nothing-drawn s)
          (record { state = s; reply = answer.Refused NotRunning }) (draws-as s p exists d free ∙ is)
          (expires-nobody s p exists free)
          (record { tells = unwon-tells s p d (λ t. quantum) is; same = same-itself s; free = free })
      by (inr (u, (w, (ready, is)))) =
          let run : s.limits.quantum - 0 ≡ quantum = ap (λ q. q - 0) steady.whole ∙ no-less quantum in
          round-by s p d (λ t. quantum) (expiry p) (won s p u w) (expired s p u) (draws-as s p exists d free ∙ is)
          (expires-as (begun s p u) p exists u (begun-found s p u free ready)
          ∙ ap (expire (begun s p u) u) (begun-used s p u free ready))
          (record {
            tells = won-tells s p d (λ t. quantum) u w (answer.Expired u (s.limits.quantum - 0)) is (λ t. refl)
                (λ t. named-ticks (λ v. quantum) u t (s.limits.quantum - 0) run);
            same = left-same s p u free ready (rested s) (λ x. refl) (weighs-again u ready);
            free = left-free s p u free ready (rested s) (λ x. refl);
          })
        where
          no-less : (n : ℕ) → n - 0 ≡ n
          no-less n = omega arith

-- ---- a run of rounds

module _ (s : State) (p : ℕ) (between : IsBetweenRounds s p) where
  steady : IsSteady p s.limits.quantum s
  steady = record { between = between; whole = refl }

  pub rounds-keep : (draws : List ℕ) → IsSameLottery s (state_after s (rounds p draws))
      × IsBetweenRounds (state_after s (rounds p draws)) p
  rounds-keep draws =
      let kept = run-keeps (expiry p) p (λ t. s.limits.quantum) (IsSteady p s.limits.quantum)
      (λ a so d. is-round a p d s.limits.quantum so) (steady-stays p s.limits.quantum) s steady draws in
      subst (λ (a : State). IsSameLottery s a × IsBetweenRounds a p) (sym (after-told p s draws))
      (kept.0.lottery, kept.1.between)

  pub rounds-wins : (t : ℕ) (draws : List ℕ) → wins_in_rounds s p t draws ≡ win_count (thread_wins s p t) draws
  rounds-wins t draws =
      ap (wins_of t) (replies-told p s draws)
      ∙ run-wins (expiry p) p (λ u. s.limits.quantum) (IsSteady p s.limits.quantum)
      (λ a so d. is-round a p d s.limits.quantum so) (steady-stays p s.limits.quantum) s steady t draws

  pub rounds-ticks : (t : ℕ) (draws : List ℕ)
      → ticks_in_rounds s p t draws ≡ wins_in_rounds s p t draws * s.limits.quantum
  rounds-ticks t draws =
      ap (ticks_of t) (replies-told p s draws)
      ∙ run-ticks (expiry p) p (λ u. s.limits.quantum) (IsSteady p s.limits.quantum)
      (λ a so d. is-round a p d s.limits.quantum so) (steady-stays p s.limits.quantum) s steady t draws
      ∙ ap (λ n. n * s.limits.quantum) (ap (wins_of t) (sym (replies-told p s draws)))

  -- ---- over all draws

  module _ (t : ℕ) (ready : status_of s.records t ≡ Some Ready) where
    weighs : weight_of s t ≡ value_of s t
    weighs = between.plain t ready

    share : count_by (thread_wins s p t) (range_with_len 0 (total_weight s)) ≡ weight_of s t
    share = thread-of s p t ready

    pub rounds-with : (n k : ℕ) → count_by (λ draws. wins_in_rounds s p t draws == k) (all_draws (total_weight s) n)
        ≡ count_by (λ draws. win_count (thread_wins s p t) draws == k) (all_draws (total_weight s) n)
    rounds-with n k =
        sum-same (λ draws. cond (wins_in_rounds s p t draws == k) 1 0)
        (λ draws. cond (win_count (thread_wins s p t) draws == k) 1 0) (all_draws (total_weight s) n)
        (λ draws. ap (λ m. cond (m == k) 1 0) (rounds-wins t draws))

    pub rounds-binomial : (n k : ℕ)
        → count_by (λ draws. wins_in_rounds s p t draws == k) (all_draws (total_weight s) n)
        ≡ choose n k * value_of s t ^ k * (total_weight s - value_of s t) ^ (n - k)
    rounds-binomial n k =
        rounds-with n k
        ∙ binomial-of (thread_wins s p t) (total_weight s) (weight_of s t) share n k
        ∙ ap (λ v. choose n k * v ^ k * (total_weight s - v) ^ (n - k)) weighs

    pub rounds-never : (n : ℕ) → count_by (λ draws. wins_in_rounds s p t draws == 0) (all_draws (total_weight s) n)
        ≡ (total_weight s - value_of s t) ^ n
    rounds-never n =
        rounds-with n 0 ∙ never-of (thread_wins s p t) (total_weight s) (weight_of s t) share n
        ∙ ap (λ v. (total_weight s - v) ^ n) weighs

    all-ticks : (n : ℕ) → sum_by (ticks_in_rounds s p t) (all_draws (total_weight s) n)
        ≡ wins_in_all (thread_wins s p t) (total_weight s) n * s.limits.quantum
    all-ticks n =
        sum-same (ticks_in_rounds s p t) (λ draws. win_count (thread_wins s p t) draws * s.limits.quantum)
        (all_draws (total_weight s) n)
        (λ draws. rounds-ticks t draws ∙ ap (λ m. m * s.limits.quantum) (rounds-wins t draws))
        ∙ sum-times (win_count (thread_wins s p t)) s.limits.quantum (all_draws (total_weight s) n)

    pub rounds-all : (n : ℕ) → sum_by (ticks_in_rounds s p t) (all_draws (total_weight s) n)
        ≡ n * value_of s t * total_weight s ^ (n - 1) * s.limits.quantum
    rounds-all n =
        all-ticks n
        ∙ ap (λ m. m * s.limits.quantum) (all-of (thread_wins s p t) (total_weight s) (weight_of s t) share n
        ∙ ap (λ v. n * v * total_weight s ^ (n - 1)) weighs)

    pub rounds-mean : (n : ℕ) → sum_by (ticks_in_rounds s p t) (all_draws (total_weight s) n) * total_weight s
        ≡ n * value_of s t * length (all_draws (total_weight s) n) * s.limits.quantum
    rounds-mean n =
        ap (λ m. m * total_weight s) (all-ticks n)
        ∙ turned (wins_in_all (thread_wins s p t) (total_weight s) n) s.limits.quantum (total_weight s)
        ∙ ap (λ m. m * s.limits.quantum) (mean-of (thread_wins s p t) (total_weight s) (weight_of s t) share n
        ∙ ap (λ v. n * v * length (all_draws (total_weight s) n)) weighs)
      where
        turned : (a q w : ℕ) → a * q * w ≡ a * w * q
        turned a q w = omega arith
