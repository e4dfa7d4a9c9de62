-- A draw, and the winner that leaves its processor again, leave the lottery as it is.
use Rattle.lot_laws.proofs.Common.{Bool, Drawn, IsSameLottery, List, None, Option, Ready, Record, Running, Some, State, Status, Step, ap, arith, at_number, at_number-map, cases_eq, change-length, change_record, compensation_of, cond, draw, filter, filter-passes, found-runs, funding_of, get_or, get_or_from_slice_get, inl, inr, is-ready, is_live_status, is_ready, length, length-map, lend_of, live_of, map, map-set, nobody-runs, number-kept, numbers, option_and_then, option_any, option_map, range_with_len, ready_threads, record-now, record-other, refl, runs-used_by, set_number, slice_get, slice_get_cases, slice_index, some-injective, started, status-changed, status-now, status-other, status_of, sum, sym, thread_on, thread_value, thread_wins, unwrap_or, used_by, used_there, value_of, weight, weight_of, winner, winner-within, ℕ, [], ◌-◌, ◌<◌, ◌==◌, ◌∙◌, ◌∷◌, ◌≡◌, ◌≤◌, ◌⊎◌}
use Rattle.lot_machine.specs.declared.reply.Reply.TheVariants as answer

-- ---- lists

filter-same : (test other : ℕ → Bool) (xs : List ℕ) → ((x : ℕ) → test x ≡ other x) → filter test xs ≡ filter other xs
filter-same test other [] same = refl
filter-same test other (x ∷ xs) same =
    ap (λ b. cond b (x ∷ filter test xs) (filter test xs)) (same x)
    ∙ ap (λ ys. cond (other x) (x ∷ ys) ys) (filter-same test other xs same)

map-same : (f g : ℕ → ℕ) (xs : List ℕ) → ((x : ℕ) → f x ≡ g x) → map f xs ≡ map g xs
map-same f g [] same = refl
map-same f g (x ∷ xs) same = ap (λ y. y ∷ map f xs) (same x) ∙ ap (λ ys. g x ∷ ys) (map-same f g xs same)

-- ---- changes of one record

-- what a change leaves of its thread's record, it leaves of all
map-kept : {B : Type 0} (f : Record → B) (change : Record → Record) (records : List Record) (t : ℕ)
    → ((r : Record) → at_number records t ≡ Some r → f (change r) ≡ f r)
    → map f (change_record change records t) ≡ map f records
map-kept {B = B} f change records t same = by (at_number records t) refl
  where
    by : (o : Option Record) → at_number records t ≡ o → map f (change_record change records t) ≡ map f records
    by None is = rw is refl
    by (Some r) is =
        let set : change_record change records t ≡ set_number records t (change r) = rw is refl in
        ap (map f) set ∙ map-set f records (t - 1) (change r) ∙ ap (set_number (map f records) t) (same r is)
        ∙ number-kept (map f records) t (f r) (at_number-map f records t ∙ ap (option_map f) is)

-- so too what depends on statuses, if it is the same for the thread's old status and the new one
status-kept : {B : Type 0} (f : Status → B) (change : Record → Record) (records : List Record) (t : ℕ)
    (now after : Status) → status_of records t ≡ Some now → ((r : Record) → (change r).status ≡ after) → f after ≡ f now
    → map (λ (r : Record). f r.status) (change_record change records t) ≡ map (λ (r : Record). f r.status) records
status-kept f change records t now after is becomes same =
    map-kept (λ (r : Record). f r.status) change records t (λ r there. ap f (becomes r) ∙ same
    ∙ ap f (some-injective now r.status (sym is ∙ ap (option_map (λ (x : Record). x.status)) there)))

-- ---- draws

-- who stands at a place of the Ready threads is Ready
ready-at : (records : List Record) (place : ℕ) → place < length (ready_threads records)
    → status_of records (slice_index (ready_threads records) place) ≡ Some Ready
ready-at records place below = at (ready_threads records) refl below
  where
    at : (us : List ℕ) → ready_threads records ≡ us → place < length us
        → status_of records (slice_index us place) ≡ Some Ready
    at us these low = from (slice_get_cases us place).1
      where
        from : ((x : ℕ) × (place < length us) × (slice_get us place ≡ Some x) × (get_or us place x ≡ x))
            ⊎ ((length us ≤ place) × (slice_get us place ≡ None))
            → status_of records (slice_index us place) ≡ Some Ready
        from (inl (x, _, here, _)) =
            ap (status_of records) (get_or_from_slice_get us place x 0 here)
            ∙ is-ready (status_of records x) (filter-passes (λ u. option_any is_ready (status_of records u))
            (numbers records) place x (ap (λ xs. slice_get xs place) these ∙ here))
        from (inr (past, _)) = absurd (omega (arith, low, past))

-- the step of a draw that nobody wins, and of one that a thread wins
abbrev pub nothing-drawn : State → Step
nothing-drawn s = record { state = s; reply = answer.Idle }

abbrev pub begun : State → ℕ → ℕ → State
begun s p t = record s { records = change_record (started p) s.records t }

-- and the state after it has left its processor again
abbrev pub left : State → ℕ → ℕ → (Record → Record) → State
left s p t leave = record s { records = change_record leave (begun s p t).records t }

abbrev pub won : State → ℕ → ℕ → Drawn → Step
won s p t w = record {
  state = begun s p t;
  reply = answer.Winner t w.number w.total (option_and_then (λ (r : Record). r.delivered) (at_number s.records t));
}

-- nobody wins a draw, or a Ready thread
pub draw-either : (s : State) (p d : ℕ) → (draw s p d ≡ nothing-drawn s)
    ⊎ ((t : ℕ) × ((w : Drawn) × ((status_of s.records t ≡ Some Ready) × (draw s p d ≡ won s p t w))))
draw-either s p d = by (winner (map (weight_of s) (ready_threads s.records)) d) refl
  where
    by : (o : Option Drawn) → winner (map (weight_of s) (ready_threads s.records)) d ≡ o
        → (draw s p d ≡ nothing-drawn s)
        ⊎ ((t : ℕ) × ((w : Drawn) × ((status_of s.records t ≡ Some Ready) × (draw s p d ≡ won s p t w))))
    by None is = inl (rw is refl)
    by (Some w) is =
        let within = winner-within (map (weight_of s) (ready_threads s.records)) d w is in
        let below : w.place < length (ready_threads s.records) =
        omega (arith, within, length-map (ready_threads s.records) (weight_of s)) in
        inr (slice_index (ready_threads s.records) w.place, (w, (ready-at s.records w.place below, rw is refl)))

-- who wins depends on the weights of the Ready threads alone
pub wins-by : (s : State) (p t d : ℕ) → thread_wins s p t d
    ≡ option_any (λ (w : Drawn). slice_index (ready_threads s.records) w.place == t)
    (winner (map (weight_of s) (ready_threads s.records)) d)
wins-by s p t d = by (winner (map (weight_of s) (ready_threads s.records)) d) refl
  where
    by : (o : Option Drawn) → winner (map (weight_of s) (ready_threads s.records)) d ≡ o → thread_wins s p t d
        ≡ option_any (λ (w : Drawn). slice_index (ready_threads s.records) w.place == t) o
    by None is = rw is refl
    by (Some w) is = rw is refl

-- ---- the same draws

-- the same Ready threads weigh the same, so that the same one wins with each number
pub record SameDraws (before after : State) : Type 0 where
  pub ready : ready_threads after.records ≡ ready_threads before.records
  pub list : map (weight_of after) (ready_threads after.records) ≡ map (weight_of before) (ready_threads before.records)
  pub limits : after.limits ≡ before.limits
  pub values : (t : ℕ) → value_of after t ≡ value_of before t
  pub lottery : IsSameLottery before after

pub same-wins : (s after : State) → SameDraws s after → (p t d : ℕ) → thread_wins after p t d ≡ thread_wins s p t d
same-wins s after same p t d =
    wins-by after p t d
    ∙ ap (λ us. option_any (λ (w : Drawn). slice_index us w.place == t)
    (winner (map (weight_of after) (ready_threads after.records)) d)) same.ready
    ∙ ap (λ ws. option_any (λ (w : Drawn). slice_index (ready_threads s.records) w.place == t) (winner ws d)) same.list
    ∙ sym (wins-by s p t d)

pub same-itself : (s : State) → SameDraws s s
same-itself s = record {
  ready = refl;
  list = refl;
  limits = refl;
  values = λ t. refl;
  lottery = record { statuses = λ t. refl; funding = refl; live = refl; weights = λ t. refl; total = refl };
}

pub same-later : (s next after : State) → SameDraws s next → SameDraws next after → SameDraws s after
same-later s next after one more = record {
  ready = more.ready ∙ one.ready;
  list = more.list ∙ one.list;
  limits = more.limits ∙ one.limits;
  values = λ t. more.values t ∙ one.values t;
  lottery = record {
    statuses = λ t. more.lottery.statuses t ∙ one.lottery.statuses t;
    funding = more.lottery.funding ∙ one.lottery.funding;
    live = more.lottery.live ∙ one.lottery.live;
    weights = λ t. more.lottery.weights t ∙ one.lottery.weights t;
    total = more.lottery.total ∙ one.lottery.total;
  };
}

-- a thread between running and Ready keeps everyone's value
pub value-kept : (s : State) (change : Record → Record) (t : ℕ) (now after : Status) → status_of s.records t ≡ Some now
    → ((r : Record) → (change r).status ≡ after) → lend_of s.limits after ≡ lend_of s.limits now
    → is_live_status after ≡ is_live_status now
    → (funding_of (record s { records = change_record change s.records t }) ≡ funding_of s)
    × (live_of (record s { records = change_record change s.records t }) ≡ live_of s)
value-kept s change t now after is becomes lends lives =
    (ap (λ ls. record (funding_of s) { lends = ls }) (status-kept (lend_of s.limits) change s.records t now after is becomes lends), status-kept is_live_status change s.records t now after is becomes lives)

pub value-same : (s after : State) → after.limits ≡ s.limits → funding_of after ≡ funding_of s
    → live_of after ≡ live_of s → (u : ℕ) → value_of after u ≡ value_of s u
value-same s after limits funding live u =
    ap (λ l. thread_value l.unit (funding_of after) (live_of after) u) limits
    ∙ ap (λ f. thread_value s.limits.unit f (live_of after) u) funding
    ∙ ap (λ l. thread_value s.limits.unit (funding_of s) l u) live

-- ---- a winner on its processor

module _ (s : State) (p t : ℕ) (free : thread_on s.records p ≡ None) (ready : status_of s.records t ≡ Some Ready) where
  begun-runs : status_of (begun s p t).records t ≡ Some (Running p 0)
  begun-runs = status-now (started p) s.records t Ready (Running p 0) ready (λ r. refl)

  -- it alone is found there, and it has used nothing
  pub begun-found : thread_on (begun s p t).records p ≡ Some t
  begun-found = by (thread_on (begun s p t).records p) refl
    where
      alone : (u used : ℕ) → status_of (begun s p t).records u ≡ Some (Running p used) → u ≡ t
      alone u used runs = from (status-changed (started p) s.records t u)
        where
          from : (status_of (begun s p t).records u ≡ status_of s.records u)
              ⊎ ((u ≡ t) × ((r : Record) × (at_number s.records t ≡ Some r)
              × (status_of (begun s p t).records u ≡ Some (started p r).status))) → u ≡ t
          from (inl same) = absurd (nobody-runs s.records p u used free (sym same ∙ runs))
          from (inr (at, _)) = at

      by : (o : Option ℕ) → thread_on (begun s p t).records p ≡ o → o ≡ Some t
      by None is = absurd (nobody-runs (begun s p t).records p t 0 is begun-runs)
      by (Some u) is = let r = found-runs (begun s p t).records p u is in ap Some (alone u r.0 r.1)

  pub begun-used : used_there (begun s p t) p ≡ 0
  begun-used =
      ap (λ o. unwrap_or (option_and_then (used_by (begun s p t).records p) o) 0) begun-found
      ∙ ap (λ o. unwrap_or o 0) (runs-used_by (begun s p t).records p t 0 begun-runs)

  -- it leaves the processor, Ready and as heavy as before
  module _ (leave : Record → Record) (leaves : (r : Record) → (leave r).status ≡ Ready) where
    abbrev gone : State
    gone = left s p t leave

    -- with the compensation that it gets
    pub left-compensation : (r : Record) → at_number s.records t ≡ Some r
        → compensation_of gone t ≡ (leave (started p r)).compensation
    left-compensation r there =
        ap (option_and_then (λ (x : Record). x.compensation))
        (record-now leave (begun s p t).records t (started p r) (record-now (started p) s.records t r there))

    statuses : (u : ℕ) → status_of gone.records u ≡ status_of s.records u
    statuses u = by (cases_eq u t)
      where
        by : (u ≡ t) ⊎ (u ≡ t → ⊥) → status_of gone.records u ≡ status_of s.records u
        by (inl same) =
            ap (status_of gone.records) same
            ∙ status-now leave (begun s p t).records t (Running p 0) Ready begun-runs leaves ∙ sym ready
            ∙ ap (status_of s.records) (sym same)
        by (inr other) =
            status-other leave (begun s p t).records t u other ∙ status-other (started p) s.records t u other

    pub left-free : thread_on gone.records p ≡ None
    left-free = by (thread_on gone.records p) refl
      where
        by : (o : Option ℕ) → thread_on gone.records p ≡ o → o ≡ None
        by None is = refl
        by (Some u) is = let r = found-runs gone.records p u is in
            absurd (nobody-runs s.records p u r.0 free (sym (statuses u) ∙ r.1))

    started-kept : (funding_of (begun s p t) ≡ funding_of s) × (live_of (begun s p t) ≡ live_of s)
    started-kept = value-kept s (started p) t Ready (Running p 0) ready (λ r. refl) refl refl

    leave-kept : (funding_of gone ≡ funding_of (begun s p t)) × (live_of gone ≡ live_of (begun s p t))
    leave-kept = value-kept (begun s p t) leave t (Running p 0) Ready begun-runs leaves refl refl

    pub left-values : (u : ℕ) → value_of gone u ≡ value_of s u
    left-values = value-same s gone refl (leave-kept.0 ∙ started-kept.0) (leave-kept.1 ∙ started-kept.1)

    same-ready : ready_threads gone.records ≡ ready_threads s.records
    same-ready =
        filter-same (λ u. option_any is_ready (status_of gone.records u))
        (λ u. option_any is_ready (status_of s.records u)) (numbers gone.records)
        (λ u. ap (option_any is_ready) (statuses u))
        ∙ ap (λ n. filter (λ u. option_any is_ready (status_of s.records u)) (range_with_len 1 n))
        (change-length leave (begun s p t).records t ∙ change-length (started p) s.records t)

    pub left-same : weight_of gone t ≡ weight_of s t → SameDraws s gone
    left-same weighs = record {
      ready = same-ready;
      list = same-list;
      limits = refl;
      values = left-values;
      lottery = record {
        statuses = statuses;
        funding = leave-kept.0 ∙ started-kept.0;
        live = leave-kept.1 ∙ started-kept.1;
        weights = weights;
        total = ap sum same-list;
      };
    }
      where
        weights : (u : ℕ) → weight_of gone u ≡ weight_of s u
        weights u = by (cases_eq u t)
          where
            by : (u ≡ t) ⊎ (u ≡ t → ⊥) → weight_of gone u ≡ weight_of s u
            by (inl same) = ap (weight_of gone) same ∙ weighs ∙ ap (weight_of s) (sym same)
            by (inr other) =
                ap (λ v. weight v (compensation_of gone u) s.limits.quantum) (left-values u)
                ∙ ap (λ o. weight (value_of s u) (option_and_then (λ (r : Record). r.compensation) o) s.limits.quantum)
                (record-other leave (begun s p t).records t u other ∙ record-other (started p) s.records t u other)

        same-list : map (weight_of gone) (ready_threads gone.records) ≡ map (weight_of s) (ready_threads s.records)
        same-list = map-same (weight_of gone) (weight_of s) (ready_threads gone.records) weights
            ∙ ap (map (weight_of s)) same-ready
