-- A live thread blocks and lends: the values of threads afterwards, by the statuses in the records.
use Rattle.lot_laws.proofs.Common.{Bool, Funding, FundsThere, HasNoCycle, IsBacked, IsLive, Lend, List, Nobody, None, OwnsNothing, Record, Served, Sizes, Some, State, Status, ToThread, ap, at_number, backing_thread, borrower, borrower_of, cond, false, filter, funding_of, if◌then◌else◌, is_backed, is_live_status, lend_of, lends_lead, lends_lead-exact, length, length-map, live_in, live_of, map, numbers, option_and_then, option_map, own_value, range_with_len, refl, some-injective, status_of, sum_by, sym, thread_value, true, value_of, ℕ, [], ◌+◌, ◌∙◌, ◌≡◌, ◌≢◌, ◌⊎◌}
use Rattle.lot_laws.proofs.Lending.{lending, same-borrower, leads-itself, woken-on, woken-back, stays-on, stays-back, lent-worth, backed-same}
use Rattle.lot_laws.proofs.Trapped.{lend-is, live-is}

-- what the threads with these records lend to
abbrev pub lends_in : Sizes → List Record → List Lend
lends_in without records = map (λ (r : Record). lend_of without r.status) records

-- a thread leads to itself, and to no other if it lends to nobody
pub lead-itself : (f : Funding) (t : ℕ) → HasNoCycle f → lends_lead f t t ≡ true
lead-itself f t no_cycle = (lends_lead-exact f no_cycle.lends t t).1 ([], refl)

pub lead-other : (f : Funding) (t v : ℕ) → HasNoCycle f → borrower_of f t ≡ None → v ≢ t → lends_lead f t v ≡ false
lead-other f t v no_cycle nobody differs = by (lends_lead f t v) refl
  where
    by : (b : Bool) → lends_lead f t v ≡ b → b ≡ false
    by true is = absurd (differs (sym (leads-itself f t v nobody ((lends_lead-exact f no_cycle.lends t v).0 is))))
    by false is = refl

-- who lends to nobody, by its status
pub lends-nobody : (s : State) (t : ℕ) (status : Status) → status_of s.records t ≡ Some status
    → lend_of s.limits status ≡ Nobody → borrower_of (funding_of s) t ≡ None
lends-nobody s t status is free = ap (option_and_then (borrower (funding_of s)))
    (lend-is s.limits s.records t ∙ ap (option_map (lend_of s.limits)) is ∙ ap Some free)

pub is-live : (records : List Record) (t : ℕ) (status : Status) → status_of records t ≡ Some status
    → is_live_status status ≡ true → IsLive (live_in records) t
is-live records t status is alive = live-is records t ∙ ap (option_map is_live_status) is ∙ ap Some alive

pub not-live : (records : List Record) (t : ℕ) (status : Status) → status_of records t ≡ Some status
    → is_live_status status ≡ false → ¬ IsLive (live_in records) t
not-live records t status is gone alive =
    let never : false ≡ true = some-injective false true
    (sym (ap (option_map is_live_status) is ∙ ap Some gone) ∙ sym (live-is records t) ∙ alive) in cc

-- with lending a served thread lends to its server
pub served-lends : (s : State) (server : ℕ) → s.limits.without_lending ≡ false
    → borrower (funding_of s) (lend_of s.limits (Served server)) ≡ Some server
served-lends s server lends =
    ap (λ (without : Bool). borrower (funding_of s) (if without then Nobody else ToThread server)) lends

-- thread t is live in the one and blocked in the other, where it lends to b, and all others lend as they do
module _ (s : State) (records : List Record) (t b : ℕ) (from to : Status) (many : length records ≡ length s.records)
    (was : status_of s.records t ≡ Some from) (free : lend_of s.limits from ≡ Nobody)
    (alive : is_live_status from ≡ true)
    (is : status_of records t ≡ Some to) (gone : is_live_status to ≡ false)
    (lent : borrower (funding_of s) (lend_of s.limits to) ≡ Some b)
    (same : (u : ℕ) → u ≢ t
    → option_map (lend_of s.limits) (status_of records u) ≡ option_map (lend_of s.limits) (status_of s.records u))
    (no_cycle : HasNoCycle (funding_of s)) (there : FundsThere (funding_of s))
    (no_cycle_now : HasNoCycle (lending (funding_of s) (lends_in s.limits records))) where
  as-many : length (lends_in s.limits records) ≡ length (funding_of s).lends
  as-many = length-map records (λ (r : Record). lend_of s.limits r.status) ∙ many
      ∙ sym (length-map s.records (λ (r : Record). lend_of s.limits r.status))

  alone : borrower_of (funding_of s) t ≡ None
  alone = lends-nobody s t from was free

  lends : borrower_of (lending (funding_of s) (lends_in s.limits records)) t ≡ Some b
  lends =
      ap (option_and_then (borrower (lending (funding_of s) (lends_in s.limits records))))
      (lend-is s.limits records t ∙ ap (option_map (lend_of s.limits)) is)
      ∙ same-borrower (funding_of s) (lends_in s.limits records) (Some (lend_of s.limits to)) ∙ lent

  others : (u : ℕ) → u ≢ t → at_number (lends_in s.limits records) u ≡ at_number (funding_of s).lends u
  others u differs = lend-is s.limits records u ∙ same u differs ∙ sym (lend-is s.limits s.records u)

  lived : IsLive (live_of s) t
  lived = is-live s.records t from was alive

  ended : ¬ IsLive (live_in records) t
  ended = not-live records t to is gone

  module _ (backed-on : (u : ℕ) → IsBacked (funding_of s) (live_of s) u
      → IsBacked (lending (funding_of s) (lends_in s.limits records)) (live_in records) u)
      (backed-back : (u : ℕ) → (backing_thread (funding_of s) u ≡ []) ⊎ (IsBacked (lending (funding_of s)
      (lends_in s.limits records)) (live_in records) u → IsBacked (funding_of s) (live_of s) u)) where
    worth-of : (v : ℕ) → thread_value s.limits.unit (lending (funding_of s) (lends_in s.limits records))
        (live_in records) v ≡ value_of s v + cond (lends_lead (funding_of s) b v) (value_of s t) 0
    worth-of = lent-worth (funding_of s) (lends_in s.limits records) t b as-many alone lends others no_cycle
        no_cycle_now (live_of s) (live_in records) there backed-on backed-back s.limits.unit

    own-of : sum_by (own_value s.limits.unit (lending (funding_of s) (lends_in s.limits records)) (live_in records))
        (filter (is_backed (lending (funding_of s) (lends_in s.limits records)) (live_in records)) (numbers records))
        ≡ sum_by (own_value s.limits.unit (funding_of s) (live_of s))
        (filter (is_backed (funding_of s) (live_of s)) (numbers s.records))
    own-of =
        ap (λ n.
        sum_by (own_value s.limits.unit (lending (funding_of s) (lends_in s.limits records)) (live_in records)) (filter
        (is_backed (lending (funding_of s) (lends_in s.limits records)) (live_in records)) (range_with_len 1 n))) many
        ∙ backed-same (funding_of s) (lends_in s.limits records) t b as-many alone lends others no_cycle no_cycle_now
        (live_of s) (live_in records) there backed-on backed-back s.limits.unit (numbers s.records)

  -- b wakes, and had nothing of its own
  module _ (woken : IsLive (live_in records) b) (lives : (u : ℕ) → u ≢ t → u ≢ b
      → option_map is_live_status (status_of records u) ≡ option_map is_live_status (status_of s.records u))
      (owns : OwnsNothing s b) where
    lives-woken : (u : ℕ) → u ≢ t → u ≢ b → at_number (live_in records) u ≡ at_number (live_of s) u
    lives-woken u first second = live-is records u ∙ lives u first second ∙ sym (live-is s.records u)

    pub woken-worth : (v : ℕ) → thread_value s.limits.unit (lending (funding_of s) (lends_in s.limits records))
        (live_in records) v ≡ value_of s v + cond (lends_lead (funding_of s) b v) (value_of s t) 0
    woken-worth =
        worth-of (woken-on (funding_of s) (lends_in s.limits records) t b as-many alone lends others no_cycle
        no_cycle_now (live_of s) (live_in records) lived ended woken lives-woken owns.0 owns.1)
        (woken-back (funding_of s) (lends_in s.limits records) t b as-many alone lends others no_cycle no_cycle_now
        (live_of s) (live_in records) lived ended woken lives-woken owns.0 owns.1)

    pub woken-own : sum_by
        (own_value s.limits.unit (lending (funding_of s) (lends_in s.limits records)) (live_in records))
        (filter (is_backed (lending (funding_of s) (lends_in s.limits records)) (live_in records)) (numbers records))
        ≡ sum_by (own_value s.limits.unit (funding_of s) (live_of s))
        (filter (is_backed (funding_of s) (live_of s)) (numbers s.records))
    woken-own =
        own-of (woken-on (funding_of s) (lends_in s.limits records) t b as-many alone lends others no_cycle no_cycle_now
        (live_of s) (live_in records) lived ended woken lives-woken owns.0 owns.1)
        (woken-back (funding_of s) (lends_in s.limits records) t b as-many alone lends others no_cycle no_cycle_now
        (live_of s) (live_in records) lived ended woken lives-woken owns.0 owns.1)

  -- b is backed, and all others live as they do
  module _ (lives : (u : ℕ) → u ≢ t → option_map is_live_status (status_of records u)
      ≡ option_map is_live_status (status_of s.records u)) (backed : IsBacked (funding_of s) (live_of s) b) where
    lives-stay : (u : ℕ) → u ≢ t → at_number (live_in records) u ≡ at_number (live_of s) u
    lives-stay u differs = live-is records u ∙ lives u differs ∙ sym (live-is s.records u)

    pub blocked-worth : (v : ℕ) → thread_value s.limits.unit (lending (funding_of s) (lends_in s.limits records))
        (live_in records) v ≡ value_of s v + cond (lends_lead (funding_of s) b v) (value_of s t) 0
    blocked-worth =
        worth-of (stays-on (funding_of s) (lends_in s.limits records) t b as-many alone lends others no_cycle
        no_cycle_now (live_of s) (live_in records) lived ended lives-stay backed)
        (stays-back (funding_of s) (lends_in s.limits records) t b as-many alone lends others no_cycle no_cycle_now
        (live_of s) (live_in records) lived ended lives-stay backed)

    pub blocked-own : sum_by
        (own_value s.limits.unit (lending (funding_of s) (lends_in s.limits records)) (live_in records))
        (filter (is_backed (lending (funding_of s) (lends_in s.limits records)) (live_in records)) (numbers records))
        ≡ sum_by (own_value s.limits.unit (funding_of s) (live_of s))
        (filter (is_backed (funding_of s) (live_of s)) (numbers s.records))
    blocked-own =
        own-of (stays-on (funding_of s) (lends_in s.limits records) t b as-many alone lends others no_cycle no_cycle_now
        (live_of s) (live_in records) lived ended lives-stay backed)
        (stays-back (funding_of s) (lends_in s.limits records) t b as-many alone lends others no_cycle no_cycle_now
        (live_of s) (live_in records) lived ended lives-stay backed)
