-- Threads that lend to one thread, against the same state with all of them Ready: the values of threads.
use Rattle.lot_laws.proofs.Common.{Bool, Contains, FundsThere, HasNoCycle, IsApart, IsBacked, IsLendChain, IsLive, LendsLead, LendsTo, List, None, Ready, Record, Some, State, Status, ap, arith, at_number, borrower, borrower_of, cases_eq, change-length, change_each, change_record, cond, contains-later, counts-once, cycle-nobody, false, funding_of, inl, inr, is_live_status, lend_of, lends-by, lends_lead, lends_lead-exact, length, live_of, live_value, option_and_then, option_map, refl, some-injective, status-now, status-other, status_of, subst, sum_by, sum_by-cons, sym, true, value_of, with_ready, zero, ℕ, [], ◌+◌, ◌∙◌, ◌∷◌, ◌≡◌, ◌≢◌, ◌⊎◌}
use Rattle.lot_laws.proofs.Trapped.{lend-is, live-is}
use Rattle.lot_laws.proofs.KeptValues.{same-bool}
use Rattle.lot_laws.proofs.Lending.{same-borrower, leads-itself}
use Rattle.lot_laws.proofs.CallReceived.{live-nobody}
use Rattle.lot_laws.proofs.Blocked.{lends_in, lends-nobody, is-live, blocked-worth, blocked-own}

-- a thread that is made Ready
abbrev pub made_ready : Record → Record
made_ready r = record r { status = Ready }

-- the state with each of these threads Ready
abbrev pub with_ready_each : State → List ℕ → State
with_ready_each s ts = record s { records = change_each made_ready s.records ts }

-- the state with this change of one thread's record
abbrev pub with_changed : (Record → Record) → State → ℕ → State
with_changed change s t = record s { records = change_record change s.records t }

-- ---- one of them

-- thread t lends to b, and a change makes it Ready
module _ (change : Record → Record) (readies : (r : Record) → (change r).status ≡ Ready) (s : State) (t b : ℕ)
    (no_cycle : HasNoCycle (funding_of s)) (there : FundsThere (funding_of s))
    (lends : LendsTo (funding_of s) t b) where
  -- who lends is blocked
  blocked : (now : Status) → borrower (funding_of s) (lend_of s.limits now) ≡ Some b → is_live_status now ≡ false
  blocked now to = by (is_live_status now) refl
    where
      by : (alive : Bool) → is_live_status now ≡ alive → alive ≡ false
      by false is = refl
      by true is = let never : None ≡ Some b = sym (ap (borrower (funding_of s)) (live-nobody s.limits now is)) ∙ to in
          cc

  t-is : (now : Status) × (status_of s.records t ≡ Some now) × (borrower (funding_of s) (lend_of s.limits now) ≡ Some b)
  t-is = lends-by s t b lends

  t-ready : status_of (with_changed change s t).records t ≡ Some Ready
  t-ready = status-now change s.records t t-is.0 Ready t-is.1 readies

  other-ready : (u : ℕ) → u ≢ t → status_of (with_changed change s t).records u ≡ status_of s.records u
  other-ready u differs = status-other change s.records t u differs

  pub ready-cycle : HasNoCycle (funding_of (with_changed change s t))
  ready-cycle = cycle-nobody s change t (λ r. ap (lend_of s.limits) (readies r)) no_cycle

  -- others lend as before
  pub ready-lends : (u : ℕ) → u ≢ t
      → borrower_of (funding_of (with_changed change s t)) u ≡ borrower_of (funding_of s) u
  ready-lends u differs =
      ap (option_and_then (borrower (funding_of (with_changed change s t)))) (lend-is s.limits (with_changed change s
      t).records u ∙ ap (option_map (lend_of s.limits)) (other-ready u differs) ∙ sym (lend-is s.limits s.records u))
      ∙ same-borrower (funding_of s) (lends_in s.limits (with_changed change s t).records)
      (at_number (funding_of s).lends u)

  pub ready-alone : borrower_of (funding_of (with_changed change s t)) t ≡ None
  ready-alone = lends-nobody (with_changed change s t) t Ready t-ready refl

  -- so b's lends lead where they did
  pub chain-before : (u : ℕ) (chain : List ℕ) (v : ℕ) → IsLendChain (funding_of (with_changed change s t)) u chain v
      → IsLendChain (funding_of s) u chain v
  chain-before u [] v is = is
  chain-before u (w ∷ rest) v (first, more) = (by (cases_eq u t), chain-before w rest v more)
    where
      by : (u ≡ t) ⊎ (¬ (u ≡ t)) → LendsTo (funding_of s) u w
      by (inl same) = let never : None ≡ Some w = sym ready-alone
          ∙ ap (borrower_of (funding_of (with_changed change s t))) (sym same) ∙ first in cc
      by (inr differs) = sym (ready-lends u differs) ∙ first

  pub chain-then : (u : ℕ) (chain : List ℕ) (v : ℕ) → IsLendChain (funding_of s) u chain v
      → ¬ LendsLead (funding_of s) u t → IsLendChain (funding_of (with_changed change s t)) u chain v
  chain-then u [] v is apart = is
  chain-then u (w ∷ rest) v (first, more) apart =
      (ready-lends u (λ same. apart ([], same)) ∙ first, chain-then w rest v more (λ (chain, is). apart (w ∷ chain, (first, is))))

  no-return : ¬ LendsLead (funding_of s) b t
  no-return lead = no_cycle.lends t (b, lends, lead)

  pub ready-lead : (v : ℕ) → lends_lead (funding_of (with_changed change s t)) b v ≡ lends_lead (funding_of s) b v
  ready-lead v =
      let exact = lends_lead-exact (funding_of s) no_cycle.lends b v in
      let exact_now = lends_lead-exact (funding_of (with_changed change s t)) ready-cycle.lends b v in
      same-bool (lends_lead (funding_of (with_changed change s t)) b v) (lends_lead (funding_of s) b v)
      (λ on. let lead = exact_now.0 on in exact.1 (lead.0, chain-before b lead.0 v lead.1))
      (λ on. let lead = exact.0 on in exact_now.1 (lead.0, chain-then b lead.0 v lead.1 no-return))

  -- and so do all lends that lead to another than b, if that one lends to nobody
  pub lead-then : borrower_of (funding_of s) b ≡ None → (u : ℕ) (chain : List ℕ) (v : ℕ)
      → IsLendChain (funding_of s) u chain v → v ≢ b → LendsLead (funding_of (with_changed change s t)) u v
  lead-then alone u [] v is other = ([], is)
  lead-then alone u (w ∷ rest) v (first, more) other = by (cases_eq u t) (lead-then alone w rest v more other)
    where
      by : (u ≡ t) ⊎ (¬ (u ≡ t)) → LendsLead (funding_of (with_changed change s t)) w v
          → LendsLead (funding_of (with_changed change s t)) u v
      by (inl same) later =
          let at : w ≡ b = some-injective w b (sym first ∙ ap (borrower_of (funding_of s)) same ∙ lends) in
          absurd (other (sym
          (leads-itself (funding_of s) b v alone (rest, subst (λ x. IsLendChain (funding_of s) x rest v) at more))))
      by (inr differs) (others, on) = (w ∷ others, (ready-lends u differs ∙ first, on))

  -- who is backed stays so
  still-backed : (u : ℕ) (chain : List ℕ) (v : ℕ) → IsLendChain (funding_of s) u chain v → IsLive (live_of s) v
      → IsBacked (funding_of (with_changed change s t)) (live_of (with_changed change s t)) u
  still-backed u [] v is alive = by (cases_eq u t)
    where
      by : (u ≡ t) ⊎ (¬ (u ≡ t)) → IsBacked (funding_of (with_changed change s t)) (live_of (with_changed change s t)) u
      by (inl same) = (t, ([], same), is-live (with_changed change s t).records t Ready t-ready refl)
      by (inr differs) = (u, ([], refl), live-is (with_changed change s t).records u ∙ ap (option_map is_live_status) (other-ready u differs) ∙ sym (live-is s.records u) ∙ subst (IsLive (live_of s)) (sym is) alive)
  still-backed u (w ∷ rest) v (first, more) alive = by (cases_eq u t) (still-backed w rest v more alive)
    where
      by : (u ≡ t) ⊎ (¬ (u ≡ t)) → IsBacked (funding_of (with_changed change s t)) (live_of (with_changed change s t)) w
          → IsBacked (funding_of (with_changed change s t)) (live_of (with_changed change s t)) u
      by (inl same) later = (t, ([], same), is-live (with_changed change s t).records t Ready t-ready refl)
      by (inr differs) (x, (others, on), lives) = (x, (w ∷ others, (ready-lends u differs ∙ first, on)), lives)

  pub ready-backed : (u : ℕ) → IsBacked (funding_of s) (live_of s) u
      → IsBacked (funding_of (with_changed change s t)) (live_of (with_changed change s t)) u
  ready-backed u (v, (chain, is), alive) = still-backed u chain v is alive

  module _ (backed : IsBacked (funding_of s) (live_of s) b) where
    as-many : length s.records ≡ length (with_changed change s t).records
    as-many = sym (change-length change s.records t)

    -- what b is lent is what the thread is worth then
    pub ready-worth : (v : ℕ) → value_of s v ≡ value_of (with_changed change s t) v
        + cond (lends_lead (funding_of s) b v) (value_of (with_changed change s t) t) 0
    ready-worth v =
        blocked-worth (with_changed change s t) s.records t b Ready t-is.0 as-many t-ready refl refl t-is.1
        (blocked t-is.0 t-is.2) (sym (same-borrower (funding_of s) (lends_in s.limits (with_changed change s t).records)
        (Some (lend_of s.limits t-is.0))) ∙ t-is.2)
        (λ u differs. ap (option_map (lend_of s.limits)) (sym (other-ready u differs))) ready-cycle there no_cycle
        (λ u differs. ap (option_map is_live_status) (sym (other-ready u differs))) (ready-backed b backed) v
        ∙ ap (λ on. value_of (with_changed change s t) v + cond on (value_of (with_changed change s t) t) 0)
        (ready-lead v)

    pub ready-together : live_value s ≡ live_value (with_changed change s t)
    ready-together =
        counts-once s no_cycle
        ∙ blocked-own (with_changed change s t) s.records t b Ready t-is.0 as-many t-ready refl refl t-is.1
        (blocked t-is.0 t-is.2) (sym (same-borrower (funding_of s) (lends_in s.limits (with_changed change s t).records)
        (Some (lend_of s.limits t-is.0))) ∙ t-is.2)
        (λ u differs. ap (option_map (lend_of s.limits)) (sym (other-ready u differs))) ready-cycle there no_cycle
        (λ u differs. ap (option_map is_live_status) (sym (other-ready u differs))) (ready-backed b backed)
        ∙ sym (counts-once (with_changed change s t) ready-cycle)

    -- a thread that lends to b is worth what it was
    pub lender-keeps : (u : ℕ) → LendsTo (funding_of s) u b → value_of s u ≡ value_of (with_changed change s t) u
    lender-keeps u to = ready-worth u ∙ ap (λ on. value_of (with_changed change s t) u + cond on
        (value_of (with_changed change s t) t) 0) (off (lends_lead (funding_of s) b u) refl) ∙ omega arith
      where
        off : (on : Bool) → lends_lead (funding_of s) b u ≡ on → on ≡ false
        off false is = refl
        off true is = absurd (no_cycle.lends u (b, to, (lends_lead-exact (funding_of s) no_cycle.lends b u).0 is))

-- ---- all of them

pub sum-listed : (g h : ℕ → ℕ) (xs : List ℕ) → ((x : ℕ) → Contains xs x → g x ≡ h x) → sum_by g xs ≡ sum_by h xs
sum-listed g h [] same = refl
sum-listed g h (x ∷ xs) same = omega
    (arith, sum_by-cons g x xs, sum_by-cons h x xs, same x (zero, omega arith, refl), sum-listed g h xs (λ y c. same y (contains-later x xs y c)))

abbrev LendEach : State → ℕ → List ℕ → Type 0
LendEach s b ts = (t : ℕ) → Contains ts t → LendsTo (funding_of s) t b

no-more : (on : Bool) (w : ℕ) → w ≡ w + cond on 0 0
no-more true w = omega arith
no-more false w = omega arith

joined : (on : Bool) (whole first rest more all : ℕ) → whole ≡ rest + cond on first 0 → rest ≡ more + cond on all 0
    → whole ≡ more + cond on (first + all) 0
joined true whole first rest more all is also = omega (arith, is, also)
joined false whole first rest more all is also = omega (arith, is, also)

-- the rest of them, with the first one Ready
rest-lend : (s : State) (b t : ℕ) (rest : List ℕ) (no_cycle : HasNoCycle (funding_of s))
    (there : FundsThere (funding_of s)) → IsApart (t ∷ rest) → LendEach s b (t ∷ rest)
    → LendEach (with_ready s t) b rest
rest-lend s b t rest no_cycle there apart each u c =
    ready-lends made_ready (λ r. refl) s t b no_cycle there (each t (zero, omega arith, refl)) u
    (λ same. apart.0 (subst (Contains rest) same c)) ∙ each u (contains-later t rest u c)

-- those to whom b leads are worth as much more as all of them are worth
pub each-worth : (ts : List ℕ) (s : State) (b : ℕ) → HasNoCycle (funding_of s) → FundsThere (funding_of s)
    → IsBacked (funding_of s) (live_of s) b → IsApart ts → LendEach s b ts
    → (v : ℕ)
    → value_of s v ≡ value_of (with_ready_each s ts) v + cond (lends_lead (funding_of s) b v) (sum_by (value_of s) ts) 0
each-worth [] s b no_cycle there backed apart each v = no-more (lends_lead (funding_of s) b v) (value_of s v)
each-worth (t ∷ rest) s b no_cycle there backed apart each v =
    let first : LendsTo (funding_of s) t b = each t (zero, omega arith, refl) in
    let same : sum_by (value_of s) (t ∷ rest) ≡ value_of (with_ready s t) t + sum_by (value_of (with_ready s t)) rest =
    sum-listed (value_of s) (value_of (with_ready s t)) (t ∷ rest) (λ u c. lender-keeps made_ready
    (λ r. refl) s t b no_cycle there first backed u (each u c)) ∙ sum_by-cons (value_of (with_ready s t)) t rest in
    let later = each-worth rest (with_ready s t) b (ready-cycle made_ready (λ r. refl) s t b no_cycle there first) there
    (ready-backed made_ready (λ r. refl) s t b no_cycle there first b backed) apart.1
    (rest-lend s b t rest no_cycle there apart each) v in
    joined (lends_lead (funding_of s) b v) (value_of s v) (value_of (with_ready s t) t) (value_of (with_ready s t) v)
    (value_of (with_ready_each s (t ∷ rest)) v) (sum_by (value_of (with_ready s t)) rest)
    (ready-worth made_ready (λ r. refl) s t b no_cycle there first backed v)
    (later ∙ ap (λ on. value_of (with_ready_each s (t ∷ rest)) v + cond on (sum_by (value_of (with_ready s t)) rest) 0)
    (ready-lead made_ready (λ r. refl) s t b no_cycle there first v))
    ∙ ap (λ w. value_of (with_ready_each s (t ∷ rest)) v + cond (lends_lead (funding_of s) b v) w 0) (sym same)

pub each-together : (ts : List ℕ) (s : State) (b : ℕ) → HasNoCycle (funding_of s) → FundsThere (funding_of s)
    → IsBacked (funding_of s) (live_of s) b → IsApart ts → LendEach s b ts
    → live_value s ≡ live_value (with_ready_each s ts)
each-together [] s b no_cycle there backed apart each = refl
each-together (t ∷ rest) s b no_cycle there backed apart each =
    let first : LendsTo (funding_of s) t b = each t (zero, omega arith, refl) in
    ready-together made_ready (λ r. refl) s t b no_cycle there first backed
    ∙ each-together rest (with_ready s t) b (ready-cycle made_ready (λ r. refl) s t b no_cycle there first) there
    (ready-backed made_ready (λ r. refl) s t b no_cycle there first b backed) apart.1
    (rest-lend s b t rest no_cycle there apart each)

-- nothing is lent in a circle then
pub each-cycle : (ts : List ℕ) (s : State) → HasNoCycle (funding_of s) → HasNoCycle (funding_of (with_ready_each s ts))
each-cycle [] s no_cycle = no_cycle
each-cycle (t ∷ rest) s no_cycle = each-cycle rest (with_ready s t) (cycle-nobody s made_ready t (λ r. refl) no_cycle)
