-- Two states that differ only inside a currency: a relation in which the states agree outside.
use Rattle.lot_laws.proofs.Common.{AgreeOutside, Bool, Currency, DifferInside, Encloses, HasEquation, IsChangedEdge, IsChangedLife, IsReachable, List, Node, None, Option, Ready, Record, Sizes, Some, State, Thread, ap, arith, at_number, at_number-suc, compensation_in, cond, count_by, false, funding_of, get_or, inl, inr, length, length-map, lend_of, live_of, node_value, not, numbers, option_and_then, option_any, option_map, range_with_len, ready_threads, refl, slice_get, slice_get_cases, slice_get_within, status_of, suc, sum-filter, sum-le_from, sum-nothing, sum-plus, sum-same, sum_by, sum_by-append, sym, thread-share, thread_wins, total_weight, true, value_of, weighed_of, weight_inside, weight_of, weight_outside, worth_in, zero, ℕ, ◌+◌, ◌<◌, ◌∙◌, ◌≡◌, ◌≢◌, ◌≤◌, ◌⊎◌}
use Rattle.lot_machine.specs.declared.funding.Node.TheVariants.{Mutex}
use Rattle.lot_machine.specs.Lottery.{weight}
use Rattle.lot_machine.specs.State.{is_ready}
use Rattle.lot_machine.proofs.Common.{sum-map}
use Rattle.lot_laws.proofs.Enclosed.{outside-kept}
use Rattle.lot_laws.proofs.KeptValues.{live-told, weighed, weighed-told}
use Rattle.lot_laws.proofs.StaysInside.{well-formed}
use Rattle.lot_laws.proofs.WinsInside.{range-append}

-- ---- a relation

swap : {A B : Type 0} → A ⊎ B → B ⊎ A
swap (inl a) = inr a
swap (inr b) = inl b

module _ (c : ℕ) (inside : Node → Bool) where
  pub itself : (s : State) → Encloses (funding_of s) c inside → DifferInside s s c inside
  itself s encloses = record {
    change = record {
      enclosed_before = encloses;
      enclosed_after = encloses;
      edges = λ from to changed. no-edge from to changed;
      lives = λ t changed. no-life t changed;
    };
    active = (λ some. some, λ some. some);
    limits = refl;
    records = λ t out. refl;
  }
    where
      no-edge : (from to : Node) → IsChangedEdge (funding_of s) (funding_of s) from to → inside to ≡ true
      no-edge from to (inl (edge, weight, is, gone)) = absurd (gone is)
      no-edge from to (inr (edge, weight, is, gone)) = absurd (gone is)

      no-life : (t : ℕ) → IsChangedLife (live_of s) (live_of s) t → inside (Thread t) ≡ true
      no-life t (inl (is, gone)) = absurd (gone is)
      no-life t (inr (is, gone)) = absurd (gone is)

  pub turned : (s u : State) → DifferInside s u c inside → DifferInside u s c inside
  turned s u is = record {
    change = record {
      enclosed_before = is.change.enclosed_after;
      enclosed_after = is.change.enclosed_before;
      edges = λ from to changed. is.change.edges from to (swap changed);
      lives = λ t changed. is.change.lives t (swap changed);
    };
    active = (is.active.1, is.active.0);
    limits = sym is.limits;
    records = λ t out. sym (is.records t out);
  }

  pub joined : (s u v : State) → DifferInside s u c inside → DifferInside u v c inside → DifferInside s v c inside
  joined s u v one two = record {
    change = record {
      enclosed_before = one.change.enclosed_before;
      enclosed_after = two.change.enclosed_after;
      edges = edges;
      lives = lives;
    };
    active = (λ some. two.active.0 (one.active.0 some), λ some. one.active.1 (two.active.1 some));
    limits = two.limits ∙ one.limits;
    records = λ t out. two.records t out ∙ one.records t out;
  }
    where
      edges : (from to : Node) → IsChangedEdge (funding_of s) (funding_of v) from to → inside to ≡ true
      edges from to (inl (edge, weight, is, gone)) = by (weighed-told (weighed_of (funding_of u) edge) from to weight)
        where
          by : (weighed_of (funding_of u) edge ≡ weighed from to weight)
              ⊎ (weighed_of (funding_of u) edge ≢ weighed from to weight) → inside to ≡ true
          by (inl there) = two.change.edges from to (inl (edge, weight, there, gone))
          by (inr not_there) = one.change.edges from to (inl (edge, weight, is, not_there))
      edges from to (inr (edge, weight, is, new)) = by (weighed-told (weighed_of (funding_of u) edge) from to weight)
        where
          by : (weighed_of (funding_of u) edge ≡ weighed from to weight)
              ⊎ (weighed_of (funding_of u) edge ≢ weighed from to weight) → inside to ≡ true
          by (inl there) = one.change.edges from to (inr (edge, weight, there, new))
          by (inr not_there) = two.change.edges from to (inr (edge, weight, is, not_there))

      lives : (t : ℕ) → IsChangedLife (live_of s) (live_of v) t → inside (Thread t) ≡ true
      lives t (inl (is, gone)) = by (live-told (at_number (live_of u) t))
        where
          by : (at_number (live_of u) t ≡ Some true) ⊎ (at_number (live_of u) t ≢ Some true)
              → inside (Thread t) ≡ true
          by (inl there) = two.change.lives t (inl (there, gone))
          by (inr not_there) = one.change.lives t (inl (is, not_there))
      lives t (inr (is, new)) = by (live-told (at_number (live_of u) t))
        where
          by : (at_number (live_of u) t ≡ Some true) ⊎ (at_number (live_of u) t ≢ Some true)
              → inside (Thread t) ≡ true
          by (inl there) = one.change.lives t (inr (there, new))
          by (inr not_there) = two.change.lives t (inr (is, not_there))

-- ---- threads

-- a record's number
record-there : (records : List Record) (t : ℕ) (r : Record) → at_number records t ≡ Some r
    → (0 < t) × (t ≤ length records)
record-there records zero r at = cc
record-there records (suc i) r at =
    (omega arith, omega (arith, slice_get_within records i r (sym (at_number-suc records i) ∙ at)))

-- the record with this number
there-record : (records : List Record) (t : ℕ) → 0 < t → t ≤ length records
    → (r : Record) × (at_number records t ≡ Some r)
there-record records zero some within = absurd (omega (arith, some))
there-record records (suc i) some within = by (slice_get records i) refl
  where
    by : (o : Option Record) → slice_get records i ≡ o → (r : Record) × (at_number records (suc i) ≡ Some r)
    by (Some r) is = (r, at_number-suc records i ∙ is)
    by None is = absurd (past (slice_get_cases records i).1)
      where
        past : ((x : Record) × (i < length records) × (slice_get records i ≡ Some x) × (get_or records i x ≡ x))
            ⊎ ((length records ≤ i) × (slice_get records i ≡ None)) → ⊥
        past (inl (x, below, at, same)) = let never : None ≡ Some x = sym is ∙ at in cc
        past (inr (above, at)) = omega (arith, above, within)

-- no record past the last
past-none : (records : List Record) (t : ℕ) → length records < t → at_number records t ≡ None
past-none records t past = by (at_number records t) refl
  where
    by : (o : Option Record) → at_number records t ≡ o → o ≡ None
    by None at = refl
    by (Some r) at = absurd (omega (arith, past, record-there records t r at))

-- ---- what the states agree on

-- a sum of nothing
sum-zero : (g : ℕ → ℕ) (a n : ℕ) → ((t : ℕ) → a ≤ t → g t ≡ 0) → sum_by g (range_with_len a n) ≡ 0
sum-zero g a n none =
    let le = sum-le_from g (λ t. 0) a n (λ t low. omega (arith, none t low)) in
    omega (arith, le, sum-nothing (range_with_len a n))

inside-none : (a b : Bool) (w : ℕ) → b ≡ true → cond a (cond (not b) w 0) 0 ≡ 0
inside-none true true w is = refl
inside-none false true w is = refl
inside-none a false w is = cc

module _ (s u : State) (c : ℕ) (inside : Node → Bool) (reachable : IsReachable s) (reachable_too : IsReachable u)
    (is : DifferInside s u c inside) where
  has-too : (node : Node) → inside node ≡ false → HasEquation (funding_of s) node → HasEquation (funding_of u) node
  has-too (Currency d) out has = has
  has-too (Mutex m) out has = has
  has-too (Thread t) out has =
      let (r, at) = there-record s.records t has.0
      (omega (arith, has.1, length-map s.records (λ (r : Record). lend_of s.limits r.status))) in
      let there = record-there u.records t r (is.records t out ∙ at) in
      (there.0, omega (arith, there.1, length-map u.records (λ (r : Record). lend_of u.limits r.status)))

  pub same-values : (node : Node) → inside node ≡ false → HasEquation (funding_of s) node
      → worth_in u node ≡ worth_in s node
  same-values node out has =
      let well = well-formed s reachable in
      let well_too = well-formed u reachable_too in
      ap (λ (l : Sizes). node_value l.unit (funding_of u) (live_of u) node) is.limits
      ∙ sym (outside-kept (funding_of s) (funding_of u) well.no_cycle well.funds_there well_too.no_cycle
      well_too.funds_there well.amounts well_too.amounts well.no_base well_too.no_base s.limits.unit (live_of s)
      (live_of u) c inside is.change is.active.0 is.active.1 node out has (has-too node out has))

  pub same-weights : (t : ℕ) → inside (Thread t) ≡ false → HasEquation (funding_of s) (Thread t)
      → weight_of u t ≡ weight_of s t
  same-weights t out has =
      ap (λ v. weight v (compensation_in u t) u.limits.quantum) (same-values (Thread t) out has)
      ∙ ap (λ o. weight (value_of s t) (option_and_then (λ (r : Record). r.compensation) o) u.limits.quantum)
      (is.records t out)
      ∙ ap (λ (l : Sizes). weight (value_of s t) (compensation_in s t) l.quantum) is.limits

  -- what a thread adds to the weight outside
  term : State → ℕ → ℕ
  term x t = cond (option_any is_ready (status_of x.records t)) (cond (not (inside (Thread t))) (weight_of x t) 0) 0

  -- over these threads, and more numbers
  spread : (x : State) (more : ℕ)
      → weight_outside x inside ≡ sum_by (term x) (range_with_len 1 (length x.records + more))
  unfolding term
  spread x more =
      let here = sum-filter (weight_of x) (λ t. not (inside (Thread t))) (ready_threads x.records)
      ∙ sum-filter (λ t. cond (not (inside (Thread t))) (weight_of x t) 0)
      (λ t. option_any is_ready (status_of x.records t)) (numbers x.records) in
      let parts = ap (sum_by (term x)) (range-append 1 (length x.records) more)
      ∙ sum_by-append (term x) (numbers x.records) (range_with_len (1 + length x.records) more) in
      let rest =
      sum-zero (term x) (1 + length x.records) more (λ t low. none t (past-none x.records t (omega (arith, low)))) in
      omega (arith, here, parts, rest)
    where
      none : (t : ℕ) → at_number x.records t ≡ None → term x t ≡ 0
      none t at = ap (λ (o : Option Record). cond (option_any is_ready (option_map (λ (r : Record). r.status) o))
          (cond (not (inside (Thread t))) (weight_of x t) 0) 0) at

  same-term : (t : ℕ) → term u t ≡ term s t
  unfolding term
  same-term t = by (inside (Thread t)) refl
    where
      by : (b : Bool) → inside (Thread t) ≡ b → term u t ≡ term s t
      by true is_in =
          inside-none (option_any is_ready (status_of u.records t)) (inside (Thread t)) (weight_of u t) is_in
          ∙ sym (inside-none (option_any is_ready (status_of s.records t)) (inside (Thread t)) (weight_of s t) is_in)
      by false out =
          ap (λ (o : Option Record). cond (option_any is_ready (option_map (λ (r : Record). r.status) o))
          (cond (not (inside (Thread t))) (weight_of u t) 0) 0) (is.records t out)
          ∙ at (at_number s.records t) refl
        where
          at : (o : Option Record) → at_number s.records t ≡ o
              → cond (option_any is_ready (option_map (λ (r : Record). r.status) (at_number s.records t)))
              (cond (not (inside (Thread t))) (weight_of u t) 0) 0 ≡ term s t
          at None none = ap (λ (o : Option Record). cond (option_any is_ready (option_map (λ (r : Record). r.status) o))
              (cond (not (inside (Thread t))) (weight_of u t) 0) 0) none
              ∙ sym (ap (λ (o : Option Record). cond (option_any is_ready (option_map (λ (r : Record). r.status) o))
              (cond (not (inside (Thread t))) (weight_of s t) 0) 0) none)
          at (Some r) there =
              let has = record-there s.records t r there in
              ap (λ w. cond (option_any is_ready (status_of s.records t)) (cond (not (inside (Thread t))) w 0) 0)
              (same-weights t out
              (has.0, omega (arith, has.1, length-map s.records (λ (r : Record). lend_of s.limits r.status))))

  pub same-total : weight_outside u inside ≡ weight_outside s inside
  same-total =
      let order : length u.records + length s.records ≡ length s.records + length u.records = omega arith in
      spread u (length s.records) ∙ ap (λ n. sum_by (term u) (range_with_len 1 n)) order
      ∙ sum-same (term u) (term s) (range_with_len 1 (length s.records + length u.records)) same-term
      ∙ sym (spread s (length u.records))

  pub agrees : AgreeOutside s u inside
  agrees = record { values = same-values; weights = same-weights; total = same-total }

  -- a thread outside wins with as many numbers
  pub same-wins : (p t : ℕ) → inside (Thread t) ≡ false → status_of s.records t ≡ Some Ready
      → count_by (thread_wins u p t) (range_with_len 0 (total_weight u))
      ≡ count_by (thread_wins s p t) (range_with_len 0 (total_weight s))
  same-wins p t out ready =
      thread-share u p t (ap (option_map (λ (r : Record). r.status)) (is.records t out) ∙ ready)
      ∙ by (at_number s.records t) refl ∙ sym (thread-share s p t ready)
    where
      by : (o : Option Record) → at_number s.records t ≡ o → weight_of u t ≡ weight_of s t
      by None none =
          let never : None ≡ Some Ready = sym (ap (option_map (λ (r : Record). r.status)) none) ∙ ready in cc
      by (Some r) there =
          let has = record-there s.records t r there in
          same-weights t out
          (has.0, omega (arith, has.1, length-map s.records (λ (r : Record). lend_of s.limits r.status)))

-- ---- totals

-- a draw's total is the weight outside and the weight inside
pub total-parts : (s : State) (inside : Node → Bool) → total_weight s ≡ weight_outside s inside + weight_inside s inside
total-parts s inside =
    let us = ready_threads s.records in
    let out = sum-filter (weight_of s) (λ t. not (inside (Thread t))) us in
    let is_in = sum-filter (weight_of s) (λ t. inside (Thread t)) us in
    let split = sum-same (weight_of s)
    (λ t. cond (not (inside (Thread t))) (weight_of s t) 0 + cond (inside (Thread t)) (weight_of s t) 0) us
    (λ t. either (inside (Thread t)) (weight_of s t))
    ∙ sum-plus (λ t. cond (not (inside (Thread t))) (weight_of s t) 0)
    (λ t. cond (inside (Thread t)) (weight_of s t) 0) us in
    omega (arith, sum-map (weight_of s) us, out, is_in, split)
  where
    either : (b : Bool) (w : ℕ) → w ≡ cond (not b) w 0 + cond b w 0
    either true w = omega arith
    either false w = omega arith

pub same-totals : (s u : State) (c : ℕ) (inside : Node → Bool) → IsReachable s → IsReachable u
    → DifferInside s u c inside → weight_inside u inside ≡ weight_inside s inside → total_weight u ≡ total_weight s
same-totals s u c inside reachable reachable_too is same = omega
    (arith, total-parts s inside, total-parts u inside, same-total s u c inside reachable reachable_too is, same)
