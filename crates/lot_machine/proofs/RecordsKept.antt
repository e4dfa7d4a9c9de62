-- Changes of threads' records after which each processor still has its own thread.
use Rattle.lot_machine.proofs.Common.{After, Asleep, Bool, Dead, Leaves, List, None, Option, Queued, Ready, Receiving, Record, Running, RunsApart, Served, Some, Status, Waiting, ap, arith, at_number, cases_eq, change_record, eq-eqb, eqb-true, false, find, inl, inr, is_some, length, numbers, option_and_then, option_map, placed, range_with_len, refl, set_number, slice_get, slice_get_within, status_of, subst, suc, sym, then_some, thread_on, true, used_by, used_on, zero, ℕ, [], ◌+◌, ◌-◌, ◌<◌, ◌==◌, ◌∙◌, ◌∷◌, ◌≡◌, ◌≤◌, ◌⊎◌}
use Rattle.lot_machine.proofs.Changes.{number-set, number-there}
use Rattle.lot_machine.proofs.Places.{number-placed}
use Rattle.lot_machine.proofs.Tickets.{at_number-suc, some-injective}

-- ---- statuses after a change

-- a thread's status is as before, or it is the thread that changes
pub status-changed : (change : Record → Record) (records : List Record) (t u : ℕ)
    → (status_of (change_record change records t) u ≡ status_of records u)
    ⊎ ((u ≡ t) × ((r : Record) × (at_number records t ≡ Some r)
    × (status_of (change_record change records t) u ≡ Some (change r).status)))
status-changed change records t u = at (at_number records t) refl
  where
    at : (o : Option Record) → at_number records t ≡ o
        → (status_of (change_record change records t) u ≡ status_of records u)
        ⊎ ((u ≡ t) × ((r : Record) × (at_number records t ≡ Some r)
        × (status_of (change_record change records t) u ≡ Some (change r).status)))
    at None is = inl (rw is refl)
    at (Some r) is = from (number-set records t (change r) u)
      where
        now : change_record change records t ≡ set_number records t (change r)
        now = rw is refl

        from : (at_number (set_number records t (change r)) u ≡ at_number records u)
            ⊎ ((u ≡ suc (t - 1)) × (at_number (set_number records t (change r)) u ≡ Some (change r)))
            → (status_of (change_record change records t) u ≡ status_of records u)
            ⊎ ((u ≡ t) × ((r : Record) × (at_number records t ≡ Some r)
            × (status_of (change_record change records t) u ≡ Some (change r).status)))
        from (inl same) = inl (ap (λ rs. status_of rs u) now ∙ ap (option_map (λ (x : Record). x.status)) same)
        from (inr (place, new)) = inr
            (place ∙ number-there records t r is, (r, is, ap (λ rs. status_of rs u) now ∙ ap (option_map (λ (x : Record). x.status)) new))

-- ---- who runs

-- no thread but t runs on processor p
abbrev pub RunsAlone : List Record → ℕ → ℕ → Type 0
RunsAlone records p t = (u used : ℕ) → status_of records u ≡ Some (Running p used) → u ≡ t

-- each processor has its own thread if no two threads have one processor
pub apart : (records : List Record) → ((t u p used more : ℕ) → status_of records t ≡ Some (Running p used)
    → status_of records u ≡ Some (Running p more) → t ≡ u) → RunsApart records
apart records one_thread =
    record { one_processor = λ t p q used more a b. same p q used more (some-injective (Running p used) (Running q more) (sym a ∙ b)); one_thread = one_thread }
  where
    same : (p q used more : ℕ) → Running p used ≡ Running q more → p ≡ q
    same p q used more e = cc

-- a thread that runs has its processor alone
pub runs-alone : (records : List Record) (p t used : ℕ) → RunsApart records
    → status_of records t ≡ Some (Running p used) → RunsAlone records p t
runs-alone records p t used runs is u more e = runs.one_thread u t p more used e is

used_on-some : (p used : ℕ) (status : Status) → used_on p status ≡ Some used → status ≡ Running p used
used_on-some p used Ready e = cc
used_on-some p used (Running q more) e = at (q == p) refl e
  where
    at : (b : Bool) → (q == p) ≡ b → then_some b more ≡ Some used → Running q more ≡ Running p used
    at true same is = let place : q ≡ p = eqb-true q p same in let ticks : more ≡ used = some-injective more used is in
        cc
    at false same is = cc
used_on-some p used (Queued q) e = cc
used_on-some p used (Receiving q) e = cc
used_on-some p used (Served q) e = cc
used_on-some p used (Waiting q) e = cc
used_on-some p used Asleep e = cc
used_on-some p used Dead e = cc

-- who has used ticks on a processor runs there
pub used_by-runs : (records : List Record) (p t used : ℕ) → used_by records p t ≡ Some used
    → status_of records t ≡ Some (Running p used)
used_by-runs records p t used e = at (status_of records t) refl e
  where
    at : (o : Option Status) → status_of records t ≡ o → option_and_then (used_on p) o ≡ Some used
        → status_of records t ≡ Some (Running p used)
    at None is h = cc
    at (Some status) is h = is ∙ ap Some (used_on-some p used status h)

pub runs-used_by : (records : List Record) (p t used : ℕ) → status_of records t ≡ Some (Running p used)
    → used_by records p t ≡ Some used
runs-used_by records p t used e =
    let same : (p == p) ≡ true = eq-eqb p p refl in
    ap (option_and_then (used_on p)) e ∙ ap (λ b. then_some b used) same

-- what a search for the first that passes says
find-none : (test : ℕ → Bool) (a n u : ℕ) → find test (range_with_len a n) ≡ None → a ≤ u → u < a + n → test u ≡ false
find-none test a zero u none low high = absurd (omega (arith, low, high))
find-none test a (suc n) u none low high = at (λ later. find-none test (a + 1) n u later) (test a) refl
  where
    at : (find test (range_with_len (a + 1) n) ≡ None → a + 1 ≤ u → u < a + 1 + n → test u ≡ false) → (b : Bool)
        → test a ≡ b → test u ≡ false
    at later true is = let found : find test (range_with_len a (suc n)) ≡ Some a = rw is refl in cc
    at later false is =
        let rest : find test (range_with_len a (suc n)) ≡ find test (range_with_len (a + 1) n) = rw is refl in
        from (later (sym rest ∙ none)) (cases_eq a u)
      where
        from : (a + 1 ≤ u → u < a + 1 + n → test u ≡ false) → (a ≡ u) ⊎ (a ≡ u → ⊥) → test u ≡ false
        from beyond (inl same) = ap test (sym same) ∙ is
        from beyond (inr other) = beyond (omega (arith, low, other)) (omega (arith, high))

find-some : (test : ℕ → Bool) (xs : List ℕ) (t : ℕ) → find test xs ≡ Some t → test t ≡ true
find-some test [] t e = cc
find-some test (x ∷ xs) t e = at (find-some test xs t) (test x) refl
  where
    at : (find test xs ≡ Some t → test t ≡ true) → (b : Bool) → test x ≡ b → test t ≡ true
    at rest true is =
        let found : find test (x ∷ xs) ≡ Some x = rw is refl in
        let same : x ≡ t = some-injective x t (sym found ∙ e) in ap test (sym same) ∙ is
    at rest false is = let same : find test (x ∷ xs) ≡ find test xs = rw is refl in rest (sym same ∙ e)

-- a thread that has a status is one of the numbered
pub numbered : (records : List Record) (t : ℕ) (status : Status) → status_of records t ≡ Some status
    → (1 ≤ t) × (t < 1 + length records)
numbered records zero status e = cc
numbered records (suc i) status e =
    from (slice_get records i) refl (sym (ap (option_map (λ (r : Record). r.status)) (at_number-suc records i)) ∙ e)
  where
    from : (o : Option Record) → slice_get records i ≡ o → option_map (λ (r : Record). r.status) o ≡ Some status
        → (1 ≤ suc i) × (suc i < 1 + length records)
    from None is h = cc
    from (Some r) is h = (omega arith, omega (arith, slice_get_within records i r is))

-- if nobody is found to run on a processor, nobody does
pub nobody-runs : (records : List Record) (p u used : ℕ) → thread_on records p ≡ None
    → ¬ (status_of records u ≡ Some (Running p used))
nobody-runs records p u used none is =
    let bounds = numbered records u (Running p used) is in
    let fails : is_some (used_by records p u) ≡ false =
    find-none (λ t. is_some (used_by records p t)) 1 (length records) u none bounds.0 bounds.1 in
    let passes : is_some (used_by records p u) ≡ true = ap is_some (runs-used_by records p u used is) in cc

-- who is found on a processor runs there
pub found-runs : (records : List Record) (p t : ℕ) → thread_on records p ≡ Some t
    → (used : ℕ) × (status_of records t ≡ Some (Running p used))
found-runs records p t found =
    at (used_by records p t) refl (find-some (λ u. is_some (used_by records p u)) (numbers records) t found)
  where
    at : (o : Option ℕ) → used_by records p t ≡ o → is_some o ≡ true
        → (used : ℕ) × (status_of records t ≡ Some (Running p used))
    at None is h = cc
    at (Some used) is h = (used, used_by-runs records p t used is)

-- ---- changes

-- a change of one thread, if nobody else has the processor on which it runs then
module _ (change : Record → Record) (records : List Record) (t : ℕ) where
  -- who runs then ran so before, or it is the thread
  ran-before : (u p used : ℕ) → status_of (change_record change records t) u ≡ Some (Running p used)
      → (status_of records u ≡ Some (Running p used))
      ⊎ ((u ≡ t) × ((r : Record) × (at_number records t ≡ Some r) × ((change r).status ≡ Running p used)))
  ran-before u p used e = from (status-changed change records t u)
    where
      from : (status_of (change_record change records t) u ≡ status_of records u) ⊎ ((u ≡ t) × ((r : Record)
          × (at_number records t ≡ Some r) × (status_of (change_record change records t) u ≡ Some (change r).status)))
          → (status_of records u ≡ Some (Running p used))
          ⊎ ((u ≡ t) × ((r : Record) × (at_number records t ≡ Some r) × ((change r).status ≡ Running p used)))
      from (inl same) = inl (sym same ∙ e)
      from (inr (at, (r, there, new))) =
          inr (at, (r, there, some-injective (change r).status (Running p used) (sym new ∙ e)))

  pub RunsApart-changed : ((r : Record) (p used : ℕ) → at_number records t ≡ Some r → (change r).status ≡ Running p used
      → RunsAlone records p t) → RunsApart records → RunsApart (change_record change records t)
  RunsApart-changed alone runs = apart (change_record change records t)
      (λ a b p used more on_a on_b. from a b p used more (ran-before a p used on_a) (ran-before b p more on_b))
    where
      from : (a b p used more : ℕ) → (status_of records a ≡ Some (Running p used))
          ⊎ ((a ≡ t) × ((r : Record) × (at_number records t ≡ Some r) × ((change r).status ≡ Running p used)))
          → (status_of records b ≡ Some (Running p more))
          ⊎ ((b ≡ t) × ((r : Record) × (at_number records t ≡ Some r) × ((change r).status ≡ Running p more))) → a ≡ b
      from a b p used more (inl old_a) (inl old_b) = runs.one_thread a b p used more old_a old_b
      from a b p used more (inl old_a) (inr (is_t, (r, there, new))) = alone r p more there new a used old_a ∙ sym is_t
      from a b p used more (inr (is_t, (r, there, new))) (inl old_b) = is_t
          ∙ sym (alone r p used there new b more old_b)
      from a b p used more (inr (is_t, _)) (inr (is_u, _)) = is_t ∙ sym is_u

  -- to a status that isn't Running
  pub RunsApart-stops : ((r : Record) (p used : ℕ) → ¬ ((change r).status ≡ Running p used)) → RunsApart records
      → RunsApart (change_record change records t)
  RunsApart-stops stops = RunsApart-changed (λ r p used there new. absurd (stops r p used new))

  -- whoever then has a processor alone had it
  pub RunsAlone-stops : (p v : ℕ) → ((r : Record) (q used : ℕ) → ¬ ((change r).status ≡ Running q used))
      → RunsAlone records p v → RunsAlone (change_record change records t) p v
  RunsAlone-stops p v stops alone u used e = from (ran-before u p used e)
    where
      from : (status_of records u ≡ Some (Running p used))
          ⊎ ((u ≡ t) × ((r : Record) × (at_number records t ≡ Some r) × ((change r).status ≡ Running p used))) → u ≡ v
      from (inl old) = alone u used old
      from (inr (at, (r, there, new))) = absurd (stops r p used new)

  -- to Running on a processor that is free
  pub RunsApart-starts : (p used : ℕ) → ((r : Record) → (change r).status ≡ Running p used) → thread_on records p ≡ None
      → RunsApart records → RunsApart (change_record change records t)
  RunsApart-starts p used starts free = RunsApart-changed (λ r q more there new u other is.
      absurd (nobody-runs records p u other free (is ∙ ap Some (same q more r new other))))
    where
      same : (q more : ℕ) (r : Record) → (change r).status ≡ Running q more → (other : ℕ)
          → Running q other ≡ Running p other
      same q more r new other = let e : Running p used ≡ Running q more = sym (starts r) ∙ new in
          let place : p ≡ q = cc in ap (λ x. Running x other) (sym place)

  -- to Running on its processor
  pub RunsApart-goes_on : (p used more : ℕ) → ((r : Record) → (change r).status ≡ Running p more)
      → used_by records p t ≡ Some used → RunsApart records → RunsApart (change_record change records t)
  RunsApart-goes_on p used more goes_on there runs =
      RunsApart-changed (λ r q other here new. from q (place q other r new)) runs
    where
      place : (q other : ℕ) (r : Record) → (change r).status ≡ Running q other → p ≡ q
      place q other r new = let e : Running p more ≡ Running q other = sym (goes_on r) ∙ new in cc

      from : (q : ℕ) → p ≡ q → RunsAlone records q t
      from q same = subst (λ x. RunsAlone records x t) same
          (runs-alone records p t used runs (used_by-runs records p t used there))

-- one thread more, which doesn't run
pub RunsApart-placed : (records : List Record) (free : List ℕ) (r : Record)
    → ((p used : ℕ) → ¬ (r.status ≡ Running p used)) → RunsApart records → RunsApart (placed records free r)
RunsApart-placed records free r idle runs = apart (placed records free r)
    (λ t u p used more on_t on_u. runs.one_thread t u p used more (before t p used on_t) (before u p more on_u))
  where
    before : (t p used : ℕ) → status_of (placed records free r) t ≡ Some (Running p used)
        → status_of records t ≡ Some (Running p used)
    before t p used e = from (number-placed records free r t)
      where
        from : (at_number (placed records free r) t ≡ at_number records t)
            ⊎ (at_number (placed records free r) t ≡ Some r) → status_of records t ≡ Some (Running p used)
        from (inl same) = ap (option_map (λ (x : Record). x.status)) (sym same) ∙ e
        from (inr new) = absurd (idle p used
            (some-injective r.status (Running p used) (sym (ap (option_map (λ (x : Record). x.status)) new) ∙ e)))

-- ---- after a trap

-- a thread that leaves its processor doesn't run
abbrev pub StopsIfLeaves : After → Type 0
StopsIfLeaves (Leaves status) = (p used : ℕ) → ¬ (status ≡ Running p used)
StopsIfLeaves other = Unit {0}
