-- The thread on each processor, after a thread's record changes.
use Rattle.lot_threads.proofs.Common.{AreRunners, Asleep, CanRun, Dead, IsBetween, List, None, Option, Ready, Receiving, Record, Running, Served, Some, Status, Threaded, Waiting, ap, arith, at_number, cases_eq, found-runs, inl, inr, length, length-set, nobody-runs, number-set, number-set_same, number-some, number-there, number-within, option_flatten, option_map, refl, runner_at, runs-used_by, set_number, some-injective, status_of, subst, suc, sym, thread_on, used_by, with_runner, without_runner, ℕ, ◌-◌, ◌∙◌, ◌≡◌, ◌≤◌, ◌⊎◌}
use Rattle.lot_machine.specs.declared.record.Status.TheVariants.{Queued}

-- ---- entries of the table

none-some : (t : ℕ) → ¬ (None ≡ Some t)
none-some t e = cc

-- who runs on one processor runs on no other
running-injective : (q used p more : ℕ) → Running q used ≡ Running p more → q ≡ p
running-injective q used p more e = cc

-- somebody at a processor means that it is there
pub runner-within : (runners : List (Option ℕ)) (p t : ℕ) → runner_at runners p ≡ Some t
    → IsBetween 1 (length runners) p
runner-within runners p t is = from (at_number runners p) refl is
  where
    from : (o : Option (Option ℕ)) → at_number runners p ≡ o → option_flatten o ≡ Some t
        → IsBetween 1 (length runners) p
    from None at e = cc
    from (Some x) at e = number-within runners p x at

-- the entry of another processor stays
runner-other : (runners : List (Option ℕ)) (q : ℕ) (x : Option ℕ) (p : ℕ) → 1 ≤ q → ¬ (q ≡ p)
    → runner_at (set_number runners q x) p ≡ runner_at runners p
runner-other runners q x p some other = from (number-set runners q x p)
  where
    from : (at_number (set_number runners q x) p ≡ at_number runners p)
        ⊎ ((p ≡ suc (q - 1)) × (at_number (set_number runners q x) p ≡ Some x))
        → runner_at (set_number runners q x) p ≡ runner_at runners p
    from (inl same) = ap option_flatten same
    from (inr (at, is)) = absurd (other (omega (arith, at, some)))

-- the entry that is set
runner-same : (runners : List (Option ℕ)) (p : ℕ) (x : Option ℕ) → IsBetween 1 (length runners) p
    → runner_at (set_number runners p x) p ≡ x
runner-same runners p x within = let (y, is) = number-some runners p within.0 within.1 in
    ap option_flatten (number-set_same runners p x y is)

-- a thread with a status is there
status-within : (records : List Record) (t : ℕ) (s : Status) → status_of records t ≡ Some s
    → IsBetween 1 (length records) t
status-within records t s is = from (at_number records t) refl is
  where
    from : (o : Option Record) → at_number records t ≡ o → option_map (λ (r : Record). r.status) o ≡ Some s
        → IsBetween 1 (length records) t
    from None at e = cc
    from (Some r) at e = number-within records t r at

-- ---- a change of one record

module _ (records : List Record) (runners : List (Option ℕ)) (t : ℕ) (was now : Record)
    (there : at_number records t ≡ Some was) (runs : AreRunners records runners)
    (free : (p used : ℕ) → now.status ≡ Running p used
    → IsBetween 1 (length runners) p × ((u more : ℕ) → status_of records u ≡ Some (Running p more) → u ≡ t)) where
  abbrev pub after : List Record
  after = set_number records t now

  abbrev pub left : List (Option ℕ)
  left = without_runner was.status runners

  abbrev pub table : List (Option ℕ)
  table = with_runner t now.status left

  stood : (s : Status) → was.status ≡ s → status_of records t ≡ Some s
  stood s is = ap (option_map (λ (r : Record). r.status)) there ∙ ap Some is

  stands : (s : Status) → now.status ≡ s → status_of after t ≡ Some s
  stands s is = ap (option_map (λ (r : Record). r.status)) (number-set_same records t now was there) ∙ ap Some is

  -- another thread has its status
  other-status : (u : ℕ) → ¬ (u ≡ t) → status_of after u ≡ status_of records u
  other-status u other = from (number-set records t now u)
    where
      from : (at_number after u ≡ at_number records u) ⊎ ((u ≡ suc (t - 1)) × (at_number after u ≡ Some now))
          → status_of after u ≡ status_of records u
      from (inl same) = ap (option_map (λ (r : Record). r.status)) same
      from (inr (at, is)) = absurd (other (at ∙ number-there records t was there))

  length-left : (s : Status) → length (without_runner s runners) ≡ length runners
  length-left (Running p used) = length-set runners (p - 1) None
  length-left Ready = refl
  length-left (Receiving p) = refl
  length-left (Queued p) = refl
  length-left (Served s) = refl
  length-left (Waiting m) = refl
  length-left Asleep = refl
  length-left Dead = refl

  -- another thread's entry stays when the thread leaves
  left-other : (p u : ℕ) → ¬ (u ≡ t) → runner_at runners p ≡ Some u → runner_at left p ≡ Some u
  left-other p u other at = by was.status refl
    where
      by : (s : Status) → was.status ≡ s → runner_at (without_runner s runners) p ≡ Some u
      by (Running q used) is =
          let own : runner_at runners q ≡ Some t = runs.all t q used (stood (Running q used) is) in
          runner-other runners q None p (runner-within runners q t own).0
          (λ same. other (some-injective u t (sym at ∙ ap (runner_at runners) (sym same) ∙ own))) ∙ at
      by Ready is = at
      by (Receiving q) is = at
      by (Queued q) is = at
      by (Served s) is = at
      by (Waiting m) is = at
      by Asleep is = at
      by Dead is = at

  -- an entry after the thread has left was there before, and is another's
  left-was : (p u : ℕ) → runner_at left p ≡ Some u → (runner_at runners p ≡ Some u) × (¬ (u ≡ t))
  left-was p u at = by was.status refl at
    where
      apart : (s : Status) → was.status ≡ s → ((q used : ℕ) → ¬ (s ≡ Running q used)) → runner_at runners p ≡ Some u
          → ¬ (u ≡ t)
      apart s is idle here same =
          let (used, runs_there) = runs.each p u here in
          idle p used
          (some-injective s (Running p used) (sym (stood s is) ∙ ap (status_of records) (sym same) ∙ runs_there))

      by : (s : Status) → was.status ≡ s → runner_at (without_runner s runners) p ≡ Some u
          → (runner_at runners p ≡ Some u) × (¬ (u ≡ t))
      by (Running q used) is e = at_place (cases_eq q p)
        where
          own : runner_at runners q ≡ Some t
          own = runs.all t q used (stood (Running q used) is)

          at_place : (q ≡ p) ⊎ (¬ (q ≡ p)) → (runner_at runners p ≡ Some u) × (¬ (u ≡ t))
          at_place (inl same) = let gone : runner_at (set_number runners q None) p ≡ None =
              ap (runner_at (set_number runners q None)) (sym same)
              ∙ runner-same runners q None (runner-within runners q t own) in absurd (none-some u (sym gone ∙ e))
          at_place (inr other) =
              let here : runner_at runners p ≡ Some u =
              sym (runner-other runners q None p (runner-within runners q t own).0 other) ∙ e in (
                here,
                λ same.
                    let (more, runs_there) = runs.each p u here in
                    let both : Running q used ≡ Running p more = some-injective (Running q used) (Running p more)
                    (sym (stood (Running q used) is) ∙ ap (status_of records) (sym same) ∙ runs_there) in
                    other (running-injective q used p more both),
              )
      by Ready is e = (e, apart Ready is (λ q used same. cc) e)
      by (Receiving q) is e = (e, apart (Receiving q) is (λ q used same. cc) e)
      by (Queued q) is e = (e, apart (Queued q) is (λ q used same. cc) e)
      by (Served s) is e = (e, apart (Served s) is (λ q used same. cc) e)
      by (Waiting m) is e = (e, apart (Waiting m) is (λ q used same. cc) e)
      by Asleep is e = (e, apart Asleep is (λ q used same. cc) e)
      by Dead is e = (e, apart Dead is (λ q used same. cc) e)

  -- another thread's entry stays when the thread enters
  entered-other : (p u more : ℕ) → ¬ (u ≡ t) → status_of records u ≡ Some (Running p more) → runner_at left p ≡ Some u
      → runner_at table p ≡ Some u
  entered-other p u more other runs_there at = by now.status refl
    where
      by : (s : Status) → now.status ≡ s → runner_at (with_runner t s left) p ≡ Some u
      by (Running q used) is = runner-other left q (Some t) p (free q used is).0.0 (λ same. other ((free q used is).1 u
          more (subst (λ x. status_of records u ≡ Some (Running x more)) (sym same) runs_there))) ∙ at
      by Ready is = at
      by (Receiving q) is = at
      by (Queued q) is = at
      by (Served s) is = at
      by (Waiting m) is = at
      by Asleep is = at
      by Dead is = at

  all : (u p used : ℕ) → status_of after u ≡ Some (Running p used) → runner_at table p ≡ Some u
  all u p used is = by (cases_eq u t)
    where
      by : (u ≡ t) ⊎ (¬ (u ≡ t)) → runner_at table p ≡ Some u
      by (inl same) =
          let status : now.status ≡ Running p used = some-injective now.status (Running p used)
          (sym (stands now.status refl) ∙ ap (status_of after) (sym same) ∙ is) in
          let entry : runner_at (with_runner t (Running p used) left) p ≡ Some t = runner-same left p (Some t)
          (subst (λ n. IsBetween 1 n p) (sym (length-left was.status)) (free p used status).0) in
          subst (λ s. runner_at (with_runner t s left) p ≡ Some u) (sym status) (entry ∙ ap Some (sym same))
      by (inr other) =
          let runs_there : status_of records u ≡ Some (Running p used) = sym (other-status u other) ∙ is in
          entered-other p u used other runs_there (left-other p u other (runs.all u p used runs_there))

  each : (p u : ℕ) → runner_at table p ≡ Some u → (used : ℕ) × (status_of after u ≡ Some (Running p used))
  each p u at = by now.status refl at
    where
      old : runner_at left p ≡ Some u → (used : ℕ) × (status_of after u ≡ Some (Running p used))
      old e =
          let (here, other) = left-was p u e in
          let (used, is) = runs.each p u here in
          (used, other-status u other ∙ is)

      by : (s : Status) → now.status ≡ s → runner_at (with_runner t s left) p ≡ Some u
          → (used : ℕ) × (status_of after u ≡ Some (Running p used))
      by (Running q used) is e = at_place (cases_eq q p)
        where
          at_place : (q ≡ p) ⊎ (¬ (q ≡ p)) → (used : ℕ) × (status_of after u ≡ Some (Running p used))
          at_place (inl same) =
              let within = subst (λ n. IsBetween 1 n q) (sym (length-left was.status)) (free q used is).0 in
              let own : t ≡ u = some-injective t u
              (sym (runner-same left q (Some t) within) ∙ ap (runner_at (set_number left q (Some t))) same ∙ e) in
              (used, ap (status_of after) (sym own) ∙ stands (Running q used) is ∙ ap (λ x. Some (Running x used)) same)
          at_place (inr other) = old (sym (runner-other left q (Some t) p (free q used is).0.0 other) ∙ e)
      by Ready is e = old e
      by (Receiving q) is e = old e
      by (Queued q) is e = old e
      by (Served s) is e = old e
      by (Waiting m) is e = old e
      by Asleep is e = old e
      by Dead is e = old e

  -- the table is that of the records again
  pub runs-changed : AreRunners after table
  runs-changed = record { each = each; all = all }

-- ---- what the table says

-- the thread at a processor is the one that runs there
pub runner-runs : (records : List Record) (runners : List (Option ℕ)) (p : ℕ) → AreRunners records runners
    → runner_at runners p ≡ thread_on records p
runner-runs records runners p runs = by (thread_on records p) refl
  where
    idle : (o : Option ℕ) → runner_at runners p ≡ o → thread_on records p ≡ None → runner_at runners p ≡ None
    idle None is none = is
    idle (Some t) is none = let (used, runs_there) = runs.each p t is in
        absurd (nobody-runs records p t used none runs_there)

    by : (o : Option ℕ) → thread_on records p ≡ o → runner_at runners p ≡ o
    by None none = idle (runner_at runners p) refl none
    by (Some t) found = let (used, runs_there) = found-runs records p t found in runs.all t p used runs_there

-- who stands in the table is there, and runs
pub runner-found : (records : List Record) (runners : List (Option ℕ)) (p t : ℕ) → AreRunners records runners
    → Some t ≡ runner_at runners p
    → IsBetween 1 (length records) t × ((used : ℕ) × (status_of records t ≡ Some (Running p used)))
runner-found records runners p t runs at = let (used, is) = runs.each p t (sym at) in
    (status-within records t (Running p used) is, (used, is))

-- what the record of such a thread says
pub found-record : (records : List Record) (p t : ℕ) (r : Record) → at_number records t ≡ Some r
    → (used : ℕ) × (status_of records t ≡ Some (Running p used)) → (used : ℕ) × (r.status ≡ Running p used)
found-record records p t r there (used, is) =
    (used, some-injective r.status (Running p used) (sym (ap (option_map (λ (x : Record). x.status)) there) ∙ is))

-- of two ways to say how it runs
pub same-run : (q used p more : ℕ) → Running q used ≡ Running p more → (q ≡ p) × (used ≡ more)
same-run q used p more e = (cc, cc)

-- how much a thread that runs has used, by its record
pub run-used : (records : List Record) (p t : ℕ) (r : Record) (q used : ℕ) → at_number records t ≡ Some r → r.status
    ≡ Running q used → (more : ℕ) × (status_of records t ≡ Some (Running p more)) → used_by records p t ≡ Some used
run-used records p t r q used there says runs =
    runs-used_by records p t runs.0 runs.1
    ∙ ap Some (some-used (sym (ap (option_map (λ (x : Record). x.status)) there ∙ ap Some says) ∙ runs.1))
  where
    some-used : {a : ℕ} → Some (Running q used) ≡ Some (Running p a) → a ≡ used
    some-used e = sym (same-run q used p _ (some-injective (Running q used) (Running p _) e)).1

-- if a thread is found on a processor, it alone may run there
pub only-runner : (v : Threaded) (records : List Record) (runners : List (Option ℕ)) (p used t found : ℕ)
    (status : Status) → status ≡ Running p used → v.records ≡ records → AreRunners records runners
    → Some found ≡ runner_at runners p → IsBetween 1 v.processors p
    → (found ≡ t → CanRun v t status) × (CanRun v t status → found ≡ t)
only-runner v records runners p used t found status is same runs at within = (forth, back)
  where
    forth : found ≡ t → CanRun v t status
    forth equal = subst (λ (s : Status). CanRun v t s) (sym is)
        (within, λ u more runs_there. some-injective u t (sym (runs.all u p more (subst (λ rs. status_of rs u ≡ Some (Running p more)) same runs_there)) ∙ sym at ∙ ap Some equal))

    back : CanRun v t status → found ≡ t
    back can =
        let (more, runs_there) = runs.each p found (sym at) in
        (subst (λ (s : Status). CanRun v t s) is can).1 found more
        (subst (λ rs. status_of rs found ≡ Some (Running p more)) (sym same) runs_there)
