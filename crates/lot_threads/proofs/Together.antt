-- The invariants of the threads after a change of one record.
use Rattle.lot_threads.proofs.Common.{All, All-set, AreOf, AreReady, AreRunners, AreWeights, Bool, CanLend, CompetesIn, Competitor, Funding, IsBetween, IsStale, IsThread, IsTimely, IsTouched, Known, Lend, LimitedFunding, List, MakesStale, Node, None, Option, PathLeads, Queued, Record, Running, Sizes, Some, Thread, Valued, ap, arith, at_number, at_number-suc, cases_eq, competes-more, competes-none, competitor_at, competitor_of, inl, inr, is_live_status, lend_of, lends_in, length, length-map, length-set, map-set, number-set, number-set_same, number-some, option_and_then, option_flatten, option_map, queue-set, refl, replicate, runner_at, set_number, slice_get, status_of, subst, suc, sym, weights-follow, with_lends, with_runner, without_runner, zero, ℕ, [], ◌-◌, ◌∙◌, ◌≡◌, ◌≤◌, ◌⊎◌}
use Rattle.lot_threads.proofs.Running.{runs-changed}

-- another number has what it had
pub number-other : {A : Type 0} (xs : List A) (n : ℕ) (x : A) (k : ℕ) → 1 ≤ n → ¬ (k ≡ n)
    → at_number (set_number xs n x) k ≡ at_number xs k
number-other xs n x k some other = from (number-set xs n x k)
  where
    from : (at_number (set_number xs n x) k ≡ at_number xs k)
        ⊎ ((k ≡ suc (n - 1)) × (at_number (set_number xs n x) k ≡ Some x))
        → at_number (set_number xs n x) k ≡ at_number xs k
    from (inl same) = same
    from (inr (at, is)) = absurd (other (omega (arith, at, some)))

-- who competes is who is Ready, after one record changes
ready-changed : (records : List Record) (competitors : List (Option Competitor)) (t : ℕ) (next : Record) → 1 ≤ t
    → t ≤ length records → AreReady records competitors
    → AreReady (set_number records t next) (set_number competitors t (competitor_of next))
ready-changed records competitors t next low high ready = record {
  few = omega (arith, ready.few, length-set records (t - 1) next, length-set competitors (t - 1) (competitor_of next));
  each = λ u. by u (cases_eq u t);
}
  where
    by : (u : ℕ) → (u ≡ t) ⊎ (¬ (u ≡ t)) → competitor_at (set_number competitors t (competitor_of next)) u
        ≡ option_and_then competitor_of (at_number (set_number records t next) u)
    by u (inl same) =
        let (was, there) = number-some records t low high in
        let (had, at) = number-some competitors t low (omega (arith, high, ready.few)) in
        rw same (ap option_flatten (number-set_same competitors t (competitor_of next) had at)
        ∙ sym (ap (option_and_then competitor_of) (number-set_same records t next was there)))
    by u (inr other) =
        ap option_flatten (number-other competitors t (competitor_of next) u low other) ∙ ready.each u
        ∙ sym (ap (option_and_then competitor_of) (number-other records t next u low other))

-- After a change of one record all is kept together again.
pub changed-of : {without : Sizes} (v new : Valued) (q then : Queued) (threads : List (Option Thread))
    (records : List Record) (runners : List (Option ℕ)) (t : ℕ) (next : Record)
    → AreOf without v q threads records runners → 1 ≤ t → t ≤ length records → (was : Record)
    → at_number records t ≡ Some was
    → new.now ≡ with_lends v.now (set_number v.now.funding.lends t (lend_of without next.status))
    → new.live ≡ set_number v.live t (is_live_status next.status)
    → new.known ≡ record v.known { stale = new.known.stale }
    → ((node : Node) → IsStale v.known node → IsStale new.known node)
    → then ≡ record q { competitors = set_number q.competitors t (competitor_of next); changed = then.changed }
    → ((c : Known) → AreWeights q c → AreWeights then c)
    → IsTimely q.quantum next
    → ((p used : ℕ) → next.status ≡ Running p used
    → IsBetween 1 (length runners) p × ((u more : ℕ) → status_of records u ≡ Some (Running p more) → u ≡ t))
    → AreOf without new then threads (set_number records t next)
    (with_runner t next.status (without_runner was.status runners))
changed-of {without} v new q then threads records runners t next is low high was there now live known kept set weigh
    timely free = record {
      names = is.names ∙ sym (length-set records (t - 1) next);
      lends = ap (λ (w : LimitedFunding). w.funding.lends) now
          ∙ ap (λ ls. set_number ls t (lend_of without next.status))
          is.lends ∙ sym (map-set (λ (r : Record). lend_of without r.status) records (t - 1) next);
      live = live ∙ ap (λ ls. set_number ls t (is_live_status next.status)) is.live
          ∙ sym (map-set (λ (r : Record). is_live_status r.status) records (t - 1) next);
      ready = subst (AreReady (set_number records t next)) (sym (ap (λ (x : Queued). x.competitors) set))
          (ready-changed records q.competitors t next low high is.ready);
      competes = competes-more then.competitors v new (ap (λ (w : LimitedFunding). w.thread_limit) now) same_count
          (queue-set q then v t (competitor_of next) thread set is.competes);
      weights = weigh new.known (weights-follow q v.known v.known new.known refl known kept is.weights);
      timely = subst (λ n. All (IsTimely n) (set_number records t next)) (sym (ap (λ (x : Queued). x.quantum) set))
          (All-set (IsTimely q.quantum) records (t - 1) next timely is.timely);
      runs = runs-changed records runners t was next there is.runs free;
    }
  where
    count : length v.now.funding.lends ≡ length records
    count = ap (λ (ls : List Lend). length ls) is.lends ∙ length-map records (λ (r : Record). lend_of without r.status)

    thread : IsThread v.now.funding t
    thread = (low, omega (arith, high, count))

    same_count : length v.now.funding.lends ≤ length new.now.funding.lends
    same_count = omega (arith, ap (λ (w : LimitedFunding). length w.funding.lends) now, length-set v.now.funding.lends (t - 1) (lend_of without next.status))

-- a change of the graph that changes neither what is lent nor who is live
pub graph-of : {without : Sizes} (v new : Valued) (q : Queued) (threads : List (Option Thread)) (records : List Record)
    (runners : List (Option ℕ)) → AreOf without v q threads records runners
    → new.now.funding.lends ≡ v.now.funding.lends → new.now.thread_limit ≡ v.now.thread_limit → new.live ≡ v.live
    → new.known ≡ record v.known { stale = new.known.stale }
    → ((node : Node) → IsStale v.known node → IsStale new.known node)
    → AreOf without new q threads records runners
graph-of v new q threads records runners is lends limit live known kept = record {
  names = is.names;
  lends = lends ∙ is.lends;
  live = live ∙ is.live;
  ready = is.ready;
  competes =
      competes-more q.competitors v new limit (omega (arith, ap (λ (ls : List Lend). length ls) lends)) is.competes;
  weights = weights-follow q v.known v.known new.known refl known kept is.weights;
  timely = is.timely;
  runs = is.runs;
}

-- after a draw
pub drawn-of : {without : Sizes} (v new : Valued) (q then : Queued) (threads : List (Option Thread))
    (records : List Record) (runners : List (Option ℕ)) → AreOf without v q threads records runners
    → new.now ≡ v.now → new.live ≡ v.live
    → then ≡ record q { weights = then.weights; changed = []; visits = then.visits } → AreWeights then new.known
    → AreOf without new then threads records runners
drawn-of v new q then threads records runners is now live queue weights = record {
  names = is.names;
  lends = ap (λ (w : LimitedFunding). w.funding.lends) now ∙ is.lends;
  live = live ∙ is.live;
  ready = subst (AreReady records) (sym competitors) is.ready;
  competes = subst (λ (cs : List (Option Competitor)). CompetesIn cs new) (sym competitors)
      (competes-more q.competitors v new (ap (λ (w : LimitedFunding). w.thread_limit) now)
      (omega (arith, ap (λ (w : LimitedFunding). length w.funding.lends) now)) is.competes);
  weights = weights;
  timely = subst (λ n. All (IsTimely n) records) (sym (ap (λ (x : Queued). x.quantum) queue)) is.timely;
  runs = is.runs;
}
  where
    competitors : then.competitors ≡ q.competitors
    competitors = ap (λ (x : Queued). x.competitors) queue

-- the graph is that of the records
pub graph-is : {without : Sizes} (v : Valued) (q : Queued) (threads : List (Option Thread)) (records : List Record)
    (runners : List (Option ℕ)) → AreOf without v q threads records runners
    → v.now ≡ with_lends v.now (lends_in without records)
graph-is v q threads records runners is = ap (with_lends v.now) is.lends

-- what may be lent, by other words for the graph and for the lend
pub lend-same : (f g : Funding) (t : ℕ) (a b : Lend) → f ≡ g → a ≡ b → CanLend f t a → CanLend g t b
lend-same f g t a b graph lend can =
    subst (λ (h : Funding). CanLend h t b) graph (subst (λ (l : Lend). CanLend f t l) lend can)

-- a node is reached from what a change touched
abbrev pub IsReached : Funding → Funding → List Bool → List Bool → Node → Type 0
IsReached f g before after x = (node : Node) × IsTouched f g before after node × PathLeads f g node x

-- what a change made stale, by other words for the graph and for who is live
pub stale-of : (v new : Valued) (w now : LimitedFunding) (before after : List Bool) → v.now ≡ w → new.now ≡ now
    → v.live ≡ before → new.live ≡ after → MakesStale v new → (x : Node) → IsStale new.known x
    → IsStale v.known x ⊎ IsReached w.funding now.funding before after x
stale-of v new w now before after graph then first last makes x is =
    subst (λ (u : LimitedFunding). IsStale v.known x ⊎ IsReached u.funding now.funding before after x) graph
    (subst (λ (u : LimitedFunding). IsStale v.known x ⊎ IsReached v.now.funding u.funding before after x) then
    (subst (λ (l : List Bool). IsStale v.known x ⊎ IsReached v.now.funding new.now.funding before l x) last
    (subst (λ (l : List Bool). IsStale v.known x ⊎ IsReached v.now.funding new.now.funding l new.live x) first
    (makes x is))))

-- ---- at the start

abbrev unready : Option Competitor
unready = None

abbrev nobody : Option ℕ
nobody = None

none-at : (m i : ℕ) → option_flatten (slice_get (replicate m nobody) i) ≡ None
none-at zero i = refl
none-at (suc m) zero = refl
none-at (suc m) (suc i) = none-at m i

none-there : (m p : ℕ) → runner_at (replicate m nobody) p ≡ None
none-there m zero = refl
none-there m (suc i) = ap option_flatten (at_number-suc (replicate m nobody) i) ∙ none-at m i

nobody-runs-yet : (m : ℕ) → AreRunners [] (replicate m nobody)
nobody-runs-yet m = record {
  each = λ p t at. let no : None ≡ Some t = sym (none-there m p) ∙ at in cc;
  all = λ t p used is. by t p used is;
}
  where
    by : (t p used : ℕ) → status_of [] t ≡ Some (Running p used) → runner_at (replicate m nobody) p ≡ Some t
    by zero p used is = cc
    by (suc i) p used is = let no : None ≡ Some (Running p used) =
        sym (ap (option_map (λ (r : Record). r.status)) (at_number-suc [] i)) ∙ is in cc

no-records : (t : ℕ) → option_and_then competitor_of (at_number [] t) ≡ None
no-records zero = refl
no-records (suc i) = ap (option_and_then competitor_of) (at_number-suc [] i)

pub opened-of : {without : Sizes} (v : Valued) (q : Queued) (threads : List (Option Thread)) (records : List Record)
    (runners : List (Option ℕ)) (n m : ℕ)
    → v.now.funding.lends ≡ [] → v.live ≡ [] → v.now.thread_limit ≡ n → q.competitors ≡ replicate n None
    → ((c : Known) → AreWeights q c)
    → threads ≡ [] → records ≡ [] → runners ≡ replicate m nobody → AreOf without v q threads records runners
opened-of v q threads records runners n m lends live limit queue weights no_threads no_records table =
    rw (no_threads, no_records, table) (record {
      names = refl;
      lends = lends;
      live = live;
      ready = record {
        few = omega arith;
        each = λ t. ap (λ (cs : List (Option Competitor)). competitor_at cs t) queue ∙ idle t ∙ sym (no-records t);
      };
      competes = competes-none q.competitors v n queue limit;
      weights = weights v.known;
      timely = λ k d within. absurd (omega (arith, within));
      runs = nobody-runs-yet m;
    })
  where
    idle-at : (k i : ℕ) → option_flatten (slice_get (replicate k unready) i) ≡ None
    idle-at zero i = refl
    idle-at (suc k) zero = refl
    idle-at (suc k) (suc i) = idle-at k i

    idle : (t : ℕ) → competitor_at (replicate n unready) t ≡ None
    idle zero = refl
    idle (suc i) = ap option_flatten (at_number-suc (replicate n unready) i) ∙ idle-at n i

-- what is settled stays the threads'
pub settled-of : {without : Sizes} (v new : Valued) (q then : Queued) (threads : List (Option Thread))
    (records : List Record) (runners : List (Option ℕ))
    → AreOf without v q threads records runners → then ≡ record q { changed = then.changed } → AreWeights then new.known
    → new.now ≡ v.now → new.live ≡ v.live → AreOf without new then threads records runners
settled-of {without} v new q then threads records runners is queue weights now live = record {
  names = is.names;
  lends = subst (λ (w : LimitedFunding). w.funding.lends ≡ lends_in without records) (sym now) is.lends;
  live = live ∙ is.live;
  ready = subst (λ (cs : List (Option Competitor)). AreReady records cs) (sym same) is.ready;
  competes = subst (λ (cs : List (Option Competitor)). CompetesIn cs new) (sym same) (record {
    places = is.competes.places ∙ ap (λ (w : LimitedFunding). w.thread_limit) (sym now);
    there = λ t c at. subst (λ (w : LimitedFunding). IsThread w.funding t) (sym now) (is.competes.there t c at);
  });
  weights = weights;
  timely = subst (λ n. All (IsTimely n) records) (sym (ap (λ (x : Queued). x.quantum) queue)) is.timely;
  runs = is.runs;
}
  where
    same : then.competitors ≡ q.competitors
    same = ap (λ (x : Queued). x.competitors) queue
