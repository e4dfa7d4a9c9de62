-- The invariants of the threads after one more is made.
use Rattle.lot_threads.proofs.Common.{All, All-append, All-cons, All-nil, AreOf, AreReady, AreRunners, AreWeights, Bool, Competitor, Edge, Funding, IsLive, IsStale, IsThread, IsTimely, Known, Lend, LimitedFunding, List, MakesStale, Nobody, Node, None, OfLender, OfMutex, OfTicket, Option, Queued, Ready, Record, Running, Sizes, Some, Thread, Valued, ap, arith, at_number, at_number-suc, cases_eq, competes-more, competitor_at, competitor_of, edges-between, false, inl, inr, is_live_status, lend_of, length, length-append, length-map, length-set, lent_weighed, makes-both, map, map-append, newborn, number-push, number-set_same, number-some, option_and_then, option_flatten, option_map, queue-set, refl, runner_at, set-append_seam, set_number, slice_get, slice_set, some-injective, status_of, subst, suc, sym, true, weighed_of, weights-follow, with_lends, zero, ℕ, [], ◌++◌, ◌+◌, ◌-◌, ◌<◌, ◌∙◌, ◌∷◌, ◌≡◌, ◌⊎◌}
use Rattle.lot_threads.proofs.Together.{number-other}

-- ---- lists with one more

number-next : {A : Type 0} (xs : List A) (x : A) → at_number (xs ++ x ∷ []) (length xs + 1) ≡ Some x
number-next {A = A} xs x = let next : length xs + 1 ≡ suc (length xs) = omega arith in
    rw next (at_number-suc (xs ++ x ∷ []) (length xs) ∙ last xs)
  where
    last : (ys : List A) → slice_get (ys ++ x ∷ []) (length ys) ≡ Some x
    last [] = refl
    last (y ∷ ys) = last ys

number-before : {A : Type 0} (xs : List A) (x : A) (k : ℕ) → ¬ (k ≡ length xs + 1)
    → at_number (xs ++ x ∷ []) k ≡ at_number xs k
number-before {A = A} xs x zero other = refl
number-before {A = A} xs x (suc i) other = at_number-suc (xs ++ x ∷ []) i
    ∙ before xs i (λ same. other (omega (arith, same))) ∙ sym (at_number-suc xs i)
  where
    before : (ys : List A) (k : ℕ) → ¬ (k ≡ length ys) → slice_get (ys ++ x ∷ []) k ≡ slice_get ys k
    before [] zero apart = absurd (apart refl)
    before [] (suc k) apart = refl
    before (y ∷ ys) zero apart = refl
    before (y ∷ ys) (suc k) apart = before ys k (λ same. apart (ap suc same))

-- nothing stands after the last
number-past : {A : Type 0} (xs : List A) → at_number xs (length xs + 1) ≡ None
number-past {A = A} xs = let next : length xs + 1 ≡ suc (length xs) = omega arith in
    rw next (at_number-suc xs (length xs) ∙ past xs)
  where
    past : (ys : List A) → slice_get ys (length ys) ≡ None
    past [] = refl
    past (y ∷ ys) = past ys

-- ---- edges and lives

-- a thread that lends to nobody adds no edge
pub newborn-edges : (f : Funding) (edge : Edge)
    → weighed_of (record f { lends = f.lends ++ Nobody ∷ [] }) edge ≡ weighed_of f edge
newborn-edges f (OfTicket n) = refl
newborn-edges f (OfMutex m) = refl
newborn-edges f (OfLender t) = by (cases_eq t (length f.lends + 1))
  where
    by : (t ≡ length f.lends + 1) ⊎ (¬ (t ≡ length f.lends + 1))
        → lent_weighed t (at_number (f.lends ++ Nobody ∷ []) t) ≡ lent_weighed t (at_number f.lends t)
    by (inl same) = rw same (ap (lent_weighed (length f.lends + 1)) (number-next f.lends Nobody)
        ∙ sym (ap (lent_weighed (length f.lends + 1)) (number-past f.lends)))
    by (inr other) = ap (lent_weighed t) (number-before f.lends Nobody t other)

live-added : (live after : List Bool) → ((t : ℕ) → IsLive live t → IsLive (live ++ false ∷ []) t)
    × ((t : ℕ) → IsLive (live ++ false ∷ []) t → IsLive live t)
live-added live after = (kept, only)
  where
    kept : (t : ℕ) → IsLive live t → IsLive (live ++ false ∷ []) t
    kept t is = by (number-push live false t)
      where
        by : (at_number (live ++ false ∷ []) t ≡ at_number live t)
            ⊎ ((at_number live t ≡ None) × (at_number (live ++ false ∷ []) t ≡ Some false))
            → IsLive (live ++ false ∷ []) t
        by (inl same) = same ∙ is
        by (inr (none, last)) = let no : None ≡ Some true = sym none ∙ is in cc

    only : (t : ℕ) → IsLive (live ++ false ∷ []) t → IsLive live t
    only t is = by (number-push live false t)
      where
        by : (at_number (live ++ false ∷ []) t ≡ at_number live t)
            ⊎ ((at_number live t ≡ None) × (at_number (live ++ false ∷ []) t ≡ Some false)) → IsLive live t
        by (inl same) = sym same ∙ is
        by (inr (none, last)) = let no : false ≡ true = some-injective false true (sym last ∙ is) in cc

-- what a thread's making and its waking make stale together
pub made-stale : (v mid new : Valued) → mid.now ≡ with_lends v.now (v.now.funding.lends ++ Nobody ∷ [])
    → mid.live ≡ v.live ++ false ∷ [] → mid.known ≡ v.known → new.now ≡ mid.now → MakesStale mid new → MakesStale v new
made-stale v mid new added live known now makes =
    makes-both v mid new
    (edges-between v.now.funding mid.now.funding new.now.funding
    (λ edge. inl (ap (λ (w : LimitedFunding). weighed_of w.funding edge) added ∙ newborn-edges v.now.funding edge)))
    (record {
      kept =
          λ t before after. subst (λ (l : List Bool). IsLive l t) (sym live) ((live-added v.live new.live).0 t before);
      only = λ t is. inl ((live-added v.live new.live).1 t (subst (λ (l : List Bool). IsLive l t) live is));
    })
    (λ x stale. inl (subst (λ (k : Known). IsStale k x) known stale)) makes

-- ---- all that is kept

ready-added : (records : List Record) (competitors : List (Option Competitor)) (next : Record)
    → length records < length competitors → AreReady records competitors
    → AreReady (records ++ next ∷ []) (set_number competitors (length records + 1) (competitor_of next))
ready-added records competitors next room ready = record {
  few = omega (arith, room, length-append records (next ∷ []), length-set competitors (length records + 1 - 1) (competitor_of next));
  each = λ u. by u (cases_eq u (length records + 1));
}
  where
    by : (u : ℕ) → (u ≡ length records + 1) ⊎ (¬ (u ≡ length records + 1))
        → competitor_at (set_number competitors (length records + 1) (competitor_of next)) u
        ≡ option_and_then competitor_of (at_number (records ++ next ∷ []) u)
    by u (inl same) =
        let (had, at) = number-some competitors (length records + 1) (omega arith) (omega (arith, room)) in
        rw same (ap option_flatten (number-set_same competitors (length records + 1) (competitor_of next) had at)
        ∙ sym (ap (option_and_then competitor_of) (number-next records next)))
    by u (inr other) =
        ap option_flatten (number-other competitors (length records + 1) (competitor_of next) u (omega arith) other)
        ∙ ready.each u ∙ sym (ap (option_and_then competitor_of) (number-before records next u other))

-- a thread that doesn't run isn't in the table
runs-added : (records : List Record) (runners : List (Option ℕ)) → AreRunners records runners
    → AreRunners (records ++ newborn ∷ []) runners
runs-added records runners is = record { each = each; all = all }
  where
    each : (p t : ℕ) → runner_at runners p ≡ Some t
        → (used : ℕ) × (status_of (records ++ newborn ∷ []) t ≡ Some (Running p used))
    each p t at = by (is.each p t at) (cases_eq t (length records + 1))
      where
        by : (used : ℕ) × (status_of records t ≡ Some (Running p used))
            → (t ≡ length records + 1) ⊎ (¬ (t ≡ length records + 1))
            → (used : ℕ) × (status_of (records ++ newborn ∷ []) t ≡ Some (Running p used))
        by (used, runs) (inl same) = let no : None ≡ Some (Running p used) = sym (ap (λ (n : ℕ). status_of records n)
            same ∙ ap (option_map (λ (r : Record). r.status)) (number-past records)) ∙ runs in cc
        by (used, runs) (inr other) =
            (used, ap (option_map (λ (r : Record). r.status)) (number-before records newborn t other) ∙ runs)

    all : (t p used : ℕ) → status_of (records ++ newborn ∷ []) t ≡ Some (Running p used) → runner_at runners p ≡ Some t
    all t p used runs = by (cases_eq t (length records + 1))
      where
        by : (t ≡ length records + 1) ⊎ (¬ (t ≡ length records + 1)) → runner_at runners p ≡ Some t
        by (inl same) = let no : Some Ready ≡ Some (Running p used) =
            sym (ap (λ (n : ℕ). status_of (records ++ newborn ∷ []) n) same
            ∙ ap (option_map (λ (r : Record). r.status)) (number-next records newborn)) ∙ runs in cc
        by (inr other) = is.all t p used
            (sym (ap (option_map (λ (r : Record). r.status)) (number-before records newborn t other)) ∙ runs)

pub added-of : {without : Sizes} (v mid new : Valued) (q then : Queued) (threads : List (Option Thread))
    (records : List Record) (runners : List (Option ℕ)) (thread : Thread) (n : ℕ)
    → AreOf without v q threads records runners → length records < v.now.thread_limit → n ≡ length records + 1
    → mid.now ≡ with_lends v.now (v.now.funding.lends ++ Nobody ∷ []) → mid.live ≡ v.live ++ false ∷ []
    → mid.known ≡ v.known
    → new.now ≡ mid.now → new.live ≡ set_number mid.live n true → new.known
    ≡ record mid.known { stale = new.known.stale } → ((node : Node) → IsStale mid.known node → IsStale new.known node)
    → then ≡ record q { competitors = set_number q.competitors n (competitor_of newborn); changed = then.changed }
    → ((c : Known) → AreWeights q c → AreWeights then c)
    → AreOf without new then (threads ++ Some thread ∷ []) (records ++ newborn ∷ []) runners
added-of {without} v mid new q then threads records runners thread n is room number added live_mid known_mid now live
    known kept set weigh = record {
      names = length-append threads (Some thread ∷ []) ∙ ap (λ k. k + 1) is.names
          ∙ sym (length-append records (newborn ∷ []));
      lends = ap (λ (w : LimitedFunding). w.funding.lends) (now ∙ added) ∙ ap (λ ls. ls ++ Nobody ∷ []) is.lends
          ∙ sym (map-append (λ (r : Record). lend_of without r.status) records (newborn ∷ []));
      live = live ∙ lives ∙ sym (map-append (λ (r : Record). is_live_status r.status) records (newborn ∷ []));
      ready = subst (AreReady (records ++ newborn ∷ [])) (sym
          (ap (λ (x : Queued). x.competitors) set
          ∙ ap (λ k. set_number q.competitors k (competitor_of newborn)) number))
          (ready-added records q.competitors newborn (omega (arith, room, is.competes.places)) is.ready);
      competes = queue-set q then new n (competitor_of newborn) there set (competes-more q.competitors v new
          (ap (λ (w : LimitedFunding). w.thread_limit) (now ∙ added)) (omega (arith, more)) is.competes);
      weights = weigh new.known (weights-follow q v.known mid.known new.known known_mid known kept is.weights);
      timely = subst (λ k. All (IsTimely k) (records ++ newborn ∷ [])) (sym (ap (λ (x : Queued). x.quantum) set))
          (All-append (IsTimely q.quantum) records (newborn ∷ []) is.timely one);
      runs = runs-added records runners is.runs;
    }
  where
    count : length v.now.funding.lends ≡ length records
    count = ap (λ (ls : List Lend). length ls) is.lends ∙ length-map records (λ (r : Record). lend_of without r.status)

    more : length new.now.funding.lends ≡ length v.now.funding.lends + 1
    more = ap (λ (w : LimitedFunding). length w.funding.lends) (now ∙ added)
        ∙ length-append v.now.funding.lends (Nobody ∷ [])

    there : IsThread new.now.funding n
    there = (omega (arith, number), omega (arith, number, more, count))

    size : length v.live ≡ length records
    size = ap (λ (l : List Bool). length l) is.live ∙ length-map records (λ (r : Record). is_live_status r.status)

    place : n - 1 ≡ length v.live
    place = omega (arith, number, size)

    lives : set_number mid.live n true ≡ map (λ (r : Record). is_live_status r.status) records ++ true ∷ []
    lives =
        ap (λ (l : List Bool). set_number l n true) live_mid ∙ ap (λ k. slice_set (v.live ++ false ∷ []) k true) place
        ∙ set-append_seam v.live false [] true ∙ ap (λ (l : List Bool). l ++ true ∷ []) is.live

    one : All (IsTimely q.quantum) (newborn ∷ [])
    one = All-cons (IsTimely q.quantum) newborn [] (tt, tt) (All-nil (IsTimely q.quantum))

-- the number of a thread that was just made
pub number-made : {without : Sizes} (v mid : Valued) (q : Queued) (threads : List (Option Thread))
    (records : List Record) (runners : List (Option ℕ)) (n : ℕ) → AreOf without v q threads records runners
    → mid.now ≡ with_lends v.now (v.now.funding.lends ++ Nobody ∷ []) → n ≡ length mid.now.funding.lends
    → n ≡ length records + 1
number-made {without} v mid q threads records runners n is added count =
    count ∙ ap (λ (w : LimitedFunding). length w.funding.lends) added ∙ length-append v.now.funding.lends (Nobody ∷ [])
    ∙ ap (λ k. k + 1)
    (ap (λ (ls : List Lend). length ls) is.lends ∙ length-map records (λ (r : Record). lend_of without r.status))
