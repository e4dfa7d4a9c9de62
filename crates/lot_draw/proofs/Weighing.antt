-- The weights of threads, which stay right.
use Rattle.lot_draw.proofs.Common.{All, AreWeights, Bool, CompetesIn, Competitor, Contains, Contains-append_left, Contains-append_right, Contains-push_cases, Currency, IfSome, IsNodeWithin, IsSettled, IsStale, IsThread, Known, LimitedFunding, List, Mutex, Node, None, Option, Queued, Settles, Some, Thread, Valued, add-one, ap, arith, at_number, at_number-suc, cases_eq, competitor_at, contains-nothing, drawn_among, false, get_or, get_or-replicate, get_or-set_at, get_or-set_other, inl, inr, is_some, length, length-replicate, length-set, map, node_place, number-set, numbers, option_flatten, range_with_len, refl, remove, replicate, set, set_number, slice_get, slice_get_read, still-left, subst, suc, sum, sum_by-le, sym, thread_value, value_in, weight_among, weight_with, winner, winner_among, zero, ℕ, [], ◌++◌, ◌+◌, ◌-◌, ◌<◌, ◌^◌, ◌↔◌, ◌∙◌, ◌∷◌, ◌≡◌, ◌≤◌, ◌⊎◌}
use Rattle.lot_draw.proofs.Lotteries.{same-winner}

-- ---- sums

-- weights that are light have a sum that fits a tree
pub sum-light : (ws : List ℕ) → length ws ≤ 65535 → All (λ w. w < 2 ^ 96) ws → sum ws < 2 ^ 112
sum-light ws few light = omega (arith, sum_by-le (λ w. w) (2 ^ 96) ws (λ k d low. omega (arith, light k d low)), few)

-- ---- what is listed

pub pushed-contains : (xs ys : List ℕ) (place : ℕ) → ys ≡ xs ++ place ∷ [] → (x : ℕ)
    → Contains ys x ↔ (Contains xs x ⊎ (x ≡ place))
pushed-contains xs ys place is x =
    (λ c. back (Contains-push_cases xs place x (subst (λ (zs : List ℕ). Contains zs x) is c)), λ c. subst (λ (zs : List ℕ). Contains zs x) (sym is) (there c))
  where
    back : Contains xs x ⊎ (place ≡ x) → Contains xs x ⊎ (x ≡ place)
    back (inl c) = inl c
    back (inr same) = inr (sym same)

    there : Contains xs x ⊎ (x ≡ place) → Contains (xs ++ place ∷ []) x
    there (inl c) = Contains-append_left xs (place ∷ []) x c
    there (inr same) = Contains-append_right xs (place ∷ []) x (zero, omega arith, sym same)

-- a list with nothing at the front is empty
pub first-none : (xs : List ℕ) → slice_get xs 0 ≡ None → xs ≡ []
first-none [] none = refl
first-none (x ∷ xs) none = cc

-- ---- weights stay right

-- if one thread competes with something else, and is listed
pub weights-set : (q : Queued) (thread : ℕ) (competitor : Option Competitor) (changed : List ℕ) (c : Known)
    → ((x : ℕ) → Contains q.changed x ⊎ (x ≡ thread - 1) → Contains changed x) → AreWeights q c
    → AreWeights (record q { competitors = set_number q.competitors thread competitor; changed = changed }) c
weights-set q thread competitor changed c listed weights t placed fresh off =
    weights t (placed.0, omega (arith, placed.1, length-set q.competitors (thread - 1) competitor)) fresh (λ there.
    off (listed (t - 1) (inl there))) ∙ ap (λ o. weight_with (value_in c (Thread t)) q.quantum (option_flatten o))
    (sym (by (number-set q.competitors thread competitor t)))
  where
    by : (at_number (set_number q.competitors thread competitor) t ≡ at_number q.competitors t)
        ⊎ ((t ≡ suc (thread - 1)) × (at_number (set_number q.competitors thread competitor) t ≡ Some competitor))
        → at_number (set_number q.competitors thread competitor) t ≡ at_number q.competitors t
    by (inl same) = same
    by (inr (at, is)) = absurd (off (listed (t - 1) (inr (omega (arith, at)))))

-- if more is listed
pub weights-listed : (q : Queued) (changed : List ℕ) (c : Known) → ((x : ℕ) → Contains q.changed x → Contains changed x)
    → AreWeights q c → AreWeights (record q { changed = changed }) c
weights-listed q changed c listed weights t placed fresh off =
    weights t placed fresh (λ there. off (listed (t - 1) there))

-- if more is stale
pub weights-stale : (q : Queued) (c : Known) (stale : List Node)
    → ((node : Node) → IsStale c node → Contains stale node) → AreWeights q c
    → AreWeights q (record c { stale = stale })
weights-stale q c stale kept weights t placed fresh off = weights t placed (λ there. fresh (kept (Thread t) there)) off

-- a thread that is another node has another place
apart : (c : Known) (node : Node) (t : ℕ) → IsNodeWithin c.layout node → t ≤ c.layout.threads → 0 < t
    → ¬ (node ≡ Thread t) → ¬ (node_place c.layout (Thread t) ≡ node_place c.layout node)
apart c (Currency n) t within low above off same = omega (arith, within, same)
apart c (Thread u) t within low above off same = off (ap Thread (omega (arith, same)))
apart c (Mutex m) t within low above off same = omega (arith, within.0, same)

-- if one node is settled, and listed if it is a thread
pub weights-settled : (q : Queued) (changed : List ℕ) (old new : Known) (node : Node)
    → length q.competitors ≡ old.layout.threads → IsNodeWithin old.layout node → Settles old new node
    → ((x : ℕ) → Contains q.changed x → Contains changed x) → ((t : ℕ) → node ≡ Thread t → Contains changed (t - 1))
    → AreWeights q old
    → AreWeights (record q { changed = changed }) new
weights-settled q changed old new node places within settles listed thread weights t placed fresh off =
    weights t placed was_fresh (λ there. off (listed (t - 1) there))
    ∙ ap (λ value. weight_with value q.quantum (competitor_at q.competitors t)) (sym same)
  where
    other : ¬ (node ≡ Thread t)
    other is = off (thread t is)

    was_fresh : ¬ IsStale old (Thread t)
    was_fresh stale = fresh (settles.others (Thread t) (λ is. other (sym is)) stale)

    same : value_in new (Thread t) ≡ value_in old (Thread t)
    same =
        ap (λ l. get_or new.values (node_place l (Thread t)) 0) settles.layout
        ∙ settles.values (node_place old.layout (Thread t))
        (apart old node t within (omega (arith, placed.1, places)) placed.0 other)

-- if the weight of the thread at the front is set, and it is taken from the list
pub weights-weighed : (q : Queued) (c : Known) (place : ℕ) → length q.weights ≡ length q.competitors
    → place < length q.competitors → slice_get q.changed 0 ≡ Some place → AreWeights q c
    → AreWeights (record q { weights = set q.weights place (weight_among q.quantum q.competitors (λ u. value_in c (Thread u)) (place + 1)); changed = remove q.changed 0 }) c
weights-weighed q c place places low first weights t placed fresh off = by (cases_eq (t - 1) place)
  where
    weighs : ℕ → ℕ
    weighs u = weight_among q.quantum q.competitors (λ v. value_in c (Thread v)) u

    by : (t - 1 ≡ place) ⊎ (¬ (t - 1 ≡ place))
        → get_or (set q.weights place (weight_among q.quantum q.competitors (λ u. value_in c (Thread u)) (place + 1)))
        (t - 1) 0 ≡ weight_among q.quantum q.competitors (λ u. value_in c (Thread u)) t
    by (inl at) =
        get_or-set_at q.weights place (t - 1) (weight_among q.quantum q.competitors (λ u. value_in c (Thread u))
        (place + 1)) 0 at (omega (arith, places, low))
        ∙ ap (weight_among q.quantum q.competitors (λ u. value_in c (Thread u))) (omega (arith, at, placed.0))
    by (inr other) =
        get_or-set_other q.weights place (t - 1)
        (weight_among q.quantum q.competitors (λ u. value_in c (Thread u)) (place + 1)) 0 other
        ∙ weights t placed fresh (λ there. off (still-left q.changed 0 place (t - 1) first other there))

abbrev nobody : Option Competitor
nobody = None

-- at first nobody competes, and nothing weighs anything
pub weights-none : (q : Queued) (n : ℕ) → q.competitors ≡ replicate n None → q.weights ≡ replicate n 0 → (c : Known)
    → AreWeights q c
weights-none q n competitors weights c t placed fresh off =
    ap (λ (ws : List ℕ). get_or ws (t - 1) 0) weights ∙ get_or-replicate n (t - 1) 0 0 low
    ∙ ap (weight_with (value_in c (Thread t)) q.quantum)
    (sym (ap (λ (cs : List (Option Competitor)). competitor_at cs t) competitors ∙ idle t placed.0 low))
  where
    low : t - 1 < n
    low = omega (arith, placed, ap (length {A = Option Competitor}) competitors, length-replicate n nobody)

    idle : (u : ℕ) → 0 < u → u - 1 < n → competitor_at (replicate n nobody) u ≡ None
    idle zero above within = refl
    idle (suc i) above within =
        ap option_flatten
        (at_number-suc (replicate n nobody) i
        ∙ slice_get_read (replicate n nobody) n i nobody (sym (length-replicate n nobody)) (omega (arith, within))
        (sym (get_or-replicate n i nobody nobody (omega (arith, within)))))

-- ---- who competes

-- what stands at a place
pub competitor-place : (competitors : List (Option Competitor)) (place : ℕ) (o : Option Competitor)
    → place < length competitors → o ≡ get_or competitors place o → competitor_at competitors (place + 1) ≡ o
competitor-place competitors place o low is = ap (competitor_at competitors) (add-one place) ∙ ap option_flatten
    (at_number-suc competitors place ∙ slice_get_read competitors (length competitors) place o refl low is)

-- who competes is there
pub there-at : (competitors : List (Option Competitor)) (v : Valued) (place : ℕ) (o : Option Competitor)
    → place < length competitors → o ≡ get_or competitors place o → CompetesIn competitors v
    → IfSome o (λ c. IsThread v.now.funding (place + 1))
there-at competitors v place None low is competes = tt
there-at competitors v place (Some c) low is competes =
    competes.there (place + 1) c (competitor-place competitors place (Some c) low is)

-- ---- all weights

list-is : (f : ℕ → ℕ) (ws : List ℕ) (start : ℕ) → ((i : ℕ) → i < length ws → get_or ws i 0 ≡ f (start + i))
    → ws ≡ map f (range_with_len start (length ws))
list-is f [] start is = refl
list-is f (w ∷ ws) start is =
    ap (λ x. x ∷ ws) (is 0 (omega arith) ∙ ap f zero-same) ∙ ap (λ (xs : List ℕ). f start ∷ xs)
    (list-is f ws (start + 1) (λ i low. is (suc i) (omega (arith, low)) ∙ ap f (same i)))
  where
    same : (i : ℕ) → start + suc i ≡ start + 1 + i
    same i = omega arith

    zero-same : start + 0 ≡ start
    zero-same = omega arith

pub weighs-nothing : (value quantum : ℕ) (o : Option Competitor) → is_some o ≡ false → weight_with value quantum o ≡ 0
weighs-nothing value quantum None e = refl
weighs-nothing value quantum (Some c) e = cc

module _ (q : Queued) (v : Valued) (places : length q.weights ≡ length q.competitors)
    (competes : CompetesIn q.competitors v) (settled : IsSettled v) (none : q.changed ≡ [])
    (weights : AreWeights q v.known) where
  abbrev worth : ℕ → ℕ
  worth t = thread_value v.known.unit v.now.funding v.live t

  -- each thread weighs what it is worth, if it competes
  weighs : (t : ℕ) → 0 < t → t ≤ length q.competitors → (o : Option Competitor) → competitor_at q.competitors t ≡ o
      → weight_with (value_in v.known (Thread t)) q.quantum o ≡ weight_with (worth t) q.quantum o
  weighs t above within None e = refl
  weighs t above within (Some c) e =
      ap (λ value. weight_with value q.quantum (Some c))
      (settled.worths t (competes.there t c e) (omega (arith, within, competes.places))
      (λ stale. contains-nothing (Thread t) (subst (λ (xs : List Node). Contains xs (Thread t)) settled.stale stale)))

  at-place : (i : ℕ) → i < length q.weights → get_or q.weights i 0 ≡ weight_among q.quantum q.competitors worth (1 + i)
  at-place i low =
      let place : 1 + i - 1 ≡ i = omega arith in
      let within : 1 + i ≤ length q.competitors = omega arith in
      let above : 0 < 1 + i = omega arith in
      ap (λ k. get_or q.weights k 0) (sym place)
      ∙ weights (1 + i) (above, within) (λ stale.
      contains-nothing (Thread (1 + i)) (subst (λ (xs : List Node). Contains xs (Thread (1 + i))) settled.stale stale))
      (λ c. contains-nothing (1 + i - 1) (subst (λ (xs : List ℕ). Contains xs (1 + i - 1)) none c))
      ∙ weighs (1 + i) above within (competitor_at q.competitors (1 + i)) refl

  pub weights-all : q.weights ≡ map (weight_among q.quantum q.competitors worth) (numbers q.competitors)
  weights-all = list-is (weight_among q.quantum q.competitors worth) q.weights 1 at-place
      ∙ ap (λ n. map (weight_among q.quantum q.competitors worth) (range_with_len 1 n)) places

  -- so a lottery over them all is the draw
  pub draws : (d : ℕ)
      → winner_among (numbers q.competitors) (winner q.weights d) ≡ drawn_among q.quantum q.competitors worth d
  draws d =
      ap (λ (ws : List ℕ). winner_among (numbers q.competitors) (winner ws d)) weights-all
      ∙ same-winner (λ t. is_some (competitor_at q.competitors t)) (weight_among q.quantum q.competitors worth)
      (λ t e. weighs-nothing (worth t) q.quantum (competitor_at q.competitors t) e) (numbers q.competitors) d

-- a draw of the same threads, that are worth the same
pub same-drawn : (quantum other : ℕ) (competitors others : List (Option Competitor)) (v w : Valued) (d : ℕ)
    → quantum ≡ other → competitors ≡ others → v.known.unit ≡ w.known.unit → v.now ≡ w.now → v.live ≡ w.live
    → drawn_among quantum competitors (thread_value v.known.unit v.now.funding v.live) d
    ≡ drawn_among other others (thread_value w.known.unit w.now.funding w.live) d
same-drawn quantum other competitors others v w d quanta same unit now live =
    ap (λ n. drawn_among n competitors (thread_value v.known.unit v.now.funding v.live) d) quanta
    ∙ ap
    (λ (cs : List (Option Competitor)). drawn_among other cs (thread_value v.known.unit v.now.funding v.live) d) same
    ∙ ap (λ n. drawn_among other others (thread_value n v.now.funding v.live) d) unit
    ∙ ap (λ (l : LimitedFunding). drawn_among other others (thread_value w.known.unit l.funding v.live) d) now
    ∙ ap (λ (l : List Bool). drawn_among other others (thread_value w.known.unit w.now.funding l) d) live

-- who competes is there still
pub still-competes : (competitors others : List (Option Competitor)) (v w : Valued) → competitors ≡ others
    → v.now ≡ w.now → CompetesIn competitors v → CompetesIn others w
still-competes competitors others v w same now competes = record {
  places = sym (ap (length {A = Option Competitor}) same) ∙ competes.places
      ∙ ap (λ (l : LimitedFunding). l.thread_limit) now;
  there = λ t c at. subst (λ (l : LimitedFunding). IsThread l.funding t) now
      (competes.there t c (ap (λ (cs : List (Option Competitor)). competitor_at cs t) same ∙ at));
}
