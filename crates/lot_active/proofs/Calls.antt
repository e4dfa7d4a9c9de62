-- The start and the end of a call.
use Rattle.lot_active.proofs.Common.{Activity, Adds, AddsUp, Adjusts, AllEmpty, Bool, Changes, Contains, EdgePlaces, HasMoved, HasNoCycle, Held, In, IsFree, IsKept, IsListed, IsNet, IsSized, Layout, List, Net, NodeLists, None, Noted, Option, Reaches, Relists, SetsAwake, Some, Spreading, amount_at, ap, arith, awake_at, cases_eq, contains-nothing, false, get_or-set_other, get_or-set_same, held_at, inl, inr, is_on, leads_to, leads_to_passed, length, length-replicate, nat_lt, nodes_of, not, on_at, part, refl, replicate, set_at, subst, suc, sum_below, sym, true, zero, ℕ, [], ◌+◌, ◌<◌, ◌^◌, ◌||◌, ◌∙◌, ◌≡◌, ◌≤◌, ◌⊎◌}
use Rattle.lot_active.proofs.Sums.{amount-same, amount-added}
use Rattle.lot_active.proofs.Local.{IsLocal, local-kept}
use Rattle.lot_active.proofs.Lists.{Place, listed-place, free-or-listed}
use Rattle.lot_active.proofs.Notes.{not-both, set-at-here, set-at-else, noted-adjust, adds-adjust, may-count}

-- ---- the end

module _ (g : Net) (seed : ℕ) (on : Bool) (was now : Held) (spreading : Spreading g seed on was now)
    (none : nodes_of now.lists 0 ≡ []) (sized : IsSized now) where
  nothing-pending : (n : ℕ) → ¬ In now.lists 0 n
  nothing-pending n there = contains-nothing n (subst (λ (xs : List ℕ). Contains xs n) none there)

  pub end-local : IsLocal g now.awake now.amounts
  end-local n = spreading.adds_up n ∙ amount-same g spreading.counted (leads_to g (on_at now)) (λ e a is.
      spreading.follows e a is ∙ spreading.noted.agrees a.to (nothing-pending a.to)
      ∙ sym (ap (leads_to_passed (on_at now)) is)) n

  place : (n : ℕ) → IsFree now.lists n ⊎ (In now.lists 1 n ⊎ In now.lists 2 n)
  place n = by (free-or-listed now.lists n sized.lists)
    where
      at : Place now.lists n → IsFree now.lists n ⊎ (In now.lists 1 n ⊎ In now.lists 2 n)
      at (inl there) = absurd (nothing-pending n there)
      at (inr other) = inr other

      by : IsFree now.lists n ⊎ IsListed now.lists n → IsFree now.lists n ⊎ (In now.lists 1 n ⊎ In now.lists 2 n)
      by (inl free) = inl free
      by (inr listed) = at (listed-place now.lists n sized.lists listed)

  strictly : (way : Bool) (x y : ℕ) → HasMoved way x y → ¬ (y ≡ x)
  strictly true x y way is = omega (arith, way, is)
  strictly false x y way is = omega (arith, way, is)

  marks-differ : (n : ℕ) → In now.lists 1 n → ¬ (on_at now n ≡ on_at was n)
  marks-differ n there same = let r = spreading.noted.switched n there in not-both (on_at now n) on r.0 (same ∙ r.1)

  pub end-changes : (l m : Layout) (some more : List ℕ) → Changes g seed
      (record { layout = l; awake = was.awake; amounts = was.amounts; switched = some; adjusted = more })
      (record { layout = m; awake = now.awake; amounts = now.amounts; switched = nodes_of now.lists 1; adjusted = nodes_of now.lists 2 })
  end-changes l m some more = record {
    switched = record {
      each = marks-differ;
      all = λ n differ. switched-all n differ (place n);
      once = λ n p other at at'. (sized.consistent.disjoint n 1 p 1 other at at').1;
    };
    adjusted = record {
      each = λ n there. let r = spreading.noted.adjusted n there in
          (strictly on (held_at was n) (held_at now n) r.0, r.1);
      all = λ n (differ, same). adjusted-all n differ same (place n);
      once = λ n p other at at'. (sized.consistent.disjoint n 2 p 2 other at at').1;
    };
    upstream = upstream;
  }
    where
      switched-all : (n : ℕ) → ¬ (on_at now n ≡ on_at was n)
          → IsFree now.lists n ⊎ (In now.lists 1 n ⊎ In now.lists 2 n) → In now.lists 1 n
      switched-all n differ (inl free) = absurd (differ (spreading.noted.free n free).1)
      switched-all n differ (inr (inl there)) = there
      switched-all n differ (inr (inr there)) = absurd (differ (spreading.noted.adjusted n there).1)

      adjusted-all : (n : ℕ) → ¬ (held_at now n ≡ held_at was n) → on_at now n ≡ on_at was n
          → IsFree now.lists n ⊎ (In now.lists 1 n ⊎ In now.lists 2 n) → In now.lists 2 n
      adjusted-all n differ same (inl free) = absurd (differ (spreading.noted.free n free).0)
      adjusted-all n differ same (inr (inl there)) = absurd (marks-differ n there same)
      adjusted-all n differ same (inr (inr there)) = there

      upstream : (n : ℕ) → In now.lists 1 n ⊎ In now.lists 2 n → Reaches g n seed
      upstream n (inl there) = spreading.noted.upstream 1 n there
      upstream n (inr there) = spreading.noted.upstream 2 n there

-- ---- the start

empty-in : (v : NodeLists) → AllEmpty v → (list n : ℕ) → ¬ In v list n
empty-in v empty list n there = contains-nothing n (subst (λ (xs : List ℕ). Contains xs n) (empty list) there)

pub noted-start : (g : Net) (seed : ℕ) (on : Bool) (h : Held) → AllEmpty h.lists → Noted g seed on h h (on_at h)
noted-start g seed on h empty = record {
  pending = λ n there. absurd (empty-in h.lists empty 0 n there);
  agrees = λ n none. refl;
  switched = λ n there. absurd (empty-in h.lists empty 1 n there);
  adjusted = λ n there. absurd (empty-in h.lists empty 2 n there);
  free = λ n none. (refl, refl);
  upstream = λ list n there. absurd (empty-in h.lists empty list n there);
}

follows-marks : (g : Net) (test : ℕ → Bool) (e : ℕ) (a : EdgePlaces) → g.places e ≡ Some a
    → leads_to g test e ≡ test a.to
follows-marks g test e a is = ap (leads_to_passed test) is

-- a node is woken or put to sleep
module _ (g : Net) (on : Bool) (old new : Held) (n : ℕ) (empty : AllEmpty old.lists)
    (local : IsLocal g old.awake old.amounts) (sets : SetsAwake old new n on) (low : n < length old.awake) where
  turn : (w to t : Bool) → ¬ ((w || t) ≡ (to || t)) → ((w || t) ≡ not to) × ((to || t) ≡ to)
  turn true true true differ = absurd (differ refl)
  turn true false true differ = absurd (differ refl)
  turn false true true differ = absurd (differ refl)
  turn false false true differ = absurd (differ refl)
  turn true true false differ = absurd (differ refl)
  turn true false false differ = (refl, refl)
  turn false true false differ = (refl, refl)
  turn false false false differ = absurd (differ refl)

  amount : (m : ℕ) → held_at new m ≡ held_at old m
  amount m = ap (λ (xs : List ℕ). amount_at xs m) sets.amounts

  mark-here : on_at new n ≡ (on || nat_lt 0 (held_at old n))
  mark-here = ap (λ (w : List Bool). awake_at w n || nat_lt 0 (held_at new n)) sets.awake ∙ ap (λ b.
      b || nat_lt 0 (held_at new n)) (get_or-set_same old.awake n on false low) ∙ ap (λ x. on || nat_lt 0 x) (amount n)

  mark-else : (m : ℕ) → ¬ (m ≡ n) → on_at new m ≡ on_at old m
  mark-else m off =
      ap (λ (w : List Bool). awake_at w m || nat_lt 0 (held_at new m)) sets.awake
      ∙ ap (λ b. b || nat_lt 0 (held_at new m)) (get_or-set_other old.awake n m on false off)
      ∙ ap (λ x. awake_at old.awake m || nat_lt 0 x) (amount m)

  change : ¬ (on_at old n ≡ on_at new n) → (on_at old n ≡ not on) × (on_at new n ≡ on)
  change off = let r = turn (awake_at old.awake n) on (nat_lt 0 (held_at old n)) (λ is. off (is ∙ sym mark-here)) in
      (r.0, mark-here ∙ r.1)

  noted-awake : Noted g n on old new (on_at old)
  noted-awake = by sets.lists
    where
      by : (¬ (on_at old n ≡ on_at new n) × Relists old.lists new.lists n 0)
          ⊎ ((on_at old n ≡ on_at new n) × (new.lists ≡ old.lists)) → Noted g n on old new (on_at old)
      by (inl (off, relists)) = record {
        pending = λ m there. elim (cases_eq m n) [
          | inl same ↦ subst (λ k. (on_at old k ≡ not on) × (on_at new k ≡ on) × (on_at old k ≡ not on)) (sym same)
              ((change off).0, (change off).1, (change off).0)
          | inr apart ↦ absurd (empty-in old.lists empty 0 m (relists.back 0 m apart there))
        ];
        agrees = λ m none. elim (cases_eq m n) [
          | inl same ↦ absurd (none (subst (In new.lists 0) (sym same) relists.here))
          | inr apart ↦ sym (mark-else m apart)
        ];
        switched = λ m there. elim (cases_eq m n) [
          | inl same ↦ let no = relists.only 1 (subst (In new.lists 1) same there) in absurd (omega (arith, no))
          | inr apart ↦ absurd (empty-in old.lists empty 1 m (relists.back 1 m apart there))
        ];
        adjusted = λ m there. elim (cases_eq m n) [
          | inl same ↦ let no = relists.only 2 (subst (In new.lists 2) same there) in absurd (omega (arith, no))
          | inr apart ↦ absurd (empty-in old.lists empty 2 m (relists.back 2 m apart there))
        ];
        free = λ m none. elim (cases_eq m n) [
          | inl same ↦ absurd (none 0 (subst (In new.lists 0) (sym same) relists.here))
          | inr apart ↦ (amount m, mark-else m apart)
        ];
        upstream = λ list m there. elim (cases_eq m n) [
          | inl same ↦ ([], same)
          | inr apart ↦ absurd (empty-in old.lists empty list m (relists.back list m apart there))
        ];
      }
      by (inr (same_mark, is)) = record {
        pending = λ m there. absurd (empty-in old.lists empty 0 m (before 0 m there));
        agrees = λ m none. sym (mark m);
        switched = λ m there. absurd (empty-in old.lists empty 1 m (before 1 m there));
        adjusted = λ m there. absurd (empty-in old.lists empty 2 m (before 2 m there));
        free = λ m none. (amount m, mark m);
        upstream = λ list m there. absurd (empty-in old.lists empty list m (before list m there));
      }
        where
          before : (list m : ℕ) → In new.lists list m → In old.lists list m
          before list m there = subst (λ (v : NodeLists). In v list m) is there

          mark : (m : ℕ) → on_at new m ≡ on_at old m
          mark m = elim (cases_eq m n) [
            | inl same ↦ ap (on_at new) same ∙ sym same_mark ∙ ap (on_at old) (sym same)
            | inr apart ↦ mark-else m apart
          ]

  pub awake-spreads : Spreading g n on old new
  awake-spreads = record {
    published = on_at old;
    counted = leads_to g (on_at old);
    noted = noted-awake;
    adds_up = λ m. amount m ∙ local m;
    follows = follows-marks g (on_at old);
  }

-- an edge was added, or taken out: the nets without it and with it
module _ (less more : Net) (e : ℕ) (a : EdgePlaces) (adds : Adds less more e a) (h : Held)
    (empty : AllEmpty h.lists) where
  other-places : (k : ℕ) (b : EdgePlaces) → ¬ (k ≡ e) → less.places k ≡ Some b → more.places k ≡ Some b
  other-places k b off is = adds.others k off ∙ is

  -- if the node that it leads to isn't active, nothing changes
  pub attach-none : IsLocal less h.awake h.amounts → on_at h a.to ≡ false → Spreading more a.from true h h
  attach-none local off = record {
    published = on_at h;
    counted = leads_to less (on_at h);
    noted = noted-start more a.from true h empty;
    adds_up = λ n. local n ∙ sym (amount-added less more (leads_to less (on_at h)) e adds.edges
        (ap (leads_to_passed (on_at h)) adds.none) adds.others n);
    follows = λ k b is. elim (cases_eq k e) [
      | inl same ↦
          let b_is : Some a ≡ Some b = sym adds.here ∙ ap more.places (sym same) ∙ is in
          let same_places : a ≡ b = cc in
          ap (leads_to less (on_at h)) same ∙ ap (leads_to_passed (on_at h)) adds.none
          ∙ sym (sym (ap (λ (y : EdgePlaces). on_at h y.to) same_places) ∙ off)
      | inr apart ↦ follows-marks less (on_at h) k b (sym (adds.others k apart) ∙ is)
    ];
  }

  pub detach-none : IsLocal more h.awake h.amounts → on_at h a.to ≡ false → Spreading less a.from false h h
  detach-none local off = record {
    published = on_at h;
    counted = leads_to more (on_at h);
    noted = noted-start less a.from false h empty;
    adds_up = λ n. local n ∙ amount-added less more (leads_to more (on_at h)) e adds.edges
        (ap (leads_to_passed (on_at h)) adds.here ∙ off) adds.others n;
    follows = λ k b is. elim (cases_eq k e) [
      | inl same ↦ let no : None ≡ Some b = sym adds.none ∙ ap less.places (sym same) ∙ is in cc
      | inr apart ↦ follows-marks more (on_at h) k b (other-places k b apart is)
    ];
  }

  module _ (net : IsNet more) (new : Held) (sized : IsSized h) (low : a.from < length h.amounts)
      (on : on_at h a.to ≡ true) where
    counted-less : leads_to less (on_at h) e ≡ false
    counted-less = ap (leads_to_passed (on_at h)) adds.none

    adds-more : IsLocal less h.awake h.amounts → AddsUp more h (leads_to less (on_at h))
    adds-more local n = local n
        ∙ sym (amount-added less more (leads_to less (on_at h)) e adds.edges counted-less adds.others n)

    counted-more : leads_to more (on_at h) e ≡ true
    counted-more = ap (leads_to_passed (on_at h)) adds.here ∙ on

    pub attach-spreads : IsLocal less h.awake h.amounts → Adjusts h new a.from a.amount true
        → Spreading more a.from true h new
    attach-spreads local adjusts = record {
      published = on_at h;
      counted = set_at (leads_to less (on_at h)) e true;
      noted =
          noted-adjust h new a.from a.amount true adjusts more a.from h (on_at h)
          (noted-start more a.from true h empty) sized low (net.some e a adds.here)
          (may-count more net (leads_to less (on_at h)) e a adds.here true (held_at h a.from) counted-less
          (adds-more local a.from)) ([], refl);
      adds_up = adds-adjust more net (leads_to less (on_at h)) e a adds.here true h new
          (adds-more local) counted-less adjusts low;
      follows = λ k b is. elim (cases_eq k e) [
        | inl same ↦
            let b_is : Some a ≡ Some b = sym adds.here ∙ ap more.places (sym same) ∙ is in
            let same_places : a ≡ b = cc in
            set-at-here (leads_to less (on_at h)) e true k same
            ∙ sym (sym (ap (λ (y : EdgePlaces). on_at h y.to) same_places) ∙ on)
        | inr apart ↦ set-at-else (leads_to less (on_at h)) e true k apart
            ∙ follows-marks less (on_at h) k b (sym (adds.others k apart) ∙ is)
      ];
    }

    pub detach-spreads : IsLocal more h.awake h.amounts → Adjusts h new a.from a.amount false
        → Spreading less a.from false h new
    detach-spreads local adjusts = record {
      published = on_at h;
      counted = set_at (leads_to more (on_at h)) e false;
      noted =
          noted-adjust h new a.from a.amount false adjusts less a.from h (on_at h)
          (noted-start less a.from false h empty) sized low (net.some e a adds.here)
          (may-count more net (leads_to more (on_at h)) e a adds.here false (held_at h a.from) counted-more
          (local a.from)) ([], refl);
      adds_up = λ n.
          adds-adjust more net (leads_to more (on_at h)) e a adds.here false h new local counted-more adjusts low n
          ∙ amount-added less more (set_at (leads_to more (on_at h)) e false) e adds.edges
          (set-at-here (leads_to more (on_at h)) e false e refl) adds.others n;
      follows = λ k b is. elim (cases_eq k e) [
        | inl same ↦ let no : None ≡ Some b = sym adds.none ∙ ap less.places (sym same) ∙ is in cc
        | inr apart ↦ set-at-else (leads_to more (on_at h)) e false k apart
            ∙ follows-marks more (on_at h) k b (other-places k b apart is)
      ];
    }

    pub attach-may : IsLocal less h.awake h.amounts → held_at h a.from + a.amount < 2 ^ 64
    attach-may local = may-count more net (leads_to less (on_at h)) e a adds.here true (held_at h a.from) counted-less
        (adds-more local a.from)

    pub detach-may : IsLocal more h.awake h.amounts → a.amount ≤ held_at h a.from
    detach-may local =
        may-count more net (leads_to more (on_at h)) e a adds.here false (held_at h a.from) counted-more (local a.from)

-- ---- calls

pub local-by : (g : Net) (now : Activity) (h : Held) → h.awake ≡ now.awake → h.amounts ≡ now.amounts
    → IsLocal g now.awake now.amounts → IsLocal g h.awake h.amounts
local-by g now h awake amounts local = subst (λ (xs : List Bool). IsLocal g xs h.amounts) (sym awake)
    (subst (λ (xs : List ℕ). IsLocal g now.awake xs) (sym amounts) local)

module _ (g : Net) (seed : ℕ) (on : Bool) (was new : Held) (spreading : Spreading g seed on was new)
    (none : nodes_of new.lists 0 ≡ []) (sized : IsSized new) where
  pub end-kept : (l : Layout) → IsNet g → HasNoCycle g → length new.amounts ≡ g.nodes
      → IsKept g (record { layout = l; awake = new.awake; amounts = new.amounts; switched = nodes_of new.lists 1; adjusted = nodes_of new.lists 2 })
  end-kept l net no_cycle size =
      local-kept g (record { layout = l; awake = new.awake; amounts = new.amounts; switched = nodes_of new.lists 1; adjusted = nodes_of new.lists 2 })
      net no_cycle (sized.awake ∙ size) size (end-local g seed on was new spreading none sized)

  pub end-changes_from : (l : Layout) (old : Activity) → was.awake ≡ old.awake → was.amounts ≡ old.amounts
      → Changes g seed old (record { layout = l; awake = new.awake; amounts = new.amounts; switched = nodes_of new.lists 1; adjusted = nodes_of new.lists 2 })
  end-changes_from l old awake amounts =
      let end : Activity =
      record { layout = l; awake = new.awake; amounts = new.amounts; switched = nodes_of new.lists 1; adjusted = nodes_of new.lists 2 } in
      subst (λ (xs : List Bool). Changes g seed
      (record { layout = old.layout; awake = xs; amounts = old.amounts; switched = old.switched; adjusted = old.adjusted }) end) awake
      (subst (λ (xs : List ℕ). Changes g seed
      (record { layout = old.layout; awake = was.awake; amounts = xs; switched = old.switched; adjusted = old.adjusted }) end)
      amounts (end-changes g seed on was new spreading none sized old.layout l old.switched old.adjusted))

-- with one edge less it is still a net
pub net-less : (less more : Net) (e : ℕ) (a : EdgePlaces) → Adds less more e a → IsNet more → IsNet less
net-less less more e a adds net = record {
  from = λ k b is. let r = net.from k b (still k b is) in omega (arith, r, adds.nodes);
  to = λ k b is. let r = net.to k b (still k b is) in omega (arith, r, adds.nodes);
  some = λ k b is. net.some k b (still k b is);
  fits = λ k b is. net.fits k b (still k b is);
  within = λ k b is. let r = net.within k b (still k b is) in omega (arith, r, adds.edges);
  numbered = omega (arith, net.numbered, adds.edges);
}
  where
    still : (k : ℕ) (b : EdgePlaces) → less.places k ≡ Some b → more.places k ≡ Some b
    still k b is = elim (cases_eq k e) [
      | inl same ↦ let no : None ≡ Some b = sym adds.none ∙ ap less.places (sym same) ∙ is in cc
      | inr apart ↦ adds.others k apart ∙ is
    ]

-- nobody is awake
pub new-kept : (g : Net) (v : Activity) (n : ℕ) → IsNet g → HasNoCycle g → g.nodes ≡ n → v.awake ≡ replicate n false
    → v.amounts ≡ replicate n 0 → IsKept g v
new-kept g v n net no_cycle nodes awake amounts =
    local-kept g v net no_cycle (ap (length {A = Bool}) awake ∙ length-replicate n false ∙ sym nodes)
    (ap (length {A = ℕ}) amounts ∙ length-replicate n 0 ∙ sym nodes) (λ m.
    nothing m ∙ sym (zero-sum g.edges _ (λ e. by (g.places e) m)))
  where
    asleep : (k m : ℕ) → awake_at (replicate k false) m ≡ false
    asleep zero m = refl
    asleep (suc k) zero = refl
    asleep (suc k) (suc m) = asleep k m

    none : (k m : ℕ) → amount_at (replicate k 0) m ≡ 0
    none zero m = refl
    none (suc k) zero = refl
    none (suc k) (suc m) = none k m

    nothing : (m : ℕ) → amount_at v.amounts m ≡ 0
    nothing m = ap (λ (xs : List ℕ). amount_at xs m) amounts ∙ none n m

    off : (m : ℕ) → is_on v.awake v.amounts m ≡ false
    off m = ap (λ (xs : List Bool). awake_at xs m || nat_lt 0 (amount_at v.amounts m)) awake
        ∙ ap (λ b. b || nat_lt 0 (amount_at v.amounts m)) (asleep n m) ∙ ap (λ x. nat_lt 0 x) (nothing m)

    by : (o : Option EdgePlaces) (m : ℕ) → part o (leads_to_passed (is_on v.awake v.amounts) o) m ≡ 0
    by None m = refl
    by (Some a) m = ap (λ b. part (Some a) b m) (off a.to)

    zero-sum : (m : ℕ) (f : ℕ → ℕ) → ((e : ℕ) → f e ≡ 0) → sum_below m f ≡ 0
    zero-sum zero f each = refl
    zero-sum (suc m) f each = let before = zero-sum m f each in let last = each m in omega (arith, before, last)

pub same-places : (o : Option EdgePlaces) (a b : EdgePlaces) → o ≡ Some a → o ≡ Some b → a ≡ b
same-places o a b is at = let both : Some a ≡ Some b = sym is ∙ at in cc
