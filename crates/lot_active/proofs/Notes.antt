-- Each step preserves the invariants while a change spreads.
use Rattle.lot_active.proofs.Common.{AddsUp, Adjusts, Bool, Contains, Contains-append_left, Contains-append_right, Contains-push_cases, Crossing, EdgePlaces, HasMoved, Held, In, IsFree, IsListed, IsNet, IsSized, List, MayMove, Net, NodeLists, Noted, NotesChange, Reaches, Settles, Some, Spreading, amount_at, amount_from, ap, arith, awake_at, cases_eq, cases_lt, cond, contains-nothing, eq-eqb, false, get_or-set_other, get_or-set_same, held_at, inl, inr, le-ltb, length, lt-ltb, moved, nat_lt, ne_eqb, nodes_of, not, on_at, refl, set_at, subst, sym, true, zero, ℕ, [], ◌++◌, ◌<◌, ◌||◌, ◌∙◌, ◌∷◌, ◌≡◌, ◌⊎◌}
use Rattle.lot_active.proofs.Sums.{amount-more, amount-else, amount-fits}
use Rattle.lot_active.proofs.Lists.{Place, listed-place, free-or-listed}

-- ---- small facts

pub not-either : (b on : Bool) → ¬ (b ≡ on) → b ≡ not on
not-either true true off = absurd (off refl)
not-either true false off = refl
not-either false true off = refl
not-either false false off = absurd (off refl)

pub not-both : (b on : Bool) → b ≡ on → b ≡ not on → ⊥
not-both true true a b = cc
not-both true false a b = cc
not-both false true a b = cc
not-both false false a b = cc

moved-strictly : (on : Bool) (x a : ℕ) → 0 < a → MayMove on x a → HasMoved on x (moved on x a)
moved-strictly true x a some may = omega (arith, some)
moved-strictly false x a some may = omega (arith, some, may)

moved-on : (on : Bool) (x y z : ℕ) → HasMoved on x y → HasMoved on y z → HasMoved on x z
moved-on true x y z a b = omega (arith, a, b)
moved-on false x y z a b = omega (arith, a, b)

-- a mark only ever moves in one direction
one-way : (on w : Bool) (x y : ℕ) → HasMoved on x y → ¬ ((w || nat_lt 0 x) ≡ (w || nat_lt 0 y))
    → ((w || nat_lt 0 x) ≡ not on) × ((w || nat_lt 0 y) ≡ on)
one-way on true x y way off = absurd (off refl)
one-way true false x y way off = elim (cases_lt 0 x) [
  | inl some ↦ absurd (off (lt-ltb 0 x some ∙ sym (lt-ltb 0 y (omega (arith, way, some)))))
  | inr none ↦ (le-ltb 0 x none, lt-ltb 0 y (omega (arith, way)))
]
one-way false false x y way off = elim (cases_lt 0 y) [
  | inl some ↦ absurd (off (lt-ltb 0 x (omega (arith, way, some)) ∙ sym (lt-ltb 0 y some)))
  | inr none ↦ (lt-ltb 0 x (omega (arith, way)), le-ltb 0 y none)
]

pub set-at-here : (f : ℕ → Bool) (k : ℕ) (b : Bool) (n : ℕ) → n ≡ k → set_at f k b n ≡ b
set-at-here f k b n same = ap (λ t. cond t b (f n)) (eq-eqb n k same)

pub set-at-else : (f : ℕ → Bool) (k : ℕ) (b : Bool) (n : ℕ) → ¬ (n ≡ k) → set_at f k b n ≡ f n
set-at-else f k b n off = ap (λ t. cond t b (f n)) (ne_eqb n k off)

-- ---- what an adjustment does to each node

module _ (old new : Held) (n amount : ℕ) (on : Bool) (adjusts : Adjusts old new n amount on) where
  pub adjust-else : (m : ℕ) → ¬ (m ≡ n) → held_at new m ≡ held_at old m
  adjust-else m off = ap (λ (xs : List ℕ). amount_at xs m) adjusts.amounts
      ∙ get_or-set_other old.amounts n m (moved on (held_at old n) amount) 0 off

  pub adjust-here : n < length old.amounts → held_at new n ≡ moved on (held_at old n) amount
  adjust-here low = ap (λ (xs : List ℕ). amount_at xs n) adjusts.amounts
      ∙ get_or-set_same old.amounts n (moved on (held_at old n) amount) 0 low

  mark-else : (m : ℕ) → ¬ (m ≡ n) → on_at new m ≡ on_at old m
  mark-else m off = ap (λ (w : List Bool). awake_at w m || nat_lt 0 (held_at new m)) adjusts.awake
      ∙ ap (λ x. awake_at old.awake m || nat_lt 0 x) (adjust-else m off)

  module _ (g : Net) (seed : ℕ) (was : Held) (published : ℕ → Bool) (noted : Noted g seed on was old published)
      (sized : IsSized old) (low : n < length old.amounts) (some : 0 < amount) (may : MayMove on (held_at old n) amount)
      (reaches : Reaches g n seed) where
    moves : HasMoved on (held_at old n) (held_at new n)
    moves =
        subst (HasMoved on (held_at old n)) (sym (adjust-here low)) (moved-strictly on (held_at old n) amount some may)

    -- the mark changes
    change : ¬ (on_at old n ≡ on_at new n) → (on_at old n ≡ not on) × (on_at new n ≡ on)
    change off =
        let same : on_at new n ≡ (awake_at old.awake n || nat_lt 0 (held_at new n)) =
        ap (λ (w : List Bool). awake_at w n || nat_lt 0 (held_at new n)) adjusts.awake in
        let r = one-way on (awake_at old.awake n) (held_at old n) (held_at new n) moves (λ is. off (is ∙ sym same)) in
        (r.0, same ∙ r.1)

    -- it wasn't changed before
    not-yet : ¬ (on_at old n ≡ on_at new n) → (¬ In old.lists 0 n) × (¬ In old.lists 1 n) × (on_at was n ≡ not on)
    not-yet off = ((λ there. not-both (on_at old n) on (noted.pending n there).1 before), (λ there. not-both (on_at old n) on (noted.switched n there).0 before), first (free-or-listed old.lists n sized.lists))
      where
        before : on_at old n ≡ not on
        before = (change off).0

        at : Place old.lists n → on_at was n ≡ not on
        at (inl there) = absurd (not-both (on_at old n) on (noted.pending n there).1 before)
        at (inr (inl there)) = absurd (not-both (on_at old n) on (noted.switched n there).0 before)
        at (inr (inr there)) = sym (noted.adjusted n there).1 ∙ before

        first : IsFree old.lists n ⊎ IsListed old.lists n → on_at was n ≡ not on
        first (inl free) = sym (noted.free n free).1 ∙ before
        first (inr listed) = at (listed-place old.lists n sized.lists listed)

    -- nothing happens to the list of those switched
    pub adjust-switched : nodes_of new.lists 1 ≡ nodes_of old.lists 1
    adjust-switched = by adjusts.lists
      where
        by : NotesChange old.lists new.lists n (on_at old n) (on_at new n) → nodes_of new.lists 1 ≡ nodes_of old.lists 1
        by (inl (off, relists)) = relists.same 1 (λ is. absurd (omega (arith, is))) (not-yet off).1
        by (inr (inl (same, free, relists))) = relists.same 1 (λ is. absurd (omega (arith, is))) (free 1)
        by (inr (inr (same, listed, is))) = ap (λ (v : NodeLists). nodes_of v 1) is

    pub noted-adjust : Noted g seed on was new published
    noted-adjust = by adjusts.lists
      where
        by : NotesChange old.lists new.lists n (on_at old n) (on_at new n) → Noted g seed on was new published
        by (inl (off, relists)) = record {
          pending = λ m there. elim (cases_eq m n) [
            | inl same ↦ subst (λ k. (published k ≡ not on) × (on_at new k ≡ on) × (on_at was k ≡ not on)) (sym same)
                (noted.agrees n (not-yet off).0 ∙ (change off).0, (change off).1, (not-yet off).2)
            | inr apart ↦ let r = noted.pending m (relists.back 0 m apart there) in (r.0, mark-else m apart ∙ r.1, r.2)
          ];
          agrees = λ m none. elim (cases_eq m n) [
            | inl same ↦ absurd (none (subst (In new.lists 0) (sym same) relists.here))
            | inr apart ↦ noted.agrees m (λ there. none (relists.kept 0 m apart there)) ∙ sym (mark-else m apart)
          ];
          switched = λ m there. elim (cases_eq m n) [
            | inl same ↦ let no = relists.only 1 (subst (In new.lists 1) same there) in absurd (omega (arith, no))
            | inr apart ↦ let r = noted.switched m (relists.back 1 m apart there) in (mark-else m apart ∙ r.0, r.1)
          ];
          adjusted = λ m there. elim (cases_eq m n) [
            | inl same ↦ let no = relists.only 2 (subst (In new.lists 2) same there) in absurd (omega (arith, no))
            | inr apart ↦ let r = noted.adjusted m (relists.back 2 m apart there) in
                (subst (HasMoved on (held_at was m)) (sym (adjust-else m apart)) r.0, mark-else m apart ∙ r.1)
          ];
          free = λ m none. elim (cases_eq m n) [
            | inl same ↦ absurd (none 0 (subst (In new.lists 0) (sym same) relists.here))
            | inr apart ↦ let r = noted.free m (λ list there. none list (relists.kept list m apart there)) in
                (adjust-else m apart ∙ r.0, mark-else m apart ∙ r.1)
          ];
          upstream = λ list m there. elim (cases_eq m n) [
            | inl same ↦ subst (λ k. Reaches g k seed) (sym same) reaches
            | inr apart ↦ noted.upstream list m (relists.back list m apart there)
          ];
        }
        by (inr (inl (same_mark, free, relists))) = record {
          pending = λ m there. elim (cases_eq m n) [
            | inl same ↦ let no = relists.only 0 (subst (In new.lists 0) same there) in absurd (omega (arith, no))
            | inr apart ↦ let r = noted.pending m (relists.back 0 m apart there) in (r.0, mark-else m apart ∙ r.1, r.2)
          ];
          agrees = λ m none. elim (cases_eq m n) [
            | inl same ↦ subst (λ k. published k ≡ on_at new k) (sym same) (noted.agrees n (free 0) ∙ same_mark)
            | inr apart ↦ noted.agrees m (λ there. none (relists.kept 0 m apart there)) ∙ sym (mark-else m apart)
          ];
          switched = λ m there. elim (cases_eq m n) [
            | inl same ↦ let no = relists.only 1 (subst (In new.lists 1) same there) in absurd (omega (arith, no))
            | inr apart ↦ let r = noted.switched m (relists.back 1 m apart there) in (mark-else m apart ∙ r.0, r.1)
          ];
          adjusted = λ m there. elim (cases_eq m n) [
            | inl same ↦
                subst (λ k. HasMoved on (held_at was k) (held_at new k) × (on_at new k ≡ on_at was k)) (sym same)
                (subst (λ x. HasMoved on x (held_at new n)) (noted.free n free).0 moves, sym same_mark ∙ (noted.free n free).1)
            | inr apart ↦ let r = noted.adjusted m (relists.back 2 m apart there) in
                (subst (HasMoved on (held_at was m)) (sym (adjust-else m apart)) r.0, mark-else m apart ∙ r.1)
          ];
          free = λ m none. elim (cases_eq m n) [
            | inl same ↦ absurd (none 2 (subst (In new.lists 2) (sym same) relists.here))
            | inr apart ↦ let r = noted.free m (λ list there. none list (relists.kept list m apart there)) in
                (adjust-else m apart ∙ r.0, mark-else m apart ∙ r.1)
          ];
          upstream = λ list m there. elim (cases_eq m n) [
            | inl same ↦ subst (λ k. Reaches g k seed) (sym same) reaches
            | inr apart ↦ noted.upstream list m (relists.back list m apart there)
          ];
        }
        by (inr (inr (same_mark, listed, is))) = record {
          pending = λ m there. let r = noted.pending m (before 0 m there) in (r.0, mark m ∙ r.1, r.2);
          agrees = λ m none. noted.agrees m (λ there. none (after 0 m there)) ∙ sym (mark m);
          switched = λ m there. let r = noted.switched m (before 1 m there) in (mark m ∙ r.0, r.1);
          adjusted = λ m there. let r = noted.adjusted m (before 2 m there) in elim (cases_eq m n) [
            | inl same ↦ (subst (λ k. HasMoved on (held_at was k) (held_at new k)) (sym same) (moved-on on (held_at was n) (held_at old n) (held_at new n) (subst (λ k. HasMoved on (held_at was k) (held_at old k)) same r.0) moves), mark m ∙ r.1)
            | inr apart ↦ (subst (HasMoved on (held_at was m)) (sym (adjust-else m apart)) r.0, mark m ∙ r.1)
          ];
          free = λ m none. elim (cases_eq m n) [
            | inl same ↦ absurd
                (none listed.list (after listed.list m (subst (In old.lists listed.list) (sym same) listed.contains)))
            | inr apart ↦ let r = noted.free m (λ list there. none list (after list m there)) in
                (adjust-else m apart ∙ r.0, mark m ∙ r.1)
          ];
          upstream = λ list m there. noted.upstream list m (before list m there);
        }
          where
            before : (list m : ℕ) → In new.lists list m → In old.lists list m
            before list m there = subst (λ (v : NodeLists). In v list m) is there

            after : (list m : ℕ) → In old.lists list m → In new.lists list m
            after list m there = subst (λ (v : NodeLists). In v list m) (sym is) there

            mark : (m : ℕ) → on_at new m ≡ on_at old m
            mark m = elim (cases_eq m n) [
              | inl same ↦ ap (on_at new) same ∙ sym same_mark ∙ ap (on_at old) (sym same)
              | inr apart ↦ mark-else m apart
            ]

-- ---- sums

module _ (g : Net) (net : IsNet g) (counted : ℕ → Bool) (e : ℕ) (a : EdgePlaces) (is : g.places e ≡ Some a) where
  -- there is room for one edge more, and enough for one edge less
  pub may-count : (on : Bool) (x : ℕ) → counted e ≡ not on → x ≡ amount_from g counted a.from → MayMove on x a.amount
  may-count true x off at =
      let more = amount-more g counted (set_at counted e true) e a net is off (set-at-here counted e true e refl)
      (λ k apart. set-at-else counted e true k apart) in
      omega (arith, amount-fits g (set_at counted e true) a.from net, more, at)
  may-count false x on at =
      let more = amount-more g (set_at counted e false) counted e a net is (set-at-here counted e false e refl) on
      (λ k apart. sym (set-at-else counted e false k apart)) in
      omega (arith, more, at)

  count-here : (on : Bool) (x : ℕ) → counted e ≡ not on → x ≡ amount_from g counted a.from
      → moved on x a.amount ≡ amount_from g (set_at counted e on) a.from
  count-here true x off at =
      let more = amount-more g counted (set_at counted e true) e a net is off (set-at-here counted e true e refl)
      (λ k apart. set-at-else counted e true k apart) in
      omega (arith, more, at)
  count-here false x on at =
      let more = amount-more g (set_at counted e false) counted e a net is (set-at-here counted e false e refl) on
      (λ k apart. sym (set-at-else counted e false k apart)) in
      omega (arith, more, at)

  pub adds-adjust : (on : Bool) (old new : Held) → AddsUp g old counted → counted e ≡ not on
      → Adjusts old new a.from a.amount on → a.from < length old.amounts → AddsUp g new (set_at counted e on)
  adds-adjust on old new adds left adjusts low m = elim (cases_eq m a.from) [
    | inl same ↦ subst (λ k. held_at new k ≡ amount_from g (set_at counted e on) k) (sym same)
        (adjust-here old new a.from a.amount on adjusts low ∙ count-here on (held_at old a.from) left (adds a.from))
    | inr apart ↦ adjust-else old new a.from a.amount on adjusts m apart ∙ adds m ∙ sym (amount-else g counted
        (set_at counted e on) e a is (λ k off. set-at-else counted e on k off) m (λ back. apart (sym back)))
  ]

-- ---- from node to node

-- the next pending node is taken
pub crossing-start : (g : Net) (seed : ℕ) (on : Bool) (was old new : Held) (x : ℕ) → Spreading g seed on was old
    → Settles old new x → Crossing g seed on was new x []
crossing-start g seed on was old new x spreading settles = record {
  published = set_at spreading.published x on;
  counted = spreading.counted;
  noted = record {
    pending = λ m there. elim (cases_eq m x) [
      | inl same ↦ let no = settles.relists.only 0 (subst (In new.lists 0) same there) in absurd (omega (arith, no))
      | inr apart ↦ let r = spreading.noted.pending m (settles.relists.back 0 m apart there) in
          (set-at-else spreading.published x on m apart ∙ r.0, mark m ∙ r.1, r.2)
    ];
    agrees = λ m none. elim (cases_eq m x) [
      | inl same ↦ set-at-here spreading.published x on m same ∙ sym (mark m ∙ ap (on_at old) same ∙ before.1)
      | inr apart ↦ set-at-else spreading.published x on m apart
          ∙ spreading.noted.agrees m (λ there. none (settles.relists.kept 0 m apart there)) ∙ sym (mark m)
    ];
    switched = λ m there. elim (cases_eq m x) [
      | inl same ↦ (mark m ∙ ap (on_at old) same ∙ before.1, ap (on_at was) same ∙ before.2)
      | inr apart ↦ let r = spreading.noted.switched m (settles.relists.back 1 m apart there) in (mark m ∙ r.0, r.1)
    ];
    adjusted = λ m there. elim (cases_eq m x) [
      | inl same ↦ let no = settles.relists.only 2 (subst (In new.lists 2) same there) in absurd (omega (arith, no))
      | inr apart ↦ let r = spreading.noted.adjusted m (settles.relists.back 2 m apart there) in
          (subst (HasMoved on (held_at was m)) (sym (amount m)) r.0, mark m ∙ r.1)
    ];
    free = λ m none. elim (cases_eq m x) [
      | inl same ↦ absurd (none 1 (subst (In new.lists 1) (sym same) settles.relists.here))
      | inr apart ↦ let r = spreading.noted.free m
          (λ list there. none list (settles.relists.kept list m apart there)) in (amount m ∙ r.0, mark m ∙ r.1)
    ];
    upstream = λ list m there. elim (cases_eq m x) [
      | inl same ↦ subst (λ k. Reaches g k seed) (sym same) (spreading.noted.upstream 0 x settles.was)
      | inr apart ↦ spreading.noted.upstream list m (settles.relists.back list m apart there)
    ];
  };
  adds_up = λ m. amount m ∙ spreading.adds_up m;
  here = set-at-here spreading.published x on x refl;
  reaches = spreading.noted.upstream 0 x settles.was;
  counted_done = λ e a is there. absurd (contains-nothing e there);
  counted_left = λ e a is to none. spreading.follows e a is ∙ ap spreading.published to ∙ before.0;
  counted_else = λ e a is off. spreading.follows e a is ∙ sym (set-at-else spreading.published x on a.to off);
}
  where
    before : (spreading.published x ≡ not on) × (on_at old x ≡ on) × (on_at was x ≡ not on)
    before = spreading.noted.pending x settles.was

    amount : (m : ℕ) → held_at new m ≡ held_at old m
    amount m = ap (λ (xs : List ℕ). amount_at xs m) settles.amounts

    mark : (m : ℕ) → on_at new m ≡ on_at old m
    mark m = ap (λ (w : List Bool). awake_at w m || nat_lt 0 (held_at new m)) settles.awake
        ∙ ap (λ y. awake_at old.awake m || nat_lt 0 y) (amount m)

module _ (g : Net) (net : IsNet g) (seed : ℕ) (on : Bool) (was old : Held) (x : ℕ) (done : List ℕ)
    (crossing : Crossing g seed on was old x done) (e : ℕ) (a : EdgePlaces) (is : g.places e ≡ Some a) (to : a.to ≡ x)
    (left : ¬ Contains done e) where
  pub crossing-may : MayMove on (held_at old a.from) a.amount
  crossing-may = may-count g net crossing.counted e a is on (held_at old a.from) (crossing.counted_left e a is to left)
      (crossing.adds_up a.from)

  step-reaches : Reaches g a.from seed
  step-reaches = (x ∷ crossing.reaches.0, ((e, a, is, refl, to), crossing.reaches.1))

  pub crossing-switched : (new : Held) → IsSized old → a.from < length old.amounts → Adjusts old new a.from a.amount on
      → nodes_of new.lists 1 ≡ nodes_of old.lists 1
  crossing-switched new sized low adjusts = adjust-switched old new a.from a.amount on adjusts g seed was
      crossing.published crossing.noted sized low (net.some e a is) crossing-may step-reaches

  pub crossing-step : (new : Held) → IsSized old → a.from < length old.amounts → Adjusts old new a.from a.amount on
      → Crossing g seed on was new x (done ++ e ∷ [])
  crossing-step new sized low adjusts = record {
    published = crossing.published;
    counted = set_at crossing.counted e on;
    noted = noted-adjust old new a.from a.amount on adjusts g seed was crossing.published crossing.noted sized low
        (net.some e a is) crossing-may step-reaches;
    adds_up = adds-adjust g net crossing.counted e a is on old new crossing.adds_up
        (crossing.counted_left e a is to left) adjusts low;
    here = crossing.here;
    reaches = crossing.reaches;
    counted_done = λ k b at there. elim (cases_eq k e) [
      | inl same ↦ set-at-here crossing.counted e on k same
      | inr apart ↦ set-at-else crossing.counted e on k apart
          ∙ crossing.counted_done k b at (earlier k apart (Contains-push_cases done e k there))
    ];
    counted_left = λ k b at here none. elim (cases_eq k e) [
      | inl same ↦ absurd (none (subst (Contains (done ++ e ∷ [])) (sym same)
          (Contains-append_right done (e ∷ []) e (zero, omega arith, refl))))
      | inr apart ↦ set-at-else crossing.counted e on k apart
          ∙ crossing.counted_left k b at here (λ there. none (Contains-append_left done (e ∷ []) k there))
    ];
    counted_else = λ k b at off. elim (cases_eq k e) [
      | inl same ↦ absurd (off (let b_is : b ≡ a = other k b same at in ap (λ (y : EdgePlaces). y.to) b_is ∙ to))
      | inr apart ↦ set-at-else crossing.counted e on k apart ∙ crossing.counted_else k b at off
    ];
  }
    where
      earlier : (k : ℕ) → ¬ (k ≡ e) → Contains done k ⊎ (e ≡ k) → Contains done k
      earlier k apart (inl before) = before
      earlier k apart (inr same) = absurd (apart (sym same))

      other : (k : ℕ) (b : EdgePlaces) → k ≡ e → g.places k ≡ Some b → b ≡ a
      other k b same at = let both : Some b ≡ Some a = sym at ∙ ap g.places same ∙ is in cc

-- all edges into the node are counted by its mark
pub crossing-end : (g : Net) (seed : ℕ) (on : Bool) (was now : Held) (x : ℕ) (done : List ℕ)
    → Crossing g seed on was now x done → ((e : ℕ) (a : EdgePlaces) → g.places e ≡ Some a → a.to ≡ x → Contains done e)
    → Spreading g seed on was now
crossing-end g seed on was now x done crossing all = record {
  published = crossing.published;
  counted = crossing.counted;
  noted = crossing.noted;
  adds_up = crossing.adds_up;
  follows = λ e a is. elim (cases_eq a.to x) [
    | inl same ↦ crossing.counted_done e a is (all e a is same) ∙ sym (ap crossing.published same ∙ crossing.here)
    | inr off ↦ crossing.counted_else e a is off
  ];
}
