-- Graph, activity and values together follow each change.
use Rattle.lot_value.proofs.Common.{Activity, All, AreTogether, AwakeAre, Bool, ChangesNodes, Contains, Currency, Edge, FitsLimits, Follows, Funding, HasEquation, IfSome, IsChangedLife, IsChangedNode, IsEdge, IsKeptFor, IsListed, IsLive, IsNodeWithin, IsPath, IsRight, IsSmall, IsStale, IsThread, IsTouched, IsUnit, IsUser, IsWay, Known, LimitedFunding, List, Mutex, Node, None, OfLender, OfMutex, OfTicket, Option, PathLeads, Reaches, Some, SwitchesNode, Thread, Ticket, Touched, TouchesListed, active-bounded, ap, append-nil, arith, at_number, at_number-suc, awake_at, edges_into, ends_of, ends_of_edge, false, get_or_from_slice_get, inl, inr, into-once, layout_of, lender-ends, length, length-replicate, length-set, live_of, map, mutex-ends, node_count, node_place, numbers, opening_funding, option_flatten, owner_of, range_with_len, refl, replicate, set-same, set_number, slice_get, slice_get-get_or, slice_get_within, slice_index, slice_index_or, slice_set, some-injective, subst, suc, sum_by, switched_nodes, sym, target_node, ticket-ends, ticket_at, true, zero, ℕ, [], ◌++◌, ◌+◌, ◌-◌, ◌<◌, ◌^◌, ◌∙◌, ◌∷◌, ◌≡◌, ◌≤◌, ◌⊎◌}
use Rattle.lot_value.proofs.Listed.{contains-first}
use Rattle.lot_value.proofs.Mapped.{length-mapped}
use Rattle.lot_value.proofs.Nodes.{node-number}
use Rattle.lot_value.proofs.Rightness.{has-not-base, pending-more}
use Rattle.lot_value.proofs.Differing.{same-equation, covers-change}
use Rattle.lot_value.proofs.Touches.{right-less}

-- ---- values stay small

all-fit : (tickets : List (Option Ticket))
    → ((i : ℕ) (t : Ticket) → slice_get tickets i ≡ Some (Some t) → t.amount < 2 ^ 32)
    → All (λ o. IfSome o (λ t. t.amount < 2 ^ 32)) tickets
all-fit tickets fits i o low = by (slice_index_or tickets i o) refl
  where
    by : (x : Option Ticket) → slice_index_or tickets i o ≡ x → IfSome x (λ t. t.amount < 2 ^ 32)
    by None at = tt
    by (Some t) at = fits i t (slice_get-get_or tickets i o low ∙ ap Some at)

-- base's active tickets are worth less than 2 ^ 64
pub stays-small : (unit : ℕ) (w : LimitedFunding) (live : List Bool) → FitsLimits w → w.ticket_limit ≤ 65535
    → IsUnit unit → IsSmall unit w live
stays-small unit w live fits limit is_unit =
    omega (arith, active-bounded w.funding live unit (all-fit w.funding.tickets (λ i t at. (fits.amounts (suc i) t (ap option_flatten (at_number-suc w.funding.tickets i ∙ at))).1)) (omega (arith, fits.tickets, limit)) is_unit)

-- ---- fresh values

fresh-zero : (n k : ℕ) → slice_index (replicate n 0) k ≡ 0
fresh-zero zero k = refl
fresh-zero (suc n) zero = refl
fresh-zero (suc n) (suc k) = fresh-zero n k

nothing-in : {A : Type 0} (xs : List A) → ((x : A) → ¬ Contains xs x) → xs ≡ []
nothing-in [] none = refl
nothing-in (x ∷ xs) none = absurd (none x (contains-first x xs))

-- values that are all 0 are right for a graph without edges
pub fresh-right : (unit : ℕ) (w : LimitedFunding) (live : List Bool)
    → ((edge : Edge) (from to : Node) → ends_of w.funding edge ≡ Some (from, to) → ⊥)
    → IsRight w live (record { unit = unit; layout = layout_of w; values = replicate (node_count (layout_of w)) 0; stale = []; reads = 0 })
fresh-right unit w live none = record {
  layout = refl;
  places = length-replicate (node_count (layout_of w)) 0;
  ends = λ from to edge. absurd (none edge.0 from to edge.1);
  stale = λ node is. absurd (omega (arith, is.1));
  sources = λ from to edge. absurd (none edge.0 from to edge.1);
  values = λ node within is off. fresh-zero (node_count (layout_of w)) (node_place (layout_of w) node)
      ∙ sym (ap (sum_by _) (nothing-in (edges_into w.funding node)
      (λ edge c. let r = (into-once w.funding node).each edge c in none edge r.0 node r.1)));
}

-- ---- who is live

range-map : (f : ℕ → Bool) (xs : List Bool) (a : ℕ) → ((i : ℕ) (b : Bool) → slice_get xs i ≡ Some b → b ≡ f (a + i))
    → xs ≡ map f (range_with_len a (length xs))
range-map f [] a same = refl
range-map f (x ∷ xs) a same =
    ap (λ y. y ∷ xs) (same 0 x refl ∙ ap f (omega arith))
    ∙ ap (λ ys. f a ∷ ys) (range-map f xs (a + 1) (λ i b at. same (suc i) b at ∙ ap f (omega arith)))

index-get : (xs : List Bool) (k : ℕ) → slice_index_or xs k false ≡ true → slice_get xs k ≡ Some true
index-get [] k e = cc
index-get (x ∷ xs) zero e = ap Some e
index-get (x ∷ xs) (suc k) e = index-get xs k e

-- the live threads are those that are awake
pub live-is : (w : LimitedFunding) (v : Activity) (live : List Bool) → FitsLimits w
    → AwakeAre (layout_of w) live v.awake → length live ≡ length w.funding.lends → live ≡ live_of w v
live-is w v live fits are same = range-map (λ t. awake_at v.awake (node_place (layout_of w) (Thread t))) live 1 each
    ∙ ap (λ n. map (λ t. awake_at v.awake (node_place (layout_of w) (Thread t))) (range_with_len 1 n)) same
  where
    each : (i : ℕ) (b : Bool) → slice_get live i ≡ Some b
        → b ≡ awake_at v.awake (node_place (layout_of w) (Thread (1 + i)))
    each i true at =
        let within : IsNodeWithin (layout_of w) (Thread (1 + i)) =
        (omega arith, omega (arith, slice_get_within live i true at, same, fits.lends)) in
        sym (get_or_from_slice_get v.awake (node_place (layout_of w) (Thread (1 + i))) true false
        (are.wakes (1 + i) within (ap (at_number live) (omega arith) ∙ at_number-suc live i ∙ at)))
    each i false at = off (awake_at v.awake (node_place (layout_of w) (Thread (1 + i)))) refl
      where
        off : (b : Bool) → awake_at v.awake (node_place (layout_of w) (Thread (1 + i))) ≡ b → false ≡ b
        off false e = refl
        off true e =
            let (t, place, within, alive) = are.lives (node_place (layout_of w) (Thread (1 + i)))
            (index-get v.awake (node_place (layout_of w) (Thread (1 + i))) e) in
            let t_is : suc i ≡ t = omega (arith, place) in
            let here : at_number live (suc i) ≡ Some true = ap (at_number live) t_is ∙ alive in
            some-injective false true (sym at ∙ sym (at_number-suc live i) ∙ here)

-- ---- a change and its touches

module _ (old new : Activity) (before after : LimitedFunding) (live now : List Bool) (begun : Node) (c known : Known)
    (layout : layout_of after ≡ layout_of before) (was : IsKeptFor old before live) (is : IsKeptFor new after now)
    (changes : ChangesNodes before live after now begun new)
    (right : IsRight before live c)
    (ends : (from to : Node) → IsEdge after.funding from to → HasEquation after.funding to) (there : (node : Node)
    → HasEquation before.funding node → HasEquation after.funding node) (listed : TouchesListed after new known.stale)
    (edges : (edge : Edge) → (ends_of_edge after.funding edge ≡ ends_of_edge before.funding edge)
    ⊎ ((from to : Node) → (ends_of before.funding edge ≡ Some (from, to))
    ⊎ (ends_of after.funding edge ≡ Some (from, to)) → IsStale known to)) where
  -- what is known is right after all touches
  pub right-follows : {IsSuch : Node → Type 0} → Touched after c known IsSuch → IsRight after now known
  right-follows touched =
      let covers =
      covers-change old new before after live now begun known.stale layout was is changes ends listed edges in
      let pending = pending-more before after live now c [] known.stale right (record {
        layout = layout;
        ends = ends;
        there = there;
        same = λ node off.
            same-equation c.unit before.funding after.funding live now known.stale was.sound is.sound covers node off;
      }) in
      right-less after now known (known.stale ++ []) [] (λ x d. inr (subst (λ (xs : List Node). Contains xs x)
      (append-nil known.stale) d)) (touched.right now (known.stale ++ []) pending)

-- ---- what gets stale

way-path : (f g : Funding) (from : Node) (way : List Node) (to : Node) → IsWay g from way to → IsPath f g from way to
way-path f g from [] to same = same
way-path f g from (next ∷ rest) to (first, others) = (inr first, way-path f g next rest to others)

pub reach-path : (f g : Funding) (from to : Node) → Reaches g from to → PathLeads f g from to
reach-path f g from to (way, is) = (way, way-path f g from way to is)

-- what is reached from a listed node is reached from one that the change touched
pub listed-downstream : (before after : LimitedFunding) (live now : List Bool) (begun : Node) (v : Activity)
    → ChangesNodes before live after now begun v → IsChangedNode before.funding after.funding live now begun
    → (node : Node) → IsListed after v node → (x : Node) → Reaches after.funding node x
    → (seed : Node) × IsTouched before.funding after.funding live now seed
    × PathLeads before.funding after.funding seed x
listed-downstream before after live now begun v changes seed node listed x reached = by listed
  where
    funded : (from : Node) → IsUser from → IsEdge after.funding from node → Reaches after.funding from begun
        → (start : Node) × IsTouched before.funding after.funding live now start
        × PathLeads before.funding after.funding start x
    funded from (c, is, user) edge leads = (
      from,
      ((λ base. user (ap node-number (sym is ∙ base))), (begun, reach-path before.funding after.funding from begun leads, seed)),
      (node ∷ reached.0, (inr edge, way-path before.funding after.funding node reached.0 x reached.1)),
    )

    by : IsListed after v node → (start : Node) × IsTouched before.funding after.funding live now start
        × PathLeads before.funding after.funding start x
    by (inl (c, has)) = (node, (has-not-base after.funding node has, (begun, reach-path before.funding after.funding node begun (changes.leads node (inl c)), seed)), reach-path before.funding after.funding node x reached)
    by (inr (inl (from, c, user, edge))) = funded from user edge (changes.leads from (inl c))
    by (inr (inr (from, c, user, edge))) = funded from user edge (changes.leads from (inr c))

-- nothing is listed if nothing changed
pub listed-none : (w : LimitedFunding) (live : List Bool) (begun : Node) (v : Activity)
    → ChangesNodes w live w live begun v → (node : Node) → ¬ IsListed w v node
listed-none w live begun v changes node listed = by listed
  where
    not_switched : (x : Node) → ¬ Contains (switched_nodes w v) x
    not_switched x c = either (changes.switched.each x c).1
      where
        either : SwitchesNode w.funding live w.funding live x → ⊥
        either (inl (on, off)) = off on
        either (inr (on, off)) = off on

    by : IsListed w v node → ⊥
    by (inl (c, has)) = not_switched node c
    by (inr (inl (from, c, user, edge))) = not_switched from c
    by (inr (inr (from, c, user, edge))) = (changes.adjusted.each from c).1.0 refl

-- ---- one thread's life

pub live-length : (w : LimitedFunding) (v : Activity) → length (live_of w v) ≡ length w.funding.lends
live-length w v = length-mapped (λ t. awake_at v.awake (node_place (layout_of w) (Thread t))) (numbers w.funding.lends)
    ∙ length-range 1 (length w.funding.lends)
  where
    length-range : (a n : ℕ) → length (range_with_len a n) ≡ n
    length-range a zero = refl
    length-range a (suc n) = ap suc (length-range (a + 1) n)

set-idle : {A : Type 0} (xs : List A) (i : ℕ) (x : A) → slice_get xs i ≡ Some x → slice_set xs i x ≡ xs
set-idle [] i x at = refl
set-idle (y ∷ ys) zero x at = ap (λ z. z ∷ ys) (sym (some-injective y x at))
set-idle (y ∷ ys) (suc i) x at = ap (λ zs. y ∷ zs) (set-idle ys i x at)

-- a thread that is made live, or not, was so, or it changes
pub set-life : (live : List Bool) (t : ℕ) (b : Bool) → 0 < t → t ≤ length live
    → (set_number live t b ≡ live) ⊎ IsChangedLife live (set_number live t b) t
set-life live zero b some low = absurd (omega (arith, some))
set-life live (suc i) b some low = by (slice_index_or live i false) b refl refl
  where
    at-old : (c : Bool) → slice_index_or live i false ≡ c → slice_get live i ≡ Some c
    at-old c e = slice_get-get_or live i false (omega (arith, low)) ∙ ap Some e

    place : suc i - 1 ≡ i
    place = omega arith

    at-new : (d : Bool) → b ≡ d → at_number (set_number live (suc i) b) (suc i) ≡ Some d
    at-new d e = at_number-suc (set_number live (suc i) b) i ∙ ap (λ k. slice_get (slice_set live k b) i) place
        ∙ set-same live i b (omega (arith, low)) ∙ ap Some e

    same : (c : Bool) → slice_index_or live i false ≡ c → b ≡ c → set_number live (suc i) b ≡ live
    same c e f = ap (λ k. slice_set live k b) place ∙ set-idle live i b (at-old c e ∙ ap Some (sym f))

    apart : Some false ≡ Some true → ⊥
    apart e = let no = some-injective false true e in cc

    by : (c d : Bool) → slice_index_or live i false ≡ c → b ≡ d
        → (set_number live (suc i) b ≡ live) ⊎ IsChangedLife live (set_number live (suc i) b) (suc i)
    by true true e f = inl (same true e f)
    by false false e f = inl (same false e f)
    by true false e f = inr (inl (at_number-suc live i ∙ at-old true e, λ on. apart (sym (at-new false f) ∙ on)))
    by false true e f = inr (inr (at-new true f, λ on. apart (sym (at_number-suc live i ∙ at-old false e) ∙ on)))

pub low : (w : LimitedFunding) (v : Activity) (t : ℕ) → IsThread w.funding t → t ≤ length (live_of w v)
low w v t there = omega (arith, there.1, live-length w v)

module _ (w : LimitedFunding) (v new : Activity) (c known : Known) (t : ℕ) (b : Bool) (there : IsThread w.funding t)
    (together : AreTogether w v c) (kept : IsKeptFor new w (set_number (live_of w v) t b))
    (changes : ChangesNodes w (live_of w v) w (set_number (live_of w v) t b) (Thread t) new)
    (touched : Touched w c known (IsListed w new)) where
  live-set : set_number (live_of w v) t b ≡ live_of w new
  live-set = live-is w new (set_number (live_of w v) t b) kept.fits kept.awake
      (length-set (live_of w v) (t - 1) b ∙ live-length w v)

  together-set : TouchesListed w new known.stale → AreTogether w new known
  together-set listed = record {
    kept = subst (IsKeptFor new w) live-set kept;
    right =
        subst (λ (live : List Bool). IsRight w live known) live-set
        (right-follows v new w w (live_of w v) (set_number (live_of w v) t b) (Thread t) c known refl together.kept kept
        changes together.right together.right.ends (λ node has. has) listed (λ edge. inl refl) touched);
    tickets = together.tickets;
    unit = subst IsUnit (ap (λ (k : Known). k.unit) (sym touched.others)) together.unit;
  }

  stale-set : (x : Node) → IsStale known x → IsStale c x ⊎ ((node : Node) × IsTouched w.funding w.funding (live_of w v)
      (live_of w new) node × PathLeads w.funding w.funding node x)
  stale-set x is = subst (λ (live : List Bool). IsStale c x
      ⊎ ((node : Node) × IsTouched w.funding w.funding (live_of w v) live node × PathLeads w.funding w.funding node x))
      live-set (by (touched.only x is) (set-life (live_of w v) t b there.0 (low w v t there)))
    where
      by : IsStale c x ⊎ ((node : Node) × IsListed w new node × Reaches w.funding node x)
          → (set_number (live_of w v) t b ≡ live_of w v) ⊎ IsChangedLife (live_of w v) (set_number (live_of w v) t b) t
          → IsStale c x ⊎ ((node : Node) × IsTouched w.funding w.funding (live_of w v)
          (set_number (live_of w v) t b) node × PathLeads w.funding w.funding node x)
      by (inl was) life = inl was
      by (inr (node, listed, reached)) (inl same) = absurd (listed-none w (live_of w v) (Thread t) new
          (subst (λ (live : List Bool). ChangesNodes w (live_of w v) w live (Thread t) new) same changes) node listed)
      by (inr (node, listed, reached)) (inr life) = inr (listed-downstream w w (live_of w v)
          (set_number (live_of w v) t b) (Thread t) new changes (inr (t, refl, life)) node listed x reached)

  -- what is kept together follows the thread's life
  pub follows-set : TouchesListed w new known.stale → Follows w w v new c known (set_number (live_of w v) t b)
  follows-set listed = record { together = together-set listed; live = sym live-set; stale = stale-set }

-- ---- the start

nothing-at : {A : Type 0} (n : ℕ) (x : A) → at_number [] n ≡ Some x → ⊥
nothing-at zero x at = cc
nothing-at (suc i) x at = let no = sym (at_number-suc [] i) ∙ at in cc

replicate-get : (m i : ℕ) (o : Option ℕ) → slice_get (replicate m (let none : Option ℕ = None in none)) i ≡ Some o
    → o ≡ None
replicate-get zero i o at = cc
replicate-get (suc m) zero o at = sym (some-injective None o at)
replicate-get (suc m) (suc i) o at = replicate-get m i o at

opening-none : (m : ℕ) (edge : Edge) (from to : Node) → ends_of (opening_funding m) edge ≡ Some (from, to) → ⊥
opening-none m (OfTicket n) from to at = by n (ticket-ends (opening_funding m) n from to at)
  where
    by : (k : ℕ) → (t : Ticket) × (ticket_at (opening_funding m) k ≡ Some t) × (from ≡ Currency t.issuer)
        × (target_node t.target ≡ Some to) → ⊥
    by zero (t, here, first, second) = cc
    by (suc i) (t, here, first, second) = let no = sym (ap option_flatten (at_number-suc [] i)) ∙ here in cc
opening-none m (OfLender t) from to at = let r = lender-ends (opening_funding m) t from to at in nothing-at t r.0 r.1
opening-none m (OfMutex k) from to at = by k (mutex-ends (opening_funding m) k from to at)
  where
    none : (o : Option (Option ℕ)) (owner : ℕ) → ((x : Option ℕ) → o ≡ Some x → x ≡ None)
        → option_flatten o ≡ Some owner → ⊥
    none None owner all e = cc
    none (Some x) owner all e = let no = sym (ap (λ (y : Option ℕ). y) (all x refl)) ∙ e in cc

    by : (j : ℕ) → (owner : ℕ) × (owner_of (opening_funding m) j ≡ Some owner) × (from ≡ Mutex j) × (to ≡ Thread owner)
        → ⊥
    by zero (owner, here, first, second) = cc
    by (suc i) (owner, here, first, second) = none (at_number (opening_funding m).owners (suc i)) owner
        (λ x e. replicate-get m i x (sym (at_number-suc (opening_funding m).owners i) ∙ e)) here

-- what is kept of a graph at its start
pub together-new : (w : LimitedFunding) (v : Activity) (c : Known) (m unit : ℕ) → w.funding ≡ opening_funding m
    → w.ticket_limit ≤ 65535 → IsUnit unit → ((live : List Bool) → ((t : ℕ) → ¬ IsLive live t) → IsKeptFor v w live)
    → c ≡ record { unit = unit; layout = layout_of w; values = replicate (node_count (layout_of w)) 0; stale = []; reads = 0 }
    → AreTogether w v c
together-new w v c m unit start limit is_unit kept known = record {
  kept =
      kept (live_of w v) (λ t alive. nothing-at t true (ap (λ (xs : List Bool). at_number xs t) (sym empty) ∙ alive));
  right = subst (IsRight w (live_of w v)) (sym known) (fresh-right unit w (live_of w v)
      (λ edge from to at. opening-none m edge from to (ap (λ (f : Funding). ends_of f edge) (sym start) ∙ at)));
  tickets = limit;
  unit = subst IsUnit (ap (λ (k : Known). k.unit) (sym known)) is_unit;
}
  where
    empty : live_of w v ≡ []
    empty =
        ap (λ (f : Funding). map (λ t. awake_at v.awake (node_place (layout_of w) (Thread t))) (numbers f.lends)) start
