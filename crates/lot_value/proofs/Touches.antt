-- The effect of several touches.
use Rattle.lot_value.proofs.Common.{Activity, Bool, Contains, Contains-append_right, Contains-push_cases, Currency, Edge, Funding, HasEquation, IsEdge, IsFundedBy, IsListed, IsRightBut, IsStale, IsSwitchedOrFunded, IsUser, Known, LimitedFunding, List, Node, Reaches, Some, Touched, TouchesListed, adjusted_nodes, ap, append-nil, contains-later, ends_of, inl, inr, pair, refl, some-injective, subst, switched_nodes, sym, ℕ, [], ◌++◌, ◌∙◌, ◌∷◌, ◌≡◌, ◌≢◌, ◌⊎◌}
use Rattle.lot_value.proofs.Listed.{contains-first}

-- more may be pending
pub right-more : (w : LimitedFunding) (live : List Bool) (c : Known) (node : Node) (pending : List Node)
    → IsRightBut w live c pending → IsRightBut w live c (node ∷ pending)
right-more w live c node pending right = record {
  layout = right.layout;
  places = right.places;
  ends = right.ends;
  stale = right.stale;
  sources = λ from to edge is off. right.sources from to edge is (λ d. off (contains-later node pending to d));
  values = λ n within is off. right.values n within is (λ d. off (contains-later node pending n d));
}

-- and what is stale needs not be
pub right-less : (w : LimitedFunding) (live : List Bool) (c : Known) (pending others : List Node)
    → ((x : Node) → Contains pending x → Contains others x ⊎ IsStale c x) → IsRightBut w live c pending
    → IsRightBut w live c others
right-less w live c pending others either right = record {
  layout = right.layout;
  places = right.places;
  ends = right.ends;
  stale = right.stale;
  sources = λ from to edge is off. right.sources from to edge is (λ d. by to is off (either to d));
  values = λ n within is off. right.values n within is (λ d. by n is off (either n d));
}
  where
    by : (x : Node) → ¬ IsStale c x → ¬ Contains others x → Contains others x ⊎ IsStale c x → ⊥
    by x is off (inl d) = off d
    by x is off (inr stale) = is stale

pub touched-none : (w : LimitedFunding) (c : Known) (IsSuch : Node → Type 0) → Touched w c c IsSuch
touched-none w c IsSuch =
    record { right = λ live pending right. right; kept = λ x is. is; only = λ x is. inl is; others = refl }

pub touched-one : (w : LimitedFunding) (old new : Known) (node : Node) (IsSuch : Node → Type 0) → IsSuch node
    → HasEquation w.funding node
    → ((live : List Bool) (others : List Node) → HasEquation w.funding node → IsRightBut w live old (node ∷ others)
    → IsRightBut w live new others)
    → ((x : Node) → IsStale old x → IsStale new x)
    → ((x : Node) → IsStale new x → IsStale old x ⊎ Reaches w.funding node x) → new ≡ record old { stale = new.stale }
    → Touched w old new IsSuch
touched-one w old new node IsSuch such has right kept only others = record {
  right = λ live pending before. right live pending has (right-more w live old node pending before);
  kept = kept;
  only = λ x is. by x (only x is);
  others = others;
}
  where
    by : (x : Node) → IsStale old x ⊎ Reaches w.funding node x
        → IsStale old x ⊎ ((seed : Node) × IsSuch seed × Reaches w.funding seed x)
    by x (inl was) = inl was
    by x (inr reached) = inr (node, such, reached)

pub touched-then : (w : LimitedFunding) (old mid new : Known) (P Q R : Node → Type 0) → Touched w old mid P
    → Touched w mid new Q → ((x : Node) → P x → R x) → ((x : Node) → Q x → R x) → Touched w old new R
touched-then w old mid new P Q R first second of_first of_second = record {
  right = λ live pending before. second.right live pending (first.right live pending before);
  kept = λ x is. second.kept x (first.kept x is);
  only = λ x is. by x (second.only x is);
  others = second.others ∙ ap (λ (c : Known). record c { stale = new.stale }) first.others;
}
  where
    before : (x : Node) → IsStale old x ⊎ ((seed : Node) × P seed × Reaches w.funding seed x)
        → IsStale old x ⊎ ((seed : Node) × R seed × Reaches w.funding seed x)
    before x (inl was) = inl was
    before x (inr (seed, such, reached)) = inr (seed, of_first seed such, reached)

    by : (x : Node) → IsStale mid x ⊎ ((seed : Node) × Q seed × Reaches w.funding seed x)
        → IsStale old x ⊎ ((seed : Node) × R seed × Reaches w.funding seed x)
    by x (inl was) = before x (first.only x was)
    by x (inr (seed, such, reached)) = inr (seed, of_second seed such, reached)

-- one more of the nodes of a list is touched, or needs not be
pub marked-more : (old new : Known) (P : Node → Type 0) (done : List Node) (node : Node)
    → ((x : Node) → IsStale old x → IsStale new x) → ((x : Node) → Contains done x → P x → IsStale old x)
    → (P node → IsStale new node) → (x : Node) → Contains (done ++ node ∷ []) x → P x → IsStale new x
marked-more old new P done node kept before here x c such = by (Contains-push_cases done node x c)
  where
    by : Contains done x ⊎ (node ≡ x) → IsStale new x
    by (inl d) = kept x (before x d such)
    by (inr same) = subst (IsStale new) same (here (subst P (sym same) such))

-- what a walk has next is one of all, and at its end all were yielded
pub next-listed : {A : Type 0} (all done left rest : List A) (x : A) → all ≡ done ++ left → left ≡ x ∷ rest
    → Contains all x
next-listed all done left rest x split is = subst (λ (xs : List _). Contains xs x)
    (sym (split ∙ ap (λ xs. done ++ xs) is)) (Contains-append_right done (x ∷ rest) x (contains-first x rest))

pub all-yielded : {A : Type 0} (all done left : List A) → all ≡ done ++ left → left ≡ [] → all ≡ done
all-yielded all done left split none = split ∙ ap (λ xs. done ++ xs) none ∙ append-nil done

-- one more edge out of a node was followed
pub targets-marked : (f : Funding) (old new : Known) (done : List Edge) (edge : Edge) (from to : Node)
    → ends_of f edge ≡ Some (from, to) → ((x : Node) → IsStale old x → IsStale new x)
    → ((e : Edge) (x : Node) → Contains done e → ends_of f e ≡ Some (from, x) → IsStale old x) → IsStale new to
    → (e : Edge) (x : Node) → Contains (done ++ edge ∷ []) e → ends_of f e ≡ Some (from, x) → IsStale new x
targets-marked f old new done edge from to ends kept before here e x c at = by (Contains-push_cases done edge e c)
  where
    by : Contains done e ⊎ (edge ≡ e) → IsStale new x
    by (inl d) = kept x (before e x d at)
    by (inr same) =
        let both = some-injective (pair from to) (pair from x) (sym ends ∙ ap (ends_of f) same ∙ at) in
        subst (IsStale new) (ap (λ p. p.1) both) here

-- what one more node funds is marked
pub funded-more : (w : LimitedFunding) (old new : Known) (done : List Node) (node : Node)
    → ((x : Node) → IsStale old x → IsStale new x) → ((to : Node) → IsFundedBy w done to → IsStale old to)
    → (IsUser node → (to : Node) → IsEdge w.funding node to → IsStale new to)
    → (to : Node) → IsFundedBy w (done ++ node ∷ []) to → IsStale new to
funded-more w old new done node kept before here to (from, c, user, edge) = by (Contains-push_cases done node from c)
  where
    by : Contains done from ⊎ (node ≡ from) → IsStale new to
    by (inl d) = kept to (before to (from, d, user, edge))
    by (inr same) = here (subst IsUser (sym same) user) to (subst (λ x. IsEdge w.funding x to) (sym same) edge)

-- what was touched stays so
pub listed-more : (w : LimitedFunding) (v : Activity) (old new : Known) → ((x : Node) → IsStale old x → IsStale new x)
    → TouchesListed w v old.stale → TouchesListed w v new.stale
listed-more w v old new kept listed =
    record { switched = λ node c has. kept node (listed.switched node c has); targets = λ c to user which edge. kept to (listed.targets c to user which edge) }

-- what is touched for the switched nodes is touched for all listed ones
pub listed-so : (w : LimitedFunding) (v : Activity) (x : Node) → IsSwitchedOrFunded w v x → IsListed w v x
listed-so w v x (inl switched) = inl switched
listed-so w v x (inr funded) = inr (inl funded)

-- the targets of what was switched were marked first, and then those of what was adjusted
pub listed-all : (w : LimitedFunding) (v : Activity) (adjusted : List Node) (mid new : Known)
    → adjusted ≡ adjusted_nodes w v → ((x : Node) → IsStale mid x → IsStale new x)
    → ((node : Node) → Contains (switched_nodes w v) node → HasEquation w.funding node → IsStale mid node)
    → ((to : Node) → IsFundedBy w (switched_nodes w v) to → IsStale mid to)
    → ((to : Node) → IsFundedBy w adjusted to → IsStale new to) → TouchesListed w v new.stale
listed-all w v adjusted mid new is kept marked first second =
    record { switched = λ node c has. kept node (marked node c has); targets = λ c to user which edge. by c to user edge which }
  where
    by : (c : ℕ) (to : Node) → c ≢ 0 → IsEdge w.funding (Currency c) to
        → Contains (switched_nodes w v) (Currency c) ⊎ Contains (adjusted_nodes w v) (Currency c) → IsStale new to
    by c to user edge (inl switched) = kept to (first to (Currency c, switched, (c, refl, user), edge))
    by c to user edge (inr listed) = second to
        (Currency c, subst (λ (xs : List Node). Contains xs (Currency c)) (sym is) listed, (c, refl, user), edge)
