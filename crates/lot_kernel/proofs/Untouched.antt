-- Changes that touch nothing: neither the graph changes, nor the live threads.
use Rattle.lot_kernel.proofs.Common.{Bool, Contains, Funding, IsChangedEdge, IsChangedLife, IsChangedNode, IsTouched, List, MakesStaleIn, Node, PathLeads, Record, Some, Threaded, ap, at_number, at_number-map, change_record, contains-at, contains-nothing, funding_in, inl, inr, live_in, map, map-set, number-kept, option_map, refl, set_number, subst, sym, ℕ, [], ◌-◌, ◌∙◌, ◌∷◌, ◌≡◌, ◌⊎◌}

same-edge : (f : Funding) (from to : Node) → ¬ IsChangedEdge f f from to
same-edge f from to (inl (edge, weight, is, differs)) = differs is
same-edge f from to (inr (edge, weight, is, differs)) = differs is

same-life : (live : List Bool) (t : ℕ) → ¬ IsChangedLife live live t
same-life live t (inl (is, differs)) = differs is
same-life live t (inr (is, differs)) = differs is

same-node : (f : Funding) (live : List Bool) (node : Node) → ¬ IsChangedNode f f live live node
same-node f live node (inl (other, inl edge)) = same-edge f node other edge
same-node f live node (inl (other, inr edge)) = same-edge f other node edge
same-node f live node (inr (t, is, life)) = same-life live t life

pub untouched : (f : Funding) (live : List Bool) (node : Node) → ¬ IsTouched f f live live node
untouched f live node (user, (seed, leads, changed)) = same-node f live seed changed

-- so what is settled stays settled
pub stays-fresh : (old new : Threaded) → old.stale ≡ [] → funding_in new ≡ funding_in old
    → live_in new.records ≡ live_in old.records → MakesStaleIn old new → new.stale ≡ []
stays-fresh old new settled graph live makes = by new.stale refl
  where
    touched : (node : Node)
        → ¬ IsTouched (funding_in old) (funding_in new) (live_in old.records) (live_in new.records) node
    touched node is =
        untouched (funding_in old) (live_in old.records) node
        (subst (λ (f : Funding). IsTouched (funding_in old) f (live_in old.records) (live_in old.records) node) graph
        (subst (λ (l : List Bool). IsTouched (funding_in old) (funding_in new) (live_in old.records) l node) live is))

    never : (x : Node) → ¬ Contains new.stale x
    never x stale = from (makes x stale)
      where
        from : Contains old.stale x ⊎ ((node : Node) × IsTouched (funding_in old) (funding_in new) (live_in old.records)
            (live_in new.records) node × PathLeads (funding_in old) (funding_in new) node x) → ⊥
        from (inl was) = contains-nothing x (subst (λ (nodes : List Node). Contains nodes x) settled was)
        from (inr (node, is, leads)) = touched node is

    by : (nodes : List Node) → new.stale ≡ nodes → new.stale ≡ []
    by [] is = is
    by (x ∷ xs) is =
        absurd (never x (subst (λ (nodes : List Node). Contains nodes x) (sym is) (contains-at (x ∷ xs) 0 x refl)))

-- a change of a record that leaves what is seen of it
pub same-seen : {B : Type 0} (seen : Record → B) (change : Record → Record) (records : List Record) (t : ℕ) (r : Record)
    → at_number records t ≡ Some r → seen (change r) ≡ seen r
    → map seen (change_record change records t) ≡ map seen records
same-seen seen change records t r there same =
    rw there (map-set seen records (t - 1) (change r) ∙ ap (λ b. set_number (map seen records) t b) same
    ∙ number-kept (map seen records) t (seen r) (at_number-map seen records t ∙ ap (option_map seen) there))
