-- The nodes touched by a change in two steps, if the graph between them has no edge with its weight and no live thread
-- that neither end has, and lacks none that both have.
use Rattle.lot_machine.proofs.Common.{Bool, Edge, Funding, IsChangedEdge, IsChangedLife, IsChangedNode, IsEdgeOfEither, IsLive, IsPath, IsTouched, List, LiveBetween, Node, PathLeads, Some, WeighedBetween, at_number, ends_of, inl, inr, sym, weighed_of, ℕ, [], ◌∙◌, ◌∷◌, ◌≡◌, ◌⊎◌}
use Rattle.lot_machine.proofs.Weighed.{there-weighed, weighed-there}

module _ (before mid after : Funding) (edges : WeighedBetween before mid after) where
  -- an edge in between is there before or after
  either : (edge : Edge) (x y : Node) → ends_of mid edge ≡ Some (x, y) → IsEdgeOfEither before after x y
  either edge x y ends = let (weight, is) = weighed-there mid edge x y ends in
      by weight (edges.only edge (x, y, weight) is)
    where
      by : (weight : ℕ) → (weighed_of before edge ≡ Some (x, y, weight)) ⊎ (weighed_of after edge ≡ Some (x, y, weight))
          → IsEdgeOfEither before after x y
      by weight (inl old) = inl (edge, there-weighed before edge x y weight old)
      by weight (inr new) = inr (edge, there-weighed after edge x y weight new)

  edge-first : (x y : Node) → IsEdgeOfEither before mid x y → IsEdgeOfEither before after x y
  edge-first x y (inl is) = inl is
  edge-first x y (inr (edge, ends)) = either edge x y ends

  edge-second : (x y : Node) → IsEdgeOfEither mid after x y → IsEdgeOfEither before after x y
  edge-second x y (inr is) = inr is
  edge-second x y (inl (edge, ends)) = either edge x y ends

  path-first : (x : Node) (path : List Node) (y : Node) → IsPath before mid x path y → IsPath before after x path y
  path-first x [] y is = is
  path-first x (next ∷ rest) y (edge, more) = (edge-first x next edge, path-first next rest y more)

  path-second : (x : Node) (path : List Node) (y : Node) → IsPath mid after x path y → IsPath before after x path y
  path-second x [] y is = is
  path-second x (next ∷ rest) y (edge, more) = (edge-second x next edge, path-second next rest y more)

  -- a path of the first step is one of the whole change
  pub leads-first : (x y : Node) → PathLeads before mid x y → PathLeads before after x y
  leads-first x y (path, is) = (path, path-first x path y is)

  -- and so is one of the second
  pub leads-second : (x y : Node) → PathLeads mid after x y → PathLeads before after x y
  leads-second x y (path, is) = (path, path-second x path y is)

  changed-first : (x y : Node) → IsChangedEdge before mid x y → IsChangedEdge before after x y
  changed-first x y (inl (edge, weight, old, gone)) =
      inl (edge, weight, old, λ new. gone (edges.kept edge (x, y, weight) old new))
  changed-first x y (inr (edge, weight, there, none)) = by (edges.only edge (x, y, weight) there)
    where
      by : (weighed_of before edge ≡ Some (x, y, weight)) ⊎ (weighed_of after edge ≡ Some (x, y, weight))
          → IsChangedEdge before after x y
      by (inl old) = absurd (none old)
      by (inr new) = inr (edge, weight, new, none)

  changed-second : (x y : Node) → IsChangedEdge mid after x y → IsChangedEdge before after x y
  changed-second x y (inr (edge, weight, new, none)) =
      inr (edge, weight, new, λ old. none (edges.kept edge (x, y, weight) old new))
  changed-second x y (inl (edge, weight, there, gone)) = by (edges.only edge (x, y, weight) there)
    where
      by : (weighed_of before edge ≡ Some (x, y, weight)) ⊎ (weighed_of after edge ≡ Some (x, y, weight))
          → IsChangedEdge before after x y
      by (inl old) = inl (edge, weight, old, gone)
      by (inr new) = absurd (gone new)

module _ (before mid after : List Bool) (live : LiveBetween before mid after) where
  life-first : (t : ℕ) → IsChangedLife before mid t → IsChangedLife before after t
  life-first t (inl (old, ended)) = inl (old, λ new. ended (live.kept t old new))
  life-first t (inr (there, none)) = by (live.only t there)
    where
      by : IsLive before t ⊎ IsLive after t → IsChangedLife before after t
      by (inl old) = absurd (none old)
      by (inr new) = inr (new, none)

  life-second : (t : ℕ) → IsChangedLife mid after t → IsChangedLife before after t
  life-second t (inr (new, none)) = inr (new, λ old. none (live.kept t old new))
  life-second t (inl (there, ended)) = by (live.only t there)
    where
      by : IsLive before t ⊎ IsLive after t → IsChangedLife before after t
      by (inl old) = inl (old, ended)
      by (inr new) = absurd (ended new)

module _ (before mid after : Funding) (lived living lives : List Bool) (edges : WeighedBetween before mid after)
    (live : LiveBetween lived living lives) where
  node-first : (x : Node) → IsChangedNode before mid lived living x → IsChangedNode before after lived lives x
  node-first x (inl (other, inl is)) = inl (other, inl (changed-first before mid after edges x other is))
  node-first x (inl (other, inr is)) = inl (other, inr (changed-first before mid after edges other x is))
  node-first x (inr (t, is, changed)) = inr (t, is, life-first lived living lives live t changed)

  node-second : (x : Node) → IsChangedNode mid after living lives x → IsChangedNode before after lived lives x
  node-second x (inl (other, inl is)) = inl (other, inl (changed-second before mid after edges x other is))
  node-second x (inl (other, inr is)) = inl (other, inr (changed-second before mid after edges other x is))
  node-second x (inr (t, is, changed)) = inr (t, is, life-second lived living lives live t changed)

  -- what the first step touches, the whole change touches
  pub touched-first : (x : Node) → IsTouched before mid lived living x → IsTouched before after lived lives x
  touched-first x (user, (seed, leads, changed)) =
      (user, (seed, leads-first before mid after edges x seed leads, node-first seed changed))

  -- and so with the second
  pub touched-second : (x : Node) → IsTouched mid after living lives x → IsTouched before after lived lives x
  touched-second x (user, (seed, leads, changed)) =
      (user, (seed, leads-second before mid after edges x seed leads, node-second seed changed))

-- who is live in between is who is live before or after, thread by thread
pub live-between : (before mid after : List Bool)
    → ((t : ℕ) → (at_number mid t ≡ at_number before t) ⊎ (at_number mid t ≡ at_number after t))
    → LiveBetween before mid after
live-between before mid after each =
    record { kept = λ t old new. kept t old new (each t); only = λ t is. only t is (each t) }
  where
    kept : (t : ℕ) → IsLive before t → IsLive after t
        → (at_number mid t ≡ at_number before t) ⊎ (at_number mid t ≡ at_number after t) → IsLive mid t
    kept t old new (inl same) = same ∙ old
    kept t old new (inr same) = same ∙ new

    only : (t : ℕ) → IsLive mid t → (at_number mid t ≡ at_number before t) ⊎ (at_number mid t ≡ at_number after t)
        → IsLive before t ⊎ IsLive after t
    only t is (inl same) = inl (sym same ∙ is)
    only t is (inr same) = inr (sym same ∙ is)

-- the edges in between are those before or those after, edge by edge, with the same weights, and no edge that both have goes
pub edges-between : (before mid after : Funding)
    → ((edge : Edge) → (weighed_of mid edge ≡ weighed_of before edge) ⊎ (weighed_of mid edge ≡ weighed_of after edge))
    → WeighedBetween before mid after
edges-between before mid after each =
    record { kept = λ edge weighed old new. kept edge weighed old new (each edge); only = λ edge weighed is. only edge weighed is (each edge) }
  where
    kept : (edge : Edge) (weighed : Node × Node × ℕ) → weighed_of before edge ≡ Some weighed
        → weighed_of after edge ≡ Some weighed → (weighed_of mid edge ≡ weighed_of before edge)
        ⊎ (weighed_of mid edge ≡ weighed_of after edge) → weighed_of mid edge ≡ Some weighed
    kept edge weighed old new (inl same) = same ∙ old
    kept edge weighed old new (inr same) = same ∙ new

    only : (edge : Edge) (weighed : Node × Node × ℕ) → weighed_of mid edge ≡ Some weighed
        → (weighed_of mid edge ≡ weighed_of before edge) ⊎ (weighed_of mid edge ≡ weighed_of after edge)
        → (weighed_of before edge ≡ Some weighed) ⊎ (weighed_of after edge ≡ Some weighed)
    only edge weighed is (inl same) = inl (sym same ∙ is)
    only edge weighed is (inr same) = inr (sym same ∙ is)
