-- A mutex that moves from one live thread to another: activity stays the same, and both owners are touched.
use Rattle.lot_value.proofs.Common.{Activity, AddsEdge, AreTogether, Bool, ChangesNodes, Contains, Currency, Edge, EdgeEnds, FitsLimits, Follows, HasEquation, IsChangedEdge, IsEdge, IsKeptFor, IsLive, IsMutex, IsNodeOf, IsNodeWithin, IsRight, IsSound, IsStale, IsThread, IsTouched, IsWay, Known, Layout, LimitedFunding, List, Mutex, Node, None, OfMutex, Option, PathLeads, Reaches, Some, Thread, Touched, TouchesListed, ap, arith, at_number, contains-nothing, disown-edge, edge_between, ends_of, ends_of_edge, inl, inr, layout_of, length, length-set, live_of, moved-changes, moved-kept, number-set_same, only-there, option_flatten, own-edge, owner_of, refl, set_number, subst, sym, unlisted, with_owners, ℕ, [], ◌-◌, ◌∙◌, ◌∷◌, ◌≡◌, ◌≢◌, ◌⊎◌}
use Rattle.lot_value.proofs.Ends.{edge-there, there-edge, to-is}
use Rattle.lot_value.proofs.Following.{right-follows, reach-path}
use Rattle.lot_value.proofs.GraphCalls.{live-one, stands-came, stands-went, together-one}
use Rattle.lot_value.proofs.Nodes.{node-number, within-node}
use Rattle.lot_value.proofs.OneEdge.{ends-have, has-same, no-ends, same-or-not}
use Rattle.lot_value.proofs.Rightness.{has-not-base}

-- who owns a mutex that has just been made free, or taken
owned-at : (owners : List (Option ℕ)) (m s : ℕ) (o : Option ℕ) → option_flatten (at_number owners m) ≡ Some s
    → option_flatten (at_number (set_number owners m o) m) ≡ o
owned-at owners m s o owns = by (at_number owners m) refl owns
  where
    by : (x : Option (Option ℕ)) → at_number owners m ≡ x → option_flatten x ≡ Some s
        → option_flatten (at_number (set_number owners m o) m) ≡ o
    by None is none = cc
    by (Some x) is some = ap option_flatten (number-set_same owners m o x is)

module _ (w mid now : LimitedFunding) (v : Activity) (c : Known) (m s t : ℕ) (together : AreTogether w v c)
    (there : IsMutex w.funding m) (owns : owner_of w.funding m ≡ Some s) (thread : IsThread w.funding t) (apart : s ≢ t)
    (live_s : IsLive (live_of w v) s) (live_t : IsLive (live_of w v) t)
    (freed : mid ≡ with_owners w (set_number w.funding.owners m None)) where
  pub freed-mutex : IsMutex mid.funding m
  freed-mutex = (there.0, omega (arith, there.1, ap (λ (x : LimitedFunding). length x.funding.owners) freed, length-set w.funding.owners (m - 1) None))

  pub freed-free : owner_of mid.funding m ≡ None
  freed-free = ap (λ (x : LimitedFunding). owner_of x.funding m) freed ∙ owned-at w.funding.owners m s None owns

  pub freed-thread : IsThread mid.funding t
  freed-thread = subst (λ (x : LimitedFunding). IsThread x.funding t) (sym freed) thread

  abbrev here : EdgeEnds
  here = edge_between 1 (Mutex m) (Thread s)

  abbrev next : EdgeEnds
  next = edge_between 1 (Mutex m) (Thread t)

  was : AddsEdge mid w (OfMutex m) here
  was = disown-edge w mid m s there owns freed

  less-edge : (from to : Node) → IsEdge mid.funding from to → IsEdge w.funding from to
  less-edge from to (edge, at) = by (same-or-not edge (OfMutex m))
    where
      by : (edge ≡ OfMutex m) ⊎ (¬ (edge ≡ OfMutex m)) → IsEdge w.funding from to
      by (inl same) =
          absurd (no-ends mid.funding (OfMutex m) from to was.none (ap (ends_of mid.funding) (sym same) ∙ at))
      by (inr off) = (edge, there-edge w.funding edge _ (was.others edge off ∙ edge-there mid.funding edge from to at))

  less-way : (from : Node) (way : List Node) (to : Node) → IsWay mid.funding from way to → IsWay w.funding from way to
  less-way from [] to same = same
  less-way from (node ∷ rest) to (first, others) = (less-edge from node first, less-way node rest to others)

  -- what was apart is apart when the mutex is free
  pub freed-apart : ¬ Reaches w.funding (Thread t) (Mutex m) → ¬ Reaches mid.funding (Thread t) (Mutex m)
  freed-apart none (way, is) = none (way, less-way (Thread t) way (Mutex m) is)

  module _ (taken : now ≡ with_owners mid (set_number mid.funding.owners m (Some t))) (sound : IsSound now.funding)
      (fits : FitsLimits now) where
    is : AddsEdge mid now (OfMutex m) next
    is = own-edge mid now m t freed-mutex freed-free taken

    threads : length mid.funding.lends ≡ length w.funding.lends
    threads = ap (λ (x : LimitedFunding). length x.funding.lends) freed

    threads-now : length now.funding.lends ≡ length w.funding.lends
    threads-now = ap (λ (x : LimitedFunding). length x.funding.lends) taken ∙ threads

    in-s : IsNodeWithin (layout_of w) (Thread s)
    in-s = together.kept.fits.to (OfMutex m) (Mutex m) (Thread s) (there-edge w.funding (OfMutex m) here was.here)

    in-t : IsNodeWithin (layout_of w) (Thread t)
    in-t = (omega (arith, thread.0), omega (arith, thread.1, together.kept.fits.lends))

    pub layout : layout_of now ≡ layout_of w
    layout = is.layout ∙ sym was.layout

    kept : (switched adjusted : List ℕ)
        → IsKeptFor (record v { switched = switched; adjusted = adjusted }) now (live_of w v)
    kept = moved-kept mid w now (OfMutex m) here next was is refl refl v
        (live_of w v) together.kept sound fits s t refl refl in-s in-t live_s live_t

    changes : ChangesNodes w (live_of w v) now (live_of w v) (Thread t) (unlisted v)
    changes =
        moved-changes mid w now (OfMutex m) here next was is refl refl v
        (live_of w v) together.kept sound fits s t refl refl in-s in-t live_s live_t (Thread t)
        (subst (λ (l : Layout). IsNodeWithin l (Thread t)) (sym layout) in-t)

    -- the same threads are live
    pub live-kept : live_of now v ≡ live_of w v
    live-kept = sym (live-one w now v v threads-now (kept v.switched v.adjusted))

    -- each edge leads to a node with an equation
    have : (from to : Node) → IsEdge now.funding from to → HasEquation now.funding to
    have =
        let first = stands-went w mid (OfMutex m) here was threads together.right.ends together.kept.fits in
        let second = stands-came mid now (OfMutex m) next is (ap (λ (x : LimitedFunding). length x.funding.lends) taken)
        (subst (λ (x : LimitedFunding). IsThread x.funding t) (sym taken) freed-thread) fits in
        ends-have mid now (OfMutex m) next (inl is) second
        (ends-have w mid (OfMutex m) here (inr was) first together.right.ends)

    pub have-s : HasEquation now.funding (Thread s)
    have-s = has-same w.funding now.funding threads-now (Thread s)
        (together.right.ends (Mutex m) (Thread s) (OfMutex m, there-edge w.funding (OfMutex m) here was.here))

    pub have-t : HasEquation now.funding (Thread t)
    have-t = has-same w.funding now.funding threads-now (Thread t) thread

    pub within-s : IsNodeOf now (Thread s)
    within-s = within-node now (Thread s) (subst (λ (l : Layout). IsNodeWithin l (Thread s)) (sym layout) in-s)

    pub within-t : IsNodeOf now (Thread t)
    within-t = within-node now (Thread t) (subst (λ (l : Layout). IsNodeWithin l (Thread t)) (sym layout) in-t)

    -- the edge led to the one owner, and leads to the other
    left : IsChangedEdge w.funding now.funding (Mutex m) (Thread s)
    left =
        inl (only-there w.funding now.funding (OfMutex m) (Mutex m) (Thread s)
        (there-edge w.funding (OfMutex m) here was.here)
        (λ at. apart (sym (ap node-number (to-is now.funding (OfMutex m) (Mutex m) (Thread s) at next is.here)))))

    came : IsChangedEdge w.funding now.funding (Mutex m) (Thread t)
    came =
        inr (only-there now.funding w.funding (OfMutex m) (Mutex m) (Thread t)
        (there-edge now.funding (OfMutex m) next is.here)
        (λ at. apart (ap node-number (to-is w.funding (OfMutex m) (Mutex m) (Thread t) at here was.here))))

    module _ (known : Known) (touched : Touched now c known (λ node. (node ≡ Thread s) ⊎ (node ≡ Thread t)))
        (stale_s : IsStale known (Thread s)) (stale_t : IsStale known (Thread t)) where
      edges : (edge : Edge) → (ends_of_edge now.funding edge ≡ ends_of_edge w.funding edge)
          ⊎ ((from to : Node) → (ends_of w.funding edge ≡ Some (from, to))
          ⊎ (ends_of now.funding edge ≡ Some (from, to)) → IsStale known to)
      edges edge = by (same-or-not edge (OfMutex m))
        where
          led : (from to : Node) → (ends_of w.funding (OfMutex m) ≡ Some (from, to))
              ⊎ (ends_of now.funding (OfMutex m) ≡ Some (from, to)) → IsStale known to
          led from to (inl at) = subst (IsStale known) (to-is w.funding (OfMutex m) from to at here was.here) stale_s
          led from to (inr at) = subst (IsStale known) (to-is now.funding (OfMutex m) from to at next is.here) stale_t

          by : (edge ≡ OfMutex m) ⊎ (¬ (edge ≡ OfMutex m))
              → (ends_of_edge now.funding edge ≡ ends_of_edge w.funding edge)
              ⊎ ((from to : Node) → (ends_of w.funding edge ≡ Some (from, to))
              ⊎ (ends_of now.funding edge ≡ Some (from, to)) → IsStale known to)
          by (inl same) = inr (subst (λ (e : Edge). (from to : Node) → (ends_of w.funding e ≡ Some (from, to))
              ⊎ (ends_of now.funding e ≡ Some (from, to)) → IsStale known to) (sym same) led)
          by (inr off) = inl (is.others edge off ∙ sym (was.others edge off))

      listed : TouchesListed now (unlisted v) known.stale
      listed = record {
        switched = λ node d has. absurd (contains-nothing node d);
        targets = λ u to user which edge. absurd (none u which);
      }
        where
          none : (u : ℕ) → Contains [] (Currency u) ⊎ Contains [] (Currency u) → ⊥
          none u (inl d) = contains-nothing (Currency u) d
          none u (inr d) = contains-nothing (Currency u) d

      right : IsRight now (live_of w v) known
      right =
          right-follows v (unlisted v) w now (live_of w v) (live_of w v) (Thread t) c known layout together.kept
          (kept [] []) changes together.right have
          (has-same w.funding now.funding threads-now) listed edges touched

      stale : (x : Node) → IsStale known x → IsStale c x ⊎ ((node : Node)
          × IsTouched w.funding now.funding (live_of w v) (live_of w v) node × PathLeads w.funding now.funding node x)
      stale x now_stale = by (touched.only x now_stale)
        where
          reached : (node : Node) → HasEquation now.funding node → IsChangedEdge w.funding now.funding (Mutex m) node
              → Reaches now.funding node x
              → (seed : Node) × IsTouched w.funding now.funding (live_of w v) (live_of w v) seed
              × PathLeads w.funding now.funding seed x
          reached node has changed leads =
              (node, (has-not-base now.funding node has, (node, ([], refl), inl (Mutex m, inr changed))), reach-path w.funding now.funding node x leads)

          by : IsStale c x ⊎ ((node : Node) × ((node ≡ Thread s) ⊎ (node ≡ Thread t)) × Reaches now.funding node x)
              → IsStale c x ⊎ ((node : Node) × IsTouched w.funding now.funding (live_of w v) (live_of w v) node
              × PathLeads w.funding now.funding node x)
          by (inl already) = inl already
          by (inr (node, inl same, leads)) =
              inr (reached (Thread s) have-s left (subst (λ n. Reaches now.funding n x) same leads))
          by (inr (node, inr same, leads)) =
              inr (reached (Thread t) have-t came (subst (λ n. Reaches now.funding n x) same leads))

      -- what is kept together follows the move
      pub follows-move : Follows w now v v c known (live_of w v)
      follows-move =
          let same = live-one w now v v threads-now (kept v.switched v.adjusted) in record {
            together = together-one w now v v c known threads-now (ap (λ (l : Layout). l.tickets) layout)
                (ap (λ (k : Known). k.unit) touched.others) together (kept v.switched v.adjusted) right;
            live = sym same;
            stale = subst (λ (after : List Bool). (x : Node) → IsStale known x
                → IsStale c x ⊎ ((node : Node) × IsTouched w.funding now.funding (live_of w v) after node
                × PathLeads w.funding now.funding node x)) same stale;
          }
