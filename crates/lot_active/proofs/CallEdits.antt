-- The calls of a graph as edits of its activity.
use Rattle.lot_active.proofs.Common.{Activity, AddsEdge, AwakeAre, Bool, Currency, Edge, EdgeEnds, FitsLimits, IsKept, IsKeptFor, IsLive, IsMutex, IsSound, Layout, Lend, LimitedFunding, List, Mutex, Net, Nobody, Node, None, OfLender, OfMutex, OfTicket, Option, Some, Target, Thread, Ticket, ap, at_number, edge_between, false, graph_net, inl, inr, layout_of, lend_node, length-set, number-push, owner_of, refl, set_number, subst, sym, target_node, ticket_at, true, with_amount, with_currencies, with_lends, with_new_ticket, with_owners, with_target, with_tickets, without_ticket, ℕ, [], ◌++◌, ◌-◌, ◌∙◌, ◌∷◌, ◌≡◌, ◌⊎◌}
use Rattle.lot_machine.specs.declared.ticket.Target.TheVariants as target
use Rattle.lot_active.proofs.Edits.{HasMore, fund-adds, unfund-adds, lend-adds, unlend-adds, own-adds, disown-adds, issue-same, again-same, destroy-same, set_amount-same, thread-same}

-- ---- one edge

-- a graph with other owners, as many
owners-layout : (w : LimitedFunding) (m : ℕ) (o : Option ℕ)
    → layout_of (with_owners w (set_number w.funding.owners m o)) ≡ layout_of w
owners-layout w m o = ap (λ k. let l : Layout =
    record { tickets = w.ticket_limit; currencies = w.currency_limit; threads = w.thread_limit; mutexes = k } in l)
    (length-set w.funding.owners (m - 1) o)

adds-edge : (less more : LimitedFunding) (edge : Edge) (ends : EdgeEnds) → layout_of more ≡ layout_of less
    → HasMore less.funding more.funding edge ends → AddsEdge less more edge ends
adds-edge less more edge ends layout (none, here, others) =
    record { layout = layout; none = none; here = here; others = others }

module _ (w now : LimitedFunding) where
  pub fund-edge : (n : ℕ) (t : Ticket) (to : Target) (node : Node) → ticket_at w.funding n ≡ Some t
      → t.target ≡ target.Unfunded → target_node to ≡ Some node
      → now ≡ with_tickets w (with_target w.funding.tickets n to)
      → AddsEdge w now (OfTicket n) (edge_between t.amount (Currency t.issuer) node)
  fund-edge n t to node here unfunded at is =
      subst (λ (x : LimitedFunding). AddsEdge w x (OfTicket n) (edge_between t.amount (Currency t.issuer) node))
      (sym is)
      (adds-edge w (with_tickets w (with_target w.funding.tickets n to)) (OfTicket n)
      (edge_between t.amount (Currency t.issuer) node) refl (fund-adds w.funding n t to node here unfunded at))

  pub unfund-edge : (n : ℕ) (t : Ticket) (node : Node) → ticket_at w.funding n ≡ Some t
      → target_node t.target ≡ Some node
      → now ≡ with_tickets w (with_target w.funding.tickets n target.Unfunded)
      → AddsEdge now w (OfTicket n) (edge_between t.amount (Currency t.issuer) node)
  unfund-edge n t node here at is =
      subst (λ (x : LimitedFunding). AddsEdge x w (OfTicket n) (edge_between t.amount (Currency t.issuer) node))
      (sym is)
      (adds-edge (with_tickets w (with_target w.funding.tickets n target.Unfunded)) w (OfTicket n)
      (edge_between t.amount (Currency t.issuer) node) refl (unfund-adds w.funding n t node here at))

  pub lend-edge : (t : ℕ) (lend : Lend) (node : Node) → at_number w.funding.lends t ≡ Some Nobody
      → lend_node lend ≡ Some node
      → now ≡ with_lends w (set_number w.funding.lends t lend)
      → AddsEdge w now (OfLender t) (edge_between 1 (Thread t) node)
  lend-edge t lend node here at is =
      subst (λ (x : LimitedFunding). AddsEdge w x (OfLender t) (edge_between 1 (Thread t) node)) (sym is)
      (adds-edge w (with_lends w (set_number w.funding.lends t lend)) (OfLender t) (edge_between 1 (Thread t) node) refl
      (lend-adds w.funding t lend node here at))

  pub unlend-edge : (t : ℕ) (lend : Lend) (node : Node) → at_number w.funding.lends t ≡ Some lend
      → lend_node lend ≡ Some node
      → now ≡ with_lends w (set_number w.funding.lends t Nobody)
      → AddsEdge now w (OfLender t) (edge_between 1 (Thread t) node)
  unlend-edge t lend node here at is =
      subst (λ (x : LimitedFunding). AddsEdge x w (OfLender t) (edge_between 1 (Thread t) node)) (sym is)
      (adds-edge (with_lends w (set_number w.funding.lends t Nobody)) w (OfLender t)
      (edge_between 1 (Thread t) node) refl (unlend-adds w.funding t lend node here at))

  pub own-edge : (m owner : ℕ) → IsMutex w.funding m → owner_of w.funding m ≡ None
      → now ≡ with_owners w (set_number w.funding.owners m (Some owner))
      → AddsEdge w now (OfMutex m) (edge_between 1 (Mutex m) (Thread owner))
  own-edge m owner there free is =
      subst (λ (x : LimitedFunding). AddsEdge w x (OfMutex m) (edge_between 1 (Mutex m) (Thread owner))) (sym is)
      (adds-edge w (with_owners w (set_number w.funding.owners m (Some owner))) (OfMutex m) (edge_between 1 (Mutex m)
      (Thread owner)) (owners-layout w m (Some owner)) (own-adds w.funding m owner there.0 there.1 free))

  pub disown-edge : (m owner : ℕ) → IsMutex w.funding m → owner_of w.funding m ≡ Some owner
      → now ≡ with_owners w (set_number w.funding.owners m None)
      → AddsEdge now w (OfMutex m) (edge_between 1 (Mutex m) (Thread owner))
  disown-edge m owner there owns is =
      subst (λ (x : LimitedFunding). AddsEdge x w (OfMutex m) (edge_between 1 (Mutex m) (Thread owner))) (sym is)
      (adds-edge (with_owners w (set_number w.funding.owners m None)) w (OfMutex m) (edge_between 1 (Mutex m)
      (Thread owner)) (sym (owners-layout w m None)) (disown-adds w.funding m owner there.0 there.1 owns))

-- ---- nothing that is kept

-- the net is the same
same-kept : (v : Activity) (w now : LimitedFunding) (live after : List Bool) → IsKeptFor v w live → IsSound now.funding
    → FitsLimits now → layout_of now ≡ layout_of w → graph_net now ≡ graph_net w → AwakeAre (layout_of w) after v.awake
    → IsKeptFor v now after
same-kept v w now live after kept sound fits layout net awake = record {
  sound = sound;
  fits = fits;
  layout = kept.layout ∙ sym layout;
  awake = subst (λ (l : Layout). AwakeAre l after v.awake) (sym layout) awake;
  kept = subst (λ (g : Net). IsKept g v) (sym net) kept.kept;
}

module _ (v : Activity) (w now : LimitedFunding) (live : List Bool) (kept : IsKeptFor v w live)
    (sound : IsSound now.funding) (fits : FitsLimits now) where
  pub issue-kept : (amount issuer : ℕ)
      → now ≡ with_tickets w (with_new_ticket w.funding.tickets amount issuer target.Unfunded) → IsKeptFor v now live
  issue-kept amount issuer is = same-kept v w now live live kept sound fits (ap layout_of is)
      (ap graph_net is ∙ issue-same w.funding (layout_of w) amount issuer) kept.awake

  pub again-kept : (n : ℕ) (ticket : Ticket) → at_number w.funding.tickets n ≡ Some None → ticket.target
      ≡ target.Unfunded → now ≡ with_tickets w (set_number w.funding.tickets n (Some ticket)) → IsKeptFor v now live
  again-kept n ticket gap unfunded is = same-kept v w now live live kept sound fits (ap layout_of is)
      (ap graph_net is ∙ again-same w.funding (layout_of w) n ticket gap unfunded) kept.awake

  pub destroy-kept : (n : ℕ) (t : Ticket) → ticket_at w.funding n ≡ Some t → t.target ≡ target.Unfunded
      → now ≡ with_tickets w (without_ticket w.funding.tickets n) → IsKeptFor v now live
  destroy-kept n t here unfunded is = same-kept v w now live live kept sound fits (ap layout_of is)
      (ap graph_net is ∙ destroy-same w.funding (layout_of w) n t here unfunded) kept.awake

  pub set_amount-kept : (n amount : ℕ) (t : Ticket) → ticket_at w.funding n ≡ Some t → t.target ≡ target.Unfunded
      → now ≡ with_tickets w (with_amount w.funding.tickets n amount) → IsKeptFor v now live
  set_amount-kept n amount t here unfunded is = same-kept v w now live live kept sound fits (ap layout_of is)
      (ap graph_net is ∙ set_amount-same w.funding (layout_of w) n amount t here unfunded) kept.awake

  pub currencies-kept : (currencies : List Bool) → now ≡ with_currencies w currencies → IsKeptFor v now live
  currencies-kept currencies is =
      same-kept v w now live live kept sound fits (ap layout_of is) (ap graph_net is) kept.awake

  pub thread-kept : now ≡ with_lends w (w.funding.lends ++ Nobody ∷ []) → IsKeptFor v now (live ++ false ∷ [])
  thread-kept is = same-kept v w now live (live ++ false ∷ []) kept sound fits (ap layout_of is)
      (ap graph_net is ∙ thread-same w.funding (layout_of w)) awake
    where
      lives-on : (t : ℕ) → IsLive live t → IsLive (live ++ false ∷ []) t
      lives-on t alive = by (number-push live false t)
        where
          by : (at_number (live ++ false ∷ []) t ≡ at_number live t)
              ⊎ ((at_number live t ≡ None) × (at_number (live ++ false ∷ []) t ≡ Some false))
              → IsLive (live ++ false ∷ []) t
          by (inl same) = same ∙ alive
          by (inr (none, at)) = let wrong : None ≡ Some true = sym none ∙ alive in cc

      lived : (t : ℕ) → IsLive (live ++ false ∷ []) t → IsLive live t
      lived t alive = by (number-push live false t)
        where
          by : (at_number (live ++ false ∷ []) t ≡ at_number live t)
              ⊎ ((at_number live t ≡ None) × (at_number (live ++ false ∷ []) t ≡ Some false)) → IsLive live t
          by (inl same) = sym same ∙ alive
          by (inr (none, at)) = let wrong : Some false ≡ Some true = sym at ∙ alive in cc

      awake : AwakeAre (layout_of w) (live ++ false ∷ []) v.awake
      awake = record {
        lives = λ x on. let (t, place, within, alive) = kept.awake.lives x on in (t, place, within, lives-on t alive);
        wakes = λ t within alive. kept.awake.wakes t within (lived t alive);
      }
