-- Graph, activity and values together follow a change that moves no edge and switches no node.
use Rattle.lot_value.proofs.Common.{Activity, AreTogether, Bool, CoversChange, Currency, Edge, FitsLimits, Funding, HasEquation, IsActive, IsActiveNode, IsKeptFor, IsNodeOf, IsNodeWithin, IsRight, IsSound, Known, Layout, LimitedFunding, List, Mutex, Nobody, Node, None, OfTicket, Some, Thread, Ticket, active-ticket, active_amount, again-ends, again-kept, ap, arith, at_number, counted_amount, currencies-kept, destroy-ends, destroy-kept, edge_between, ends_of, ends_of_edge, false, inl, issue-ends, issue-kept, kept-amount, kept-node, layout_of, length, length_push, live_of, mark_of, node_place, refl, set_amount-ends, set_amount-kept, set_number, subst, sym, target-ticket, target_of, thread-ends, thread-kept, ticket-active, ticket-ends, with_amount, with_currencies, with_lends, with_new_ticket, with_tickets, without_ticket, ℕ, [], ◌++◌, ◌+◌, ◌↔◌, ◌∙◌, ◌∷◌, ◌≡◌, ◌≤◌}
use Rattle.lot_machine.specs.declared.ticket.Target.TheVariants as target
use Rattle.lot_value.proofs.Ends.{edge-there, there-edge}
use Rattle.lot_value.proofs.Nodes.{node-within, within-node}
use Rattle.lot_value.proofs.OneEdge.{has-same}
use Rattle.lot_value.proofs.GraphCalls.{live-one, together-one}
use Rattle.lot_value.proofs.Following.{live-is, live-length}
use Rattle.lot_value.proofs.Differing.{same-equation}
use Rattle.lot_value.proofs.Rightness.{pending-more}

-- the same activity is kept for both, and each edge leads where it led
module _ (v : Activity) (before after : LimitedFunding) (live now : List Bool) (was : IsKeptFor v before live)
    (is : IsKeptFor v after now) (layout : layout_of after ≡ layout_of before)
    (alike : (edge : Edge) → ends_of_edge after.funding edge ≡ ends_of_edge before.funding edge) where
  same-node : (node : Node) → IsNodeOf after node
      → IsActiveNode before.funding live node ↔ IsActiveNode after.funding now node
  same-node node here =
      let within = node-within after node here in
      let first = kept-node v before live was node (subst (λ (l : Layout). IsNodeWithin l node) layout within) in
      let second = kept-node v after now is node within in
      let mark : mark_of v (node_place (layout_of after) node) ≡ mark_of v (node_place (layout_of before) node) =
      ap (λ (l : Layout). mark_of v (node_place l node)) layout in
      (λ on. second.0 (mark ∙ first.1 on), λ on. first.0 (sym mark ∙ second.1 on))

  at-before : (edge : Edge) (from to : Node) → ends_of after.funding edge ≡ Some (from, to)
      → ends_of before.funding edge ≡ Some (from, to)
  at-before edge from to at = there-edge before.funding edge (edge_between (counted_amount after.funding edge) from to)
      (sym (alike edge) ∙ edge-there after.funding edge from to at)

  marks : (n : ℕ) (from to : Node) → ends_of after.funding (OfTicket n) ≡ Some (from, to)
      → IsActive before.funding live n ↔ IsActive after.funding now n
  marks n from to at =
      let (t, t_at, t_from, t_to) = ticket-ends before.funding n from to (at-before (OfTicket n) from to at) in
      let (u, u_at, u_from, u_to) = ticket-ends after.funding n from to at in
      let iff = same-node to (within-node after to (is.fits.to (OfTicket n) from to at)) in (
        λ on. ticket-active after.funding now n u to u_at u_to
            (iff.0 (active-ticket before.funding live n t to t_at t_to on)),
        λ on. ticket-active before.funding live n t to t_at t_to
            (iff.1 (active-ticket after.funding now n u to u_at u_to on)),
      )

  amounts : (c : ℕ) → c ≤ after.currency_limit → active_amount after.funding now c ≡ active_amount before.funding live c
  amounts c low =
      let before_low : c ≤ before.currency_limit = omega (arith, low, ap (λ (l : Layout). l.currencies) layout) in
      sym (kept-amount v after now is c low) ∙ kept-amount v before live was c before_low

  covers : CoversChange before.funding live after.funding now []
  covers = record {
    edges = λ edge. inl (alike edge);
    marks = λ n from to at. inl (marks n from to at);
    amounts = λ c to user edge. inl (amounts c (is.fits.from edge.0 (Currency c) to edge.1));
  }

  -- what is right stays so
  pub right-unchanged : (c : Known) → ((node : Node) → HasEquation before.funding node → HasEquation after.funding node)
      → IsRight before live c → IsRight after now c
  right-unchanged c there right = pending-more before after live now c [] [] right (record {
    layout = layout;
    ends = λ from to edge. there to (right.ends from to (edge.0, at-before edge.0 from to edge.1));
    there = there;
    same = λ node off. same-equation c.unit before.funding after.funding live now [] was.sound is.sound covers node off;
  })

-- a thread more takes no equation away
thread-has : (f : Funding) (node : Node) → HasEquation f node
    → HasEquation (record f { lends = f.lends ++ Nobody ∷ [] }) node
thread-has f (Currency c) has = has
thread-has f (Thread t) has = (has.0, omega (arith, has.1, length_push f.lends Nobody))
thread-has f (Mutex m) has = has

-- Activity and values stay together, and these threads are live.
pub record Stays (now : LimitedFunding) (v : Activity) (c : Known) (after : List Bool) : Type 0 where
  pub together : AreTogether now v c
  pub live : live_of now v ≡ after

module _ (w now : LimitedFunding) (v : Activity) (c : Known) (together : AreTogether w v c) where
  -- nothing is another
  stays-same : now ≡ w → Stays now v c (live_of w v)
  stays-same same = record { together = subst (λ (x : LimitedFunding). AreTogether x v c) (sym same) together; live = ap (λ (x : LimitedFunding). live_of x v) same }

  -- as many threads, and no edge leads elsewhere
  stays-alike : IsKeptFor v now (live_of w v) → layout_of now ≡ layout_of w
      → length now.funding.lends ≡ length w.funding.lends
      → ((edge : Edge) → ends_of_edge now.funding edge ≡ ends_of_edge w.funding edge) → Stays now v c (live_of w v)
  stays-alike kept layout threads alike =
      let right = right-unchanged v w now (live_of w v) (live_of w v) together.kept kept layout alike c
      (has-same w.funding now.funding threads) together.right in record {
        together = together-one w now v v c c threads (ap (λ (l : Layout). l.tickets) layout) refl together kept right;
        live = sym (live-one w now v v threads kept);
      }

  pub stays-issue : (amount issuer : ℕ)
      → now ≡ with_tickets w (with_new_ticket w.funding.tickets amount issuer target.Unfunded) → IsSound now.funding
      → FitsLimits now → Stays now v c (live_of w v)
  stays-issue amount issuer issued sound fits =
      stays-alike (issue-kept v w now (live_of w v) together.kept sound fits amount issuer issued) (ap layout_of issued)
      (ap (λ (x : LimitedFunding). length x.funding.lends) issued)
      (λ edge. ap (λ (x : LimitedFunding). ends_of_edge x.funding edge) issued
      ∙ issue-ends w.funding amount issuer edge)

  pub stays-again : (n : ℕ) (ticket : Ticket) → at_number w.funding.tickets n ≡ Some None
      → ticket.target ≡ target.Unfunded → now ≡ with_tickets w (set_number w.funding.tickets n (Some ticket))
      → IsSound now.funding → FitsLimits now → Stays now v c (live_of w v)
  stays-again n ticket gap unfunded issued sound fits =
      stays-alike (again-kept v w now (live_of w v) together.kept sound fits n ticket gap unfunded issued)
      (ap layout_of issued) (ap (λ (x : LimitedFunding). length x.funding.lends) issued)
      (λ edge. ap (λ (x : LimitedFunding). ends_of_edge x.funding edge) issued
      ∙ again-ends w.funding n ticket gap unfunded edge)

  pub stays-destroy : (n : ℕ) → target_of w.funding n ≡ Some target.Unfunded
      → now ≡ with_tickets w (without_ticket w.funding.tickets n) → IsSound now.funding → FitsLimits now
      → Stays now v c (live_of w v)
  stays-destroy n free destroyed sound fits =
      let (t, at, unfunded) = target-ticket w.funding n target.Unfunded free in
      stays-alike (destroy-kept v w now (live_of w v) together.kept sound fits n t at unfunded destroyed)
      (ap layout_of destroyed) (ap (λ (x : LimitedFunding). length x.funding.lends) destroyed)
      (λ edge. ap (λ (x : LimitedFunding). ends_of_edge x.funding edge) destroyed
      ∙ destroy-ends w.funding n t at unfunded edge)

  pub stays-amount : (n amount : ℕ) → target_of w.funding n ≡ Some target.Unfunded
      → now ≡ with_tickets w (with_amount w.funding.tickets n amount) → IsSound now.funding → FitsLimits now
      → Stays now v c (live_of w v)
  stays-amount n amount free changed sound fits =
      let (t, at, unfunded) = target-ticket w.funding n target.Unfunded free in
      stays-alike (set_amount-kept v w now (live_of w v) together.kept sound fits n amount t at unfunded changed)
      (ap layout_of changed) (ap (λ (x : LimitedFunding). length x.funding.lends) changed)
      (λ edge. ap (λ (x : LimitedFunding). ends_of_edge x.funding edge) changed
      ∙ set_amount-ends w.funding n amount t at unfunded edge)

  pub stays-currencies : (currencies : List Bool) → now ≡ with_currencies w currencies → IsSound now.funding
      → FitsLimits now → Stays now v c (live_of w v)
  stays-currencies currencies made sound fits =
      stays-alike (currencies-kept v w now (live_of w v) together.kept sound fits currencies made) (ap layout_of made)
      (ap (λ (x : LimitedFunding). length x.funding.lends) made)
      (λ edge. ap (λ (x : LimitedFunding). ends_of_edge x.funding edge) made)

  pub stays-thread : now ≡ with_lends w (w.funding.lends ++ Nobody ∷ []) → IsSound now.funding → FitsLimits now
      → Stays now v c (live_of w v ++ false ∷ [])
  stays-thread added sound fits =
      let live = live_of w v ++ false ∷ [] in
      let kept = thread-kept v w now (live_of w v) together.kept sound fits added in
      let more : length now.funding.lends ≡ length w.funding.lends + 1 =
      ap (λ (x : LimitedFunding). length x.funding.lends) added ∙ length_push w.funding.lends Nobody in
      let size : length live ≡ length now.funding.lends =
      omega (arith, length_push (live_of w v) false, live-length w v, more) in
      let same = live-is now v live kept.fits kept.awake size in
      let alike : (edge : Edge) → ends_of_edge now.funding edge ≡ ends_of_edge w.funding edge =
      λ edge. ap (λ (x : LimitedFunding). ends_of_edge x.funding edge) added ∙ thread-ends w.funding edge in
      let there : (node : Node) → HasEquation w.funding node → HasEquation now.funding node = λ node has.
      subst (λ (x : LimitedFunding). HasEquation x.funding node) (sym added) (thread-has w.funding node has) in
      let right = right-unchanged v w now (live_of w v) live together.kept kept
      (ap layout_of added) alike c there together.right in record {
        together = record { kept = subst (IsKeptFor v now) same kept; right = subst (λ (xs : List Bool). IsRight now xs c) same right; tickets = omega (arith, ap (λ (x : LimitedFunding). x.ticket_limit) added, together.tickets); unit = together.unit };
        live = sym same;
      }
