-- The calls of a graph as changes of graph, activity and values together.
use Rattle.lot_value.proofs.Common.{Activity, AddsEdge, AreTogether, Bool, ChangesNodes, Currency, Edge, EdgeEnds, FitsLimits, Follows, Funding, HasEquation, IsBorrower, IsEdge, IsKeptFor, IsListed, IsMutex, IsNodeWithin, IsRight, IsStale, IsTarget, IsThread, IsTouched, IsUnit, Known, Layout, Lend, LimitedFunding, List, Mutex, Nobody, Node, None, OfLender, OfMutex, OfTicket, Option, PathLeads, Some, StandsFor, Target, Thread, ToMutex, ToThread, Touched, TouchesListed, ap, arith, at_number, counted_amount, disown-edge, edge_between, ends-mutex, ends_of_edge, free-kept, fund-edge, lend-edge, lend_node, lender-ends, length, length-set, live_of, mutex-ends, own-edge, owner_of, refl, set_number, some-injective, subst, sym, target-ticket, target_node, target_of, ticket-ends, unfund-edge, unlend-edge, with_lends, with_owners, with_target, with_tickets, ℕ, ◌-◌, ◌∙◌, ◌≡◌, ◌⊎◌}
use Rattle.lot_machine.specs.declared.ticket.Target.TheVariants as target
use Rattle.lot_value.proofs.Ends.{edge-there, there-edge}
use Rattle.lot_value.proofs.Nodes.{within-node}
use Rattle.lot_value.proofs.OneEdge.{Differ, has-same, same-layout, right-one, stale-one}
use Rattle.lot_value.proofs.Following.{live-is, live-length}

-- ---- one edge

-- as many threads, and the same live ones
pub live-one : (w now : LimitedFunding) (v new : Activity) → length now.funding.lends ≡ length w.funding.lends
    → IsKeptFor new now (live_of w v) → live_of w v ≡ live_of now new
live-one w now v new threads kept = live-is now new (live_of w v) kept.fits kept.awake (live-length w v ∙ sym threads)

pub together-one : (w now : LimitedFunding) (v new : Activity) (c known : Known)
    → length now.funding.lends ≡ length w.funding.lends → now.ticket_limit ≡ w.ticket_limit → known.unit ≡ c.unit
    → AreTogether w v c → IsKeptFor new now (live_of w v) → IsRight now (live_of w v) known → AreTogether now new known
together-one w now v new c known threads limit unit together kept right =
    let same = live-one w now v new threads kept in record {
      kept = subst (IsKeptFor new now) same kept;
      right = subst (λ (live : List Bool). IsRight now live known) same right;
      tickets = omega (arith, limit, together.tickets);
      unit = subst IsUnit (sym unit) together.unit;
    }

-- an edge that went, by the ends that were read before
pub went-by : (now w : LimitedFunding) (edge : Edge) (other ends : EdgeEnds) → AddsEdge now w edge other
    → ends_of_edge w.funding edge ≡ Some ends → AddsEdge now w edge ends
went-by now w edge other ends adds is =
    subst (AddsEdge now w edge) (some-injective other ends (sym adds.here ∙ is)) adds

pub stands-went : (w now : LimitedFunding) (edge : Edge) (ends : EdgeEnds) → AddsEdge now w edge ends
    → length now.funding.lends ≡ length w.funding.lends
    → ((from to : Node) → IsEdge w.funding from to → HasEquation w.funding to) → FitsLimits w → StandsFor w now ends
stands-went w now edge ends adds threads have fits =
    let at = there-edge w.funding edge ends adds.here in record {
      threads = threads;
      has = has-same w.funding now.funding threads ends.to (have ends.from ends.to (edge, at));
      within = within-node now ends.to
          (subst (λ (l : Layout). IsNodeWithin l ends.to) adds.layout (fits.to edge ends.from ends.to at));
    }

pub stands-came : (w now : LimitedFunding) (edge : Edge) (ends : EdgeEnds) → AddsEdge w now edge ends
    → length now.funding.lends ≡ length w.funding.lends → HasEquation now.funding ends.to → FitsLimits now
    → StandsFor w now ends
stands-came w now edge ends adds threads has fits =
    record { threads = threads; has = has; within = within-node now ends.to (fits.to edge ends.from ends.to (there-edge now.funding edge ends adds.here)) }

-- where a target leads
pub target-node : (f : Funding) (to : Target) → IsTarget f to
    → (node : Node) × (target_node to ≡ Some node) × HasEquation f node
target-node f target.Unfunded is = absurd is
target-node f (target.Currency c) is = (Currency c, refl, λ zero. omega (arith, zero, is.0))
target-node f (target.Thread t) is = (Thread t, refl, is)

-- and a lend
pub lend-target : (f : Funding) (lend : Lend) → IsBorrower f lend
    → (node : Node) × (lend_node lend ≡ Some node) × HasEquation f node
lend-target f Nobody is = absurd is
lend-target f (ToThread s) is = (Thread s, refl, is)
lend-target f (ToMutex m) is = (Mutex m, refl, tt)

-- one edge came or went, and what stands for it was touched
pub follows-one : (w now : LimitedFunding) (edge : Edge) (ends : EdgeEnds) → Differ w now edge ends
    → StandsFor w now ends → (v new : Activity) (c known : Known) → AreTogether w v c → IsKeptFor new now (live_of w v)
    → ChangesNodes w (live_of w v) now (live_of w v) ends.from new
    → Touched now c known (λ node. IsListed now new node ⊎ (node ≡ ends.to)) → TouchesListed now new known.stale
    → IsStale known ends.to → Follows w now v new c known (live_of w v)
follows-one w now edge ends differ stands v new c known together is changes touched listed marked =
    let live = live_of w v in
    let same = live-one w now v new stands.threads is in
    let layout = same-layout w now edge ends differ stands in
    let right = right-one w now edge ends differ stands v new live c known together.kept is changes together.right
    touched listed marked in
    let stale = stale-one w now edge ends differ stands v new live c known together.kept is changes touched in record {
      together = together-one w now v new c known stands.threads (ap (λ (l : Layout). l.tickets) layout)
          (ap (λ (k : Known). k.unit) touched.others) together is right;
      live = sym same;
      stale = subst (λ (after : List Bool). (x : Node) → IsStale known x → IsStale c x ⊎ ((node : Node)
          × IsTouched w.funding now.funding live after node × PathLeads w.funding now.funding node x)) same stale;
    }

-- what each call adds or takes out, and what stands for it
module _ (w now : LimitedFunding) (v : Activity) (c : Known) (together : AreTogether w v c) where
  came : (edge : Edge) (ends : EdgeEnds) → AddsEdge w now edge ends → length now.funding.lends ≡ length w.funding.lends
      → HasEquation w.funding ends.to → FitsLimits now
      → (ends : EdgeEnds) × AddsEdge w now edge ends × StandsFor w now ends
  came edge ends adds threads has fits =
      (ends, adds, stands-came w now edge ends adds threads (has-same w.funding now.funding threads ends.to has) fits)

  went : (edge : Edge) (other ends : EdgeEnds) → ends_of_edge w.funding edge ≡ Some ends → AddsEdge now w edge other
      → length now.funding.lends ≡ length w.funding.lends → AddsEdge now w edge ends × StandsFor w now ends
  went edge other ends is other_adds threads =
      let adds = went-by now w edge other ends other_adds is in
      (adds, stands-went w now edge ends adds threads together.right.ends together.kept.fits)

  pub unfund-went : (n : ℕ) (ends : EdgeEnds) → ends_of_edge w.funding (OfTicket n) ≡ Some ends
      → now ≡ with_tickets w (with_target w.funding.tickets n target.Unfunded)
      → AddsEdge now w (OfTicket n) ends × StandsFor w now ends
  unfund-went n ends is change =
      let (t, at, from, to) = ticket-ends w.funding n ends.from ends.to (there-edge w.funding (OfTicket n) ends is) in
      went (OfTicket n) (edge_between t.amount (Currency t.issuer) ends.to) ends is
      (unfund-edge w now n t ends.to at to change) (ap (λ (x : LimitedFunding). length x.funding.lends) change)

  pub fund-came : (n : ℕ) (to : Target) → target_of w.funding n ≡ Some target.Unfunded → IsTarget w.funding to
      → now ≡ with_tickets w (with_target w.funding.tickets n to) → FitsLimits now
      → (ends : EdgeEnds) × AddsEdge w now (OfTicket n) ends × StandsFor w now ends
  fund-came n to free is change fits =
      let (t, at, unfunded) = target-ticket w.funding n target.Unfunded free in
      let (node, leads, has) = target-node w.funding to is in
      came (OfTicket n) (edge_between t.amount (Currency t.issuer) node) (fund-edge w now n t to node at unfunded leads
      change) (ap (λ (x : LimitedFunding). length x.funding.lends) change) has fits

  pub lend-came : (t : ℕ) (lend : Lend) → at_number w.funding.lends t ≡ Some Nobody → IsBorrower w.funding lend
      → now ≡ with_lends w (set_number w.funding.lends t lend) → FitsLimits now
      → (ends : EdgeEnds) × AddsEdge w now (OfLender t) ends × StandsFor w now ends
  lend-came t lend nobody is change fits =
      let (node, leads, has) = lend-target w.funding lend is in
      came (OfLender t) (edge_between 1 (Thread t) node) (lend-edge w now t lend node nobody leads change)
      (ap (λ (x : LimitedFunding). length x.funding.lends) change ∙ length-set w.funding.lends (t - 1) lend) has fits

  pub unlend-went : (t : ℕ) (ends : EdgeEnds) → ends_of_edge w.funding (OfLender t) ≡ Some ends → now
      ≡ with_lends w (set_number w.funding.lends t Nobody) → AddsEdge now w (OfLender t) ends × StandsFor w now ends
  unlend-went t ends is change =
      let (lend, at, from, to) =
      lender-ends w.funding t ends.from ends.to (there-edge w.funding (OfLender t) ends is) in
      went (OfLender t) (edge_between 1 (Thread t) ends.to) ends is (unlend-edge w now t lend ends.to at to change)
      (ap (λ (x : LimitedFunding). length x.funding.lends) change ∙ length-set w.funding.lends (t - 1) Nobody)

  pub own-came : (m owner : ℕ) → IsMutex w.funding m → owner_of w.funding m ≡ None → IsThread w.funding owner
      → now ≡ with_owners w (set_number w.funding.owners m (Some owner)) → FitsLimits now
      → (ends : EdgeEnds) × AddsEdge w now (OfMutex m) ends × StandsFor w now ends
  own-came m owner there free is change fits = came (OfMutex m) (edge_between 1 (Mutex m) (Thread owner))
      (own-edge w now m owner there free change) (ap (λ (x : LimitedFunding). length x.funding.lends) change) is fits

  pub disown-went : (m : ℕ) (ends : EdgeEnds) → IsMutex w.funding m → ends_of_edge w.funding (OfMutex m) ≡ Some ends
      → now ≡ with_owners w (set_number w.funding.owners m None)
      → AddsEdge now w (OfMutex m) ends × StandsFor w now ends
  disown-went m ends there is change =
      let (owner, owns, from, to) =
      mutex-ends w.funding m ends.from ends.to (there-edge w.funding (OfMutex m) ends is) in
      went (OfMutex m) (edge_between 1 (Mutex m) (Thread owner)) ends is (disown-edge w now m owner there owns change)
      (ap (λ (x : LimitedFunding). length x.funding.lends) change)

-- a mutex without an edge is free, and so is the same when it is made free
pub free-same : (w : LimitedFunding) (m : ℕ) → IsMutex w.funding m
    → ((ends : EdgeEnds) → ends_of_edge w.funding (OfMutex m) ≡ Some ends → ⊥)
    → w ≡ with_owners w (set_number w.funding.owners m None)
free-same w m there none = sym (ap (λ (owners : List (Option ℕ)). with_owners w owners)
    (free-kept w.funding m there (by (owner_of w.funding m) refl)))
  where
    by : (o : Option ℕ) → owner_of w.funding m ≡ o → owner_of w.funding m ≡ None
    by None is = is
    by (Some owner) is = absurd (none (edge_between (counted_amount w.funding (OfMutex m)) (Mutex m) (Thread owner))
        (edge-there w.funding (OfMutex m) (Mutex m) (Thread owner) (ends-mutex w.funding m owner is)))
