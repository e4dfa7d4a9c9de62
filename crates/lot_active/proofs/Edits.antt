-- Each change of a funding as an edit of its net: one edge more, one edge less, or none.
use Rattle.lot_active.proofs.Common.{Adds, AddsEdge, AwakeAre, Bool, Currency, Edge, EdgeEnds, EdgePlaces, FitsLimits, Funding, IsAwake, IsLive, IsNodeWithin, Layout, Lend, LimitedFunding, List, Mutex, Net, Nobody, Node, None, OfLender, OfMutex, OfTicket, Option, Some, Target, Thread, Ticket, ap, arith, at_number, at_number-suc, cases_eq, counted_amount, edge-back, edge_at, edge_between, edge_count, edge_place, ends_of, ends_of_edge, flatten-some, fun_ext, graph_net, inl, inr, layout_of, lend_node, length, net_of, node_count, node_place, number-push, number-set, number-there, option_and_then, option_flatten, option_map, owner_of, pair, place-back, places_of_edge, places_of_ends, refl, reissued, retargeted, set_number, slice_get, slice_get_within, slice_set, some-injective, subst, suc, sym, target_node, ticket_at, ticket_in, true, unwrap_or, with_amount, with_new_ticket, with_target, without_ticket, zero, ℕ, [], ◌++◌, ◌-◌, ◌<◌, ◌∙◌, ◌∷◌, ◌≡◌, ◌≤◌, ◌⊎◌}
use Rattle.lot_machine.specs.declared.ticket.Target.TheVariants as target
use Rattle.lot_active.proofs.Lists.{set-same, set-other}

-- ---- ends and places

pub places-mapped : (l : Layout) (f : Funding) (edge : Edge)
    → places_of_edge l f edge ≡ option_map (places_of_ends l) (ends_of_edge f edge)
places-mapped l f edge = by (ends_of f edge)
  where
    by : (o : Option (Node × Node)) → option_map (λ (ends : Node × Node). let a : EdgePlaces =
        record { from = node_place l ends.0; to = node_place l ends.1; amount = counted_amount f edge } in a) o
        ≡ option_map (places_of_ends l) (option_map (λ (ends : Node × Node). let e : EdgeEnds =
        record { from = ends.0; to = ends.1; amount = counted_amount f edge } in e) o)
    by None = refl
    by (Some ends) = refl

-- what is there has its ends
pub ends-there : (f : Funding) (edge : Edge) (ends : EdgeEnds) → ends_of_edge f edge ≡ Some ends
    → ends_of f edge ≡ Some (ends.from, ends.to)
ends-there f edge ends e = by (ends_of f edge) e
  where
    by : (o : Option (Node × Node)) → option_map (λ (x : Node × Node). let made : EdgeEnds =
        record { from = x.0; to = x.1; amount = counted_amount f edge } in made) o ≡ Some ends
        → o ≡ Some (ends.from, ends.to)
    by None is = cc
    by (Some (from, to)) is =
        let same : record { from = from; to = to; amount = counted_amount f edge } ≡ ends = some-injective
        (let made : EdgeEnds = record { from = from; to = to; amount = counted_amount f edge } in made) ends is in
        ap (λ (x : EdgeEnds). Some (pair x.from x.to)) same

pub same-ends : (o : Option EdgeEnds) (a b : EdgeEnds) → o ≡ Some a → o ≡ Some b → a ≡ b
same-ends o a b is at = some-injective a b (sym is ∙ at)

-- one edge more is one of the net
pub adds-net : (less more : LimitedFunding) (edge : Edge) (ends : EdgeEnds) → FitsLimits more
    → AddsEdge less more edge ends
    → Adds (graph_net less) (graph_net more) (edge_place (layout_of more) edge) (places_of_ends (layout_of more) ends)
adds-net less more edge ends fits adds =
    subst (λ (l : Layout). Adds (net_of l less.funding) (graph_net more) (edge_place (layout_of more) edge)
    (places_of_ends (layout_of more) ends)) adds.layout
    (record {
      nodes = refl;
      edges = refl;
      none = ap (places_of_edge l less.funding) back ∙ places-mapped l less.funding edge
          ∙ ap (option_map (places_of_ends l)) adds.none;
      here = ap (places_of_edge l more.funding) back ∙ places-mapped l more.funding edge
          ∙ ap (option_map (places_of_ends l)) adds.here;
      others = λ k off.
          let apart : ¬ (edge_at l k ≡ edge) = λ same. off (sym (place-back l k) ∙ ap (edge_place l) same) in
          places-mapped l more.funding (edge_at l k) ∙ ap (option_map (places_of_ends l))
          (adds.others (edge_at l k) apart) ∙ sym (places-mapped l less.funding (edge_at l k));
    })
  where
    l : Layout
    l = layout_of more

    back : edge_at (layout_of more) (edge_place (layout_of more) edge) ≡ edge
    back =
        edge-back (layout_of more) edge (fits.edge edge ends.from ends.to (ends-there more.funding edge ends adds.here))

-- ---- what stands at a number

set-there : {A : Type 0} (xs : List A) (n : ℕ) (x : A) → 0 < n → n ≤ length xs
    → at_number (set_number xs n x) n ≡ Some x
set-there xs zero x some low = absurd (omega (arith, some))
set-there xs (suc i) x some low =
    let place : suc i - 1 ≡ i = omega arith in
    at_number-suc (set_number xs (suc i) x) i ∙ ap (λ j. slice_get (slice_set xs j x) i) place
    ∙ set-same xs i x (omega (arith, low))

pub there-low : {A : Type 0} (xs : List A) (n : ℕ) (x : A) → at_number xs n ≡ Some x → (0 < n) × (n ≤ length xs)
there-low xs zero x is = cc
there-low xs (suc i) x is = let low = slice_get_within xs i x (sym (at_number-suc xs i) ∙ is) in
    (omega arith, omega (arith, low))

-- another number keeps what it has
set-else : {A : Type 0} (xs : List A) (n : ℕ) (x : A) (k : ℕ) → 0 < n → ¬ (k ≡ n)
    → at_number (set_number xs n x) k ≡ at_number xs k
set-else xs n x k some off = by (number-set xs n x k)
  where
    by : (at_number (set_number xs n x) k ≡ at_number xs k)
        ⊎ ((k ≡ suc (n - 1)) × (at_number (set_number xs n x) k ≡ Some x))
        → at_number (set_number xs n x) k ≡ at_number xs k
    by (inl same) = same
    by (inr (at, is)) = absurd (off (omega (arith, at, some)))

-- ---- ends by what stands at a number

abbrev pub made : ℕ → Node × Node → EdgeEnds
made amount ends = record { from = ends.0; to = ends.1; amount = amount }

abbrev ticket_ends : Option Ticket → Option EdgeEnds
ticket_ends o = option_map (λ (ends : Node × Node). made (unwrap_or (option_map (λ (t : Ticket). t.amount) o) 0) ends)
    (option_and_then (λ (t : Ticket). option_map (λ to. (Currency t.issuer, to)) (target_node t.target)) o)

abbrev lender_ends : ℕ → Option Lend → Option EdgeEnds
lender_ends t o = option_map (λ (ends : Node × Node). made 1 ends)
    (option_and_then (λ (lend : Lend). option_map (λ to. (Thread t, to)) (lend_node lend)) o)

abbrev mutex_ends : ℕ → Option (Option ℕ) → Option EdgeEnds
mutex_ends m o = option_map (λ (ends : Node × Node). made 1 ends)
    (option_map (λ (owner : ℕ). (Mutex m, Thread owner)) (option_flatten o))

ticket-made : (t : Ticket) (node : Node) → target_node t.target ≡ Some node
    → ticket_ends (Some t) ≡ Some (made t.amount (Currency t.issuer, node))
ticket-made t node at = ap (λ o. option_map (λ (ends : Node × Node). made t.amount ends)
    (option_map (λ to. let p : Node × Node = (Currency t.issuer, to) in p) o)) at

ticket-none : (t : Ticket) → target_node t.target ≡ None → ticket_ends (Some t) ≡ None
ticket-none t at = ap (λ o. option_map (λ (ends : Node × Node). made t.amount ends)
    (option_map (λ to. let p : Node × Node = (Currency t.issuer, to) in p) o)) at

lender-made : (t : ℕ) (lend : Lend) (node : Node) → lend_node lend ≡ Some node
    → lender_ends t (Some lend) ≡ Some (made 1 (Thread t, node))
lender-made t lend node at = ap (λ o. option_map (λ (ends : Node × Node). made 1 ends)
    (option_map (λ to. let p : Node × Node = (Thread t, to) in p) o)) at

-- ---- the changes

-- one edge more, of two fundings
abbrev pub HasMore : Funding → Funding → Edge → EdgeEnds → Type 0
HasMore less more edge ends = (ends_of_edge less edge ≡ None) × (ends_of_edge more edge ≡ Some ends)
    × ((other : Edge) → ¬ (other ≡ edge) → ends_of_edge more other ≡ ends_of_edge less other)

module _ (f : Funding) where
  tickets-else : (n : ℕ) (put : Option Ticket) → 0 < n → (other : Edge) → ¬ (other ≡ OfTicket n)
      → ends_of_edge (record f { tickets = set_number f.tickets n put }) other ≡ ends_of_edge f other
  tickets-else n put some (OfTicket k) off =
      ap (λ o. ticket_ends (option_flatten o)) (set-else f.tickets n put k some (λ same. off (ap OfTicket same)))
  tickets-else n put some (OfLender u) off = refl
  tickets-else n put some (OfMutex m) off = refl

  lends-else : (t : ℕ) (lend : Lend) → 0 < t → (other : Edge) → ¬ (other ≡ OfLender t)
      → ends_of_edge (record f { lends = set_number f.lends t lend }) other ≡ ends_of_edge f other
  lends-else t lend some (OfTicket k) off = refl
  lends-else t lend some (OfLender u) off =
      ap (lender_ends u) (set-else f.lends t lend u some (λ same. off (ap OfLender same)))
  lends-else t lend some (OfMutex m) off = refl

  owners-else : (m : ℕ) (owner : Option ℕ) → 0 < m → (other : Edge) → ¬ (other ≡ OfMutex m)
      → ends_of_edge (record f { owners = set_number f.owners m owner }) other ≡ ends_of_edge f other
  owners-else m owner some (OfTicket k) off = refl
  owners-else m owner some (OfLender u) off = refl
  owners-else m owner some (OfMutex k) off =
      ap (mutex_ends k) (set-else f.owners m owner k some (λ same. off (ap OfMutex same)))

  pub number-low : (n : ℕ) (t : Ticket) → ticket_at f n ≡ Some t → (0 < n) × (n ≤ length f.tickets)
  number-low n t here = there-low f.tickets n (Some t) (flatten-some (at_number f.tickets n) t here)

  retargeted-there : (n : ℕ) (t : Ticket) (to : Target) → ticket_at f n ≡ Some t
      → ticket_in (with_target f.tickets n to) n ≡ Some (retargeted to t)
  retargeted-there n t to here =
      let low = number-low n t here in
      ap option_flatten (set-there f.tickets n (option_map (retargeted to) (ticket_in f.tickets n)) low.0 low.1)
      ∙ ap (option_map (retargeted to)) here

  pub fund-adds : (n : ℕ) (t : Ticket) (to : Target) (node : Node) → ticket_at f n ≡ Some t → t.target ≡ target.Unfunded
      → target_node to ≡ Some node
      → HasMore f (record f { tickets = with_target f.tickets n to }) (OfTicket n)
      (edge_between t.amount (Currency t.issuer) node)
  fund-adds n t to node here unfunded at =
      let low = number-low n t here in (
        ap ticket_ends here ∙ ticket-none t (ap target_node unfunded),
        ap ticket_ends (retargeted-there n t to here) ∙ ticket-made (retargeted to t) node at,
        tickets-else n (option_map (retargeted to) (ticket_in f.tickets n)) low.0,
      )

  pub unfund-adds : (n : ℕ) (t : Ticket) (node : Node) → ticket_at f n ≡ Some t → target_node t.target ≡ Some node
      → HasMore (record f { tickets = with_target f.tickets n target.Unfunded }) f (OfTicket n)
      (edge_between t.amount (Currency t.issuer) node)
  unfund-adds n t node here at =
      let low = number-low n t here in (
        ap ticket_ends (retargeted-there n t target.Unfunded here) ∙ ticket-none (retargeted target.Unfunded t) refl,
        ap ticket_ends here ∙ ticket-made t node at,
        λ other off.
            sym (tickets-else n (option_map (retargeted target.Unfunded) (ticket_in f.tickets n)) low.0 other off),
      )

  pub lend-adds : (t : ℕ) (lend : Lend) (node : Node) → at_number f.lends t ≡ Some Nobody → lend_node lend ≡ Some node
      → HasMore f (record f { lends = set_number f.lends t lend }) (OfLender t) (edge_between 1 (Thread t) node)
  lend-adds t lend node here at =
      let low = there-low f.lends t Nobody here in
      (ap (lender_ends t) here, ap (lender_ends t) (set-there f.lends t lend low.0 low.1) ∙ lender-made t lend node at, lends-else t lend low.0)

  pub unlend-adds : (t : ℕ) (lend : Lend) (node : Node) → at_number f.lends t ≡ Some lend → lend_node lend ≡ Some node
      → HasMore (record f { lends = set_number f.lends t Nobody }) f (OfLender t) (edge_between 1 (Thread t) node)
  unlend-adds t lend node here at =
      let low = there-low f.lends t lend here in
      (ap (lender_ends t) (set-there f.lends t Nobody low.0 low.1), ap (lender_ends t) here ∙ lender-made t lend node at, λ other off. sym (lends-else t Nobody low.0 other off))

  pub own-adds : (m owner : ℕ) → 0 < m → m ≤ length f.owners → owner_of f m ≡ None
      → HasMore f (record f { owners = set_number f.owners m (Some owner) }) (OfMutex m)
      (edge_between 1 (Mutex m) (Thread owner))
  own-adds m owner some low free =
      (ap (λ o. mutex_ends m (Some o)) free, ap (mutex_ends m) (set-there f.owners m (Some owner) some low), owners-else m (Some owner) some)

  pub disown-adds : (m owner : ℕ) → 0 < m → m ≤ length f.owners → owner_of f m ≡ Some owner
      → HasMore (record f { owners = set_number f.owners m None }) f (OfMutex m)
      (edge_between 1 (Mutex m) (Thread owner))
  disown-adds m owner some low owned =
      (ap (mutex_ends m) (set-there f.owners m None some low), ap (λ o. mutex_ends m (Some o)) owned, λ other off. sym (owners-else m None some other off))

  -- ---- what changes no edge

  same-net : (l : Layout) (g : Funding) → ((edge : Edge) → ends_of_edge g edge ≡ ends_of_edge f edge)
      → net_of l g ≡ net_of l f
  same-net l g same = ap (λ (all_places : ℕ → Option EdgePlaces). let net : Net =
      record { nodes = node_count l; edges = edge_count l; places = all_places } in net)
      (fun_ext (λ place. places-mapped l g (edge_at l place)
      ∙ ap (option_map (places_of_ends l)) (same (edge_at l place)) ∙ sym (places-mapped l f (edge_at l place))))

  pub issue-ends : (amount issuer : ℕ) (edge : Edge) → ends_of_edge
      (record f { tickets = with_new_ticket f.tickets amount issuer target.Unfunded }) edge ≡ ends_of_edge f edge
  issue-ends amount issuer (OfTicket k) =
      by (number-push f.tickets (Some (record { amount = amount; issuer = issuer; target = target.Unfunded })) k)
    where
      by : (at_number (with_new_ticket f.tickets amount issuer target.Unfunded) k ≡ at_number f.tickets k)
          ⊎ ((at_number f.tickets k ≡ None) × (at_number (with_new_ticket f.tickets amount issuer target.Unfunded) k
          ≡ Some (Some (record { amount = amount; issuer = issuer; target = target.Unfunded }))))
          → ticket_ends (option_flatten (at_number (with_new_ticket f.tickets amount issuer target.Unfunded) k))
          ≡ ticket_ends (option_flatten (at_number f.tickets k))
      by (inl is) = ap (λ o. ticket_ends (option_flatten o)) is
      by (inr (none, is)) = ap (λ o. ticket_ends (option_flatten o)) is
          ∙ sym (ap (λ o. ticket_ends (option_flatten o)) none)
  issue-ends amount issuer (OfLender t) = refl
  issue-ends amount issuer (OfMutex m) = refl

  pub issue-same : (l : Layout) (amount issuer : ℕ)
      → net_of l (record f { tickets = with_new_ticket f.tickets amount issuer target.Unfunded }) ≡ net_of l f
  issue-same l amount issuer = same-net l
      (record f { tickets = with_new_ticket f.tickets amount issuer target.Unfunded }) (issue-ends amount issuer)

  pub again-ends : (n : ℕ) (ticket : Ticket) → at_number f.tickets n ≡ Some None → ticket.target ≡ target.Unfunded
      → (edge : Edge)
      → ends_of_edge (record f { tickets = set_number f.tickets n (Some ticket) }) edge ≡ ends_of_edge f edge
  again-ends n ticket gap unfunded (OfTicket k) = by (number-set f.tickets n (Some ticket) k)
    where
      by : (at_number (set_number f.tickets n (Some ticket)) k ≡ at_number f.tickets k)
          ⊎ ((k ≡ suc (n - 1)) × (at_number (set_number f.tickets n (Some ticket)) k ≡ Some (Some ticket)))
          → ticket_ends (option_flatten (at_number (set_number f.tickets n (Some ticket)) k))
          ≡ ticket_ends (option_flatten (at_number f.tickets k))
      by (inl is) = ap (λ o. ticket_ends (option_flatten o)) is
      by (inr (at, is)) =
          ap (λ o. ticket_ends (option_flatten o)) is ∙ ticket-none ticket (ap target_node unfunded)
          ∙ sym (ap (λ j. ticket_ends (option_flatten (at_number f.tickets j))) (at ∙ number-there f.tickets n None gap)
          ∙ ap (λ o. ticket_ends (option_flatten o)) gap)
  again-ends n ticket gap unfunded (OfLender t) = refl
  again-ends n ticket gap unfunded (OfMutex m) = refl

  pub again-same : (l : Layout) (n : ℕ) (ticket : Ticket) → at_number f.tickets n ≡ Some None → ticket.target
      ≡ target.Unfunded → net_of l (record f { tickets = set_number f.tickets n (Some ticket) }) ≡ net_of l f
  again-same l n ticket gap unfunded =
      same-net l (record f { tickets = set_number f.tickets n (Some ticket) }) (again-ends n ticket gap unfunded)

  pub destroy-ends : (n : ℕ) (t : Ticket) → ticket_at f n ≡ Some t → t.target ≡ target.Unfunded → (edge : Edge)
      → ends_of_edge (record f { tickets = without_ticket f.tickets n }) edge ≡ ends_of_edge f edge
  destroy-ends n t here unfunded (OfTicket k) = by (number-set f.tickets n None k)
    where
      by : (at_number (set_number f.tickets n None) k ≡ at_number f.tickets k)
          ⊎ ((k ≡ suc (n - 1)) × (at_number (set_number f.tickets n None) k ≡ Some None))
          → ticket_ends (option_flatten (at_number (set_number f.tickets n None) k))
          ≡ ticket_ends (option_flatten (at_number f.tickets k))
      by (inl is) = ap (λ o. ticket_ends (option_flatten o)) is
      by (inr (at, is)) =
          let low = number-low n t here in
          let k_is : k ≡ n = omega (arith, at, low.0) in
          ap (λ o. ticket_ends (option_flatten o)) is ∙ sym
          (ap (λ j. ticket_ends (ticket_at f j)) k_is ∙ ap (ticket_ends) here ∙ ticket-none t (ap target_node unfunded))
  destroy-ends n t here unfunded (OfLender u) = refl
  destroy-ends n t here unfunded (OfMutex m) = refl

  pub destroy-same : (l : Layout) (n : ℕ) (t : Ticket) → ticket_at f n ≡ Some t → t.target ≡ target.Unfunded
      → net_of l (record f { tickets = without_ticket f.tickets n }) ≡ net_of l f
  destroy-same l n t here unfunded =
      same-net l (record f { tickets = without_ticket f.tickets n }) (destroy-ends n t here unfunded)

  pub set_amount-ends : (n amount : ℕ) (t : Ticket) → ticket_at f n ≡ Some t → t.target ≡ target.Unfunded
      → (edge : Edge) → ends_of_edge (record f { tickets = with_amount f.tickets n amount }) edge ≡ ends_of_edge f edge
  set_amount-ends n amount t here unfunded (OfTicket k) =
      by (number-set f.tickets n (option_map (reissued amount) (ticket_at f n)) k)
    where
      by : (at_number (with_amount f.tickets n amount) k ≡ at_number f.tickets k) ⊎ ((k ≡ suc (n - 1))
          × (at_number (with_amount f.tickets n amount) k ≡ Some (option_map (reissued amount) (ticket_at f n))))
          → ticket_ends (option_flatten (at_number (with_amount f.tickets n amount) k))
          ≡ ticket_ends (option_flatten (at_number f.tickets k))
      by (inl is) = ap (λ o. ticket_ends (option_flatten o)) is
      by (inr (at, is)) =
          let low = number-low n t here in
          let k_is : k ≡ n = omega (arith, at, low.0) in
          ap (λ o. ticket_ends (option_flatten o)) is ∙ ap (λ o. ticket_ends (option_map (reissued amount) o)) here
          ∙ ticket-none (reissued amount t) (ap target_node unfunded)
          ∙ sym
          (ap (λ j. ticket_ends (ticket_at f j)) k_is ∙ ap (ticket_ends) here ∙ ticket-none t (ap target_node unfunded))
  set_amount-ends n amount t here unfunded (OfLender u) = refl
  set_amount-ends n amount t here unfunded (OfMutex m) = refl

  pub set_amount-same : (l : Layout) (n amount : ℕ) (t : Ticket) → ticket_at f n ≡ Some t → t.target ≡ target.Unfunded
      → net_of l (record f { tickets = with_amount f.tickets n amount }) ≡ net_of l f
  set_amount-same l n amount t here unfunded =
      same-net l (record f { tickets = with_amount f.tickets n amount }) (set_amount-ends n amount t here unfunded)

  pub thread-ends : (edge : Edge)
      → ends_of_edge (record f { lends = f.lends ++ Nobody ∷ [] }) edge ≡ ends_of_edge f edge
  thread-ends (OfTicket k) = refl
  thread-ends (OfLender t) = by (number-push f.lends Nobody t)
    where
      by : (at_number (f.lends ++ Nobody ∷ []) t ≡ at_number f.lends t)
          ⊎ ((at_number f.lends t ≡ None) × (at_number (f.lends ++ Nobody ∷ []) t ≡ Some Nobody))
          → lender_ends t (at_number (f.lends ++ Nobody ∷ []) t) ≡ lender_ends t (at_number f.lends t)
      by (inl is) = ap (lender_ends t) is
      by (inr (none, is)) = ap (lender_ends t) is ∙ sym (ap (lender_ends t) none)
  thread-ends (OfMutex m) = refl

  pub thread-same : (l : Layout) → net_of l (record f { lends = f.lends ++ Nobody ∷ [] }) ≡ net_of l f
  thread-same l = same-net l (record f { lends = f.lends ++ Nobody ∷ [] }) thread-ends

-- ---- a thread that becomes live, or is live no more

pub live-awake : (l : Layout) (live awake : List Bool) (t : ℕ) (b : Bool) → AwakeAre l live awake
    → IsNodeWithin l (Thread t) → t ≤ length live → node_place l (Thread t) < length awake
    → AwakeAre l (set_number live t b) (slice_set awake (node_place l (Thread t)) b)
live-awake l live awake t b are within low fits = record { lives = lives; wakes = wakes }
  where
    lives : (x : ℕ) → IsAwake (slice_set awake (node_place l (Thread t)) b) x
        → (u : ℕ) × (x ≡ node_place l (Thread u)) × IsNodeWithin l (Thread u) × IsLive (set_number live t b) u
    lives x is = elim (cases_eq x (node_place l (Thread t))) [
      | inl same ↦
          let on : Some b ≡ Some true = sym (set-same awake (node_place l (Thread t)) b fits)
          ∙ ap (slice_get (slice_set awake (node_place l (Thread t)) b)) (sym same) ∙ is in
          (t, same, within, set-there live t b within.0 low ∙ on)
      | inr off ↦
          let (u, at, in_u, alive) = are.lives x (sym (set-other awake (node_place l (Thread t)) b x off) ∙ is) in
          (u, at, in_u, set-else live t b u within.0 (λ same. off (at ∙ ap (λ k. node_place l (Thread k)) same)) ∙ alive)
    ]

    wakes : (u : ℕ) → IsNodeWithin l (Thread u) → IsLive (set_number live t b) u
        → IsAwake (slice_set awake (node_place l (Thread t)) b) (node_place l (Thread u))
    wakes u in_u alive = elim (cases_eq u t) [
      | inl same ↦
          let on : Some b ≡ Some true = sym (set-there live t b within.0 low)
          ∙ ap (at_number (set_number live t b)) (sym same) ∙ alive in
          ap (λ k. slice_get (slice_set awake (node_place l (Thread t)) b) (node_place l (Thread k))) same
          ∙ set-same awake (node_place l (Thread t)) b fits ∙ on
      | inr off ↦
          set-other awake (node_place l (Thread t)) b (node_place l (Thread u))
          (λ same. off (let back : u ≡ t = omega (arith, same) in back))
          ∙ are.wakes u in_u (sym (set-else live t b u within.0 off) ∙ alive)
    ]
