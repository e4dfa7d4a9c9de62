-- Paths of the net against chains of tickets and of lends.
use Rattle.lot_active.proofs.Common.{AwakeAre, Bool, ChainLeads, Currency, Edge, FitsIn, Funding, HasNoCycle, IsActive, IsActiveNode, IsAwake, IsBacked, IsChain, IsLendChain, IsLive, IsNodeWithin, IsWay, Layout, Lend, LendsLead, LendsOnTo, LendsTo, List, Mutex, Nobody, Node, None, OfLender, OfMutex, OfTicket, Option, Some, Target, Thread, Ticket, ToMutex, ToThread, ap, at_number, borrower, edge_at, ends-lender, ends-mutex, ends-ticket, ends_of, inl, inr, issuer-of, issuer_of, lend_node, lender-ends, mutex-ends, net_of, node_place, option_and_then, owner_of, refl, same-list, some-injective, subst, sym, target-of, target_node, target_of, ticket-ends, ticket-of, ticket_at, ℕ, [], ◌∙◌, ◌∷◌, ◌≡◌, ◌⊎◌}
use Rattle.lot_machine.specs.declared.ticket.Target.TheVariants as target
use Rattle.lot_machine.specs.Facts as facts
use Rattle.lot_active.specs.Activity.{IsActive as IsNodeActive}
use Rattle.lot_active.proofs.Ends.{ends-places, places-edge, places-ends}

-- ---- one edge

abbrev number : Node → ℕ
number (Currency n) = n
number (Thread n) = n
number (Mutex n) = n

lends-to : (f : Funding) (t s : ℕ) (lend : Lend) → at_number f.lends t ≡ Some lend → borrower f lend ≡ Some s
    → LendsTo f t s
lends-to f t s lend is at = ap (option_and_then (borrower f)) is ∙ at

module _ (f : Funding) (live : List Bool) where
  -- what the definitions say of a node
  abbrev pub NodeActive : Node → Type 0
  NodeActive node = IsActiveNode f live node

  pub ticket-active : (n : ℕ) (t : Ticket) (q : Node) → ticket_at f n ≡ Some t → target_node t.target ≡ Some q
      → NodeActive q → IsActive f live n
  ticket-active n t q is at active = by t.target refl at
    where
      by : (to : Target) → t.target ≡ to → target_node to ≡ Some q → IsActive f live n
      by target.Unfunded same e = cc
      by (target.Currency d) same e =
          let q_is : Currency d ≡ q = some-injective (Currency d) q e in
          let (m, issued, (rest, u, chain, backed)) = subst NodeActive (sym q_is) active in
          (m ∷ rest, u, ((d, target-of f n t is ∙ ap Some same, issued), chain), backed)
      by (target.Thread u) same e =
          let q_is : Thread u ≡ q = some-injective (Thread u) q e in
          ([], u, target-of f n t is ∙ ap Some same, subst NodeActive (sym q_is) active)

  pub active-ticket : (n : ℕ) (t : Ticket) (q : Node) → ticket_at f n ≡ Some t → target_node t.target ≡ Some q
      → IsActive f live n → NodeActive q
  active-ticket n t q is at (rest, u, chain, backed) = by rest chain
    where
      target_is : (to : Target) → target_of f n ≡ Some to → target_node to ≡ Some q
      target_is to e = ap target_node (some-injective to t.target (sym e ∙ target-of f n t is)) ∙ at

      by : (rest : List ℕ) → IsChain f n rest (target.Thread u) → NodeActive q
      by [] funds = let q_is : Thread u ≡ q = some-injective (Thread u) q (target_is (target.Thread u) funds) in
          subst NodeActive q_is backed
      by (m ∷ more) ((d, funds, issued), others) =
          let q_is : Currency d ≡ q = some-injective (Currency d) q (target_is (target.Currency d) funds) in
          let here : NodeActive (Currency d) = (m, issued, (more, u, others, backed)) in
          subst NodeActive q_is here

  node-step : (edge : Edge) (a q : Node) → ends_of f edge ≡ Some (a, q) → NodeActive q → NodeActive a
  node-step (OfTicket n) a q is active =
      let (t, there, from, at) = ticket-ends f n a q is in
      let here : NodeActive (Currency t.issuer) = (n, issuer-of f n t there, ticket-active n t q there at active) in
      subst NodeActive (sym from) here
  node-step (OfLender t) a q is active =
      let (lend, there, from, at) = lender-ends f t a q is in
      subst NodeActive (sym from) (by lend there at)
    where
      by : (lend : Lend) → at_number f.lends t ≡ Some lend → lend_node lend ≡ Some q → IsBacked f live t
      by Nobody there e = cc
      by (ToThread s) there e =
          let q_is : Thread s ≡ q = some-injective (Thread s) q e in
          let (u, (chain, lends), alive) = subst NodeActive (sym q_is) active in
          (u, (s ∷ chain, (lends-to f t s (ToThread s) there refl, lends)), alive)
      by (ToMutex m) there e =
          let q_is : Mutex m ≡ q = some-injective (Mutex m) q e in
          let (owner, owned, (u, (chain, lends), alive)) = subst NodeActive (sym q_is) active in
          (u, (owner ∷ chain, (lends-to f t owner (ToMutex m) there owned, lends)), alive)
  node-step (OfMutex m) a q is active =
      let (owner, owned, from, at) = mutex-ends f m a q is in
      let here : NodeActive (Mutex m) = (owner, owned, subst NodeActive at active) in
      subst NodeActive (sym from) here

-- ---- activity

module _ (l : Layout) (f : Funding) (live awake : List Bool) (fits : FitsIn l f) (are : AwakeAre l live awake) where
  way-active : (a : Node) (x : ℕ) (way : List ℕ) (y : ℕ) → IsNodeWithin l a → x ≡ node_place l a
      → IsWay (net_of l f) x way y → IsAwake awake y → NodeActive f live a
  way-active a x [] y within x_is same is =
      let (t, at, in_t, alive) = are.lives y is in
      let a_is : Thread t ≡ a = same-list l (Thread t) a in_t within (sym at ∙ sym same ∙ x_is) in
      let here : NodeActive f live (Thread t) = (t, ([], refl), alive) in
      subst (NodeActive f live) a_is here
  way-active a x (next ∷ rest) y within x_is (places, others) is =
      let (edge, to, ends, next_is) = places-edge l f fits a x next within x_is places in
      node-step f live edge a to ends (way-active to next rest y (fits.to edge a to ends) next_is others is)

  -- what is active in the net is so by the definitions
  pub net-active : (a : Node) → IsNodeWithin l a → IsNodeActive (net_of l f) awake (node_place l a)
      → NodeActive f live a
  net-active a within (m, (way, is), here) = way-active a (node_place l a) way m within refl is here

  onward : (edge : Edge) (a b : Node) → ends_of f edge ≡ Some (a, b) → IsNodeActive (net_of l f) awake (node_place l b)
      → IsNodeActive (net_of l f) awake (node_place l a)
  onward edge a b ends (m, (way, is), here) =
      (m, (node_place l b ∷ way, (ends-places l f fits edge a b ends, is)), here)

  chain-active : (t : ℕ) (chain : List ℕ) (u : ℕ) → IsNodeWithin l (Thread t) → IsLendChain f t chain u → IsLive live u
      → IsNodeActive (net_of l f) awake (node_place l (Thread t))
  chain-active t [] u within same alive =
      (node_place l (Thread t), ([], refl), are.wakes t within (subst (IsLive live) (sym same) alive))
  chain-active t (s ∷ rest) u within (lends, others) alive =
      by (λ in_s. chain-active s rest u in_s others alive) (at_number f.lends t) refl lends
    where
      along : (IsNodeWithin l (Thread s) → IsNodeActive (net_of l f) awake (node_place l (Thread s))) → (lend : Lend)
          → at_number f.lends t ≡ Some lend → borrower f lend ≡ Some s
          → IsNodeActive (net_of l f) awake (node_place l (Thread t))
      along next Nobody is e = cc
      along next (ToThread v) is e =
          let v_is : v ≡ s = some-injective v s e in
          let ends : ends_of f (OfLender t) ≡ Some (Thread t, Thread s) =
          ends-lender f t (ToThread v) (Thread s) is (ap (λ k. Some (Thread k)) v_is) in
          onward (OfLender t) (Thread t) (Thread s) ends (next (fits.to (OfLender t) (Thread t) (Thread s) ends))
      along next (ToMutex m) is e =
          let ends : ends_of f (OfLender t) ≡ Some (Thread t, Mutex m) =
          ends-lender f t (ToMutex m) (Mutex m) is refl in
          let owned = ends-mutex f m s e in
          onward (OfLender t) (Thread t) (Mutex m) ends
          (onward (OfMutex m) (Mutex m) (Thread s) owned (next (fits.to (OfMutex m) (Mutex m) (Thread s) owned)))

      by : (IsNodeWithin l (Thread s) → IsNodeActive (net_of l f) awake (node_place l (Thread s))) → (o : Option Lend)
          → at_number f.lends t ≡ o → option_and_then (borrower f) o ≡ Some s
          → IsNodeActive (net_of l f) awake (node_place l (Thread t))
      by next None is e = cc
      by next (Some lend) is e = along next lend is e

  backed-active : (t : ℕ) → IsNodeWithin l (Thread t) → IsBacked f live t
      → IsNodeActive (net_of l f) awake (node_place l (Thread t))
  backed-active t within (u, (chain, is), alive) = chain-active t chain u within is alive

  ticket-onward : (c n : ℕ) (to : Target) (b : Node) → issuer_of f n ≡ Some c → target_of f n ≡ Some to
      → target_node to ≡ Some b → (IsNodeWithin l b → IsNodeActive (net_of l f) awake (node_place l b))
      → IsNodeActive (net_of l f) awake (node_place l (Currency c))
  ticket-onward c n to b issued funds at next = by (ticket-of f n c issued)
    where
      by : ((t : Ticket) × (ticket_at f n ≡ Some t) × (t.issuer ≡ c))
          → IsNodeActive (net_of l f) awake (node_place l (Currency c))
      by (t, there, c_is) =
          let same : t.target ≡ to = some-injective t.target to (sym (target-of f n t there) ∙ funds) in
          let ends : ends_of f (OfTicket n) ≡ Some (Currency c, b) = subst (λ k. ends_of f (OfTicket n)
          ≡ Some (Currency k, b)) c_is (ends-ticket f n t b there (ap target_node same ∙ at)) in
          onward (OfTicket n) (Currency c) b ends (next (fits.to (OfTicket n) (Currency c) b ends))

  tickets-active : (c n : ℕ) (rest : List ℕ) (u : ℕ) → issuer_of f n ≡ Some c → IsChain f n rest (target.Thread u)
      → IsBacked f live u → IsNodeActive (net_of l f) awake (node_place l (Currency c))
  tickets-active c n [] u issued funds backed =
      ticket-onward c n (target.Thread u) (Thread u) issued funds refl (λ within. backed-active u within backed)
  tickets-active c n (m ∷ more) u issued ((d, funds, issued'), others) backed =
      let next = tickets-active d m more u issued' others backed in
      ticket-onward c n (target.Currency d) (Currency d) issued funds refl (λ within. next)

  -- and what is so by the definitions is active in the net
  pub active-net : (a : Node) → IsNodeWithin l a → NodeActive f live a
      → IsNodeActive (net_of l f) awake (node_place l a)
  active-net (Currency c) within (n, issued, (rest, u, is, backed)) = tickets-active c n rest u issued is backed
  active-net (Thread t) within backed = backed-active t within backed
  active-net (Mutex m) within (owner, owned, backed) =
      let ends = ends-mutex f m owner owned in onward (OfMutex m) (Mutex m) (Thread owner) ends
      (backed-active owner (fits.to (OfMutex m) (Mutex m) (Thread owner) ends) backed)

-- ---- cycles

lends-more : (f : Funding) (t : ℕ) (chain : List ℕ) (s v : ℕ) → IsLendChain f t chain s → LendsTo f s v
    → LendsLead f t v
lends-more f t [] s v same lends = (v ∷ [], (subst (λ x. LendsTo f x v) (sym same) lends, refl))
lends-more f t (r ∷ rest) s v (first, others) lends = let more = lends-more f r rest s v others lends in
    (r ∷ more.0, (first, more.1))

-- the thread lends to the mutex
abbrev WaitsFor : Funding → ℕ → ℕ → Type 0
WaitsFor f s m = at_number f.lends s ≡ Some (ToMutex m)

module _ (f : Funding) where
  -- what an edge or more leads to
  abbrev After : Node → Node → Type 0
  After (Currency c) (Currency d) = ChainLeads f c (target.Currency d)
  After (Currency c) other = Unit {0}
  After (Thread t) (Currency d) = ⊥
  After (Thread t) (Thread s) = LendsOnTo f t s
  After (Thread t) (Mutex m) = (s : ℕ) × LendsLead f t s × WaitsFor f s m
  After (Mutex m) (Currency d) = ⊥
  After (Mutex m) (Thread s) = (owner : ℕ) × (owner_of f m ≡ Some owner) × LendsLead f owner s
  After (Mutex m) (Mutex k) = (owner : ℕ) × (owner_of f m ≡ Some owner)
      × ((s : ℕ) × LendsLead f owner s × WaitsFor f s k)

  -- an edge, and then nothing or more
  first-ticket : (n : ℕ) (t : Ticket) (q b : Node) → ticket_at f n ≡ Some t → target_node t.target ≡ Some q
      → (q ≡ b) ⊎ After q b → After (Currency t.issuer) b
  first-ticket n t q (Thread s) is at more = tt
  first-ticket n t q (Mutex m) is at more = tt
  first-ticket n t q (Currency d) is at more = by t.target refl at more
    where
      by : (to : Target) → t.target ≡ to → target_node to ≡ Some q → (q ≡ Currency d) ⊎ After q (Currency d)
          → ChainLeads f t.issuer (target.Currency d)
      by target.Unfunded same e rest = cc
      by (target.Thread u) same e rest = let q_is : Thread u ≡ q = some-injective (Thread u) q e in
          none (subst (λ x. (x ≡ Currency d) ⊎ After x (Currency d)) (sym q_is) rest)
        where
          none : (Thread u ≡ Currency d) ⊎ ⊥ → ChainLeads f t.issuer (target.Currency d)
          none (inl wrong) = cc
          none (inr wrong) = absurd wrong
      by (target.Currency c) same e rest = let q_is : Currency c ≡ q = some-injective (Currency c) q e in
          go (subst (λ x. (x ≡ Currency d) ⊎ After x (Currency d)) (sym q_is) rest)
        where
          go : (Currency c ≡ Currency d) ⊎ ChainLeads f c (target.Currency d)
              → ChainLeads f t.issuer (target.Currency d)
          go (inl is_d) = let number_is : c ≡ d = ap number is_d in
              (n, [], issuer-of f n t is, target-of f n t is ∙ ap Some same ∙ ap (λ k. Some (target.Currency k)) number_is)
          go (inr (m, chain, issued, leads)) =
              (n, m ∷ chain, issuer-of f n t is, ((c, target-of f n t is ∙ ap Some same, issued), leads))

  first-lend : (t s : ℕ) (b : Node) → LendsTo f t s → (Thread s ≡ b) ⊎ After (Thread s) b → After (Thread t) b
  first-lend t s (Currency d) lends (inl wrong) = cc
  first-lend t s (Currency d) lends (inr wrong) = wrong
  first-lend t s (Thread u) lends (inl same) = (s, lends, ([], ap number same))
  first-lend t s (Thread u) lends (inr (v, next, (chain, is))) = (s, lends, (v ∷ chain, (next, is)))
  first-lend t s (Mutex m) lends (inl wrong) = cc
  first-lend t s (Mutex m) lends (inr (v, (chain, is), waits)) = (v, (s ∷ chain, (lends, is)), waits)

  first-wait : (t m : ℕ) (b : Node) → WaitsFor f t m → (Mutex m ≡ b) ⊎ After (Mutex m) b → After (Thread t) b
  first-wait t m (Currency d) waits (inl wrong) = cc
  first-wait t m (Currency d) waits (inr wrong) = wrong
  first-wait t m (Thread u) waits (inl wrong) = cc
  first-wait t m (Thread u) waits (inr (owner, owned, lead)) = (owner, lends-to f t owner (ToMutex m) waits owned, lead)
  first-wait t m (Mutex k) waits (inl same) = (t, ([], refl), waits ∙ ap (λ j. Some (ToMutex j)) (ap number same))
  first-wait t m (Mutex k) waits (inr (owner, owned, (s, (chain, is), waits'))) =
      (s, (owner ∷ chain, (lends-to f t owner (ToMutex m) waits owned, is)), waits')

  first-owner : (m owner : ℕ) (b : Node) → owner_of f m ≡ Some owner → (Thread owner ≡ b) ⊎ After (Thread owner) b
      → After (Mutex m) b
  first-owner m owner (Currency d) owned (inl wrong) = cc
  first-owner m owner (Currency d) owned (inr wrong) = wrong
  first-owner m owner (Thread u) owned (inl same) = (owner, owned, ([], ap number same))
  first-owner m owner (Thread u) owned (inr (v, lends, (chain, is))) = (owner, owned, (v ∷ chain, (lends, is)))
  first-owner m owner (Mutex k) owned (inl wrong) = cc
  first-owner m owner (Mutex k) owned (inr more) = (owner, owned, more)

  first : (edge : Edge) (a q b : Node) → ends_of f edge ≡ Some (a, q) → (q ≡ b) ⊎ After q b → After a b
  first (OfTicket n) a q b is more =
      let (t, there, from, at) = ticket-ends f n a q is in
      subst (λ x. After x b) (sym from) (first-ticket n t q b there at more)
  first (OfLender t) a q b is more =
      let (lend, there, from, at) = lender-ends f t a q is in subst (λ x. After x b) (sym from) (by lend there at)
    where
      by : (lend : Lend) → at_number f.lends t ≡ Some lend → lend_node lend ≡ Some q → After (Thread t) b
      by Nobody there e = cc
      by (ToThread s) there e = let q_is : Thread s ≡ q = some-injective (Thread s) q e in
          first-lend t s b (lends-to f t s (ToThread s) there refl) (subst (λ x. (x ≡ b) ⊎ After x b) (sym q_is) more)
      by (ToMutex m) there e = let q_is : Mutex m ≡ q = some-injective (Mutex m) q e in
          first-wait t m b there (subst (λ x. (x ≡ b) ⊎ After x b) (sym q_is) more)
  first (OfMutex m) a q b is more =
      let (owner, owned, from, at) = mutex-ends f m a q is in
      subst (λ x. After x b) (sym from) (first-owner m owner b owned (subst (λ x. (x ≡ b) ⊎ After x b) at more))

  -- nothing comes after itself
  no-return : facts.HasNoCycle f → (a : Node) → ¬ After a a
  no-return none (Currency c) leads = none.funding c leads
  no-return none (Thread t) leads = none.lends t leads
  no-return none (Mutex m) (owner, owned, (s, (chain, is), waits)) =
      none.lends s (owner, lends-to f s owner (ToMutex m) waits owned, (chain, is))

module _ (l : Layout) (f : Funding) (fits : FitsIn l f) (none : facts.HasNoCycle f) where
  way-after : (q b : Node) (x : ℕ) (way : List ℕ) (y : ℕ) → IsNodeWithin l q → IsNodeWithin l b → x ≡ node_place l q
      → y ≡ node_place l b → IsWay (net_of l f) x way y → (q ≡ b) ⊎ After f q b
  way-after q b x [] y in_q in_b x_is y_is same = inl (same-list l q b in_q in_b (sym x_is ∙ same ∙ y_is))
  way-after q b x (next ∷ rest) y in_q in_b x_is y_is (places, others) =
      let (edge, to, ends, next_is) = places-edge l f fits q x next in_q x_is places in
      inr (first f edge q to b ends (way-after to b next rest y (fits.to edge q to ends) in_b next_is y_is others))

  pub net-no_cycle : HasNoCycle (net_of l f)
  net-no_cycle x y (e, places, is, from, to) (way, back) =
      let r = places-ends l f (edge_at l e) places is in
      let in_a = fits.from (edge_at l e) r.0 r.1 r.2 in
      let in_q = fits.to (edge_at l e) r.0 r.1 r.2 in
      no-return f none r.0
      (first f (edge_at l e) r.0 r.1 r.0 r.2 (way-after r.1 r.0 y way x in_q in_a (sym to ∙ r.4) (sym from ∙ r.3) back))
