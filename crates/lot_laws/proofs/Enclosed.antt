-- A change inside a currency that stays active, or inactive, changes no value outside it.
use Rattle.lot_laws.proofs.Common.{Bool, Currency, Edge, Encloses, Funding, FundsNoBase, FundsThere, HasAmounts, HasEquation, HasNoCycle, IsActive, IsBacked, IsChain, IsChangeInside, IsEdge, IsEdgeOfEither, IsLive, Lend, List, Nobody, Node, OfLender, OfMutex, OfTicket, Some, Thread, Ticket, ToMutex, ToThread, active_amount, ap, arith, at_number, cases_eq, ends-are, ends_of, eqb-true, false, filter, inl, inr, is_active, is_active-exact, issued-found, issued_in, issuer-amount, issuer-of, issuer_of, lend_node, list_any, node_value, refl, some-injective, subst, sum_by, sym, target-of, target_node, target_of, ticket-of, ticket_at, true, weighed_of, ℕ, [], ◌<◌, ◌==◌, ◌∙◌, ◌∷◌, ◌≡◌, ◌≢◌, ◌≤◌, ◌⊎◌}
use Rattle.lot_machine.specs.declared.ticket.Target.TheVariants as target
use Rattle.lot_machine.specs.declared.funding.Node.TheVariants.{Mutex}
use Rattle.lot_laws.proofs.KeptPaths.{StaysActive, ends-ticket, ticket-ends, ends-kept, amount-one, chain-aims, target-one, currency-one, backed-kept}
use Rattle.lot_laws.proofs.KeptValues.{ends, weighed, weighed-told, live-told, amount-stays, kept-value}

-- ---- an amount that is active

-- nothing passes, so nothing is summed
none-any : (test : Ticket → Bool) (ts : List Ticket) → list_any test ts ≡ false
    → sum_by (λ (t : Ticket). t.amount) (filter test ts) ≡ 0
none-any test [] none = refl
none-any test (t ∷ ts) none = at (test t) refl (none-any test ts) none
  where
    at : (b : Bool) → test t ≡ b → (list_any test ts ≡ false → sum_by (λ (u : Ticket). u.amount) (filter test ts) ≡ 0)
        → list_any test (t ∷ ts) ≡ false
        → sum_by (λ (u : Ticket). u.amount) (filter test (t ∷ ts)) ≡ 0
    at true is more = rw is (λ never. cc)
    at false is more = rw is more

-- a currency with an active amount issues an active ticket
pub active-found : (f : Funding) (live : List Bool) (c : ℕ) → 0 < active_amount f live c
    → (n : ℕ) × (t : Ticket) × (ticket_at f n ≡ Some t) × (t.issuer ≡ c) × (is_active f live t ≡ true)
active-found f live c some = by (list_any (is_active f live) (issued_in f c)) refl
  where
    by : (b : Bool) → list_any (is_active f live) (issued_in f c) ≡ b
        → (n : ℕ) × (t : Ticket) × (ticket_at f n ≡ Some t) × (t.issuer ≡ c) × (is_active f live t ≡ true)
    by true is = issued-found (is_active f live) f c is
    by false is = absurd (omega (arith, some, none-any (is_active f live) (issued_in f c) is))

-- an edge from a thread or a mutex leads to no currency
not-to-currency : (f : Funding) (edge : Edge) (from : Node) (d : ℕ) → ((e : ℕ) → from ≢ Currency e)
    → ¬ (ends_of f edge ≡ ends from (Currency d))
not-to-currency f (OfTicket n) from d apart is = let (t, at, from_is, to_is) =
    ends-are f (OfTicket n) from (Currency d) is in apart t.issuer from_is
not-to-currency f (OfLender s) from d apart is = let (lend, at, from_is, to_is) =
    ends-are f (OfLender s) from (Currency d) is in by lend to_is
  where
    by : (lend : Lend) → lend_node lend ≡ Some (Currency d) → ⊥
    by Nobody e = cc
    by (ToThread t) e = let same : Thread t ≡ Currency d = some-injective (Thread t) (Currency d) e in cc
    by (ToMutex m) e = let same : Mutex m ≡ Currency d = some-injective (Mutex m) (Currency d) e in cc
not-to-currency f (OfMutex m) from d apart is = let (owner, at, from_is, to_is) =
    ends-are f (OfMutex m) from (Currency d) is in cc

-- ---- what is active before is active after

module _ (f g : Funding) (live now : List Bool) (c : ℕ) (inside : Node → Bool) (encloses : Encloses f c inside)
    (no_base : FundsNoBase f) (have : HasAmounts f)
    (no_cycle : HasNoCycle f) (there : FundsThere f) (no_cycle_now : HasNoCycle g) (there_now : FundsThere g)
    (weighed-on : (edge : Edge) (from to : Node) (weight : ℕ) → inside to ≡ false
    → weighed_of f edge ≡ weighed from to weight → weighed_of g edge ≡ weighed from to weight)
    (life-on : (t : ℕ) → inside (Thread t) ≡ false → IsLive live t → IsLive now t)
    (some-on : 0 < active_amount f live c → 0 < active_amount g now c) where
  edge-on : (edge : Edge) (from to : Node) → inside to ≡ false → ends_of f edge ≡ ends from to
      → ends_of g edge ≡ ends from to
  edge-on edge from to out = ends-kept f g edge from to (λ weight. weighed-on edge from to weight out)

  -- what is outside, and not the currency, leads outside
  outside-next : (from to : Node) → IsEdge f from to → inside from ≡ false → from ≢ Currency c → from ≢ Currency 0
      → inside to ≡ false
  outside-next from to edge out apart user = by (inside to) refl
    where
      none : (from ≡ Currency c) ⊎ (inside from ≡ true) → ⊥
      none (inl same) = apart same
      none (inr is_in) = let never : false ≡ true = sym out ∙ is_in in cc

      by : (b : Bool) → inside to ≡ b → b ≡ false
      by false is = refl
      by true is = absurd (none (encloses.alone from to edge is user))

  -- a thread or a mutex outside
  abbrev IsAside : Node → Type 0
  IsAside (Currency d) = ⊥
  IsAside (Thread t) = inside (Thread t) ≡ false
  IsAside (Mutex m) = inside (Mutex m) ≡ false

  kept-aside : (edge : Edge) (from to : Node) → IsAside from → ends_of f edge ≡ ends from to
      → (ends_of g edge ≡ ends from to) × IsAside to
  kept-aside edge (Currency d) to aside is = absurd aside
  kept-aside edge (Thread t) (Currency d) aside is = absurd (not-to-currency f edge (Thread t) d (λ e same. cc) is)
  kept-aside edge (Thread t) (Thread u) aside is = let out = outside-next (Thread t) (Thread u) (edge, is) aside
      (λ e. cc) (λ e. cc) in (edge-on edge (Thread t) (Thread u) out is, out)
  kept-aside edge (Thread t) (Mutex m) aside is = let out = outside-next (Thread t) (Mutex m) (edge, is) aside (λ e. cc)
      (λ e. cc) in (edge-on edge (Thread t) (Mutex m) out is, out)
  kept-aside edge (Mutex m) (Currency d) aside is = absurd (not-to-currency f edge (Mutex m) d (λ e same. cc) is)
  kept-aside edge (Mutex m) (Thread u) aside is = let out = outside-next (Mutex m) (Thread u) (edge, is) aside (λ e. cc)
      (λ e. cc) in (edge-on edge (Mutex m) (Thread u) out is, out)
  kept-aside edge (Mutex m) (Mutex n) aside is = let out = outside-next (Mutex m) (Mutex n) (edge, is) aside (λ e. cc)
      (λ e. cc) in (edge-on edge (Mutex m) (Mutex n) out is, out)

  backed-aside : (t : ℕ) → inside (Thread t) ≡ false → IsBacked f live t → IsBacked g now t
  backed-aside = backed-kept f g live now IsAside kept-aside life-on

  -- a ticket that funds something outside stays active
  active-on : (n : ℕ) (rest : List ℕ) (t : ℕ) (from to : Node) → inside to ≡ false → ends_of f (OfTicket n)
      ≡ ends from to → IsChain f n rest (target.Thread t) → IsBacked f live t → IsActive g now n
  active-on n [] t from to out is chain backed =
      let (a, a_at, a_from, a_to) = ends-ticket f n from to is in
      let (b, b_at, b_from, b_to) = ends-ticket g n from to (edge-on (OfTicket n) from to out is) in
      let aims : a.target ≡ target.Thread t =
      some-injective a.target (target.Thread t) (sym (target-of f n a a_at) ∙ chain) in
      let node : to ≡ Thread t = some-injective to (Thread t) (sym a_to ∙ ap target_node aims) in
      ([], t, target-of g n b b_at ∙ ap Some (target-one b.target a.target to b_to a_to ∙ aims), backed-aside t (subst (λ x. inside x ≡ false) node out) backed)
  active-on n (m ∷ rest) t from to out is chain backed =
      let (a, a_at, a_from, a_to) = ends-ticket f n from to is in
      let (b, b_at, b_from, b_to) = ends-ticket g n from to (edge-on (OfTicket n) from to out is) in
      let aims : a.target ≡ target.Currency chain.0.0 =
      some-injective a.target (target.Currency chain.0.0) (sym (target-of f n a a_at) ∙ chain.0.1) in
      let node : to ≡ Currency chain.0.0 = some-injective to (Currency chain.0.0) (sym a_to ∙ ap target_node aims) in
      let funds : target_of g n ≡ Some (target.Currency chain.0.0) = target-of g n b b_at
      ∙ ap Some (target-one b.target a.target to b_to a_to ∙ aims) in
      by chain.0.0 chain.0.1 chain.0.2 funds (subst (λ x. inside x ≡ false) node out) (λ next next_out edge.
      active-on m rest t (Currency chain.0.0) next next_out edge chain.1 backed) (cases_eq chain.0.0 c)
    where
      -- over the currency that the ticket funds
      by : (d : ℕ) → target_of f n ≡ Some (target.Currency d) → issuer_of f m ≡ Some d
          → target_of g n ≡ Some (target.Currency d) → inside (Currency d) ≡ false
          → ((next : Node) → inside next ≡ false → ends_of f (OfTicket m) ≡ ends (Currency d) next → IsActive g now m)
          → (d ≡ c) ⊎ (¬ (d ≡ c)) → IsActive g now n
      by d funded issued funds out_d later (inl same) =
          let (u, u_at, u_issuer) = ticket-of f m d issued in
          let active : is_active f live u ≡ true =
          (is_active-exact f no_cycle there live m u u_at).1 (rest, t, chain.1, backed) in
          let amount : u.amount ≤ active_amount f live c =
          subst (λ i. u.amount ≤ active_amount f live i) (u_issuer ∙ same) (issuer-amount f live m u u_at active) in
          let (k, v, v_at, v_issuer, v_active) =
          active-found g now c (some-on (omega (arith, amount, have m u u_at))) in
          let (more, last, leads, is_backed) = (is_active-exact g no_cycle_now there_now now k v v_at).0 v_active in
          (k ∷ more, last, ((d, funds, issuer-of g k v v_at ∙ ap Some (v_issuer ∙ sym same)), leads), is_backed)
      by d funded issued funds out_d later (inr apart) =
          let (aim, next, aims, next_is) = chain-aims f m rest t chain.1 in
          let edge : ends_of f (OfTicket m) ≡ ends (Currency d) next = ticket-ends f m d aim next issued aims next_is in
          let next_out : inside next ≡ false =
          outside-next (Currency d) next (OfTicket m, edge) out_d (λ e. apart (currency-one d c e))
          (λ e. no_base n (funded ∙ ap (λ x. Some (target.Currency x)) (currency-one d 0 e))) in
          let (more, last, leads, is_backed) = later next next_out edge in
          let (w, w_at, w_from, w_to) =
          ends-ticket g m (Currency d) next (edge-on (OfTicket m) (Currency d) next next_out edge) in
          (m ∷ more, last, ((d, funds, issuer-of g m w w_at ∙ ap Some (sym (currency-one d w.issuer w_from))), leads), is_backed)

  pub active-after : (n : ℕ) (from to : Node) → inside to ≡ false → ends_of f (OfTicket n) ≡ ends from to
      → IsActive f live n → IsActive g now n
  active-after n from to out is (rest, t, chain, backed) = active-on n rest t from to out is chain backed

  -- an active ticket of another currency outside is there after, and active, with its amount
  pub there-after : (n : ℕ) (t : Ticket) → ticket_at f n ≡ Some t → inside (Currency t.issuer) ≡ false → t.issuer ≢ c
      → t.issuer ≢ 0 → is_active f live t ≡ true → StaysActive g now n t
  there-after n t at out apart user active =
      let is : IsActive f live n = (is_active-exact f no_cycle there live n t at).0 active in
      let (aim, to, aims, to_is) = chain-aims f n is.0 is.1 is.2 in
      let edge : ends_of f (OfTicket n) ≡ ends (Currency t.issuer) to =
      ticket-ends f n t.issuer aim to (issuer-of f n t at) aims to_is in
      let to_out : inside to ≡ false = outside-next (Currency t.issuer) to (OfTicket n, edge) out
      (λ e. apart (currency-one t.issuer c e)) (λ e. user (currency-one t.issuer 0 e)) in
      let (u, u_at, u_from, u_to) =
      ends-ticket g n (Currency t.issuer) to (edge-on (OfTicket n) (Currency t.issuer) to to_out edge) in
      record {
        ticket = u;
        there = u_at;
        issuer = currency-one t.issuer u.issuer u_from;
        amount = amount-one f g n (Currency t.issuer) to t u at u_at edge
            (λ weight. weighed-on (OfTicket n) (Currency t.issuer) to weight to_out);
        active = (is_active-exact g no_cycle_now there_now now n u u_at).1
            (active-after n (Currency t.issuer) to to_out edge is);
      }

-- ---- values

module _ (f g : Funding) (no_cycle : HasNoCycle f) (there : FundsThere f) (no_cycle_now : HasNoCycle g)
    (there_now : FundsThere g) (have : HasAmounts f) (have_now : HasAmounts g)
    (no_base : FundsNoBase f) (no_base_now : FundsNoBase g) (unit : ℕ) (live now : List Bool) (c : ℕ)
    (inside : Node → Bool) (change : IsChangeInside f g live now c inside)
    (some-on : 0 < active_amount f live c → 0 < active_amount g now c)
    (some-back : 0 < active_amount g now c → 0 < active_amount f live c) where
  -- an edge that leads outside keeps its weight, and a thread outside its life
  weighed-on : (edge : Edge) (from to : Node) (weight : ℕ) → inside to ≡ false
      → weighed_of f edge ≡ weighed from to weight → weighed_of g edge ≡ weighed from to weight
  weighed-on edge from to weight out is = by (weighed-told (weighed_of g edge) from to weight)
    where
      by : (weighed_of g edge ≡ weighed from to weight) ⊎ (weighed_of g edge ≢ weighed from to weight)
          → weighed_of g edge ≡ weighed from to weight
      by (inl same) = same
      by (inr gone) = let never : false ≡ true = sym out ∙ change.edges from to (inl (edge, weight, is, gone)) in cc

  weighed-back : (edge : Edge) (from to : Node) (weight : ℕ) → inside to ≡ false
      → weighed_of g edge ≡ weighed from to weight → weighed_of f edge ≡ weighed from to weight
  weighed-back edge from to weight out is = by (weighed-told (weighed_of f edge) from to weight)
    where
      by : (weighed_of f edge ≡ weighed from to weight) ⊎ (weighed_of f edge ≢ weighed from to weight)
          → weighed_of f edge ≡ weighed from to weight
      by (inl same) = same
      by (inr new) = let never : false ≡ true = sym out ∙ change.edges from to (inr (edge, weight, is, new)) in cc

  life-on : (t : ℕ) → inside (Thread t) ≡ false → IsLive live t → IsLive now t
  life-on t out alive = by (live-told (at_number now t))
    where
      by : (at_number now t ≡ Some true) ⊎ (at_number now t ≢ Some true) → IsLive now t
      by (inl is) = is
      by (inr ended) = let never : false ≡ true = sym out ∙ change.lives t (inl (alive, ended)) in cc

  life-back : (t : ℕ) → inside (Thread t) ≡ false → IsLive now t → IsLive live t
  life-back t out alive = by (live-told (at_number live t))
    where
      by : (at_number live t ≡ Some true) ⊎ (at_number live t ≢ Some true) → IsLive live t
      by (inl is) = is
      by (inr new) = let never : false ≡ true = sym out ∙ change.lives t (inr (alive, new)) in cc

  -- outside
  abbrev IsOut : Node → Type 0
  IsOut node = inside node ≡ false

  -- what leads outside is outside
  source : (from to : Node) → IsOut to → IsEdgeOfEither f g from to → from ≢ Currency 0 → IsOut from
  source from to out edge user = by (inside from) refl edge
    where
      by : (b : Bool) → inside from ≡ b → IsEdgeOfEither f g from to → b ≡ false
      by false is edge = refl
      by true is (inl before) = let never : false ≡ true = sym out
          ∙ change.enclosed_before.below from to before (inr is) in cc
      by true is (inr after) = let never : false ≡ true = sym out
          ∙ change.enclosed_after.below from to after (inr is) in cc

  -- the currency itself leads inside
  not-it : (d : ℕ) (to : Node) → IsOut to → IsEdge g (Currency d) to → d ≢ c
  not-it d to out edge same = let never : false ≡ true = sym out
      ∙ change.enclosed_after.below (Currency d) to edge (inl (ap Currency same)) in cc

  amount-kept : (d : ℕ) (to : Node) → IsOut to → IsEdge g (Currency d) to → d ≢ 0
      → active_amount f live d ≡ active_amount g now d
  amount-kept d to out edge user = amount-stays f g live now d after before
    where
      apart : d ≢ c
      apart = not-it d to out edge

      d_out : IsOut (Currency d)
      d_out = source (Currency d) to out (inr edge) (λ e. user (currency-one d 0 e))

      after : (n : ℕ) (t : Ticket) → ticket_at f n ≡ Some t → (t.issuer == d) ≡ true → is_active f live t ≡ true
          → StaysActive g now n t
      after n t at issued =
          let is : t.issuer ≡ d = eqb-true t.issuer d issued in
          there-after f g live now c inside change.enclosed_before no_base have no_cycle there no_cycle_now there_now
          weighed-on life-on some-on n t at (subst (λ x. IsOut (Currency x)) (sym is) d_out) (λ e. apart (sym is ∙ e))
          (λ e. user (sym is ∙ e))

      before : (n : ℕ) (u : Ticket) → ticket_at g n ≡ Some u → (u.issuer == d) ≡ true → is_active g now u ≡ true
          → StaysActive f live n u
      before n u at issued =
          let is : u.issuer ≡ d = eqb-true u.issuer d issued in
          there-after g f now live c inside change.enclosed_after no_base_now have_now no_cycle_now there_now no_cycle
          there weighed-back life-back some-back n u at (subst (λ x. IsOut (Currency x)) (sym is) d_out)
          (λ e. apart (sym is ∙ e)) (λ e. user (sym is ∙ e))

  pub outside-kept : (node : Node) → inside node ≡ false → HasEquation f node → HasEquation g node
      → node_value unit f live node ≡ node_value unit g now node
  outside-kept =
      kept-value f g no_cycle there no_cycle_now there_now unit live now IsOut source weighed-on weighed-back
      (λ n from to out is is_now. active-after f g live now c inside change.enclosed_before no_base have no_cycle there
      no_cycle_now there_now weighed-on life-on some-on n from to out is)
      (λ n from to out is is_now. active-after g f now live c inside change.enclosed_after no_base_now have_now
      no_cycle_now there_now no_cycle there weighed-back life-back some-back n from to out is_now)
      amount-kept
