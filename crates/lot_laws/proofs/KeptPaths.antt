-- Unchanged edges and live threads leave chains of lends and of tickets unchanged, and the active tickets.
use Rattle.lot_laws.proofs.Common.{Bool, Currency, Edge, Funding, FundsThere, HasNoCycle, IsActive, IsBacked, IsChain, IsLendChain, IsLive, Lend, LendsTo, List, Nobody, Node, None, OfLender, OfMutex, OfTicket, Option, Some, Target, Thread, Ticket, ToMutex, ToThread, ap, at_number, borrower, ends-are, ends_of, is_active, is_active-exact, issuer-of, issuer_of, lend_node, option_and_then, option_map, pair, refl, some-injective, subst, sym, target-of, target_node, target_of, there-weighed, ticket-of, ticket_at, true, weighed-there, weighed_of, ℕ, [], ◌∙◌, ◌∷◌, ◌≡◌}
use Rattle.lot_machine.specs.declared.ticket.Target.TheVariants as target
use Rattle.lot_machine.specs.declared.funding.Node.TheVariants.{Mutex}

-- ---- the ends of edges

pub target-one : (a b : Target) (node : Node) → target_node a ≡ Some node → target_node b ≡ Some node → a ≡ b
target-one target.Unfunded b node first second = cc
target-one a target.Unfunded node first second = cc
target-one (target.Currency c) (target.Currency d) node first second = cc
target-one (target.Currency c) (target.Thread u) node first second = cc
target-one (target.Thread t) (target.Currency d) node first second = cc
target-one (target.Thread t) (target.Thread u) node first second = cc

lend-one : (a b : Lend) (node : Node) → lend_node a ≡ Some node → lend_node b ≡ Some node → a ≡ b
lend-one Nobody b node first second = cc
lend-one a Nobody node first second = cc
lend-one (ToThread s) (ToThread t) node first second = cc
lend-one (ToThread s) (ToMutex m) node first second = cc
lend-one (ToMutex m) (ToThread t) node first second = cc
lend-one (ToMutex m) (ToMutex n) node first second = cc

pub currency-one : (c d : ℕ) → Currency c ≡ Currency d → c ≡ d
currency-one c d e = cc

-- what a ticket's ends say of it
pub ends-ticket : (f : Funding) (n : ℕ) (from to : Node) → ends_of f (OfTicket n) ≡ Some (from, to)
    → (t : Ticket) × (ticket_at f n ≡ Some t) × (from ≡ Currency t.issuer) × (target_node t.target ≡ Some to)
ends-ticket f n from to is = ends-are f (OfTicket n) from to is

pub ticket-ends : (f : Funding) (n c : ℕ) (aim : Target) (to : Node) → issuer_of f n ≡ Some c → target_of f n ≡ Some aim
    → target_node aim ≡ Some to → ends_of f (OfTicket n) ≡ Some (Currency c, to)
ticket-ends f n c aim to issued funds node =
    let (t, at, same) = ticket-of f n c issued in
    let aims : t.target ≡ aim = some-injective t.target aim (sym (target-of f n t at) ∙ funds) in
    ap (option_and_then (λ (u : Ticket). option_map (pair (Currency u.issuer)) (target_node u.target))) at
    ∙ ap (λ a. option_map (pair (Currency t.issuer)) (target_node a)) aims
    ∙ ap (option_map (pair (Currency t.issuer))) node ∙ ap (λ i. Some (Currency i, to)) same

-- ---- weights

-- what a ticket's edge says of it
abbrev weighs : Ticket → Option (Node × Node × ℕ)
weighs t =
    option_map (λ (x : Node). let y : Node × Node × ℕ = (Currency t.issuer, x, t.amount) in y) (target_node t.target)

pub weighed-ticket : (f : Funding) (n : ℕ) (from to : Node) (weight : ℕ) (t : Ticket) → ticket_at f n ≡ Some t
    → weighed_of f (OfTicket n) ≡ Some (from, to, weight) → t.amount ≡ weight
weighed-ticket f n from to weight t at is = by (target_node t.target) (sym (ap (option_and_then weighs) at) ∙ is)
  where
    by : (o : Option Node) → option_map (λ (x : Node). let y : Node × Node × ℕ = (Currency t.issuer, x, t.amount) in
        y) o ≡ Some (from, to, weight) → t.amount ≡ weight
    by None e = cc
    by (Some x) e = ap (λ (y : Node × Node × ℕ). y.2) (some-injective _ _ e)

-- an edge that is kept with its weight keeps its ends
pub ends-kept : (f g : Funding) (edge : Edge) (from to : Node)
    → ((weight : ℕ) → weighed_of f edge ≡ Some (from, to, weight) → weighed_of g edge ≡ Some (from, to, weight))
    → ends_of f edge ≡ Some (from, to) → ends_of g edge ≡ Some (from, to)
ends-kept f g edge from to kept is = let (weight, was) = weighed-there f edge from to is in
    there-weighed g edge from to weight (kept weight was)

-- and a ticket whose edge is kept with its weight has the same amount
pub amount-one : (f g : Funding) (n : ℕ) (from to : Node) (t u : Ticket) → ticket_at f n ≡ Some t
    → ticket_at g n ≡ Some u → ends_of f (OfTicket n) ≡ Some (from, to)
    → ((weight : ℕ) → weighed_of f (OfTicket n) ≡ Some (from, to, weight)
    → weighed_of g (OfTicket n) ≡ Some (from, to, weight)) → t.amount ≡ u.amount
amount-one f g n from to t u at at_now is kept =
    let (weight, was) = weighed-there f (OfTicket n) from to is in weighed-ticket f n from to weight t at was
    ∙ sym (weighed-ticket g n from to weight u at_now (kept weight was))

-- ---- chains

-- The ticket with this number has the issuer and the amount of this one, and is active.
pub record StaysActive (g : Funding) (now : List Bool) (n : ℕ) (t : Ticket) : Type 0 where
  pub ticket : Ticket
  pub there : ticket_at g n ≡ Some ticket
  pub issuer : t.issuer ≡ ticket.issuer
  pub amount : t.amount ≡ ticket.amount
  pub active : is_active g now ticket ≡ true

-- the first ticket of a chain that leads to a thread funds something
pub chain-aims : (f : Funding) (n : ℕ) (rest : List ℕ) (t : ℕ) → IsChain f n rest (target.Thread t)
    → (aim : Target) × (to : Node) × (target_of f n ≡ Some aim) × (target_node aim ≡ Some to)
chain-aims f n [] t is = (target.Thread t, Thread t, is, refl)
chain-aims f n (m ∷ rest) t is = (target.Currency is.0.0, Currency is.0.0, is.0.1, refl)

-- ---- what is kept

module _ (f g : Funding) (live now : List Bool) (IsClear : Node → Type 0)
    (kept : (edge : Edge) (from to : Node) → IsClear from → ends_of f edge ≡ Some (from, to)
    → (ends_of g edge ≡ Some (from, to)) × IsClear to)
    (lives : (t : ℕ) → IsClear (Thread t) → IsLive live t → IsLive now t) where
  lends-kept : (t s : ℕ) → IsClear (Thread t) → LendsTo f t s → LendsTo g t s × IsClear (Thread s)
  lends-kept t s clear lends = by (at_number f.lends t) refl lends
    where
      same : (lend : Lend) (to : Node) → lend_node lend ≡ Some to → ends_of g (OfLender t) ≡ Some (Thread t, to)
          → at_number g.lends t ≡ Some lend
      same lend to node is = let (other, at, from_is, to_is) = ends-are g (OfLender t) (Thread t) to is in at
          ∙ ap Some (lend-one other lend to to_is node)

      edge : (lend : Lend) (to : Node) → at_number f.lends t ≡ Some lend → lend_node lend ≡ Some to
          → ends_of f (OfLender t) ≡ Some (Thread t, to)
      edge lend to at node = ap (option_and_then (λ l. option_map (pair (Thread t)) (lend_node l))) at
          ∙ ap (option_map (pair (Thread t))) node

      by : (o : Option Lend) → at_number f.lends t ≡ o → option_and_then (borrower f) o ≡ Some s
          → LendsTo g t s × IsClear (Thread s)
      by None at is = cc
      by (Some Nobody) at is = cc
      by (Some (ToThread u)) at is =
          let u_is : u ≡ s = some-injective u s is in
          let r = kept (OfLender t) (Thread t) (Thread u) clear (edge (ToThread u) (Thread u) at refl) in
          (ap (option_and_then (borrower g)) (same (ToThread u) (Thread u) refl r.0) ∙ is, subst (λ x. IsClear (Thread x)) u_is r.1)
      by (Some (ToMutex m)) at is =
          let r = kept (OfLender t) (Thread t) (Mutex m) clear (edge (ToMutex m) (Mutex m) at refl) in
          let q =
          kept (OfMutex m) (Mutex m) (Thread s) r.1 (ap (option_map (λ owner. pair (Mutex m) (Thread owner))) is) in
          let (owner, owned, from_is, to_is) = ends-are g (OfMutex m) (Mutex m) (Thread s) q.0 in
          let same_owner : owner ≡ s = cc in
          (ap (option_and_then (borrower g)) (same (ToMutex m) (Mutex m) refl r.0) ∙ owned ∙ ap Some same_owner, q.1)

  chain-kept : (t : ℕ) (chain : List ℕ) (u : ℕ) → IsClear (Thread t) → IsLendChain f t chain u
      → IsLendChain g t chain u × IsClear (Thread u)
  chain-kept t [] u clear is = (is, subst (λ x. IsClear (Thread x)) is clear)
  chain-kept t (s ∷ rest) u clear is =
      let r = lends-kept t s clear is.0 in
      let more = chain-kept s rest u r.1 is.1 in
      ((r.0, more.0), more.1)

  pub backed-kept : (t : ℕ) → IsClear (Thread t) → IsBacked f live t → IsBacked g now t
  backed-kept t clear (u, (chain, is), alive) = let r = chain-kept t chain u clear is in
      (u, (chain, r.0), lives u r.1 alive)

  -- a chain whose first ticket has the same ends in both
  tickets-kept : (n : ℕ) (rest : List ℕ) (t : ℕ) (from to : Node) → ends_of f (OfTicket n) ≡ Some (from, to)
      → ends_of g (OfTicket n) ≡ Some (from, to) → IsClear to
      → IsChain f n rest (target.Thread t) → IsChain g n rest (target.Thread t) × IsClear (Thread t)
  tickets-kept n [] t from to before after clear is =
      let (a, a_at, a_from, a_to) = ends-ticket f n from to before in
      let (b, b_at, b_from, b_to) = ends-ticket g n from to after in
      let aims : a.target ≡ target.Thread t =
      some-injective a.target (target.Thread t) (sym (target-of f n a a_at) ∙ is) in
      let node : to ≡ Thread t = some-injective to (Thread t) (sym a_to ∙ ap target_node aims) in
      (target-of g n b b_at ∙ ap Some (target-one b.target a.target to b_to a_to ∙ aims), subst IsClear node clear)
  tickets-kept n (m ∷ rest) t from to before after clear is =
      let c = is.0.0 in
      let (a, a_at, a_from, a_to) = ends-ticket f n from to before in
      let (b, b_at, b_from, b_to) = ends-ticket g n from to after in
      let aims : a.target ≡ target.Currency c =
      some-injective a.target (target.Currency c) (sym (target-of f n a a_at) ∙ is.0.1) in
      let node : to ≡ Currency c = some-injective to (Currency c) (sym a_to ∙ ap target_node aims) in
      let (aim, next, funds, next_is) = chain-aims f m rest t is.1 in
      let next_before = ticket-ends f m c aim next is.0.2 funds next_is in
      let r = kept (OfTicket m) (Currency c) next (subst IsClear node clear) next_before in
      let (d, d_at, d_from, d_to) = ends-ticket g m (Currency c) next r.0 in
      let more = tickets-kept m rest t (Currency c) next next_before r.0 r.1 is.1 in
      (((c, target-of g n b b_at ∙ ap Some (target-one b.target a.target to b_to a_to ∙ aims), issuer-of g m d d_at ∙ ap Some (sym (currency-one c d.issuer d_from))), more.0), more.1)

  pub active-same : (n : ℕ) (from to : Node) → ends_of f (OfTicket n) ≡ Some (from, to)
      → ends_of g (OfTicket n) ≡ Some (from, to) → IsClear to → IsActive f live n → IsActive g now n
  active-same n from to before after clear (rest, t, is, backed) =
      let r = tickets-kept n rest t from to before after clear is in (rest, t, r.0, backed-kept t r.1 backed)

  module _ (no_cycle : HasNoCycle f) (there : FundsThere f) (no_cycle_now : HasNoCycle g)
      (there_now : FundsThere g) where
    -- an active ticket of a clear currency is there in both, and active in both, with the same amount if its edge is kept with its weight
    pub active-there : (n : ℕ) (t : Ticket) → ticket_at f n ≡ Some t → IsClear (Currency t.issuer)
        → ((to : Node) (weight : ℕ) → weighed_of f (OfTicket n) ≡ Some (Currency t.issuer, to, weight)
        → weighed_of g (OfTicket n) ≡ Some (Currency t.issuer, to, weight)) → is_active f live t ≡ true
        → StaysActive g now n t
    active-there n t at clear weights active =
        let is : IsActive f live n = (is_active-exact f no_cycle there live n t at).0 active in
        let (aim, to, funds, to_is) = chain-aims f n is.0 is.1 is.2 in
        let before = ticket-ends f n t.issuer aim to (issuer-of f n t at) funds to_is in
        let r = kept (OfTicket n) (Currency t.issuer) to clear before in
        let (u, u_at, u_from, u_to) = ends-ticket g n (Currency t.issuer) to r.0 in
        record {
          ticket = u;
          there = u_at;
          issuer = currency-one t.issuer u.issuer u_from;
          amount = amount-one f g n (Currency t.issuer) to t u at u_at before (weights to);
          active = (is_active-exact g no_cycle_now there_now now n u u_at).1
              (active-same n (Currency t.issuer) to before r.0 r.1 is);
        }
