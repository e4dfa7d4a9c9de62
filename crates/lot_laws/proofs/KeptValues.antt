-- Nodes keep their values if the same edges lead into them, and these pass on as much.
use Rattle.lot_laws.proofs.Common.{Bool, Currency, Edge, Funding, FundsThere, HasEquation, HasNoCycle, IsActive, IsEdge, IsEdgeOfEither, LeadsInto, List, Node, None, OfLender, OfMutex, OfTicket, Option, Some, Thread, Ticket, active_amount, all_tickets, ap, arith, begins-there, cases_eq, cond, ends_of, eq-eqb, eqb-true, false, filter, if◌then◌else◌, inl, inr, is_active, is_active-exact, kept-shares, node_value, option_flatten, option_map, refl, share, shares_into, slice_get, solution, some-injective, suc, sum-filter, sum-there, sum_by, sum_by-cons, sym, ticket_at, ticket_in-suc, ticket_share, true, unwrap_or, values-solve, weighed_of, ℕ, [], ◌*◌, ◌/◌, ◌==◌, ◌∙◌, ◌∷◌, ◌≡◌, ◌≢◌, ◌⊎◌}
use Rattle.lot_machine.specs.declared.funding.Node.TheVariants.{Mutex}
use Rattle.lot_laws.proofs.KeptPaths.{StaysActive, ends-ticket, ends-kept, amount-one, currency-one}

-- ---- what can be told

node-told : (a b : Node) → (a ≡ b) ⊎ (a ≢ b)
node-told (Currency c) (Currency d) = by (cases_eq c d)
  where
    by : (c ≡ d) ⊎ (¬ (c ≡ d)) → (Currency c ≡ Currency d) ⊎ (Currency c ≢ Currency d)
    by (inl same) = inl (ap Currency same)
    by (inr differs) = inr (λ e. let same : c ≡ d = cc in differs same)
node-told (Currency c) (Thread u) = inr (λ e. cc)
node-told (Currency c) (Mutex n) = inr (λ e. cc)
node-told (Thread t) (Currency d) = inr (λ e. cc)
node-told (Thread t) (Thread u) = by (cases_eq t u)
  where
    by : (t ≡ u) ⊎ (¬ (t ≡ u)) → (Thread t ≡ Thread u) ⊎ (Thread t ≢ Thread u)
    by (inl same) = inl (ap Thread same)
    by (inr differs) = inr (λ e. let same : t ≡ u = cc in differs same)
node-told (Thread t) (Mutex n) = inr (λ e. cc)
node-told (Mutex m) (Currency d) = inr (λ e. cc)
node-told (Mutex m) (Thread u) = inr (λ e. cc)
node-told (Mutex m) (Mutex n) = by (cases_eq m n)
  where
    by : (m ≡ n) ⊎ (¬ (m ≡ n)) → (Mutex m ≡ Mutex n) ⊎ (Mutex m ≢ Mutex n)
    by (inl same) = inl (ap Mutex same)
    by (inr differs) = inr (λ e. let same : m ≡ n = cc in differs same)

-- the ends of an edge
abbrev pub ends : Node → Node → Option (Node × Node)
ends from to = Some (from, to)

-- an edge's ends and its weight
abbrev pub weighed : Node → Node → ℕ → Option (Node × Node × ℕ)
weighed from to weight = Some (from, to, weight)

pub weighed-told : (o : Option (Node × Node × ℕ)) (from to : Node) (weight : ℕ)
    → (o ≡ weighed from to weight) ⊎ (o ≢ weighed from to weight)
weighed-told None from to weight = inr (λ e. cc)
weighed-told (Some (a, b, m)) from to weight = by (node-told a from) (node-told b to) (cases_eq m weight)
  where
    by : (a ≡ from) ⊎ (a ≢ from) → (b ≡ to) ⊎ (b ≢ to) → (m ≡ weight) ⊎ (¬ (m ≡ weight))
        → (weighed a b m ≡ weighed from to weight) ⊎ (weighed a b m ≢ weighed from to weight)
    by (inl first) (inl second) (inl third) =
        inl (ap (λ x. weighed x b m) first ∙ ap (λ y. weighed from y m) second ∙ ap (weighed from to) third)
    by (inr first) second third = inr (λ e. first (ap (λ (x : Node × Node × ℕ). x.0) (some-injective _ _ e)))
    by (inl first) (inr second) third = inr (λ e. second (ap (λ (x : Node × Node × ℕ). x.1) (some-injective _ _ e)))
    by (inl first) (inl second) (inr third) =
        inr (λ e. third (ap (λ (x : Node × Node × ℕ). x.2) (some-injective _ _ e)))

pub live-told : (o : Option Bool) → (o ≡ Some true) ⊎ (o ≢ Some true)
live-told None = inr (λ e. cc)
live-told (Some true) = inl refl
live-told (Some false) = inr (λ e. let no : false ≡ true = some-injective false true e in cc)

pub same-bool : (a b : Bool) → (a ≡ true → b ≡ true) → (b ≡ true → a ≡ true) → a ≡ b
same-bool true true to back = refl
same-bool true false to back = sym (to refl)
same-bool false true to back = back refl
same-bool false false to back = refl

-- sums over the tickets that are there, and number by number
sum-each : (g h : Option Ticket → ℕ) → g None ≡ 0 → h None ≡ 0 → (xs ys : List (Option Ticket))
    → ((i : ℕ) → g (option_flatten (slice_get xs i)) ≡ h (option_flatten (slice_get ys i))) → sum_by g xs ≡ sum_by h ys
sum-each g h first second [] [] each = refl
sum-each g h first second [] (y ∷ ys) each =
    omega (arith, sum_by-cons h y ys, first, each 0, sum-each g h first second [] ys (λ i. each (suc i)))
sum-each g h first second (x ∷ xs) [] each =
    omega (arith, sum_by-cons g x xs, second, each 0, sum-each g h first second xs [] (λ i. each (suc i)))
sum-each g h first second (x ∷ xs) (y ∷ ys) each =
    omega (arith, sum_by-cons g x xs, sum_by-cons h y ys, each 0, sum-each g h first second xs ys (λ i. each (suc i)))

-- ---- active amounts

-- the amount that a ticket counts for, if it counts
abbrev counted : Funding → List Bool → ℕ → Option Ticket → ℕ
counted f live c None = 0
counted f live c (Some t) = cond (t.issuer == c) (cond (is_active f live t) t.amount 0) 0

amount-counted : (f : Funding) (live : List Bool) (c : ℕ) → active_amount f live c ≡ sum_by (counted f live c) f.tickets
amount-counted f live c =
    sum-filter (λ (t : Ticket). t.amount) (is_active f live) (filter (λ t. t.issuer == c) (all_tickets f))
    ∙ sum-filter (λ t. cond (is_active f live t) t.amount 0) (λ t. t.issuer == c) (all_tickets f)
    ∙ sym (sum-there (counted f live c) (λ t. cond (t.issuer == c) (cond (is_active f live t) t.amount 0) 0) refl
    (λ t. refl) f.tickets)

-- two tickets count for as much if each counts that the other does, and with the same amount
same-counted : (a b m n : Bool) (x y : ℕ) → (a ≡ true → m ≡ true → (b ≡ true) × (n ≡ true) × (x ≡ y))
    → (b ≡ true → n ≡ true → (a ≡ true) × (m ≡ true)) → cond a (cond m x 0) 0 ≡ cond b (cond n y 0) 0
same-counted true b true n x y to back = let r = to refl refl in rw (r.0, r.1) r.2
same-counted false true m true x y to back = let no : false ≡ true = (back refl refl).0 in cc
same-counted true true false true x y to back = let no : false ≡ true = (back refl refl).1 in cc
same-counted true true false false x y to back = refl
same-counted true false false true x y to back = refl
same-counted true false false false x y to back = refl
same-counted false true true false x y to back = refl
same-counted false true false false x y to back = refl
same-counted false false true true x y to back = refl
same-counted false false true false x y to back = refl
same-counted false false false true x y to back = refl
same-counted false false false false x y to back = refl

none-counted : (a m : Bool) (x : ℕ) → (a ≡ true → m ≡ true → ⊥) → cond a (cond m x 0) 0 ≡ 0
none-counted true true x none = absurd (none refl refl)
none-counted true false x none = refl
none-counted false m x none = refl

-- A currency's active amount stays if each of its active tickets is still there and active with its amount, and no
-- other is.
module _ (f g : Funding) (live now : List Bool) (c : ℕ)
    (after : (n : ℕ) (t : Ticket) → ticket_at f n ≡ Some t → (t.issuer == c) ≡ true → is_active f live t ≡ true
    → StaysActive g now n t)
    (before : (n : ℕ) (u : Ticket) → ticket_at g n ≡ Some u → (u.issuer == c) ≡ true → is_active g now u ≡ true
    → StaysActive f live n u) where
  pub amount-stays : active_amount f live c ≡ active_amount g now c
  amount-stays =
      amount-counted f live c ∙ sum-each (counted f live c) (counted g now c) refl refl f.tickets g.tickets
      (λ i. by i (ticket_at f (suc i)) (ticket_at g (suc i)) refl refl) ∙ sym (amount-counted g now c)
    where
      both : (n : ℕ) (o p : Option Ticket) → ticket_at f n ≡ o → ticket_at g n ≡ p
          → counted f live c o ≡ counted g now c p
      both n None None before_at after_at = refl
      both n (Some t) None before_at after_at =
          none-counted (t.issuer == c) (is_active f live t) t.amount (λ issued active. let u =
          after n t before_at issued active in let no : None ≡ Some u.ticket = sym after_at ∙ u.there in cc)
      both n None (Some u) before_at after_at =
          sym (none-counted (u.issuer == c) (is_active g now u) u.amount (λ issued active. let t =
          before n u after_at issued active in let no : None ≡ Some t.ticket = sym before_at ∙ t.there in cc))
      both n (Some t) (Some u) before_at after_at =
          same-counted (t.issuer == c) (u.issuer == c) (is_active f live t) (is_active g now u) t.amount u.amount
          (λ issued active. let x = after n t before_at issued active in
          let x_is : x.ticket ≡ u = some-injective x.ticket u (sym x.there ∙ after_at) in
          (eq-eqb u.issuer c (ap (λ (y : Ticket). y.issuer) (sym x_is) ∙ sym x.issuer ∙ eqb-true t.issuer c issued), ap (is_active g now) (sym x_is) ∙ x.active, x.amount ∙ ap (λ (y : Ticket). y.amount) x_is))
          (λ issued active. let x = before n u after_at issued active in
          let x_is : x.ticket ≡ t = some-injective x.ticket t (sym x.there ∙ before_at) in
          (eq-eqb t.issuer c (ap (λ (y : Ticket). y.issuer) (sym x_is) ∙ sym x.issuer ∙ eqb-true u.issuer c issued), ap (is_active f live) (sym x_is) ∙ x.active))

      by : (i : ℕ) (o p : Option Ticket) → ticket_at f (suc i) ≡ o → ticket_at g (suc i) ≡ p → counted f live c
          (option_flatten (slice_get f.tickets i)) ≡ counted g now c (option_flatten (slice_get g.tickets i))
      by i o p before_at after_at =
          ap (counted f live c) (sym (ticket_in-suc f.tickets i) ∙ before_at) ∙ both (suc i) o p before_at after_at
          ∙ sym (ap (counted g now c) (sym (ticket_in-suc g.tickets i) ∙ after_at))

-- ---- values

-- Some nodes, to which no others lead but base: the same edges lead into them before and after with the same weights,
-- the same tickets of these are active, and the active amounts of their issuers stay.
module _ (f g : Funding) (no_cycle : HasNoCycle f) (there : FundsThere f) (no_cycle_now : HasNoCycle g)
    (there_now : FundsThere g) (unit : ℕ) (live now : List Bool)
    (IsKept : Node → Type 0)
    (source : (from to : Node) → IsKept to → IsEdgeOfEither f g from to → from ≢ Currency 0 → IsKept from)
    (weighed-on : (edge : Edge) (from to : Node) (weight : ℕ) → IsKept to → weighed_of f edge ≡ weighed from to weight
    → weighed_of g edge ≡ weighed from to weight)
    (weighed-back : (edge : Edge) (from to : Node) (weight : ℕ) → IsKept to → weighed_of g edge ≡ weighed from to weight
    → weighed_of f edge ≡ weighed from to weight)
    (active-on : (n : ℕ) (from to : Node) → IsKept to → ends_of f (OfTicket n) ≡ ends from to
    → ends_of g (OfTicket n) ≡ ends from to → IsActive f live n → IsActive g now n)
    (active-back : (n : ℕ) (from to : Node) → IsKept to → ends_of f (OfTicket n) ≡ ends from to
    → ends_of g (OfTicket n) ≡ ends from to → IsActive g now n → IsActive f live n)
    (amount-kept : (c : ℕ) (to : Node) → IsKept to → IsEdge g (Currency c) to → c ≢ 0
    → active_amount f live c ≡ active_amount g now c) where
  edge-on : (edge : Edge) (from to : Node) → IsKept to → ends_of f edge ≡ ends from to → ends_of g edge ≡ ends from to
  edge-on edge from to kept = ends-kept f g edge from to (λ weight. weighed-on edge from to weight kept)

  edge-back : (edge : Edge) (from to : Node) → IsKept to → ends_of g edge ≡ ends from to → ends_of f edge ≡ ends from to
  edge-back edge from to kept = ends-kept g f edge from to (λ weight. weighed-back edge from to weight kept)

  -- what a ticket passes on, by what it is
  abbrev passed_on : (Node → ℕ) → Bool → ℕ → ℕ → ℕ → ℕ
  passed_on worth active issuer amount all =
      if active then (if issuer == 0 then amount * unit else worth (Currency issuer) * amount / all) else 0

  passed-same : (worth : Node → ℕ) (active : Bool) (issuer amount all some : ℕ) → (issuer ≢ 0 → all ≡ some)
      → passed_on worth active issuer amount all ≡ passed_on worth active issuer amount some
  passed-same worth active issuer amount all some same = by (cases_eq issuer 0)
    where
      by : (issuer ≡ 0) ⊎ (¬ (issuer ≡ 0))
          → passed_on worth active issuer amount all ≡ passed_on worth active issuer amount some
      by (inl base) = let is : (issuer == 0) ≡ true = eq-eqb issuer 0 base in rw is refl
      by (inr user) = ap (passed_on worth active issuer amount) (same user)

  module _ (node : Node) (kept : IsKept node) where
    ticket-same : (worth : Node → ℕ) (n : ℕ) (from : Node) → ends_of f (OfTicket n) ≡ ends from node
        → share unit f live worth (OfTicket n) ≡ share unit g now worth (OfTicket n)
    ticket-same worth n from is =
        let is_now = edge-on (OfTicket n) from node kept is in
        let (t, t_at, t_from, t_to) = ends-ticket f n from node is in
        let (u, u_at, u_from, u_to) = ends-ticket g n from node is_now in
        let issuer : t.issuer ≡ u.issuer = currency-one t.issuer u.issuer (sym t_from ∙ u_from) in
        let amount : t.amount ≡ u.amount =
        amount-one f g n from node t u t_at u_at is (λ weight. weighed-on (OfTicket n) from node weight kept) in
        let exact = is_active-exact f no_cycle there live n t t_at in
        let exact_now = is_active-exact g no_cycle_now there_now now n u u_at in
        let active : is_active f live t ≡ is_active g now u =
        same-bool (is_active f live t) (is_active g now u) (λ on. exact_now.1 (active-on n from node kept is is_now
        (exact.0 on))) (λ on. exact.1 (active-back n from node kept is is_now (exact_now.0 on))) in
        let all : u.issuer ≢ 0 → active_amount f live u.issuer ≡ active_amount g now u.issuer =
        amount-kept u.issuer node kept (OfTicket n, is_now ∙ ap (λ x. ends x node) u_from) in
        ap (λ (o : Option Ticket). unwrap_or (option_map (ticket_share unit f live worth) o) 0) t_at
        ∙ ap (λ a. passed_on worth a t.issuer t.amount (active_amount f live t.issuer)) active
        ∙ ap (λ i. passed_on worth (is_active g now u) i t.amount (active_amount f live i)) issuer
        ∙ ap (λ a. passed_on worth (is_active g now u) u.issuer a (active_amount f live u.issuer)) amount
        ∙ passed-same worth (is_active g now u) u.issuer u.amount (active_amount f live u.issuer)
        (active_amount g now u.issuer) all
        ∙ sym (ap (λ (o : Option Ticket). unwrap_or (option_map (ticket_share unit g now worth) o) 0) u_at)

    share-same : (worth : Node → ℕ) (edge : Edge) → LeadsInto f node edge
        → share unit f live worth edge ≡ share unit g now worth edge
    share-same worth (OfTicket n) (from, is) = ticket-same worth n from is
    share-same worth (OfLender t) into = refl
    share-same worth (OfMutex m) into = refl

    shares-same : (worth : Node → ℕ) → shares_into unit f live worth node ≡ shares_into unit g now worth node
    shares-same worth =
        kept-shares unit f g live now worth node (λ edge.
        (λ into. (into.0, edge-on edge into.0 node kept into.1), λ into. (into.0, edge-back edge into.0 node kept into.1))) (share-same worth)

  abbrev IsKnown : Node → Type 0
  IsKnown node = HasEquation f node × HasEquation g node × IsKept node

  sources : (from to : Node) → IsEdge g from to → IsKnown to → from ≢ Currency 0 → IsKnown from
  sources from to edge (has, has_now, kept) user =
      (begins-there f no_cycle there unit live from to (edge.0, edge-back edge.0 from to kept edge.1) user, begins-there g no_cycle_now there_now unit now from to edge user, source from to kept (inr edge) user)

  pub kept-value : (node : Node) → IsKept node → HasEquation f node → HasEquation g node
      → node_value unit f live node ≡ node_value unit g now node
  kept-value node kept has has_now =
      solution g no_cycle_now there_now unit now (node_value unit f live) IsKnown sources
      (λ other (has_before, has_after, is_kept) equation. values-solve f no_cycle there unit live other has_before
      ∙ shares-same other is_kept (node_value unit f live))
      node (has, has_now, kept) has_now
