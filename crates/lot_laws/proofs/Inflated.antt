-- A new ticket inside a currency, or another amount of one: the whole change is inside it, and it stays active.
use Rattle.lot_laws.proofs.Common.{BaseFixed, Bool, ChangesInside, Currency, CurrencyRef, Cycle, DeadThread, Edge, Encloses, Event, Fund, Funding, FundsThere, HasAmounts, HasEquation, HasNoCycle, IsActive, IsChangeInside, IsChangedEdge, IsChangedLife, IsEdge, IsInOrder, IsLive, IsMeantInside, IsReachable, IsWellFormed, Lend, List, MakeFunded, NoTarget, NoTicket, Node, None, OfLender, OfMutex, OfTicket, Option, Record, Refusal, SetTicket, Some, State, Status, Target, TargetRef, Thread, Ticket, active_amount, all-pass, amount_in, ap, arith, at_number, at_number-map, at_number-suc, command_effect, command_refusal, cond, contains-at, currency_meant, currency_or_base, ends_of, false, flatten-some, free-dead, free_threads, free_tickets, funding_of, inl, inr, is_active, is_active-exact, is_currency, is_cycle, is_dead_thread, is_funding, is_live_status, is_none, is_unfunded, issuer-amount, issuer-of, issuer_of, lend_node, lend_of, length, live_of, map, next_place, next_thread, not, number-next, number-set, number-there, opening, option_and_then, option_any, option_flatten, option_map, placed, refl, reissued, retargeted, slice_get, some-injective, state_after, status_of, step, step-grown, subst, suc, sym, target_meant, target_node, there-weighed, ticket-of, ticket_at, ticket_in, true, unless_refused, unwrap_or, weighed-there, weighed_of, with_amount, with_target, with_thread, with_ticket, worth_in, zero, ℕ, [], ◌+◌, ◌-◌, ◌<◌, ◌∙◌, ◌∷◌, ◌≡◌, ◌≢◌, ◌≤◌, ◌⊎◌}
use Rattle.lot_machine.specs.declared.ticket.Target.TheVariants as target
use Rattle.lot_machine.specs.declared.record.Status.TheVariants as status
use Rattle.lot_machine.specs.declared.event.Event.TheVariants as event
use Rattle.lot_machine.specs.declared.refusal.Refusal.TheVariants.{Funding as IsFunding}
use Rattle.lot_laws.proofs.KeptPaths.{ends-ticket, ticket-ends, chain-aims, active-same, ends-kept}
use Rattle.lot_laws.proofs.KeptValues.{ends, weighed}
use Rattle.lot_laws.proofs.Enclosed.{active-found}
use Rattle.lot_laws.proofs.EachTicket.{reachable-order}
use Rattle.lot_laws.proofs.StaysInside.{well-formed, reachable-run, run-inside}

-- ---- edges that change inside

-- it leads inside, from the currency or from what is inside
abbrev LeadsInside : ℕ → (Node → Bool) → Node → Node → Type 0
LeadsInside c inside from to = ((from ≡ Currency c) ⊎ (inside from ≡ true)) × (inside to ≡ true)

-- each edge keeps its weight, or leads inside
module _ (f g : Funding) (live now : List Bool) (c : ℕ) (inside : Node → Bool) (encloses : Encloses f c inside)
    (on : (edge : Edge) (from to : Node) (weight : ℕ) → weighed_of f edge ≡ weighed from to weight
    → (weighed_of g edge ≡ weighed from to weight) ⊎ LeadsInside c inside from to)
    (back : (edge : Edge) (from to : Node) (weight : ℕ) → weighed_of g edge ≡ weighed from to weight
    → (weighed_of f edge ≡ weighed from to weight) ⊎ LeadsInside c inside from to)
    (lives : (t : ℕ) → IsChangedLife live now t → inside (Thread t) ≡ true) where
  ends-back : (edge : Edge) (from to : Node) → ends_of g edge ≡ ends from to
      → (ends_of f edge ≡ ends from to) ⊎ LeadsInside c inside from to
  ends-back edge from to is = let (weight, was) = weighed-there g edge from to is in
      by weight (back edge from to weight was)
    where
      by : (weight : ℕ) → (weighed_of f edge ≡ weighed from to weight) ⊎ LeadsInside c inside from to
          → (ends_of f edge ≡ ends from to) ⊎ LeadsInside c inside from to
      by weight (inl same) = inl (there-weighed f edge from to weight same)
      by weight (inr new) = inr new

  still-encloses : Encloses g c inside
  still-encloses =
      record { itself = encloses.itself; below = λ from to edge why. below from to edge why (ends-back edge.0 from to edge.1); alone = λ from to edge is user. alone from to edge is user (ends-back edge.0 from to edge.1) }
    where
      below : (from to : Node) (edge : IsEdge g from to) → (from ≡ Currency c) ⊎ (inside from ≡ true)
          → (ends_of f edge.0 ≡ ends from to) ⊎ LeadsInside c inside from to → inside to ≡ true
      below from to edge why (inl was) = encloses.below from to (edge.0, was) why
      below from to edge why (inr new) = new.1

      alone : (from to : Node) (edge : IsEdge g from to) → inside to ≡ true → from ≢ Currency 0
          → (ends_of f edge.0 ≡ ends from to) ⊎ LeadsInside c inside from to
          → (from ≡ Currency c) ⊎ (inside from ≡ true)
      alone from to edge is user (inl was) = encloses.alone from to (edge.0, was) is user
      alone from to edge is user (inr new) = new.0

  pub changes-inside : IsChangeInside f g live now c inside
  changes-inside = record { enclosed_before = encloses; enclosed_after = still-encloses; edges = λ from to changed. by from to changed; lives = lives }
    where
      within : (first : Option (Node × Node × ℕ)) (from to : Node) (weight : ℕ) → first ≢ weighed from to weight
          → (first ≡ weighed from to weight) ⊎ LeadsInside c inside from to → inside to ≡ true
      within first from to weight gone (inl same) = absurd (gone same)
      within first from to weight gone (inr is) = is.1

      by : (from to : Node) → IsChangedEdge f g from to → inside to ≡ true
      by from to (inl (edge, weight, is, gone)) =
          within (weighed_of g edge) from to weight gone (on edge from to weight is)
      by from to (inr (edge, weight, is, new)) =
          within (weighed_of f edge) from to weight new (back edge from to weight is)

-- an active amount stays above 0 where each edge stays, whatever it weighs
pub some-stays : (f g : Funding) (live now : List Bool) (c : ℕ)
    → ((edge : Edge) (from to : Node) → ends_of f edge ≡ ends from to → ends_of g edge ≡ ends from to)
    → HasNoCycle f → FundsThere f → HasNoCycle g → FundsThere g → HasAmounts g
    → ((t : ℕ) → IsLive live t → IsLive now t) → 0 < active_amount f live c → 0 < active_amount g now c
some-stays f g live now c on no_cycle there no_cycle_now there_now have life-on some =
    found (active-found f live c some)
  where
    -- by an active ticket, where its edge leads, and the ticket that has it in the other
    ends-there : (n : ℕ) (t : Ticket) → t.issuer ≡ c → IsActive f live n → (to : Node)
        → ends_of f (OfTicket n) ≡ ends (Currency t.issuer) to → ends_of g (OfTicket n) ≡ ends (Currency t.issuer) to
        → (u : Ticket) × (ticket_at g n ≡ Some u) × (Currency t.issuer ≡ Currency u.issuer)
        × (target_node u.target ≡ Some to) → 0 < active_amount g now c
    ends-there n t issued is to before after (u, at, from, leads) =
        let issuer : t.issuer ≡ u.issuer = cc in
        let is_now : IsActive g now n = active-same f g live now (λ node. Unit {0})
        (λ edge first next clear ends_are. (on edge first next ends_are, tt)) (λ v clear alive. life-on v alive) n
        (Currency t.issuer) to before after tt is in
        let amount : u.amount ≤ active_amount g now u.issuer =
        issuer-amount g now n u at ((is_active-exact g no_cycle_now there_now now n u at).1 is_now) in
        subst (λ i. 0 < active_amount g now i) (sym issuer ∙ issued) (omega (arith, amount, have n u at))

    active-is : (n : ℕ) (t : Ticket) → ticket_at f n ≡ Some t → t.issuer ≡ c → IsActive f live n
        → 0 < active_amount g now c
    active-is n t at issued is =
        let (aim, to, aims, to_is) = chain-aims f n is.0 is.1 is.2 in
        let before : ends_of f (OfTicket n) ≡ ends (Currency t.issuer) to =
        ticket-ends f n t.issuer aim to (issuer-of f n t at) aims to_is in
        ends-there n t issued is to before (on (OfTicket n) (Currency t.issuer) to before)
        (ends-ticket g n (Currency t.issuer) to (on (OfTicket n) (Currency t.issuer) to before))

    found : (n : ℕ) × (t : Ticket) × (ticket_at f n ≡ Some t) × (t.issuer ≡ c) × (is_active f live t ≡ true)
        → 0 < active_amount g now c
    found (n, t, at, issued, active) = active-is n t at issued ((is_active-exact f no_cycle there live n t at).0 active)

-- the edge of a ticket, with its weight
abbrev edge-of : Option Ticket → Option (Node × Node × ℕ)
edge-of o =
    option_and_then (λ (t : Ticket). option_map (λ to. (Currency t.issuer, to, t.amount)) (target_node t.target)) o

-- and its ends
abbrev ends-by : Option Ticket → Option (Node × Node)
ends-by o =
    option_and_then (λ (t : Ticket). option_map (λ (to : Node). (Currency t.issuer, to)) (target_node t.target)) o

-- what the edge of a ticket that is there says of it
edge-is : (t : Ticket) (from to : Node) (weight : ℕ) → edge-of (Some t) ≡ weighed from to weight
    → (from ≡ Currency t.issuer) × (target_node t.target ≡ Some to)
edge-is t from to weight is = by (target_node t.target) is
  where
    by : (o : Option Node) → option_map (λ (next : Node). (Currency t.issuer, next, t.amount)) o
        ≡ weighed from to weight → (from ≡ Currency t.issuer) × (o ≡ Some to)
    by None e = cc
    by (Some next) e = (sym (ap (λ (x : Node × Node × ℕ). x.0) (some-injective _ _ e)), ap Some (ap (λ (x : Node × Node × ℕ). x.1) (some-injective _ _ e)))

-- no life changes where the same threads live
no-lives : (live : List Bool) (inside : Node → Bool) (t : ℕ) → IsChangedLife live live t → inside (Thread t) ≡ true
no-lives live inside t (inl (alive, ended)) = absurd (ended alive)
no-lives live inside t (inr (alive, none)) = absurd (none alive)

-- a lender's edge weighs 1 wherever it leads
lender-kept : (f g : Funding) (t : ℕ) (from to : Node) (weight : ℕ)
    → (ends_of f (OfLender t) ≡ ends from to → ends_of g (OfLender t) ≡ ends from to)
    → weighed_of f (OfLender t) ≡ weighed from to weight
    → weighed_of g (OfLender t) ≡ weighed from to weight
lender-kept f g t from to weight kept is =
    let there : ends_of f (OfLender t) ≡ ends from to = there-weighed f (OfLender t) from to weight is in
    ap (option_map (λ (x : Node × Node). let y : Node × Node × ℕ = (x.0, x.1, 1) in y)) (kept there ∙ sym there) ∙ is

-- ---- a ticket that is there funds something inside

module _ (s : State) (n c : ℕ) (goal : TargetRef) (inside : Node → Bool) (issued : issuer_of (funding_of s) n ≡ Some c)
    (named : IsMeantInside s goal inside)
    (unfunded : option_any is_funding (ticket_in s.tickets n) ≡ false) where
  abbrev funded : State
  funded = record s { tickets = with_target s.tickets n (unwrap_or (target_meant s goal) target.Unfunded) }

  -- the ticket, and that it funds nothing
  the-ticket : (t : Ticket) × (ticket_in s.tickets n ≡ Some t) × (t.issuer ≡ c) × (target_node t.target ≡ None)
  the-ticket = by (ticket_in s.tickets n) refl issued unfunded
    where
      none : (to : Target) → not (is_unfunded to) ≡ false → target_node to ≡ None
      none target.Unfunded e = refl
      none (target.Currency d) e = cc
      none (target.Thread u) e = cc

      by : (o : Option Ticket) → ticket_in s.tickets n ≡ o → option_map (λ (t : Ticket). t.issuer) o ≡ Some c
          → option_any is_funding o ≡ false
          → (t : Ticket) × (ticket_in s.tickets n ≡ Some t) × (t.issuer ≡ c) × (target_node t.target ≡ None)
      by None at is off = cc
      by (Some t) at is off = (t, at, some-injective t.issuer c is, none t.target off)

  -- where the changed ticket stands
  its-place : suc (n - 1) ≡ n
  its-place = by n (the-ticket.1)
    where
      by : (m : ℕ) → ticket_in s.tickets m ≡ Some (the-ticket.0) → suc (m - 1) ≡ m
      by zero at = cc
      by (suc i) at = omega arith

  fund-on : (edge : Edge) (from to : Node) (weight : ℕ) → weighed_of (funding_of s) edge ≡ weighed from to weight
      → weighed_of (funding_of funded) edge ≡ weighed from to weight
  fund-on (OfTicket m) from to weight is = by (number-set s.tickets n
      (option_map (retargeted (unwrap_or (target_meant s goal) target.Unfunded)) (ticket_in s.tickets n)) m)
    where
      by : (at_number (with_target s.tickets n (unwrap_or (target_meant s goal) target.Unfunded)) m
          ≡ at_number s.tickets m)
          ⊎ ((m ≡ suc (n - 1)) × (at_number (with_target s.tickets n (unwrap_or (target_meant s goal) target.Unfunded))
          m ≡ Some (option_map (retargeted (unwrap_or (target_meant s goal) target.Unfunded)) (ticket_in s.tickets n))))
          → edge-of (ticket_in (with_target s.tickets n (unwrap_or (target_meant s goal) target.Unfunded)) m)
          ≡ weighed from to weight
      by (inl same) = ap edge-of (ap option_flatten same) ∙ is
      by (inr (at, now)) =
          let (t, there, issuer, none) = the-ticket in
          let here : ticket_in s.tickets m ≡ Some t = ap (ticket_in s.tickets) (at ∙ its-place) ∙ there in
          let (from_is, to_is) = edge-is t from to weight (sym (ap edge-of here) ∙ is) in
          let never : None ≡ Some to = sym none ∙ to_is in cc
  fund-on (OfLender t) from to weight is = is
  fund-on (OfMutex m) from to weight is = is

  fund-back : (edge : Edge) (from to : Node) (weight : ℕ) → weighed_of (funding_of funded) edge ≡ weighed from to weight
      → (weighed_of (funding_of s) edge ≡ weighed from to weight) ⊎ LeadsInside c inside from to
  fund-back (OfTicket m) from to weight is = by (number-set s.tickets n
      (option_map (retargeted (unwrap_or (target_meant s goal) target.Unfunded)) (ticket_in s.tickets n)) m)
    where
      aims : (o : Option Target) → target_meant s goal ≡ o → target_node (unwrap_or o target.Unfunded) ≡ Some to
          → inside to ≡ true
      aims None e none = let never : None ≡ Some to = none in cc
      aims (Some x) e node = named to (ap (option_and_then target_node) e ∙ node)

      by : (at_number (with_target s.tickets n (unwrap_or (target_meant s goal) target.Unfunded)) m
          ≡ at_number s.tickets m)
          ⊎ ((m ≡ suc (n - 1)) × (at_number (with_target s.tickets n (unwrap_or (target_meant s goal) target.Unfunded))
          m ≡ Some (option_map (retargeted (unwrap_or (target_meant s goal) target.Unfunded)) (ticket_in s.tickets n))))
          → (edge-of (ticket_in s.tickets m) ≡ weighed from to weight) ⊎ LeadsInside c inside from to
      by (inl same) = inl (sym (ap edge-of (ap option_flatten same)) ∙ is)
      by (inr (at, now)) =
          let (t, there, issuer, none) = the-ticket in
          let here : ticket_in (with_target s.tickets n (unwrap_or (target_meant s goal) target.Unfunded)) m
          ≡ Some (retargeted (unwrap_or (target_meant s goal) target.Unfunded) t) =
          ap option_flatten now
          ∙ ap (option_map (retargeted (unwrap_or (target_meant s goal) target.Unfunded))) there in
          let (from_is, to_is) = edge-is (retargeted (unwrap_or (target_meant s goal) target.Unfunded) t) from to weight
          (sym (ap edge-of here) ∙ is) in
          inr (inl (from_is ∙ ap Currency issuer), aims (target_meant s goal) refl to_is)
  fund-back (OfLender t) from to weight is = inl is
  fund-back (OfMutex m) from to weight is = inl is

  fund-inside : Encloses (funding_of s) c inside
      → IsChangeInside (funding_of s) (funding_of funded) (live_of s) (live_of funded) c inside
  fund-inside encloses =
      changes-inside (funding_of s) (funding_of funded) (live_of s) (live_of s) c inside encloses
      (λ edge from to weight is. inl (fund-on edge from to weight is)) fund-back (no-lives (live_of s) inside)

  fund-active : HasNoCycle (funding_of s) → FundsThere (funding_of s) → HasNoCycle (funding_of funded)
      → FundsThere (funding_of funded) → HasAmounts (funding_of funded) → 0 < amount_in s c → 0 < amount_in funded c
  fund-active no_cycle there no_cycle_now there_now have =
      some-stays (funding_of s) (funding_of funded) (live_of s) (live_of s) c
      (λ edge from to. ends-kept (funding_of s) (funding_of funded) edge from to (fund-on edge from to)) no_cycle there
      no_cycle_now there_now have (λ t alive. alive)

  pub fund-kept : Encloses (funding_of s) c inside → IsReachable s → (e : Event) → (step s e).state ≡ funded
      → 0 < amount_in s c → (node : Node) → inside node ≡ false → HasEquation (funding_of s) node
      → worth_in (step s e).state node ≡ worth_in s node
  fund-kept encloses reachable e is some =
      let well = well-formed s reachable in
      let after =
      subst (λ x. IsWellFormed (funding_of x)) is (well-formed (step s e).state (reachable-run s (e ∷ []) reachable)) in
      run-inside s (e ∷ []) c inside reachable (subst (λ x. ChangesInside s x c inside) (sym is) (fund-inside encloses))
      (λ _. subst (λ x. 0 < amount_in x c) (sym is)
      (fund-active well.no_cycle well.funds_there after.no_cycle after.funds_there after.amounts some)) (λ _. some)

-- a refused command leaves the state, and with it each value
pub fund-local : (s : State) (n c : ℕ) (goal : TargetRef) (inside : Node → Bool) → IsReachable s
    → Encloses (funding_of s) c inside → issuer_of (funding_of s) n ≡ Some c → IsMeantInside s goal inside
    → 0 < amount_in s c
    → (node : Node) → inside node ≡ false → HasEquation (funding_of s) node
    → worth_in (step s (event.Command (Fund n goal))).state node ≡ worth_in s node
fund-local s n c goal inside reachable encloses issued named some node out has =
    by (command_refusal s (Fund n goal)) refl
  where
    by : (o : Option Refusal) → command_refusal s (Fund n goal) ≡ o
        → worth_in (step s (event.Command (Fund n goal))).state node ≡ worth_in s node
    by (Some refusal) is =
        ap (λ x. worth_in x node) (ap (λ o. (unless_refused s o (command_effect s (Fund n goal))).state) is)
    by None is =
        let passed = all-pass ((is_none (ticket_in s.tickets n), NoTicket) ∷ (is_none (target_meant s goal), NoTarget)
        ∷ (option_any (is_currency 0) (target_meant s goal), BaseFixed)
        ∷ (option_any (is_dead_thread s) (target_meant s goal), DeadThread)
        ∷ (option_any is_funding (ticket_in s.tickets n), IsFunding)
        ∷ (option_any (is_cycle s n) (target_meant s goal), Cycle) ∷ []) is in
        let done : (step s (event.Command (Fund n goal))).state
        ≡ record s { tickets = with_target s.tickets n (unwrap_or (target_meant s goal) target.Unfunded) } =
        ap (λ o. (unless_refused s o (command_effect s (Fund n goal))).state) is in
        fund-kept s n c goal inside issued named passed.1.1.1.1.0 encloses reachable
        (event.Command (Fund n goal)) done some node out has

-- ---- a ticket of the currency, or of one inside it, gets another amount

module _ (s : State) (n amount d c : ℕ) (inside : Node → Bool) (encloses : Encloses (funding_of s) c inside)
    (issued : issuer_of (funding_of s) n ≡ Some d) (within : (d ≡ c) ⊎ (inside (Currency d) ≡ true)) where
  abbrev inflated : State
  inflated = record s { tickets = with_amount s.tickets n amount }

  its-number : suc (n - 1) ≡ n
  its-number = let (t, at, is) = ticket-of (funding_of s) n d issued in
      number-there s.tickets n (Some t) (flatten-some (at_number s.tickets n) t at)

  -- what stands at a ticket's number then
  abbrev SetAt : ℕ → Type 0
  SetAt m = (at_number (with_amount s.tickets n amount) m ≡ at_number s.tickets m) ⊎ ((m ≡ suc (n - 1))
      × (at_number (with_amount s.tickets n amount) m ≡ Some (option_map (reissued amount) (ticket_in s.tickets n))))

  set-at : (m : ℕ) → SetAt m
  set-at = number-set s.tickets n (option_map (reissued amount) (ticket_in s.tickets n))

  -- each edge stays where it was
  set-ends : (edge : Edge) → ends_of (funding_of inflated) edge ≡ ends_of (funding_of s) edge
  set-ends (OfTicket m) = by (set-at m)
    where
      again : (o : Option Ticket) → ends-by (option_map (reissued amount) o) ≡ ends-by o
      again None = refl
      again (Some t) = refl

      by : SetAt m → ends-by (ticket_in (with_amount s.tickets n amount) m) ≡ ends-by (ticket_in s.tickets m)
      by (inl same) = ap ends-by (ap option_flatten same)
      by (inr (place, now)) = ap ends-by (ap option_flatten now) ∙ again (ticket_in s.tickets n)
          ∙ ap (λ k. ends-by (ticket_in s.tickets k)) (sym (place ∙ its-number))
  set-ends (OfLender t) = refl
  set-ends (OfMutex m) = refl

  ends-on : (edge : Edge) (from to : Node) → ends_of (funding_of s) edge ≡ ends from to
      → ends_of (funding_of inflated) edge ≡ ends from to
  ends-on edge from to is = set-ends edge ∙ is

  ends-off : (edge : Edge) (from to : Node) → ends_of (funding_of inflated) edge ≡ ends from to
      → ends_of (funding_of s) edge ≡ ends from to
  ends-off edge from to is = sym (set-ends edge) ∙ is

  -- the ticket's edge leads inside
  leads-inside : (m : ℕ) (from to : Node) → m ≡ n → ends_of (funding_of s) (OfTicket m) ≡ ends from to
      → LeadsInside c inside from to
  leads-inside m from to here is =
      let (t, at, from_is, to_is) = ends-ticket (funding_of s) m from to is in
      let issuer : t.issuer ≡ d =
      some-injective t.issuer d (sym (issuer-of (funding_of s) m t at) ∙ ap (issuer_of (funding_of s)) here ∙ issued) in
      let begins = its within (from_is ∙ ap Currency issuer) in
      (begins, encloses.below from to (OfTicket m, is) begins)
    where
      its : (d ≡ c) ⊎ (inside (Currency d) ≡ true) → from ≡ Currency d → (from ≡ Currency c) ⊎ (inside from ≡ true)
      its (inl same) is = inl (is ∙ ap Currency same)
      its (inr is_in) is = inr (ap inside is ∙ is_in)

  set-on : (edge : Edge) (from to : Node) (weight : ℕ) → weighed_of (funding_of s) edge ≡ weighed from to weight
      → (weighed_of (funding_of inflated) edge ≡ weighed from to weight) ⊎ LeadsInside c inside from to
  set-on (OfTicket m) from to weight is = by (set-at m)
    where
      by : SetAt m
          → (weighed_of (funding_of inflated) (OfTicket m) ≡ weighed from to weight) ⊎ LeadsInside c inside from to
      by (inl same) = inl (ap edge-of (ap option_flatten same) ∙ is)
      by (inr (place, now)) = inr
          (leads-inside m from to (place ∙ its-number) (there-weighed (funding_of s) (OfTicket m) from to weight is))
  set-on (OfLender t) from to weight is = inl is
  set-on (OfMutex m) from to weight is = inl is

  set-back : (edge : Edge) (from to : Node) (weight : ℕ)
      → weighed_of (funding_of inflated) edge ≡ weighed from to weight
      → (weighed_of (funding_of s) edge ≡ weighed from to weight) ⊎ LeadsInside c inside from to
  set-back (OfTicket m) from to weight is = by (set-at m)
    where
      by : SetAt m → (weighed_of (funding_of s) (OfTicket m) ≡ weighed from to weight) ⊎ LeadsInside c inside from to
      by (inl same) = inl (sym (ap edge-of (ap option_flatten same)) ∙ is)
      by (inr (place, now)) = inr (leads-inside m from to (place ∙ its-number)
          (ends-off (OfTicket m) from to (there-weighed (funding_of inflated) (OfTicket m) from to weight is)))
  set-back (OfLender t) from to weight is = inl is
  set-back (OfMutex m) from to weight is = inl is

  pub set-inside : ChangesInside s inflated c inside
  set-inside = changes-inside (funding_of s) (funding_of inflated) (live_of s)
      (live_of s) c inside encloses set-on set-back (no-lives (live_of s) inside)

  -- the currency has an active amount if and only if it had one
  pub set-kept : IsReachable s → (e : Event) → (step s e).state ≡ inflated → (node : Node) → inside node ≡ false
      → HasEquation (funding_of s) node → worth_in (step s e).state node ≡ worth_in s node
  set-kept reachable e is =
      let well = well-formed s reachable in
      let now : IsWellFormed (funding_of inflated) =
      subst (λ x. IsWellFormed (funding_of x)) is (well-formed (step s e).state (reachable-run s (e ∷ []) reachable)) in
      run-inside s (e ∷ []) c inside reachable (subst (λ x. ChangesInside s x c inside) (sym is) set-inside)
      (λ some. subst (λ x. 0 < amount_in x c) (sym is)
      (some-stays (funding_of s) (funding_of inflated) (live_of s) (live_of s) c ends-on well.no_cycle well.funds_there
      now.no_cycle now.funds_there now.amounts (λ t alive. alive) some))
      (λ some. some-stays (funding_of inflated) (funding_of s) (live_of s)
      (live_of s) c ends-off now.no_cycle now.funds_there well.no_cycle well.funds_there well.amounts (λ t alive. alive)
      (subst (λ x. 0 < amount_in x c) is some))

-- a refused one changes nothing
pub set-changes-inside : (s : State) (n amount d c : ℕ) (inside : Node → Bool) → Encloses (funding_of s) c inside
    → issuer_of (funding_of s) n ≡ Some d → (d ≡ c) ⊎ (inside (Currency d) ≡ true)
    → ChangesInside s (step s (event.Command (SetTicket n amount))).state c inside
set-changes-inside s n amount d c inside encloses issued within = by (command_refusal s (SetTicket n amount))
  where
    by : (o : Option Refusal)
        → ChangesInside s (unless_refused s o (command_effect s (SetTicket n amount))).state c inside
    by (Some refusal) =
        changes-inside (funding_of s) (funding_of s) (live_of s) (live_of s) c inside encloses
        (λ edge from to weight is. inl is) (λ edge from to weight is. inl is) (no-lives (live_of s) inside)
    by None = set-inside s n amount d c inside encloses issued within

pub set-local : (s : State) (n amount d c : ℕ) (inside : Node → Bool) → IsReachable s → Encloses (funding_of s) c inside
    → issuer_of (funding_of s) n ≡ Some d → (d ≡ c) ⊎ (inside (Currency d) ≡ true)
    → (node : Node) → inside node ≡ false → HasEquation (funding_of s) node
    → worth_in (step s (event.Command (SetTicket n amount))).state node ≡ worth_in s node
set-local s n amount d c inside reachable encloses issued within node out has =
    by (command_refusal s (SetTicket n amount)) refl
  where
    by : (o : Option Refusal) → command_refusal s (SetTicket n amount) ≡ o
        → worth_in (step s (event.Command (SetTicket n amount))).state node ≡ worth_in s node
    by (Some refusal) is =
        ap (λ x. worth_in x node) (ap (λ o. (unless_refused s o (command_effect s (SetTicket n amount))).state) is)
    by None is =
        set-kept s n amount d c inside encloses issued within reachable (event.Command (SetTicket n amount))
        (ap (λ o. (unless_refused s o (command_effect s (SetTicket n amount))).state) is) node out has

-- ---- as many threads as records

step-many : (s : State) (e : Event) → length s.threads ≡ length s.records
    → length (step s e).state.threads ≡ length (step s e).state.records
step-many s e same = let grown = step-grown s e in omega (arith, same, grown.1.1, grown.1.2)

run-many : (s : State) (events : List Event) → length s.threads ≡ length s.records
    → length (state_after s events).threads ≡ length (state_after s events).records
run-many s [] same = same
run-many s (e ∷ events) same = run-many (step s e).state events (step-many s e same)

reachable-many : (s : State) → IsReachable s → length s.threads ≡ length s.records
reachable-many s (limits, events, bounds, is) =
    subst (λ x. length x.threads ≡ length x.records) (sym is) (run-many (opening limits) events refl)

-- who is made has the same number in both tables
next-same : {A B : Type 0} (xs : List A) (ys : List B) (free : List ℕ) → length xs ≡ length ys
    → next_place xs free ≡ next_place ys free
next-same xs ys [] many = many
next-same xs ys (place ∷ free) many = refl

-- ---- a new thread with a ticket of the currency

module _ (s : State) (amount c : ℕ) (currency : CurrencyRef) (name : List ℕ) (script : ℕ) (inside : Node → Bool)
    (issued : currency_meant s currency ≡ Some c)
    (new : inside (Thread (next_thread s)) ≡ true) (many : length s.threads ≡ length s.records)
    (order : IsInOrder s) where
  abbrev fresh : Record
  fresh = record { status = status.Ready; compensation = None; delivered = None; quanta = 0; ticks = 0 }

  abbrev its-ticket : Ticket
  its-ticket = record { amount = amount; issuer = currency_or_base s currency; target = target.Thread (next_thread s) }

  abbrev made : State
  made = with_ticket (with_thread s name script) its-ticket

  -- a record stays, or it is the new thread's; before, the number was nobody's, or a dead thread's
  abbrev RecordAt : ℕ → Type 0
  RecordAt t = (at_number (placed s.records (free_threads s) fresh) t ≡ at_number s.records t)
      ⊎ ((t ≡ next_thread s) × (at_number (placed s.records (free_threads s) fresh) t ≡ Some fresh)
      × ((status_of s.records t ≡ None) ⊎ (status_of s.records t ≡ Some status.Dead)))

  record-at : (t : ℕ) → RecordAt t
  record-at t = from (number-next s.records (free_threads s) fresh t)
    where
      before : (at_number s.records t ≡ None) ⊎ (slice_get (free_threads s) 0 ≡ Some (t - 1)) → suc (t - 1) ≡ t
          → (status_of s.records t ≡ None) ⊎ (status_of s.records t ≡ Some status.Dead)
      before (inl none) number = inl (ap (option_map (λ (r : Record). r.status)) none)
      before (inr first) number =
          inr (ap (status_of s.records) (sym number) ∙ free-dead s order.gaps order.removed (t - 1) first)

      from : (at_number (placed s.records (free_threads s) fresh) t ≡ at_number s.records t)
          ⊎ ((t ≡ next_place s.records (free_threads s) + 1) × (at_number (placed s.records (free_threads s) fresh) t
          ≡ Some fresh) × ((at_number s.records t ≡ None) ⊎ (slice_get (free_threads s) 0 ≡ Some (t - 1)))) → RecordAt t
      from (inl same) = inl same
      from (inr (number, now, was)) = inr
          (number ∙ ap (λ n. n + 1) (sym (next-same s.threads s.records (free_threads s) many)), now, before was (omega (arith, number)))

  -- a ticket stays, or it is the new one; before, there was none
  ticket-at_new : (m : ℕ) → (at_number (placed s.tickets (free_tickets s) (Some its-ticket)) m ≡ at_number s.tickets m)
      ⊎ ((ticket_in s.tickets m ≡ None)
      × (at_number (placed s.tickets (free_tickets s) (Some its-ticket)) m ≡ Some (Some its-ticket)))
  ticket-at_new m = from (number-next s.tickets (free_tickets s) (Some its-ticket) m)
    where
      gap : (reuse : Bool) → s.limits.reuse ≡ reuse → slice_get (cond {A = List ℕ} reuse s.freed.tickets []) 0
          ≡ Some (m - 1) → suc (m - 1) ≡ m → ticket_in s.tickets m ≡ None
      gap false is first number = cc
      gap true is first number =
          ap (ticket_in s.tickets) (sym number) ∙ ap option_flatten (at_number-suc s.tickets (m - 1)
          ∙ (order.gaps is).tickets.each (m - 1) (contains-at s.freed.tickets 0 (m - 1) first))

      before : (at_number s.tickets m ≡ None) ⊎ (slice_get (free_tickets s) 0 ≡ Some (m - 1)) → suc (m - 1) ≡ m
          → ticket_in s.tickets m ≡ None
      before (inl none) number = ap option_flatten none
      before (inr first) number = gap s.limits.reuse refl first number

      from : (at_number (placed s.tickets (free_tickets s) (Some its-ticket)) m ≡ at_number s.tickets m)
          ⊎ ((m ≡ next_place s.tickets (free_tickets s) + 1)
          × (at_number (placed s.tickets (free_tickets s) (Some its-ticket)) m ≡ Some (Some its-ticket))
          × ((at_number s.tickets m ≡ None) ⊎ (slice_get (free_tickets s) 0 ≡ Some (m - 1))))
          → (at_number (placed s.tickets (free_tickets s) (Some its-ticket)) m ≡ at_number s.tickets m)
          ⊎ ((ticket_in s.tickets m ≡ None)
          × (at_number (placed s.tickets (free_tickets s) (Some its-ticket)) m ≡ Some (Some its-ticket)))
      from (inl same) = inl same
      from (inr (number, now, was)) = inr (before was (omega (arith, number)), now)

  -- the edge of a thread with this status
  abbrev lend-edge : ℕ → Option Status → Option (Node × Node)
  lend-edge t o = option_and_then (λ (lend : Lend). option_map (λ (to : Node). (Thread t, to)) (lend_node lend))
      (option_map (lend_of s.limits) o)

  lender-is : (records : List Record) (t : ℕ)
      → option_and_then (λ (lend : Lend). option_map (λ (to : Node). (Thread t, to)) (lend_node lend))
      (at_number (map (λ (r : Record). lend_of s.limits r.status) records) t) ≡ lend-edge t (status_of records t)
  lender-is records t =
      ap (option_and_then (λ (lend : Lend). option_map (λ (to : Node). (Thread t, to)) (lend_node lend)))
      (at_number-map (λ (r : Record). lend_of s.limits r.status) records t ∙ twice (at_number records t))
    where
      twice : (o : Option Record) → option_map (λ (r : Record). lend_of s.limits r.status) o
          ≡ option_map (lend_of s.limits) (option_map (λ (r : Record). r.status) o)
      twice None = refl
      twice (Some r) = refl

  -- nobody lends nothing, nor does a dead thread
  no-edge : (t : ℕ) → (status_of s.records t ≡ None) ⊎ (status_of s.records t ≡ Some status.Dead)
      → lend-edge t (status_of s.records t) ≡ None
  no-edge t (inl none) = ap (lend-edge t) none
  no-edge t (inr dead) = ap (lend-edge t) dead

  lend-same : (t : ℕ) → ends_of (funding_of made) (OfLender t) ≡ ends_of (funding_of s) (OfLender t)
  lend-same t = by (record-at t)
    where
      by : RecordAt t → ends_of (funding_of made) (OfLender t) ≡ ends_of (funding_of s) (OfLender t)
      by (inl same) = lender-is (placed s.records (free_threads s) fresh) t
          ∙ ap (λ o. lend-edge t (option_map (λ (r : Record). r.status) o)) same ∙ sym (lender-is s.records t)
      by (inr (number, now, was)) = lender-is (placed s.records (free_threads s) fresh) t ∙ ap (λ o.
          lend-edge t (option_map (λ (r : Record). r.status) o)) now ∙ sym (no-edge t was) ∙ sym (lender-is s.records t)

  lend-on : (t : ℕ) (from to : Node) → ends_of (funding_of s) (OfLender t) ≡ ends from to
      → ends_of (funding_of made) (OfLender t) ≡ ends from to
  lend-on t from to is = lend-same t ∙ is

  lend-back : (t : ℕ) (from to : Node) → ends_of (funding_of made) (OfLender t) ≡ ends from to
      → ends_of (funding_of s) (OfLender t) ≡ ends from to
  lend-back t from to is = sym (lend-same t) ∙ is

  make-on : (edge : Edge) (from to : Node) (weight : ℕ) → weighed_of (funding_of s) edge ≡ weighed from to weight
      → weighed_of (funding_of made) edge ≡ weighed from to weight
  make-on (OfTicket m) from to weight is = by (ticket-at_new m)
    where
      by : (at_number (placed s.tickets (free_tickets s) (Some its-ticket)) m ≡ at_number s.tickets m)
          ⊎ ((ticket_in s.tickets m ≡ None)
          × (at_number (placed s.tickets (free_tickets s) (Some its-ticket)) m ≡ Some (Some its-ticket)))
          → edge-of (ticket_in (placed s.tickets (free_tickets s) (Some its-ticket)) m) ≡ weighed from to weight
      by (inl same) = ap edge-of (ap option_flatten same) ∙ is
      by (inr (none, now)) = let never : None ≡ weighed from to weight = sym (ap edge-of none) ∙ is in cc
  make-on (OfLender t) from to weight is =
      lender-kept (funding_of s) (funding_of made) t from to weight (lend-on t from to) is
  make-on (OfMutex m) from to weight is = is

  make-back : (edge : Edge) (from to : Node) (weight : ℕ) → weighed_of (funding_of made) edge ≡ weighed from to weight
      → (weighed_of (funding_of s) edge ≡ weighed from to weight) ⊎ LeadsInside c inside from to
  make-back (OfTicket m) from to weight is = by (ticket-at_new m)
    where
      by : (at_number (placed s.tickets (free_tickets s) (Some its-ticket)) m ≡ at_number s.tickets m)
          ⊎ ((ticket_in s.tickets m ≡ None)
          × (at_number (placed s.tickets (free_tickets s) (Some its-ticket)) m ≡ Some (Some its-ticket)))
          → (edge-of (ticket_in s.tickets m) ≡ weighed from to weight) ⊎ LeadsInside c inside from to
      by (inl same) = inl (sym (ap edge-of (ap option_flatten same)) ∙ is)
      by (inr (none, now)) =
          let (from_is, to_is) = edge-is its-ticket from to weight (sym (ap edge-of (ap option_flatten now)) ∙ is) in
          let to_thread : Thread (next_thread s) ≡ to = some-injective (Thread (next_thread s)) to to_is in
          inr (inl (from_is ∙ ap (λ (o : Option ℕ). Currency (unwrap_or o 0)) issued), subst (λ x. inside x ≡ true) to_thread new)
  make-back (OfLender t) from to weight is =
      inl (lender-kept (funding_of made) (funding_of s) t from to weight (lend-back t from to) is)
  make-back (OfMutex m) from to weight is = inl is

  life-is : (records : List Record) (t : ℕ) → at_number (map (λ (r : Record). is_live_status r.status) records) t
      ≡ option_map is_live_status (status_of records t)
  life-is records t = at_number-map (λ (r : Record). is_live_status r.status) records t ∙ twice (at_number records t)
    where
      twice : (o : Option Record) → option_map (λ (r : Record). is_live_status r.status) o
          ≡ option_map is_live_status (option_map (λ (r : Record). r.status) o)
      twice None = refl
      twice (Some r) = refl

  -- nobody lives, nor does a dead thread
  lifeless : (t : ℕ) → (status_of s.records t ≡ None) ⊎ (status_of s.records t ≡ Some status.Dead)
      → ¬ IsLive (live_of s) t
  lifeless t (inl none) alive = let never : None ≡ Some true = sym (ap (option_map is_live_status) none)
      ∙ sym (life-is s.records t) ∙ alive in cc
  lifeless t (inr dead) alive = let never : Some false ≡ Some true = sym (ap (option_map is_live_status) dead)
      ∙ sym (life-is s.records t) ∙ alive in cc

  -- the statuses of who was there
  status-same : (t : ℕ) → at_number (placed s.records (free_threads s) fresh) t ≡ at_number s.records t
      → option_map is_live_status (status_of (placed s.records (free_threads s) fresh) t)
      ≡ option_map is_live_status (status_of s.records t)
  status-same t same = ap (λ o. option_map is_live_status (option_map (λ (r : Record). r.status) o)) same

  make-life : (t : ℕ) → IsLive (live_of s) t → IsLive (live_of made) t
  make-life t alive = by (record-at t)
    where
      by : RecordAt t → IsLive (live_of made) t
      by (inl same) = life-is (placed s.records (free_threads s) fresh) t ∙ status-same t same
          ∙ sym (life-is s.records t) ∙ alive
      by (inr (number, now, was)) = absurd (lifeless t was alive)

  make-lives : (t : ℕ) → IsChangedLife (live_of s) (live_of made) t → inside (Thread t) ≡ true
  make-lives t (inl (alive, ended)) = absurd (ended (make-life t alive))
  make-lives t (inr (alive, none)) = by (record-at t)
    where
      by : RecordAt t → inside (Thread t) ≡ true
      by (inl same) = absurd (none (life-is s.records t ∙ sym (status-same t same)
          ∙ sym (life-is (placed s.records (free_threads s) fresh) t) ∙ alive))
      by (inr (number, now, was)) = subst (λ x. inside (Thread x) ≡ true) (sym number) new

  pub make-kept : Encloses (funding_of s) c inside → IsReachable s → (e : Event) → (step s e).state ≡ made
      → 0 < amount_in s c → (node : Node) → inside node ≡ false → HasEquation (funding_of s) node
      → worth_in (step s e).state node ≡ worth_in s node
  make-kept encloses reachable e is some =
      let well = well-formed s reachable in
      let after =
      subst (λ x. IsWellFormed (funding_of x)) is (well-formed (step s e).state (reachable-run s (e ∷ []) reachable)) in
      let change : ChangesInside s made c inside = changes-inside (funding_of s) (funding_of made) (live_of s) (live_of
      made) c inside encloses (λ edge from to weight is. inl (make-on edge from to weight is)) make-back make-lives in
      let active : 0 < amount_in made c =
      some-stays (funding_of s) (funding_of made) (live_of s) (live_of made) c
      (λ edge from to. ends-kept (funding_of s) (funding_of made) edge from to (make-on edge from to)) well.no_cycle
      well.funds_there after.no_cycle after.funds_there after.amounts make-life some in
      run-inside s (e ∷ []) c inside reachable (subst (λ x. ChangesInside s x c inside) (sym is) change)
      (λ _. subst (λ x. 0 < amount_in x c) (sym is) active) (λ _. some)

pub make-local : (s : State) (amount c : ℕ) (currency : CurrencyRef) (name : List ℕ) (script : ℕ) (inside : Node → Bool)
    → IsReachable s → Encloses (funding_of s) c inside → currency_meant s currency ≡ Some c
    → inside (Thread (next_thread s)) ≡ true → 0 < amount_in s c → (node : Node) → inside node ≡ false
    → HasEquation (funding_of s) node
    → worth_in (step s (event.Command (MakeFunded amount currency name script))).state node ≡ worth_in s node
make-local s amount c currency name script inside reachable encloses issued new some node out has =
    by (command_refusal s (MakeFunded amount currency name script)) refl
  where
    by : (o : Option Refusal) → command_refusal s (MakeFunded amount currency name script) ≡ o
        → worth_in (step s (event.Command (MakeFunded amount currency name script))).state node ≡ worth_in s node
    by (Some refusal) is = ap (λ x. worth_in x node)
        (ap (λ o. (unless_refused s o (command_effect s (MakeFunded amount currency name script))).state) is)
    by None is =
        make-kept s amount c currency name script inside issued new (reachable-many s reachable)
        (reachable-order s reachable) encloses reachable (event.Command (MakeFunded amount currency name script))
        (ap (λ o. (unless_refused s o (command_effect s (MakeFunded amount currency name script))).state) is) some node
        out has
