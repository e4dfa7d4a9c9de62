-- Another amount of a ticket: it funds nothing in between, and then the same target again.
use Rattle.lot_value.proofs.Common.{Activity, AreTogether, ChainLeads, Currency, Edge, EdgeEnds, FollowsGraph, Funding, FundsFrom, FundsThere, HasEquation, HasNoCycle, IsCycle, IsFunding, IsTarget, IsTrue, Known, LimitedFunding, List, Node, None, OfLender, OfMutex, OfTicket, Option, Some, Target, Thread, Ticket, Valued, WeighedBetween, ap, arith, at_number, chain-path, ends_of_edge, flatten-some, inl, inr, is_funding, issuer_of, number-kept, number-set, number-set_same, number-there, option_and_then, option_any, option_flatten, option_map, path-chain, path-fewer, refl, reissued, retargeted, set-twice, set_number, some-injective, subst, suc, sym, target_node, target_of, ticket-ends, ticket_at, ticket_in, weighed_of, with_amount, with_target, with_tickets, ℕ, [], ◌-◌, ◌∙◌, ◌∷◌, ◌≡◌, ◌≢◌, ◌⊎◌}
use Rattle.lot_machine.specs.declared.ticket.Target.TheVariants as target
use Rattle.lot_value.proofs.Ends.{there-edge}
use Rattle.lot_value.proofs.TwoChanges.{follows-both}

-- ---- another ticket in the place of one

-- the funding with other tickets
abbrev holding : Funding → List (Option Ticket) → Funding
holding f tickets = record f { tickets = tickets }

-- the graph with another ticket in the place of one
abbrev pub with_put : LimitedFunding → ℕ → Ticket → LimitedFunding
with_put w n t = with_tickets w (set_number w.funding.tickets n (Some t))

-- where the ticket stands
stands : (tickets : List (Option Ticket)) (n : ℕ) (t : Ticket) → ticket_in tickets n ≡ Some t
    → at_number tickets n ≡ Some (Some t)
stands tickets n t at = flatten-some (at_number tickets n) t at

module _ (w now : LimitedFunding) (n : ℕ) (t : Ticket) (at : ticket_at w.funding n ≡ Some t) where
  -- a ticket that gets another target
  pub put-target : (to : Target) → now ≡ with_tickets w (with_target w.funding.tickets n to)
      → now ≡ with_put w n (retargeted to t)
  put-target to is = is
      ∙ ap (λ (o : Option Ticket). with_tickets w (set_number w.funding.tickets n (option_map (retargeted to) o))) at

  -- and one that gets another amount
  pub put-amount : (amount : ℕ) → now ≡ with_tickets w (with_amount w.funding.tickets n amount)
      → now ≡ with_put w n (reissued amount t)
  put-amount amount is = is
      ∙ ap (λ (o : Option Ticket). with_tickets w (set_number w.funding.tickets n (option_map (reissued amount) o))) at

  -- it stands there then
  pub put-here : (u : Ticket) → now ≡ with_put w n u → ticket_at now.funding n ≡ Some u
  put-here u is =
      ap (λ (x : LimitedFunding). ticket_at x.funding n) is
      ∙ ap option_flatten (number-set_same w.funding.tickets n (Some u) (Some t) (stands w.funding.tickets n t at))

  -- a ticket that has this amount already keeps its place
  pub amount-same : (amount : ℕ) → t.amount ≡ amount → w ≡ with_tickets w (with_amount w.funding.tickets n amount)
  amount-same amount is =
      let same : reissued amount t ≡ t = ap (λ (a : ℕ). reissued a t) (sym is) in
      sym
      (ap (λ (o : Option Ticket). with_tickets w (set_number w.funding.tickets n (option_map (reissued amount) o))) at
      ∙ ap (λ (u : Ticket). with_put w n u) same
      ∙ ap (with_tickets w) (number-kept w.funding.tickets n (Some t) (stands w.funding.tickets n t at)))

-- one put after another stays
pub put-twice : (w mid now : LimitedFunding) (n : ℕ) (t u : Ticket) → mid ≡ with_put w n t → now ≡ with_put mid n u
    → now ≡ with_put w n u
put-twice w mid now n t u one two =
    two ∙ ap (λ (v : LimitedFunding). with_put v n u) one
    ∙ ap (with_tickets w) (set-twice w.funding.tickets n (Some t) (Some u))

-- ---- the edge of a ticket that funds nothing in between

-- where a ticket's edge leads, with its weight
abbrev ticket_weighed : Option Ticket → Option (Node × Node × ℕ)
ticket_weighed o = option_and_then (λ (t : Ticket). option_map
    (λ (to : Node). let x : Node × Node × ℕ = (Currency t.issuer, to, t.amount) in x) (target_node t.target)) o

-- two tickets have no edge with the same weight in common
abbrev pub NoneCommon : Ticket → Ticket → Type 0
NoneCommon a b = (weighed : Node × Node × ℕ) → ticket_weighed (Some a) ≡ Some weighed
    → ticket_weighed (Some b) ≡ Some weighed → ⊥

-- a ticket that funds nothing has no edge
unfunded-edge : (t : Ticket) (weighed : Node × Node × ℕ) → t.target ≡ target.Unfunded
    → ticket_weighed (Some t) ≡ Some weighed → ⊥
unfunded-edge t weighed free is =
    let none : ticket_weighed (Some t) ≡ None = ap (λ (o : Target). option_map
    (λ (to : Node). let x : Node × Node × ℕ = (Currency t.issuer, to, t.amount) in x) (target_node o)) free in
    let no : None ≡ Some weighed = sym none ∙ is in cc

pub none-unfunded : (a b : Ticket) → b.target ≡ target.Unfunded → NoneCommon a b
none-unfunded a b free weighed first second = unfunded-edge b weighed free second

-- the weight of a ticket's edge is its amount
edge-amount : (t : Ticket) (weighed : Node × Node × ℕ) → ticket_weighed (Some t) ≡ Some weighed → t.amount ≡ weighed.2
edge-amount t weighed is = by (target_node t.target) is
  where
    by : (o : Option Node)
        → option_map (λ (to : Node). let x : Node × Node × ℕ = (Currency t.issuer, to, t.amount) in x) o ≡ Some weighed
        → t.amount ≡ weighed.2
    by None e = cc
    by (Some to) e = let same : (Currency t.issuer, to, t.amount) ≡ weighed = some-injective _ weighed e in
        ap (λ (x : Node × Node × ℕ). x.2) same

pub none-reissued : (a b : Ticket) → a.amount ≢ b.amount → NoneCommon a b
none-reissued a b other weighed first second = other (edge-amount a weighed first ∙ sym (edge-amount b weighed second))

-- in between, the place holds a ticket that funds nothing
put-between : (f : Funding) (n : ℕ) (before mid after : Ticket) → ticket_at f n ≡ Some before
    → mid.target ≡ target.Unfunded → NoneCommon before after
    → WeighedBetween f (holding f (set_number f.tickets n (Some mid))) (holding f (set_number f.tickets n (Some after)))
put-between f n before mid after at free apart = record { kept = kept; only = only }
  where
    amid : List (Option Ticket)
    amid = set_number f.tickets n (Some mid)

    late : List (Option Ticket)
    late = set_number f.tickets n (Some after)

    there : at_number f.tickets n ≡ Some (Some before)
    there = stands f.tickets n before at

    kept : (edge : Edge) (weighed : Node × Node × ℕ) → weighed_of f edge ≡ Some weighed
        → weighed_of (holding f late) edge ≡ Some weighed → weighed_of (holding f amid) edge ≡ Some weighed
    kept (OfLender t) weighed first second = first
    kept (OfMutex m) weighed first second = first
    kept (OfTicket k) weighed first second = by (number-set f.tickets n (Some mid) k)
      where
        by : (at_number amid k ≡ at_number f.tickets k) ⊎ ((k ≡ suc (n - 1)) × (at_number amid k ≡ Some (Some mid)))
            → ticket_weighed (ticket_in amid k) ≡ Some weighed
        by (inl same) = ap (λ (o : Option (Option Ticket)). ticket_weighed (option_flatten o)) same ∙ first
        by (inr (here, is)) =
            absurd (apart weighed (sym (ap ticket_weighed old) ∙ first) (sym (ap ticket_weighed new) ∙ second))
          where
            same : k ≡ n
            same = here ∙ number-there f.tickets n (Some before) there

            old : ticket_in f.tickets k ≡ Some before
            old = ap (ticket_in f.tickets) same ∙ at

            new : ticket_in late k ≡ Some after
            new = ap (ticket_in late) same
                ∙ ap option_flatten (number-set_same f.tickets n (Some after) (Some before) there)

    only : (edge : Edge) (weighed : Node × Node × ℕ) → weighed_of (holding f amid) edge ≡ Some weighed
        → (weighed_of f edge ≡ Some weighed) ⊎ (weighed_of (holding f late) edge ≡ Some weighed)
    only (OfLender t) weighed is = inl is
    only (OfMutex m) weighed is = inl is
    only (OfTicket k) weighed is = by (number-set f.tickets n (Some mid) k)
      where
        by : (at_number amid k ≡ at_number f.tickets k) ⊎ ((k ≡ suc (n - 1)) × (at_number amid k ≡ Some (Some mid)))
            → (ticket_weighed (ticket_in f.tickets k) ≡ Some weighed)
            ⊎ (ticket_weighed (ticket_in late k) ≡ Some weighed)
        by (inl same) = inl (sym (ap (λ (o : Option (Option Ticket)). ticket_weighed (option_flatten o)) same) ∙ is)
        by (inr (here, now)) = absurd (unfunded-edge mid weighed free
            (sym (ap (λ (o : Option (Option Ticket)). ticket_weighed (option_flatten o)) now) ∙ is))

-- the same of graphs
pub edges-put : (w mid now : LimitedFunding) (n : ℕ) (before t u : Ticket) → ticket_at w.funding n ≡ Some before
    → t.target ≡ target.Unfunded → NoneCommon before u → mid ≡ with_put w n t → now ≡ with_put w n u
    → WeighedBetween w.funding mid.funding now.funding
edges-put w mid now n before t u at free apart one two =
    subst (λ (m : LimitedFunding). WeighedBetween w.funding m.funding now.funding) (sym one)
    (subst (λ (a : LimitedFunding).
    WeighedBetween w.funding (holding w.funding (set_number w.funding.tickets n (Some t))) a.funding) (sym two)
    (put-between w.funding n before t u at free apart))

-- ---- what it funded may be funded again

-- what a ticket funds is there
pub funded-there : (f : Funding) (n : ℕ) (to : Target) (node : Node) → FundsThere f → target_of f n ≡ Some to
    → target_node to ≡ Some node → HasEquation f node → IsTarget f to
funded-there f n target.Unfunded node there at leads has = cc
funded-there f n (target.Currency c) node there at leads has =
    let user : HasEquation f (Currency c) = subst (HasEquation f) (sym (some-injective (Currency c) node leads)) has in
    (omega (arith, user), there n c at)
funded-there f n (target.Thread t) node there at leads has =
    subst (HasEquation f) (sym (some-injective (Thread t) node leads)) has

-- what a ticket funds makes no cycle with it
cycle-none : (f : Funding) (n : ℕ) (to : Target) → HasNoCycle f → target_of f n ≡ Some to → ¬ IsCycle f n to
cycle-none f n to none funds (c, issuer, is, issued, would) = by would
  where
    currency : target_of f n ≡ Some (target.Currency c)
    currency = funds ∙ ap (λ (x : Target). Some x) is

    by : (c ≡ issuer) ⊎ ChainLeads f c (target.Currency issuer) → ⊥
    by (inl same) = none.funding issuer (n, [], issued, currency ∙ ap (λ (x : ℕ). Some (target.Currency x)) same)
    by (inr (first, rest, of_currency, chain)) =
        none.funding issuer (n, first ∷ rest, issued, ((c, currency, of_currency), chain))

-- nor does it after its place got a ticket of the same issuer that funds nothing
module _ (f : Funding) (n : ℕ) (before mid : Ticket) (at : ticket_at f n ≡ Some before)
    (free : mid.target ≡ target.Unfunded) (issuer_same : mid.issuer ≡ before.issuer) where
  abbrev after : Funding
  after = holding f (set_number f.tickets n (Some mid))

  -- which currency issues each ticket is as before
  fewer-issuers : (issuer : ℕ) → issuer_of after n ≡ Some issuer → issuer_of f n ≡ Some issuer
  fewer-issuers issuer is =
      let here : ticket_at after n ≡ Some mid =
      ap option_flatten (number-set_same f.tickets n (Some mid) (Some before) (stands f.tickets n before at)) in
      ap (option_map (λ (t : Ticket). t.issuer)) at ∙ ap (λ (x : ℕ). Some x) (sym issuer_same)
      ∙ sym (ap (option_map (λ (t : Ticket). t.issuer)) here) ∙ is

  -- each ticket that funds a currency did so before
  fewer-funds : (c d : ℕ) → FundsFrom after c d → FundsFrom f c d
  fewer-funds c d (k, issued, funds) = by (number-set f.tickets n (Some mid) k)
    where
      by : (at_number (set_number f.tickets n (Some mid)) k ≡ at_number f.tickets k)
          ⊎ ((k ≡ suc (n - 1)) × (at_number (set_number f.tickets n (Some mid)) k ≡ Some (Some mid))) → FundsFrom f c d
      by (inl same) = (
        k,
        sym (ap (λ (o : Option (Option Ticket)). option_map (λ (t : Ticket). t.issuer) (option_flatten o)) same)
            ∙ issued,
        sym (ap (λ (o : Option (Option Ticket)). option_map (λ (t : Ticket). t.target) (option_flatten o)) same)
            ∙ funds,
      )
      by (inr (here, is)) =
          let now : target_of after k ≡ Some target.Unfunded = ap (λ (o : Option (Option Ticket)).
          option_map (λ (t : Ticket). t.target) (option_flatten o)) is ∙ ap (λ (x : Target). Some x) free in
          let no : target.Unfunded ≡ target.Currency d =
          some-injective target.Unfunded (target.Currency d) (sym now ∙ funds) in cc

  fewer-chains : (c d : ℕ) → ChainLeads after c (target.Currency d) → ChainLeads f c (target.Currency d)
  fewer-chains c d (first, rest, issued, is) =
      let (e, step, (chain, path)) = chain-path after first rest c d issued is in
      path-chain f chain c e d (fewer-funds c e step)
      (path-fewer (FundsFrom after) (FundsFrom f) fewer-funds e chain d path)

  cycle-before : (to : Target) → IsCycle after n to → IsCycle f n to
  cycle-before to (c, issuer, is, issued, would) = (c, issuer, is, fewer-issuers issuer issued, by would)
    where
      by : (c ≡ issuer) ⊎ ChainLeads after c (target.Currency issuer)
          → (c ≡ issuer) ⊎ ChainLeads f c (target.Currency issuer)
      by (inl same) = inl same
      by (inr chain) = inr (fewer-chains c issuer chain)

  pub cycle-again : HasNoCycle f → ¬ IsCycle after n before.target
  cycle-again none cycle = cycle-none f n before.target none (ap (option_map (λ (t : Ticket). t.target)) at)
      (cycle-before before.target cycle)

-- ---- of graphs

-- the target is still there
target-tickets : (w : LimitedFunding) (tickets : List (Option Ticket)) (to : Target) → IsTarget w.funding to
    → IsTarget (with_tickets w tickets).funding to
target-tickets w tickets target.Unfunded is = is
target-tickets w tickets (target.Currency c) is = is
target-tickets w tickets (target.Thread u) is = is

-- what a ticket funds is still there after the ticket is taken back
pub unfunded-there : (w now : LimitedFunding) (v : Activity) (c : Known) → AreTogether w v c → (n : ℕ) (ends : EdgeEnds)
    (to : Target) → ends_of_edge w.funding (OfTicket n) ≡ Some ends → target_of w.funding n ≡ Some to
    → now ≡ with_tickets w (with_target w.funding.tickets n target.Unfunded) → IsTarget now.funding to
unfunded-there w now v c together n ends to is funds change =
    let edge = there-edge w.funding (OfTicket n) ends is in
    let (t, at, from, leads) = ticket-ends w.funding n ends.from ends.to edge in
    let same : t.target ≡ to =
    some-injective t.target to (sym (ap (option_map (λ (u : Ticket). u.target)) at) ∙ funds) in
    let has = together.right.ends ends.from ends.to (OfTicket n, edge) in
    let here =
    funded-there w.funding n to ends.to together.kept.sound.funds_there funds (ap target_node (sym same) ∙ leads) has in
    subst (λ (x : LimitedFunding). IsTarget x.funding to) (sym change)
    (target-tickets w (with_target w.funding.tickets n target.Unfunded) to here)

pub apart-again : (w now : LimitedFunding) (n : ℕ) (before mid : Ticket) → ticket_at w.funding n ≡ Some before
    → mid.target ≡ target.Unfunded → mid.issuer ≡ before.issuer → HasNoCycle w.funding → now ≡ with_put w n mid
    → ¬ IsCycle now.funding n before.target
apart-again w now n before mid at free same none is cycle =
    cycle-again w.funding n before mid at free same none
    (subst (λ (x : LimitedFunding). IsCycle x.funding n before.target) is cycle)

-- a ticket that has a target funds something
pub is-funding : (f : Funding) (n : ℕ) (t : Ticket) → ticket_at f n ≡ Some t → t.target ≢ target.Unfunded
    → IsFunding f n
is-funding f n t at funds = subst (λ (o : Option Ticket). IsTrue (option_any is_funding o)) (sym at) (by t.target funds)
  where
    by : (to : Target) → to ≢ target.Unfunded → IsTrue (is_funding (record { amount = 0; issuer = 0; target = to }))
    by target.Unfunded none = absurd (none refl)
    by (target.Currency c) some = refl
    by (target.Thread u) some = refl

-- ---- the three steps

-- It is taken back, it gets the amount, and it is given to the same target again.
module _ (a b d : Valued) (n amount : ℕ) (t : Ticket) (at : ticket_at a.now.funding n ≡ Some t)
    (taken : FollowsGraph a b (with_tickets a.now (with_target a.now.funding.tickets n target.Unfunded))) where
  -- the ticket after the first step
  abbrev free : Ticket
  free = retargeted target.Unfunded t

  -- and after the second
  abbrev changed : Ticket
  changed = reissued amount free

  free-put : b.now ≡ with_put a.now n free
  free-put = put-target a.now b.now n t at target.Unfunded taken.now

  free-here : ticket_at b.now.funding n ≡ Some free
  free-here = put-here a.now b.now n t at free free-put

  pub free-target : target_of b.now.funding n ≡ Some target.Unfunded
  free-target = ap (option_map (λ (u : Ticket). u.target)) free-here

  module _ (other : FollowsGraph b d (with_tickets b.now (with_amount b.now.funding.tickets n amount))) where
    changed-put : d.now ≡ with_put a.now n changed
    changed-put =
        put-twice a.now b.now d.now n free changed free-put (put-amount b.now d.now n free free-here amount other.now)

    changed-here : ticket_at d.now.funding n ≡ Some changed
    changed-here = put-here a.now d.now n t at changed changed-put

    pub changed-target : target_of d.now.funding n ≡ Some target.Unfunded
    changed-target = ap (option_map (λ (u : Ticket). u.target)) changed-here

    pub changed-apart : HasNoCycle a.now.funding → ¬ IsCycle d.now.funding n t.target
    changed-apart none = apart-again a.now d.now n t changed at refl refl none changed-put

    pub changed-there : IsTarget b.now.funding t.target → IsTarget d.now.funding t.target
    changed-there there =
        subst (λ (x : LimitedFunding). IsTarget x.funding t.target) (sym (put-amount b.now d.now n free free-here amount
        other.now)) (target-tickets b.now (set_number b.now.funding.tickets n (Some changed)) t.target there)

    -- which come to another amount
    pub reissued-again : (e : Valued) → t.amount ≢ amount
        → FollowsGraph d e (with_tickets d.now (with_target d.now.funding.tickets n t.target))
        → FollowsGraph a e (with_tickets a.now (with_amount a.now.funding.tickets n amount))
    reissued-again e differs given =
        let last = put-twice a.now d.now e.now n changed (reissued amount t) changed-put
        (put-target d.now e.now n changed changed-here t.target given.now) in
        let now = last
        ∙ sym (put-amount a.now (with_tickets a.now (with_amount a.now.funding.tickets n amount)) n t at amount refl) in
        let first =
        edges-put a.now b.now d.now n t free changed at refl (none-unfunded t changed refl) free-put changed-put in
        let then = edges-put a.now d.now e.now n t changed (reissued amount t) at refl
        (none-reissued t (reissued amount t) differs) changed-put last in
        follows-both a d e now (follows-both a b d changed-put taken other first) given then
