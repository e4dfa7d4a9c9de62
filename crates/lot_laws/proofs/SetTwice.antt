-- The same new amount of a ticket that leads outside, in two states that differ only inside a currency; and a new
-- amount inside, in one of them.
use Rattle.lot_laws.proofs.Common.{Bool, Currency, DifferInside, Edge, Encloses, Funding, IsChangedEdge, IsChangedLife, IsReachable, NoTicket, BadAmount, Node, None, OfLender, OfMutex, OfTicket, Option, Refusal, SetTicket, Some, State, Step, Ticket, amount_in, ap, at_number, cases_eq, command_effect, command_refusal, ends_of, false, first_failing, funding_of, inl, inr, is_bad_amount, is_none, issuer_of, live_of, option_and_then, option_map, refl, reissued, step, step-limits, subst, sym, target_node, there-weighed, ticket-of, ticket_at, true, unless_refused, weighed_of, ℕ, [], ◌<◌, ◌∙◌, ◌∷◌, ◌≡◌, ◌≢◌, ◌⊎◌}
use Rattle.lot_machine.specs.declared.event.Event.TheVariants as event
use Rattle.lot_laws.proofs.AmountsKept.{amount-set, others-left, rest-left}
use Rattle.lot_laws.proofs.EachTicket.{reachable-next}
use Rattle.lot_laws.proofs.Inflated.{set-changes-inside, some-stays}
use Rattle.lot_laws.proofs.KeptPaths.{ends-ticket}
use Rattle.lot_laws.proofs.KeptValues.{ends, weighed, weighed-told}
use Rattle.lot_laws.proofs.StaysInside.{well-formed}

-- the edge of a ticket, with its weight
abbrev edge-of : Option Ticket → Option (Node × Node × ℕ)
edge-of o =
    option_and_then (λ (t : Ticket). option_map (λ to. (Currency t.issuer, to, t.amount)) (target_node t.target)) o

-- and its ends
abbrev ends-by : Option Ticket → Option (Node × Node)
ends-by o =
    option_and_then (λ (t : Ticket). option_map (λ (to : Node). (Currency t.issuer, to)) (target_node t.target)) o

-- ---- one state

module _ (s : State) (n amount : ℕ) (t : Ticket) (here : ticket_at (funding_of s) n ≡ Some t)
    (none : command_refusal s (SetTicket n amount) ≡ None) where
  abbrev now : State
  now = (step s (event.Command (SetTicket n amount))).state

  set : ticket_at (funding_of now) n ≡ Some (reissued amount t)
  set = amount-set s n amount t
      (ap (λ o. (unless_refused s o (command_effect s (SetTicket n amount))).reply) none) here

  -- each other edge weighs the same
  pub others-weigh : (edge : Edge)
      → (edge ≡ OfTicket n) ⊎ (weighed_of (funding_of now) edge ≡ weighed_of (funding_of s) edge)
  others-weigh (OfTicket m) = by (cases_eq m n)
    where
      by : (m ≡ n) ⊎ (¬ (m ≡ n))
          → (OfTicket m ≡ OfTicket n)
          ⊎ (weighed_of (funding_of now) (OfTicket m) ≡ weighed_of (funding_of s) (OfTicket m))
      by (inl same) = inl (ap OfTicket same)
      by (inr other) = inr (ap edge-of (others-left s n amount m other))
  others-weigh (OfLender u) = inr (ap (λ (x : State). weighed_of (funding_of x) (OfLender u)) (rest-left s n amount))
  others-weigh (OfMutex m) = inr (ap (λ (x : State). weighed_of (funding_of x) (OfMutex m)) (rest-left s n amount))

  -- and this one weighs the amount
  pub now-weighs : (to : Node) → target_node t.target ≡ Some to
      → weighed_of (funding_of now) (OfTicket n) ≡ weighed (Currency t.issuer) to amount
  now-weighs to node = ap edge-of set
      ∙ ap (option_map (λ (next : Node). let y : Node × Node × ℕ = (Currency t.issuer, next, amount) in y)) node

  -- each edge leads where it led
  same-ends : (edge : Edge) → ends_of (funding_of now) edge ≡ ends_of (funding_of s) edge
  same-ends (OfTicket m) = by (cases_eq m n)
    where
      by : (m ≡ n) ⊎ (¬ (m ≡ n)) → ends_of (funding_of now) (OfTicket m) ≡ ends_of (funding_of s) (OfTicket m)
      by (inl same) =
          subst (λ k. ends_of (funding_of now) (OfTicket k) ≡ ends_of (funding_of s) (OfTicket k)) (sym same)
          (ap ends-by set ∙ sym (ap ends-by here))
      by (inr other) = ap ends-by (others-left s n amount m other)
  same-ends (OfLender u) = ap (λ (x : State). ends_of (funding_of x) (OfLender u)) (rest-left s n amount)
  same-ends (OfMutex m) = ap (λ (x : State). ends_of (funding_of x) (OfMutex m)) (rest-left s n amount)

  pub encloses-now : (c : ℕ) (inside : Node → Bool) → Encloses (funding_of s) c inside
      → Encloses (funding_of now) c inside
  encloses-now c inside encloses = record {
    itself = encloses.itself;
    below = λ from to edge why. encloses.below from to (edge.0, sym (same-ends edge.0) ∙ edge.1) why;
    alone = λ from to edge is user. encloses.alone from to (edge.0, sym (same-ends edge.0) ∙ edge.1) is user;
  }

  pub live-now : live_of now ≡ live_of s
  live-now = ap live_of (rest-left s n amount)

  -- a currency stays active, or inactive
  module _ (reachable : IsReachable s) where
    pub stays-active : (c : ℕ) → 0 < amount_in s c → 0 < amount_in now c
    stays-active c some =
        let well = well-formed s reachable in
        let after = well-formed now (reachable-next s (event.Command (SetTicket n amount)) reachable) in
        some-stays (funding_of s) (funding_of now) (live_of s) (live_of now) c
        (λ edge from to is. same-ends edge ∙ is) well.no_cycle well.funds_there after.no_cycle after.funds_there
        after.amounts (λ v alive. subst (λ l. at_number l v ≡ Some true) (sym live-now) alive) some

    pub active-before : (c : ℕ) → 0 < amount_in now c → 0 < amount_in s c
    active-before c some =
        let well = well-formed s reachable in
        let after = well-formed now (reachable-next s (event.Command (SetTicket n amount)) reachable) in
        some-stays (funding_of now) (funding_of s) (live_of now) (live_of s) c
        (λ edge from to is. sym (same-ends edge) ∙ is) after.no_cycle after.funds_there well.no_cycle well.funds_there
        well.amounts (λ v alive. subst (λ l. at_number l v ≡ Some true) live-now alive) some

-- a refusal depends on the amount alone, if the ticket is there
refusal-is : (s : State) (n amount : ℕ) (t : Ticket) → ticket_at (funding_of s) n ≡ Some t
    → command_refusal s (SetTicket n amount)
    ≡ first_failing ((is_bad_amount amount, BadAmount) ∷ (false, NoTicket) ∷ [])
refusal-is s n amount t here =
    ap (λ o. first_failing ((is_bad_amount amount, BadAmount) ∷ (is_none o, NoTicket) ∷ [])) here

-- ---- in one state, inside

pub set-one : (s : State) (n amount d c : ℕ) (inside : Node → Bool) → IsReachable s → Encloses (funding_of s) c inside
    → issuer_of (funding_of s) n ≡ Some d → (d ≡ c) ⊎ (inside (Currency d) ≡ true)
    → DifferInside s (step s (event.Command (SetTicket n amount))).state c inside
set-one s n amount d c inside reachable encloses issued within = record {
  change = set-changes-inside s n amount d c inside encloses issued within;
  active = active (command_refusal s (SetTicket n amount)) refl;
  limits = step-limits s (event.Command (SetTicket n amount));
  records = λ t out. ap (λ (x : State). at_number x.records t) (rest-left s n amount);
}
  where
    active : (o : Option Refusal) → command_refusal s (SetTicket n amount) ≡ o
        → (0 < amount_in s c → 0 < amount_in (step s (event.Command (SetTicket n amount))).state c)
        × (0 < amount_in (step s (event.Command (SetTicket n amount))).state c → 0 < amount_in s c)
    active (Some refusal) is =
        let same : (step s (event.Command (SetTicket n amount))).state ≡ s =
        ap (λ o. (unless_refused s o (command_effect s (SetTicket n amount))).state) is in
        (λ some. subst (λ x. 0 < amount_in x c) (sym same) some, λ some. subst (λ x. 0 < amount_in x c) same some)
    active None is =
        let (t, here, issuer) = ticket-of (funding_of s) n d issued in
        (stays-active s n amount t here is reachable c, active-before s n amount t here is reachable c)

-- ---- in both, outside

module _ (s u : State) (c : ℕ) (inside : Node → Bool) (n amount : ℕ) (is : DifferInside s u c inside) where
  -- the ticket leads in the other to the same node, from the same issuer
  twin : (t : Ticket) (to : Node) → ticket_at (funding_of s) n ≡ Some t → target_node t.target ≡ Some to
      → inside to ≡ false
      → (v : Ticket) × (ticket_at (funding_of u) n ≡ Some v) × (Currency t.issuer ≡ Currency v.issuer)
      × (target_node v.target ≡ Some to)
  twin t to here node out = by (weighed-told (weighed_of (funding_of u) (OfTicket n)) (Currency t.issuer) to t.amount)
    where
      before : weighed_of (funding_of s) (OfTicket n) ≡ weighed (Currency t.issuer) to t.amount
      before = ap edge-of here
          ∙ ap (option_map (λ (next : Node). let y : Node × Node × ℕ = (Currency t.issuer, next, t.amount) in y)) node

      by : (weighed_of (funding_of u) (OfTicket n) ≡ weighed (Currency t.issuer) to t.amount)
          ⊎ (weighed_of (funding_of u) (OfTicket n) ≢ weighed (Currency t.issuer) to t.amount)
          → (v : Ticket) × (ticket_at (funding_of u) n ≡ Some v) × (Currency t.issuer ≡ Currency v.issuer)
          × (target_node v.target ≡ Some to)
      by (inl same) = ends-ticket (funding_of u) n (Currency t.issuer) to
          (there-weighed (funding_of u) (OfTicket n) (Currency t.issuer) to t.amount same)
      by (inr gone) = let never : false ≡ true = sym out
          ∙ is.change.edges (Currency t.issuer) to (inl (OfTicket n, t.amount, before, gone)) in cc

  set-differ : IsReachable s → IsReachable u → (t v : Ticket) (to : Node) → ticket_at (funding_of s) n ≡ Some t
      → ticket_at (funding_of u) n ≡ Some v → target_node t.target ≡ Some to → target_node v.target ≡ Some to
      → Currency t.issuer ≡ Currency v.issuer → command_refusal s (SetTicket n amount) ≡ None
      → command_refusal u (SetTicket n amount) ≡ None
      → DifferInside (step s (event.Command (SetTicket n amount))).state
      (step u (event.Command (SetTicket n amount))).state c inside
  set-differ reachable reachable_too t v to here here_too node node_too issuer none none_too = record {
    change = record {
      enclosed_before = encloses-now s n amount t here none c inside is.change.enclosed_before;
      enclosed_after = encloses-now u n amount v here_too none_too c inside is.change.enclosed_after;
      edges = edges;
      lives = λ w changed.
          is.change.lives w (subst (λ l. IsChangedLife l (live_of u) w) (live-now s n amount t here none) (subst (λ l.
          IsChangedLife (live_of (now s n amount t here none)) l w) (live-now u n amount v here_too none_too) changed));
    };
    active = (λ some. stays-active u n amount v here_too none_too reachable_too c (is.active.0 (active-before s n amount t here none reachable c some)), λ some. stays-active s n amount t here none reachable c (is.active.1 (active-before u n amount v here_too none_too reachable_too c some)));
    limits = step-limits u (event.Command (SetTicket n amount)) ∙ is.limits
        ∙ sym (step-limits s (event.Command (SetTicket n amount)));
    records = λ w out. ap (λ (x : State). at_number x.records w) (rest-left u n amount) ∙ is.records w out
        ∙ sym (ap (λ (x : State). at_number x.records w) (rest-left s n amount));
  }
    where
      s' : Funding
      s' = funding_of (step s (event.Command (SetTicket n amount))).state

      u' : Funding
      u' = funding_of (step u (event.Command (SetTicket n amount))).state

      -- an edge weighs the same in both, or in each what it weighed
      Either : Edge → Type 0
      Either edge = (weighed_of u' edge ≡ weighed_of s' edge)
          ⊎ ((weighed_of s' edge ≡ weighed_of (funding_of s) edge)
          × (weighed_of u' edge ≡ weighed_of (funding_of u) edge))

      either : (edge : Edge) → Either edge
      either edge = by (others-weigh s n amount t here none edge) (others-weigh u n amount v here_too none_too edge)
        where
          same : weighed_of u' (OfTicket n) ≡ weighed_of s' (OfTicket n)
          same = now-weighs u n amount v here_too none_too to node_too
              ∙ ap (λ from. weighed from to amount) (sym issuer) ∙ sym (now-weighs s n amount t here none to node)

          by : (edge ≡ OfTicket n) ⊎ (weighed_of s' edge ≡ weighed_of (funding_of s) edge)
              → (edge ≡ OfTicket n) ⊎ (weighed_of u' edge ≡ weighed_of (funding_of u) edge) → Either edge
          by (inl it) other = inl (subst (λ e. weighed_of u' e ≡ weighed_of s' e) (sym it) same)
          by (inr one) (inl it) = inl (subst (λ e. weighed_of u' e ≡ weighed_of s' e) (sym it) same)
          by (inr one) (inr other) = inr (one, other)

      edges : (from to : Node) → IsChangedEdge s' u' from to → inside to ≡ true
      edges from to (inl (edge, weight, there, gone)) = by (either edge)
        where
          by : Either edge → inside to ≡ true
          by (inl same) = absurd (gone (same ∙ there))
          by (inr (one, other)) = is.change.edges from to (inl (edge, weight, sym one ∙ there, λ e. gone (other ∙ e)))
      edges from to (inr (edge, weight, there, new)) = by (either edge)
        where
          by : Either edge → inside to ≡ true
          by (inl same) = absurd (new (sym same ∙ there))
          by (inr (one, other)) = is.change.edges from to (inr (edge, weight, sym other ∙ there, λ e. new (one ∙ e)))

  pub set-both : IsReachable s → IsReachable u → (from to : Node)
      → ends_of (funding_of s) (OfTicket n) ≡ ends from to → inside to ≡ false
      → DifferInside (step s (event.Command (SetTicket n amount))).state
      (step u (event.Command (SetTicket n amount))).state c inside
      × ((step u (event.Command (SetTicket n amount))).reply ≡ (step s (event.Command (SetTicket n amount))).reply)
  set-both reachable reachable_too from to leads out =
      let (t, here, from_is, node) = ends-ticket (funding_of s) n from to leads in
      let (v, here_too, issuer, node_too) = twin t to here node out in
      by t v here here_too node node_too issuer
      (first_failing ((is_bad_amount amount, BadAmount) ∷ (false, NoTicket) ∷ [])) (refusal-is s n amount t here)
      (refusal-is u n amount v here_too)
    where
      by : (t v : Ticket) → ticket_at (funding_of s) n ≡ Some t → ticket_at (funding_of u) n ≡ Some v
          → target_node t.target ≡ Some to → target_node v.target ≡ Some to → Currency t.issuer ≡ Currency v.issuer
          → (o : Option Refusal) → command_refusal s (SetTicket n amount) ≡ o
          → command_refusal u (SetTicket n amount) ≡ o
          → DifferInside (step s (event.Command (SetTicket n amount))).state
          (step u (event.Command (SetTicket n amount))).state c inside
          × ((step u (event.Command (SetTicket n amount))).reply ≡ (step s (event.Command (SetTicket n amount))).reply)
      by t v here here_too node node_too issuer (Some refusal) one other =
          let first = ap (λ o. unless_refused s o (command_effect s (SetTicket n amount))) one in
          let second = ap (λ o. unless_refused u o (command_effect u (SetTicket n amount))) other in
          (subst (λ x. DifferInside x (step u (event.Command (SetTicket n amount))).state c inside) (sym (ap (λ (x : Step). x.state) first)) (subst (λ x. DifferInside s x c inside) (sym (ap (λ (x : Step). x.state) second)) is), ap (λ (x : Step). x.reply) second ∙ sym (ap (λ (x : Step). x.reply) first))
      by t v here here_too node node_too issuer None one other =
          (set-differ reachable reachable_too t v to here here_too node node_too issuer one other, ap (λ o. (unless_refused u o (command_effect u (SetTicket n amount))).reply) other ∙ sym (ap (λ o. (unless_refused s o (command_effect s (SetTicket n amount))).reply) one))
