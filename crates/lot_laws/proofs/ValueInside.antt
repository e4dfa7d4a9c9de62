-- No inflation escapes: the live threads that a currency alone funds are together worth at most the currency.
use Rattle.lot_laws.proofs.Common.{Bool, ChangesInside, Currency, Encloses, EnclosesAlone, Event, Funding, HasNoCycle, IsEdge, IsLendChain, IsLive, IsReachable, Lend, LendsLead, LendsTo, List, Nobody, Node, None, OfLender, OfMutex, Option, Record, Some, State, Thread, Ticket, ToMutex, ToThread, [], active_amount, all_tickets, amount_in, ap, arith, at_number, borrower, borrower_of, cases_lt, cond, currency_value, ends_of, eqb-true, false, filter, funding_of, handed_out, inl, inr, is_active, is_backed, is_backed-exact, is_live, issuer-amount, lend_node, lend_of, lends_lead, lends_lead-exact, length, length-map, live-thread, live_of, ne_eqb, numbers, option_and_then, option_flatten, option_map, own_value, pair, range_with_len, refl, slice_get, some-injective, state_after, subst, suc, sum-at_most, sum-filter, sum-le, sum-le_there, sum-none, sum-nothing, sum-same, sum-swap, sum_by, sym, ticket_at, ticket_in-suc, ticket_value, ticket_value-unfolds, true, value_inside, worth_in, ℕ, ◌&&◌, ◌<◌, ◌==◌, ◌∙◌, ◌∷◌, ◌≡◌, ◌≢◌, ◌≤◌, ◌⊎◌}
use Rattle.lot_machine.specs.declared.funding.Node.TheVariants.{Mutex}
use Rattle.lot_machine.proofs.Flow.{handed_out as hands_no_more}
use Rattle.lot_machine.proofs.LendChains.{is_live-found}
use Rattle.lot_laws.proofs.EachTicket.{reachable-amounts, reachable-order}
use Rattle.lot_laws.proofs.StaysInside.{reachable-run, run-inside}
use Rattle.lot_laws.proofs.TicketsInside.{threads-within, under-test}

clash : false ≡ true → ⊥
clash e = cc

-- ---- lends

-- a chain's end is fixed if the end lends to nobody
chain-end : (f : Funding) (u t v : ℕ) (chain other : List ℕ) → IsLendChain f u chain t → IsLendChain f u other v
    → borrower_of f t ≡ None → borrower_of f v ≡ None → t ≡ v
chain-end f u t v [] [] is also t_ends v_ends = sym is ∙ also
chain-end f u t v [] (s ∷ rest) is also t_ends v_ends =
    let never : None ≡ Some s = sym (ap (borrower_of f) is ∙ t_ends) ∙ also.0 in cc
chain-end f u t v (s ∷ rest) [] is also t_ends v_ends =
    let never : None ≡ Some s = sym (ap (borrower_of f) also ∙ v_ends) ∙ is.0 in cc
chain-end f u t v (s ∷ rest) (r ∷ more) is also t_ends v_ends =
    let same : s ≡ r = some-injective s r (sym is.0 ∙ also.0) in
    chain-end f s t v rest more is.1 (subst (λ x. IsLendChain f x more v) (sym same) also.1) t_ends v_ends

-- who lends to a thread inside is inside
module _ (f : Funding) (c : ℕ) (inside : Node → Bool) (encloses : Encloses f c inside) where
  from-inside : (from to : Node) → IsEdge f from to → inside to ≡ true → ((d : ℕ) → from ≢ Currency d)
      → inside from ≡ true
  from-inside from to edge is_in aside = by (encloses.alone from to edge is_in (aside 0))
    where
      by : (from ≡ Currency c) ⊎ (inside from ≡ true) → inside from ≡ true
      by (inl same) = absurd (aside c same)
      by (inr is) = is

  lends-in : (u s : ℕ) → LendsTo f u s → inside (Thread s) ≡ true → inside (Thread u) ≡ true
  lends-in u s lends is_in = by (at_number f.lends u) refl lends
    where
      edge : (lend : Lend) (to : Node) → at_number f.lends u ≡ Some lend → lend_node lend ≡ Some to
          → ends_of f (OfLender u) ≡ Some (Thread u, to)
      edge lend to at node = ap (option_and_then (λ l. option_map (pair (Thread u)) (lend_node l))) at
          ∙ ap (option_map (pair (Thread u))) node

      by : (o : Option Lend) → at_number f.lends u ≡ o → option_and_then (borrower f) o ≡ Some s
          → inside (Thread u) ≡ true
      by None at is = cc
      by (Some Nobody) at is = cc
      by (Some (ToThread v)) at is =
          let same : v ≡ s = some-injective v s is in
          from-inside (Thread u) (Thread v) (OfLender u, edge (ToThread v) (Thread v) at refl)
          (subst (λ x. inside (Thread x) ≡ true) (sym same) is_in) (λ d. λ e. cc)
      by (Some (ToMutex m)) at is =
          let owner_in : inside (Mutex m) ≡ true = from-inside (Mutex m) (Thread s)
          (OfMutex m, ap (option_map (λ owner. pair (Mutex m) (Thread owner))) is) is_in (λ d. λ e. cc) in
          from-inside (Thread u) (Mutex m) (OfLender u, edge (ToMutex m) (Mutex m) at refl) owner_in (λ d. λ e. cc)

  pub chain-in : (u : ℕ) (chain : List ℕ) (t : ℕ) → IsLendChain f u chain t → inside (Thread t) ≡ true
      → inside (Thread u) ≡ true
  chain-in u [] t is is_in = subst (λ x. inside (Thread x) ≡ true) (sym is) is_in
  chain-in u (s ∷ rest) t is is_in = lends-in u s is.0 (chain-in s rest t is.1 is_in)

-- ---- each thread's own value counts at most once, and only inside

module _ (s : State) (no_cycle : HasNoCycle (funding_of s)) (c : ℕ) (inside : Node → Bool)
    (encloses : Encloses (funding_of s) c inside) where
  -- whether the second is live and inside, and the first's lends lead to it
  abbrev leads-in : ℕ → ℕ → Bool
  leads-in u t = lends_lead (funding_of s) u t && (is_live (live_of s) t && inside (Thread t))

  off : (u t : ℕ) → (LendsLead (funding_of s) u t → IsLive (live_of s) t → inside (Thread t) ≡ true → ⊥)
      → leads-in u t ≡ false
  off u t never = by (lends_lead (funding_of s) u t) (is_live (live_of s) t) (inside (Thread t)) refl refl refl
    where
      by : (a b d : Bool) → lends_lead (funding_of s) u t ≡ a → is_live (live_of s) t ≡ b → inside (Thread t) ≡ d
          → (a && (b && d)) ≡ false
      by false b d leads alive is_in = refl
      by true false d leads alive is_in = refl
      by true true false leads alive is_in = refl
      by true true true leads alive is_in = absurd (never ((lends_lead-exact (funding_of s) no_cycle.lends u t).0 leads)
          (is_live-found (live_of s) t alive) is_in)

  at-most : (amount u : ℕ) → sum_by (λ t. cond (leads-in u t) amount 0) (numbers s.records)
      ≤ cond (inside (Thread u)) amount 0
  at-most amount u = by (inside (Thread u)) refl (is_backed (funding_of s) (live_of s) u) refl
    where
      by : (b : Bool) → inside (Thread u) ≡ b → (d : Bool) → is_backed (funding_of s) (live_of s) u ≡ d
          → sum_by (λ t. cond (leads-in u t) amount 0) (numbers s.records) ≤ cond b amount 0
      by false out d is = omega (
        arith,
        sum-none (leads-in u) amount 1 (length s.records) (λ t low. off u t
            (λ leads alive is_in.
            clash (sym out ∙ chain-in (funding_of s) c inside encloses u leads.0 t leads.1 is_in))),
      )
      by true u_in true is =
          let (v, lead, here) = (is_backed-exact (funding_of s) no_cycle.lends (live_of s) u).0 is in
          sum-at_most (leads-in u) amount v (λ t differs. off u t (λ leads alive is_in.
          differs (chain-end (funding_of s) u t v leads.0 lead.0 leads.1 lead.1 (live-thread s no_cycle t alive).2
          (live-thread s no_cycle v here).2)))
          1 (length s.records)
      by true u_in false is = omega (
        arith,
        sum-none (leads-in u) amount 1 (length s.records) (λ t low. off u t
            (λ leads alive is_in.
            clash (sym is ∙ (is_backed-exact (funding_of s) no_cycle.lends (live_of s) u).1 (t, leads, alive)))),
      )

  lent-in : (own : ℕ → ℕ) → sum_by (λ t. sum_by own (filter (λ u. lends_lead (funding_of s) u t) (numbers s.records)))
      (filter (λ t. is_live (live_of s) t && inside (Thread t)) (numbers s.records))
      ≤ sum_by (λ u. cond (inside (Thread u)) (own u) 0) (numbers s.records)
  lent-in own =
      let live : ℕ → Bool = λ t. is_live (live_of s) t && inside (Thread t) in
      let value : ℕ → ℕ = λ t. sum_by own (filter (λ u. lends_lead (funding_of s) u t) (numbers s.records)) in
      let spread = sum-filter value live (numbers s.records)
      ∙ sum-same (λ t. cond (live t) (value t) 0) (λ t. sum_by (λ u. cond (leads-in u t) (own u) 0) (numbers s.records))
      (numbers s.records) (λ t. sym (under-test (live t) (λ u. lends_lead (funding_of s) u t) own (numbers s.records)))
      ∙ sum-swap (λ t u. cond (leads-in u t) (own u) 0) (numbers s.records) (numbers s.records) in
      let most = sum-le (λ u. sum_by (λ t. cond (leads-in u t) (own u) 0) (numbers s.records))
      (λ u. cond (inside (Thread u)) (own u) 0) (numbers s.records) (λ u. at-most (own u) u) in
      omega (arith, spread, most)

-- ---- values

module _ (s : State) (reachable : IsReachable s) (c : ℕ) where
  worth : Ticket → ℕ
  worth t = ticket_value s.limits.unit (funding_of s) (live_of s) t

  -- what is inside is worth at most the currency's tickets
  value-handed : (inside : Node → Bool) → EnclosesAlone (funding_of s) c inside
      → value_inside s inside ≤ handed_out s.limits.unit (funding_of s) (live_of s) c
  value-handed inside alone =
      let order = reachable-order s reachable in
      let f = funding_of s in
      let live = live_of s in
      let many : length f.lends ≡ length s.records = length-map s.records (λ (r : Record). lend_of s.limits r.status) in
      let own : ℕ → ℕ = own_value s.limits.unit f live in
      let same : value_inside s inside
      ≡ sum_by (λ t. sum_by own (filter (λ u. lends_lead f u t) (numbers s.records)))
      (filter (λ t. is_live live t && inside (Thread t)) (numbers s.records)) =
      ap (λ n. sum_by (λ t. sum_by own (filter (λ u. lends_lead f u t) (range_with_len 1 n)))
      (filter (λ t. is_live live t && inside (Thread t)) (numbers s.records))) many in
      let lent = lent-in s order.no_cycle c inside alone.enclosed own in
      let funded = threads-within f c inside alone.enclosed alone.no_base (ticket_value s.limits.unit f live)
      (hands_no_more f order.no_cycle order.funds_there s.limits.unit live) (length s.records) in
      omega (arith, same, lent, funded)

  -- a currency without an active amount hands out nothing
  none-handed : amount_in s c ≡ 0 → handed_out s.limits.unit (funding_of s) (live_of s) c ≡ 0
  unfolding worth
  none-handed none =
      omega (
        arith,
        sum-filter worth (λ (t : Ticket). t.issuer == c) (all_tickets (funding_of s)),
        sum-le_there (λ (t : Ticket). cond (t.issuer == c) (worth t) 0) (λ t. 0) s.tickets
            (λ i t at. each i t at (t.issuer == c) refl (is_active (funding_of s) (live_of s) t) refl),
        sum-nothing (all_tickets (funding_of s)),
      )
    where
      each : (i : ℕ) (t : Ticket) → slice_get s.tickets i ≡ Some (Some t) → (b : Bool) → (t.issuer == c) ≡ b
          → (d : Bool) → is_active (funding_of s) (live_of s) t ≡ d → cond b (worth t) 0 ≤ 0
      each i t at false issued d active = omega arith
      each i t at true issued false off =
          let order = reachable-order s reachable in
          let nothing : worth t ≡ 0 =
          ticket_value-unfolds (funding_of s) order.no_cycle order.funds_there s.limits.unit (live_of s) t
          ∙ rw off refl in
          omega (arith, nothing)
      each i t at true issued true on =
          let here : ticket_at (funding_of s) (suc i) ≡ Some t = ticket_in-suc s.tickets i ∙ ap option_flatten at in
          let amount : t.amount ≤ active_amount (funding_of s) (live_of s) c =
          subst (λ d. t.amount ≤ active_amount (funding_of s) (live_of s) d) (eqb-true t.issuer c issued)
          (issuer-amount (funding_of s) (live_of s) (suc i) t here on) in
          absurd (omega (arith, amount, none, reachable-amounts s reachable (suc i) t here))

  pub value-within : (inside : Node → Bool) → c ≢ 0 → EnclosesAlone (funding_of s) c inside
      → value_inside s inside ≤ worth_in s (Currency c)
  value-within inside user alone =
      let order = reachable-order s reachable in
      let value : worth_in s (Currency c) ≡ currency_value s.limits.unit (funding_of s) (live_of s) c =
      rw (ne_eqb c 0 user) refl in
      let most = hands_no_more (funding_of s) order.no_cycle order.funds_there s.limits.unit (live_of s) c user in
      omega (arith, value, most, value-handed inside alone)

pub run-within : (s : State) (events : List Event) (c : ℕ) (inside : Node → Bool) → IsReachable s → c ≢ 0
    → ChangesInside s (state_after s events) c inside → EnclosesAlone (funding_of (state_after s events)) c inside
    → 0 < amount_in s c → value_inside (state_after s events) inside ≤ worth_in s (Currency c)
run-within s events c inside reachable user change alone some = by (cases_lt 0 (amount_in (state_after s events) c))
  where
    by : (0 < amount_in (state_after s events) c) ⊎ (amount_in (state_after s events) c ≤ 0)
        → value_inside (state_after s events) inside ≤ worth_in s (Currency c)
    by (inl now) =
        let kept : worth_in (state_after s events) (Currency c) ≡ worth_in s (Currency c) =
        run-inside s events c inside reachable change (λ before. now) (λ after. some) (Currency c)
        change.enclosed_before.itself user in
        omega (arith, kept, value-within (state_after s events) (reachable-run s events reachable) c inside user alone)
    by (inr none) =
        let after = reachable-run s events reachable in
        let nothing = none-handed (state_after s events) after c (omega (arith, none)) in
        omega (arith, nothing, value-handed (state_after s events) after c inside alone)
