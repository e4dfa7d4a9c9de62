-- The value of base's active tickets reaches the live threads, less the rounding loss.
use Rattle.lot_laws.proofs.Common.{Bool, ChainLeads, Funding, FundsThere, HasAmounts, HasNoCycle, IsActive, IsBacked, IsEdge, List, Node, OfTicket, Record, Some, State, Target, Ticket, Unfunded, activates_within, active_amount, active_issued, add-mul, all-nodes, all_tickets, ap, arith, at_number-suc, backing_currency, base_value, base_worth, cases_eq, cases_lt, cond, counts-once, currency_value, div-le_self, eq-eqb, eqb-false, eqb-true, false, funding_of, handed_out, inl, inr, is_active, is_active-exact, is_backed, is_backed-exact, is_currency, is_currency-is, is_thread, issued-at, issued-found, issued_in, issuer-amount, issuer-of, lend_of, lender_within, length, length-filter, length-map, list_any, live-thread, live_of, live_value, lost_at, lost_value, lt-div-mul-add, mul-add, mul-le-mul_right, ne_eqb, not, numbers, option_flatten, own_value, range_with_len, refl, rounded_tickets, slice_get, slice_get_within, some-injective, subst, suc, sum-at_most, sum-filter, sum-le, sum-le_from, sum-le_there, sum-none, sum-nothing, sum-on, sum-one, sum-plus, sum-same, sum-swap, sum-under, sum_by, sum_by-cons, sym, target-of, target_of, ticket-of, ticket_at, ticket_in-suc, ticket_value, ticket_value-unfolds, true, zero, ℕ, [], ◌&&◌, ◌*◌, ◌+◌, ◌-◌, ◌/◌, ◌<◌, ◌==◌, ◌∙◌, ◌∷◌, ◌≡◌, ◌≢◌, ◌≤◌, ◌⊎◌}
use Rattle.lot_machine.specs.declared.ticket.Target.TheVariants.{Currency, Thread}
use Rattle.lot_machine.specs.declared.funding.Node.TheVariants as node
use Rattle.lot_machine.proofs.Tickets as tickets
use Rattle.lot_laws.proofs.KeptPaths.{ticket-ends}
use Rattle.lot_machine.proofs.Flow.{handed_out as hands_no_more}

-- ---- shares, each rounded down

-- each loses less than one
shares-lose : (whole total : ℕ) → 0 < total → (ts : List Ticket)
    → whole * sum_by (λ (t : Ticket). t.amount) ts + length ts
    ≤ sum_by (λ (t : Ticket). whole * t.amount / total) ts * total + length ts * total
shares-lose whole total some [] = omega arith
shares-lose whole total some (t ∷ ts) =
    let share : whole * t.amount < whole * t.amount / total * total + total = lt-div-mul-add some in
    let more = shares-lose whole total some ts in
    let left : whole * sum_by (λ (u : Ticket). u.amount) (t ∷ ts) ≡ whole * t.amount + whole
    * sum_by (λ (u : Ticket). u.amount) ts =
    ap (λ n. whole * n) (sum_by-cons (λ (u : Ticket). u.amount) t ts)
    ∙ mul-add whole t.amount (sum_by (λ (u : Ticket). u.amount) ts) in
    let right : sum_by (λ (u : Ticket). whole * u.amount / total) (t ∷ ts) * total ≡ whole * t.amount / total * total
    + sum_by (λ (u : Ticket). whole * u.amount / total) ts * total =
    ap (λ n. n * total) (sum_by-cons (λ (u : Ticket). whole * u.amount / total) t ts)
    ∙ add-mul (whole * t.amount / total) (sum_by (λ (u : Ticket). whole * u.amount / total) ts) total in
    omega (arith, share, more, left, right)

-- what is less than a multiple by less than the last
fewer : (whole shares count total : ℕ) → whole * total + count ≤ shares * total + count * total → 0 < count → 0 < total
    → whole ≤ shares + (count - 1)
fewer whole shares count total loses many some = by (cases_lt (shares + (count - 1)) whole)
  where
    by : (shares + (count - 1) < whole) ⊎ (whole ≤ shares + (count - 1)) → whole ≤ shares + (count - 1)
    by (inr within) = within
    by (inl above) =
        let all : (shares + count) * total ≤ whole * total = mul-le-mul_right total (omega (arith, above, many)) in
        absurd (omega (arith, loses, all, many))

-- of a list with a positive sum
shares-most : (whole total : ℕ) (ts : List Ticket) → sum_by (λ (t : Ticket). t.amount) ts ≡ total → 0 < total
    → whole ≤ sum_by (λ (t : Ticket). whole * t.amount / total) ts + (length ts - 1)
shares-most whole total [] all some = absurd (omega (arith, all, some))
shares-most whole total (t ∷ ts) all some =
    let loses : whole * total + length (t ∷ ts) ≤ sum_by (λ (u : Ticket). whole * u.amount / total) (t ∷ ts) * total
    + length (t ∷ ts) * total =
    subst (λ n. whole * n + length (t ∷ ts) ≤ sum_by (λ (u : Ticket). whole * u.amount / total)
    (t ∷ ts) * total + length (t ∷ ts) * total) all (shares-lose whole total some (t ∷ ts)) in
    fewer whole (sum_by (λ (u : Ticket). whole * u.amount / total) (t ∷ ts)) (length (t ∷ ts)) total loses
    (omega arith) some

-- ---- currencies

module _ (f : Funding) (no_cycle : HasNoCycle f) (there : FundsThere f) (unit : ℕ) (live : List Bool) where
  -- a ticket that isn't active is worth nothing
  inactive : (t : Ticket) → is_active f live t ≡ false → ticket_value unit f live t ≡ 0
  inactive t off = ticket_value-unfolds f no_cycle there unit live t ∙ rw off refl

  -- a currency that an active ticket funds issues one
  activated : (n c : ℕ) (t : Ticket) → ticket_at f n ≡ Some t → t.target ≡ Currency c → is_active f live t ≡ true
      → list_any (is_active f live) (issued_in f c) ≡ true
  activated n c t at funds active = by ((is_active-exact f no_cycle there live n t at).0 active)
    where
      by : IsActive f live n → list_any (is_active f live) (issued_in f c) ≡ true
      by ([], u, is, backed) =
          let no : Currency c ≡ Thread u =
          some-injective (Currency c) (Thread u) (ap Some (sym funds) ∙ sym (target-of f n t at) ∙ is) in cc
      by (m ∷ rest, u, is, backed) =
          let (first, more) = is in
          let (other, m_at, issued) = ticket-of f m first.0 first.2 in
          let same : Currency c ≡ Currency first.0 =
          some-injective (Currency c) (Currency first.0) (ap Some (sym funds) ∙ sym (target-of f n t at) ∙ first.1) in
          let number : c ≡ first.0 = cc in
          issued-at (is_active f live) f c m other m_at (issued ∙ sym number)
          ((is_active-exact f no_cycle there live m other m_at).1 (rest, u, more, backed))

  -- what a currency hands out is shares of what it is worth
  shared-out : (c : ℕ) → c ≢ 0 → sum_by (ticket_value unit f live) (issued_in f c) ≡ sum_by
      (λ (t : Ticket). currency_value unit f live c * t.amount / active_amount f live c) (active_issued f live c)
  shared-out c user =
      sum-on (ticket_value unit f live) share (λ (t : Ticket). t.issuer == c) (all_tickets f) is
      ∙ sym (sum-filter (λ (t : Ticket). currency_value unit f live c * t.amount / active_amount f live c)
      (is_active f live) (issued_in f c))
    where
      share : Ticket → ℕ
      share t = cond (is_active f live t) (currency_value unit f live c * t.amount / active_amount f live c) 0

      is : (t : Ticket) → (t.issuer == c) ≡ true → ticket_value unit f live t ≡ share t
      is t issued =
          let same : t.issuer ≡ c = eqb-true t.issuer c issued in
          let not_base : (t.issuer == 0) ≡ false = ne_eqb t.issuer 0 (λ base. user (sym same ∙ base)) in
          ticket_value-unfolds f no_cycle there unit live t ∙ rw (not_base, same) refl

  -- a currency with no active ticket is worth nothing
  nothing-comes : (c : ℕ) → list_any (is_active f live) (issued_in f c) ≡ false → currency_value unit f live c ≡ 0
  nothing-comes c none =
      tickets.sum-same (ticket_value unit f live) (λ t. 0) (λ t. is_currency c t.target) f.tickets
      (λ i t at funds. inactive t (off i t at funds (is_active f live t) refl))
      ∙ sum-nothing (backing_currency f c)
    where
      off : (i : ℕ) (t : Ticket) → slice_get f.tickets i ≡ Some (Some t) → is_currency c t.target ≡ true → (b : Bool)
          → is_active f live t ≡ b → is_active f live t ≡ false
      off i t at funds false is = is
      off i t at funds true is =
          let found = activated (suc i) c t (ticket_in-suc f.tickets i ∙ ap option_flatten at)
          (is_currency-is c t.target funds) is in
          let no : false ≡ true = sym none ∙ found in cc

  pub adds-up : (c : ℕ) → c ≢ 0 → currency_value unit f live c ≡ handed_out unit f live c + lost_at unit f live c
  adds-up c user = let within = hands_no_more f no_cycle there unit live c user in omega (arith, within)

  hands-on : HasAmounts f → (c : ℕ) → c ≢ 0
      → currency_value unit f live c ≤ handed_out unit f live c + (length (active_issued f live c) - 1)
  hands-on amounts c user = by (list_any (is_active f live) (issued_in f c)) refl
    where
      by : (b : Bool) → list_any (is_active f live) (issued_in f c) ≡ b
          → currency_value unit f live c ≤ handed_out unit f live c + (length (active_issued f live c) - 1)
      by false none = omega (arith, nothing-comes c none)
      by true some =
          let (n, t, at, issued, active) = issued-found (is_active f live) f c some in
          let amount : t.amount ≤ active_amount f live c =
          subst (λ i. t.amount ≤ active_amount f live i) issued (issuer-amount f live n t at active) in
          let all : 0 < active_amount f live c = omega (arith, amount, amounts n t at) in
          omega (arith, shared-out c user, shares-most (currency_value unit f live c) (active_amount f live c) (active_issued f live c) refl all)

  pub loses-most : HasAmounts f → (c : ℕ) → c ≢ 0 → lost_at unit f live c ≤ length (active_issued f live c) - 1
  loses-most amounts c user = omega (arith, hands-on amounts c user)

  -- ---- what funds base is worth nothing, since base's value comes from nowhere

  -- a ticket of a currency that is worth nothing
  nothing-shared : (t : Ticket) → t.issuer ≢ 0 → currency_value unit f live t.issuer ≡ 0
      → ticket_value unit f live t ≡ 0
  nothing-shared t user none = by (is_active f live t) refl
    where
      by : (b : Bool) → is_active f live t ≡ b → ticket_value unit f live t ≡ 0
      by false is = inactive t is
      by true is =
          let not_base : (t.issuer == 0) ≡ false = ne_eqb t.issuer 0 user in
          let little = div-le_self (0 * t.amount) (active_amount f live t.issuer) in
          ticket_value-unfolds f no_cycle there unit live t
          ∙ rw (is, not_base) (ap (λ w. w * t.amount / active_amount f live t.issuer) none ∙ omega (arith, little))

  -- a ticket that leads to base
  leads-on : (t : Ticket) → ChainLeads f t.issuer (Currency 0)
      → (t.issuer ≢ 0 → currency_value unit f live t.issuer ≡ 0) → ticket_value unit f live t ≡ 0
  leads-on t leads none = by (cases_eq t.issuer 0)
    where
      by : (t.issuer ≡ 0) ⊎ (¬ (t.issuer ≡ 0)) → ticket_value unit f live t ≡ 0
      by (inl base) = absurd (no_cycle.funding 0 (subst (λ i. ChainLeads f i (Currency 0)) base leads))
      by (inr user) = nothing-shared t user (none user)

  -- a currency that isn't there is worth nothing
  none-funds : (c : ℕ) → length f.currencies ≤ c → currency_value unit f live c ≡ 0
  none-funds c past =
      tickets.sum-same (ticket_value unit f live) (λ t. 0) (λ t. is_currency c t.target) f.tickets
      (λ i t at funds. absurd (no i t at funds)) ∙ sum-nothing (backing_currency f c)
    where
      no : (i : ℕ) (t : Ticket) → slice_get f.tickets i ≡ Some (Some t) → is_currency c t.target ≡ true → ⊥
      no i t at funds =
          let here : ticket_at f (suc i) ≡ Some t = ticket_in-suc f.tickets i ∙ ap option_flatten at in
          let aims : target_of f (suc i) ≡ Some (Currency c) = target-of f (suc i) t here
          ∙ ap Some (is_currency-is c t.target funds) in
          absurd (omega (arith, past, slice_get_within f.currencies c true (there (suc i) c aims)))

  IsNothing : Node → Type 0
  IsNothing x = (c : ℕ) → x ≡ node.Currency c → ChainLeads f c (Currency 0) → currency_value unit f live c ≡ 0

  none-leads : (x : Node) → IsNothing x
  unfolding IsNothing
  none-leads = all-nodes f no_cycle there IsNothing (λ x before c is leads.
      tickets.sum-same (ticket_value unit f live) (λ t. 0) (λ t. is_currency c t.target) f.tickets (λ i t at funds.
      each x before c is leads i t at (is_currency-is c t.target funds)) ∙ sum-nothing (backing_currency f c))
    where
      each : (x : Node) → ((from : Node) → IsEdge f from x → IsNothing from) → (c : ℕ) → x ≡ node.Currency c
          → ChainLeads f c (Currency 0)
          → (i : ℕ) (t : Ticket) → slice_get f.tickets i ≡ Some (Some t) → t.target ≡ Currency c
          → ticket_value unit f live t ≡ 0
      each x before c is (first, rest, issued, chain) i t at funds =
          let here : ticket_at f (suc i) ≡ Some t = ticket_in-suc f.tickets i ∙ ap option_flatten at in
          let aims : target_of f (suc i) ≡ Some (Currency c) = target-of f (suc i) t here ∙ ap Some funds in
          let leads : ChainLeads f t.issuer (Currency 0) =
          (suc i, first ∷ rest, issuer-of f (suc i) t here, ((c, aims, issued), chain)) in
          let edge : IsEdge f (node.Currency t.issuer) x =
          (OfTicket (suc i), ticket-ends f (suc i) t.issuer (Currency c) (node.Currency c) (issuer-of f (suc i) t here) aims refl ∙ ap (λ y. Some (node.Currency t.issuer, y)) (sym is)) in
          leads-on t leads (λ user. before (node.Currency t.issuer) edge t.issuer refl leads)

  funds-base : (n : ℕ) (t : Ticket) → ticket_at f n ≡ Some t → t.target ≡ Currency 0 → ticket_value unit f live t ≡ 0
  unfolding IsNothing
  funds-base n t at funds =
      let leads : ChainLeads f t.issuer (Currency 0) =
      (n, [], issuer-of f n t at, target-of f n t at ∙ ap Some funds) in
      leads-on t leads (λ user. none-leads (node.Currency t.issuer) t.issuer refl leads)

-- ---- all tickets

and-cond : (a b : Bool) (w : ℕ) → cond a (cond b w 0) 0 ≡ cond (b && a) w 0
and-cond true true w = refl
and-cond true false w = refl
and-cond false true w = refl
and-cond false false w = refl

module _ (s : State) (no_cycle : HasNoCycle (funding_of s)) (there : FundsThere (funding_of s)) where
  f : Funding
  f = funding_of s

  worth : Ticket → ℕ
  worth t = ticket_value s.limits.unit (funding_of s) (live_of s) t

  backed : ℕ → Bool
  backed u = is_backed (funding_of s) (live_of s) u

  -- the user currencies
  users : List ℕ
  users = range_with_len 1 (length (funding_of s).currencies - 1)

  -- a ticket's value where it goes: to a backed thread, or to a user currency
  to-threads : Ticket → ℕ
  to-threads t = sum_by (λ u. cond (is_thread u t.target && backed u) (worth t) 0) (numbers s.records)

  to-currencies : Ticket → ℕ
  to-currencies t = sum_by (λ c. cond (is_currency c t.target) (worth t) 0) users

  -- and where it comes from
  from-currencies : Ticket → ℕ
  from-currencies t = sum_by (λ c. cond (t.issuer == c) (worth t) 0) users

  backed-there : (u : ℕ) → backed u ≡ true → (1 ≤ u) × (u < 1 + length s.records)
  unfolding backed
  backed-there u is = by ((is_backed-exact (funding_of s) no_cycle.lends (live_of s) u).0 is)
    where
      by : IsBacked (funding_of s) (live_of s) u → (1 ≤ u) × (u < 1 + length s.records)
      by (v, ([], same), alive) = let r = live-thread s no_cycle v alive in
          (omega (arith, same, r.0), omega (arith, same, r.1))
      by (v, (w ∷ rest, (lends, more)), alive) =
          let (i, same, low) = lender_within (funding_of s) u w lends in
          (omega (arith, same), omega (arith, same, low, length-map s.records (λ (r : Record). lend_of s.limits r.status)))

  goes : (i : ℕ) (t : Ticket) → slice_get s.tickets i ≡ Some (Some t) → worth t ≤ to-threads t + to-currencies t
  unfolding worth backed users to-threads to-currencies
  goes i t at = by t.target refl
    where
      here : ticket_at (funding_of s) (suc i) ≡ Some t
      here = ticket_in-suc s.tickets i ∙ ap option_flatten at

      by : (target : Target) → t.target ≡ target → worth t ≤ to-threads t + to-currencies t
      by Unfunded is =
          let off : is_active (funding_of s) (live_of s) t ≡ false =
          ap (activates_within (length (funding_of s).currencies) (funding_of s) (live_of s)) is in
          omega (arith, inactive (funding_of s) no_cycle there s.limits.unit (live_of s) t off)
      by (Thread u) is = at_thread (backed u) refl
        where
          at_thread : (b : Bool) → backed u ≡ b → worth t ≤ to-threads t + to-currencies t
          at_thread false none =
              let off : is_active (funding_of s) (live_of s) t ≡ false =
              ap (activates_within (length (funding_of s).currencies) (funding_of s) (live_of s)) is ∙ none in
              omega (arith, inactive (funding_of s) no_cycle there s.limits.unit (live_of s) t off)
          at_thread true on =
              let place = backed-there u on in
              let one : sum_by (λ v. cond ((u == v) && backed v) (worth t) 0) (numbers s.records) ≡ worth t =
              sum-one (λ v. (u == v) && backed v) (worth t) u
              (λ v differs. ap (λ b. b && backed v) (ne_eqb u v (λ same. differs (sym same))))
              (ap (λ b. b && backed u) (eq-eqb u u refl) ∙ on) 1 (length s.records) place.0 place.1 in
              let whole : to-threads t ≡ worth t = ap (λ target.
              sum_by (λ v. cond (is_thread v target && backed v) (worth t) 0) (numbers s.records)) is ∙ one in
              omega (arith, whole)
      by (Currency d) is = at_currency (cases_eq d 0)
        where
          at_currency : (d ≡ 0) ⊎ (¬ (d ≡ 0)) → worth t ≤ to-threads t + to-currencies t
          at_currency (inl base) = omega
              (arith, funds-base (funding_of s) no_cycle there s.limits.unit (live_of s) (suc i) t here (is ∙ ap Currency base))
          at_currency (inr user) =
              let low : d < length (funding_of s).currencies = slice_get_within (funding_of s).currencies d true
              (there (suc i) d (target-of (funding_of s) (suc i) t here ∙ ap Some is)) in
              let one : sum_by (λ c. cond (d == c) (worth t) 0) users ≡ worth t =
              sum-one (λ c. d == c) (worth t) d (λ c differs. ne_eqb d c (λ same. differs (sym same)))
              (eq-eqb d d refl) 1 (length (funding_of s).currencies - 1) (omega (arith, user)) (omega (arith, low)) in
              let whole : to-currencies t ≡ worth t =
              ap (λ target. sum_by (λ c. cond (is_currency c target) (worth t) 0) users) is ∙ one in
              omega (arith, whole)

  -- and no more
  goes-once : (t : Ticket) → to-threads t + to-currencies t ≤ worth t
  unfolding backed users to-threads to-currencies
  goes-once t = by t.target
    where
      by : (target : Target) → sum_by (λ u. cond (is_thread u target && backed u) (worth t) 0)
          (numbers s.records) + sum_by (λ c. cond (is_currency c target) (worth t) 0) users ≤ worth t
      by Unfunded =
          omega (arith, sum-none (λ u. false) (worth t) 1 (length s.records) (λ u some. refl), sum-none (λ c. false) (worth t) 1 (length (funding_of s).currencies - 1) (λ c some. refl))
      by (Thread u) =
          omega (
            arith,
            sum-at_most (λ v. (u == v) && backed v) (worth t) u
                (λ v differs. ap (λ b. b && backed v) (ne_eqb u v (λ same. differs (sym same)))) 1 (length s.records),
            sum-none (λ c. false) (worth t) 1 (length (funding_of s).currencies - 1) (λ c some. refl),
          )
      by (Currency d) =
          omega (
            arith,
            sum-none (λ u. false) (worth t) 1 (length s.records) (λ u some. refl),
            sum-at_most (λ c. d == c) (worth t) d (λ c differs. ne_eqb d c (λ same. differs (sym same))) 1
                (length (funding_of s).currencies - 1),
          )

  comes : (t : Ticket) → from-currencies t ≡ cond (t.issuer == 0) 0 (worth t)
  unfolding worth from-currencies users
  comes t = by (t.issuer == 0) refl
    where
      of-user : t.issuer ≢ 0 → (t.issuer < length (funding_of s).currencies)
          ⊎ (length (funding_of s).currencies ≤ t.issuer) → sum_by (λ c. cond (t.issuer == c) (worth t) 0)
          (range_with_len 1 (length (funding_of s).currencies - 1)) ≡ worth t
      of-user user (inl low) =
          sum-one (λ c. t.issuer == c) (worth t) t.issuer (λ c differs. ne_eqb t.issuer c (λ same. differs (sym same)))
          (eq-eqb t.issuer t.issuer refl) 1 (length (funding_of s).currencies - 1) (omega (arith, user))
          (omega (arith, low))
      of-user user (inr past) =
          let nothing : worth t ≡ 0 = nothing-shared (funding_of s) no_cycle there s.limits.unit (live_of s) t user
          (none-funds (funding_of s) no_cycle there s.limits.unit (live_of s) t.issuer past) in
          omega (arith, nothing, sum-at_most (λ c. t.issuer == c) (worth t) t.issuer (λ c differs. ne_eqb t.issuer c (λ same. differs (sym same))) 1 (length (funding_of s).currencies - 1))

      by : (b : Bool) → (t.issuer == 0) ≡ b → from-currencies t ≡ cond b 0 (worth t)
      by true is =
          let base : t.issuer ≡ 0 = eqb-true t.issuer 0 is in
          sum-none (λ c. t.issuer == c) (worth t) 1 (length (funding_of s).currencies - 1)
          (λ c some. ne_eqb t.issuer c (λ same. absurd (omega (arith, some, same, base))))
      by false is = of-user (eqb-false t.issuer 0 is) (cases_lt t.issuer (length (funding_of s).currencies))

  base_or_user : (b : Bool) (w : ℕ) → w ≡ cond b w 0 + cond b 0 w
  base_or_user true w = omega arith
  base_or_user false w = omega arith

  threads-get : live_value s ≡ sum_by to-threads (all_tickets (funding_of s))
  unfolding worth backed to-threads
  threads-get =
      counts-once s no_cycle
      ∙ sum-filter (own_value s.limits.unit (funding_of s) (live_of s)) backed (numbers s.records)
      ∙ sum-same (λ u. cond (backed u) (own_value s.limits.unit (funding_of s) (live_of s) u) 0) (λ u. sum_by
      (λ t. cond (is_thread u t.target && backed u) (worth t) 0) (all_tickets (funding_of s))) (numbers s.records) each
      ∙ sum-swap (λ u (t : Ticket). cond (is_thread u t.target && backed u) (worth t) 0) (numbers s.records)
      (all_tickets (funding_of s))
    where
      each : (u : ℕ) → cond (backed u) (own_value s.limits.unit (funding_of s) (live_of s) u) 0
          ≡ sum_by (λ t. cond (is_thread u t.target && backed u) (worth t) 0) (all_tickets (funding_of s))
      each u =
          ap (λ w. cond (backed u) w 0)
          (sum-filter worth (λ (t : Ticket). is_thread u t.target) (all_tickets (funding_of s)))
          ∙ sym
          (sum-under (backed u) (λ (t : Ticket). cond (is_thread u t.target) (worth t) 0) (all_tickets (funding_of s)))
          ∙ sum-same (λ (t : Ticket). cond (backed u) (cond (is_thread u t.target) (worth t) 0) 0)
          (λ t. cond (is_thread u t.target && backed u) (worth t) 0) (all_tickets (funding_of s))
          (λ t. and-cond (backed u) (is_thread u t.target) (worth t))

  currencies-get : sum_by (currency_value s.limits.unit (funding_of s) (live_of s)) users
      ≡ sum_by to-currencies (all_tickets (funding_of s))
  unfolding worth users to-currencies
  currencies-get =
      sum-same (currency_value s.limits.unit (funding_of s) (live_of s))
      (λ c. sum_by (λ (t : Ticket). cond (is_currency c t.target) (worth t) 0) (all_tickets (funding_of s))) users
      (λ c. sum-filter worth (λ (t : Ticket). is_currency c t.target) (all_tickets (funding_of s)))
      ∙ sum-swap (λ c (t : Ticket). cond (is_currency c t.target) (worth t) 0) users (all_tickets (funding_of s))

  handed : ℕ → ℕ
  handed c = sum_by worth (issued_in (funding_of s) c)

  currencies-give : sum_by handed users ≡ sum_by from-currencies (all_tickets (funding_of s))
  unfolding worth users handed from-currencies
  currencies-give =
      sum-same handed (λ c. sum_by (λ (t : Ticket). cond (t.issuer == c) (worth t) 0) (all_tickets (funding_of s)))
      users (λ c. sum-filter worth (λ (t : Ticket). t.issuer == c) (all_tickets (funding_of s)))
      ∙ sum-swap (λ c (t : Ticket). cond (t.issuer == c) (worth t) 0) users (all_tickets (funding_of s))

  pub conserved : base_value s ≡ live_value s + lost_value s
  unfolding worth users handed
  conserved =
      let all = all_tickets (funding_of s) in
      let n = length (funding_of s).currencies - 1 in
      let value = currency_value s.limits.unit (funding_of s) (live_of s) in
      let lost = lost_at s.limits.unit (funding_of s) (live_of s) in
      let user : (c : ℕ) → 1 ≤ c → c ≢ 0 = λ c some base. absurd (omega (arith, some, base)) in
      let went : sum_by worth all ≤ sum_by (λ t. to-threads t + to-currencies t) all =
      sum-le_there worth (λ t. to-threads t + to-currencies t) s.tickets goes in
      let once : sum_by (λ t. to-threads t + to-currencies t) all ≤ sum_by worth all =
      sum-le (λ t. to-threads t + to-currencies t) worth all goes-once in
      let split = sum-plus to-threads to-currencies all in
      let base : sum_by (λ (t : Ticket). cond (t.issuer == 0) (worth t) 0) all ≡ base_value s =
      sym (sum-filter worth (λ (t : Ticket). t.issuer == 0) all)
      ∙ base_worth (funding_of s) no_cycle there s.limits.unit (live_of s) in
      let parts : sum_by worth all ≡ sum_by (λ (t : Ticket). cond (t.issuer == 0) (worth t) 0) all
      + sum_by (λ (t : Ticket). cond (t.issuer == 0) 0 (worth t)) all =
      sum-same worth (λ (t : Ticket). cond (t.issuer == 0) (worth t) 0 + cond (t.issuer == 0) 0 (worth t)) all
      (λ t. base_or_user (t.issuer == 0) (worth t))
      ∙ sum-plus (λ (t : Ticket). cond (t.issuer == 0) (worth t) 0)
      (λ (t : Ticket). cond (t.issuer == 0) 0 (worth t)) all in
      let came : sum_by from-currencies all ≡ sum_by (λ (t : Ticket). cond (t.issuer == 0) 0 (worth t)) all =
      sum-same from-currencies (λ (t : Ticket). cond (t.issuer == 0) 0 (worth t)) all comes in
      let shared : sum_by value users ≤ sum_by (λ c. handed c + lost c) users =
      sum-le_from value (λ c. handed c + lost c) 1 n
      (λ c some. omega (arith, adds-up (funding_of s) no_cycle there s.limits.unit (live_of s) c (user c some))) in
      let no_more : sum_by (λ c. handed c + lost c) users ≤ sum_by value users =
      sum-le_from (λ c. handed c + lost c) value 1 n
      (λ c some. omega (arith, adds-up (funding_of s) no_cycle there s.limits.unit (live_of s) c (user c some))) in
      let both = sum-plus handed lost users in
      omega
      (arith, went, once, split, base, parts, came, shared, no_more, both, threads-get, currencies-get, currencies-give)

-- of sums of terms, each of which is at least one less than another, if that isn't 0
sum-less : (g h : ℕ → ℕ) (a n : ℕ) → ((k : ℕ) → a ≤ k → g k ≤ h k - 1)
    → sum_by g (range_with_len a n) ≤ sum_by h (range_with_len a n) - 1
sum-less g h a zero less = omega arith
sum-less g h a (suc n) less =
    omega (
      arith,
      less a (omega arith),
      sum-less g h (a + 1) n (λ k above. less k (omega (arith, above))),
      sum_by-cons g a (range_with_len (a + 1) n),
      sum_by-cons h a (range_with_len (a + 1) n),
    )

-- rounding loses less than one for each active ticket that isn't base's
pub few-lost : (s : State) → HasNoCycle (funding_of s) → FundsThere (funding_of s) → HasAmounts (funding_of s)
    → lost_value s ≤ rounded_tickets s - 1
few-lost s no_cycle there amounts =
    let n = length (funding_of s).currencies - 1 in
    let all = all_tickets (funding_of s) in
    let each : lost_value s ≤ sum_by (λ c.
    sum_by (λ (t : Ticket). cond (t.issuer == c) (active t) 0) all) (range_with_len 1 n) - 1 =
    sum-less (lost_at s.limits.unit (funding_of s) (live_of s))
    (λ c. sum_by (λ (t : Ticket). cond (t.issuer == c) (active t) 0) all) 1 n one in
    let swapped = sum-swap (λ c (t : Ticket). cond (t.issuer == c) (active t) 0) (range_with_len 1 n) all in
    let within : sum_by (λ (t : Ticket).
    sum_by (λ c. cond (t.issuer == c) (active t) 0) (range_with_len 1 n)) all ≤ rounded_tickets s =
    sum-le (λ (t : Ticket). sum_by (λ c. cond (t.issuer == c) (active t) 0) (range_with_len 1 n)) (λ t.
    cond (is_active (funding_of s) (live_of s) t && not (t.issuer == 0)) 1 0) all (λ t. at t (t.issuer == 0) refl) in
    omega (arith, each, swapped, within)
  where
    active : Ticket → ℕ
    active t = cond (is_active (funding_of s) (live_of s) t) 1 0

    one : (c : ℕ) → 1 ≤ c → lost_at s.limits.unit (funding_of s)
        (live_of s) c ≤ sum_by (λ (t : Ticket). cond (t.issuer == c) (active t) 0) (all_tickets (funding_of s)) - 1
    one c some =
        omega (arith, loses-most (funding_of s) no_cycle there s.limits.unit (live_of s) amounts c (λ base. absurd (omega (arith, some, base))), length-filter (is_active (funding_of s) (live_of s)) (issued_in (funding_of s) c), sum-filter active (λ (t : Ticket). t.issuer == c) (all_tickets (funding_of s)))

    no-more : (a b : Bool) → b ≡ false → cond a 1 0 ≤ cond (a && not b) 1 0
    no-more true b is = rw is (omega arith)
    no-more false b is = omega arith

    at : (t : Ticket) (b : Bool) → (t.issuer == 0) ≡ b
        → sum_by (λ c. cond (t.issuer == c) (active t) 0) (range_with_len 1 (length (funding_of s).currencies - 1))
        ≤ cond (is_active (funding_of s) (live_of s) t && not (t.issuer == 0)) 1 0
    at t true is =
        let base : t.issuer ≡ 0 = eqb-true t.issuer 0 is in
        omega (arith, sum-none (λ c. t.issuer == c) (active t) 1 (length (funding_of s).currencies - 1) (λ c some. ne_eqb t.issuer c (λ same. absurd (omega (arith, some, same, base)))))
    at t false is =
        omega (arith, sum-at_most (λ c. t.issuer == c) (active t) t.issuer (λ c differs. ne_eqb t.issuer c (λ same. differs (sym same))) 1 (length (funding_of s).currencies - 1), no-more (is_active (funding_of s) (live_of s) t) (t.issuer == 0) is)
