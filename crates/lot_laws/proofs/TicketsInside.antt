-- The tickets that fund the threads that a currency alone funds are together worth at most the tickets that it issues.
use Rattle.lot_laws.proofs.Common.{Bool, Currency, Encloses, Funding, IsEdge, List, Node, None, OfTicket, Option, Some, Target, Thread, Ticket, all_tickets, ap, arith, backing_currency, backing_thread, cases_eq, cond, eq-eqb, eqb-true, false, filter, inl, inr, is_currency, is_thread, issued_in, issuer-of, ne_eqb, option_any, option_flatten, range_with_len, refl, slice_get, subst, suc, sum-at_most, sum-filter, sum-le, sum-le_from, sum-le_there, sum-none, sum-one, sum-plus, sum-same, sum-swap, sum-under, sum_by, sym, target-of, target_node, ticket_at, ticket_in-suc, true, ℕ, ◌&&◌, ◌+◌, ◌==◌, ◌∙◌, ◌≡◌, ◌≢◌, ◌≤◌, ◌⊎◌}
use Rattle.lot_machine.specs.declared.ticket.Target.TheVariants as target
use Rattle.lot_machine.proofs.CurrencyFlow.{term-there}
use Rattle.lot_laws.proofs.KeptPaths.{currency-one, ticket-ends}

-- ---- sums under two tests

and-cond : (a b : Bool) (w : ℕ) → cond a (cond b w 0) 0 ≡ cond (b && a) w 0
and-cond true true w = refl
and-cond true false w = refl
and-cond false true w = refl
and-cond false false w = refl

pub under-test : {A : Type 0} (b : Bool) (test : A → Bool) (g : A → ℕ) (xs : List A)
    → sum_by (λ x. cond (test x && b) (g x) 0) xs ≡ cond b (sum_by g (filter test xs)) 0
under-test b test g xs =
    sum-same (λ x. cond (test x && b) (g x) 0) (λ x. cond b (cond (test x) (g x) 0) 0) xs
    (λ x. sym (and-cond b (test x) (g x)))
    ∙ sum-under b (λ x. cond (test x) (g x) 0) xs ∙ ap (λ w. cond b w 0) (sym (sum-filter g test xs))

both-off : (a b : Bool) → (a ≡ true → b ≡ false) → (a && b) ≡ false
both-off true b off = off refl
both-off false b off = refl

cond-le : (b : Bool) (x y : ℕ) → x ≤ y → cond b x 0 ≤ cond b y 0
cond-le true x y le = le
cond-le false x y le = omega arith

-- one number counts, if it passes
one-in : (test : ℕ → Bool) (v w a n : ℕ)
    → sum_by (λ k. cond ((v == k) && test k) w 0) (range_with_len a n) ≤ cond (test v) w 0
one-in test v w a n = by (test v) refl
  where
    by : (b : Bool) → test v ≡ b → sum_by (λ k. cond ((v == k) && test k) w 0) (range_with_len a n) ≤ cond b w 0
    by true is = sum-at_most (λ k. (v == k) && test k) w v
        (λ k differs. ap (λ b. b && test k) (ne_eqb v k (λ same. differs (sym same)))) a n
    by false out = omega (
      arith,
      sum-none (λ k. (v == k) && test k) w a n
          (λ k low. both-off (v == k) (test k) (λ is. ap test (sym (eqb-true v k is)) ∙ out)),
    )

-- ---- what funds threads inside

module _ (f : Funding) (c : ℕ) (inside : Node → Bool) (encloses : Encloses f c inside)
    (no_base : (to : Node) → IsEdge f (Currency 0) to → inside to ≡ false) (worth : Ticket → ℕ)
    (gives : (d : ℕ) → d ≢ 0 → sum_by worth (issued_in f d) ≤ sum_by worth (backing_currency f d)) where
  -- the numbers up to the greatest issuer, and more
  many : ℕ
  many = sum_by (λ (t : Ticket). t.issuer) (all_tickets f)

  users : List ℕ
  users = range_with_len 1 many

  -- a ticket's worth where it goes, if that is inside: to a thread, or to a currency
  to-threads : ℕ → Ticket → ℕ
  to-threads m t = sum_by (λ u. cond (is_thread u t.target && inside (Thread u)) (worth t) 0) (range_with_len 1 m)

  to-currencies : Ticket → ℕ
  to-currencies t = sum_by (λ d. cond (is_currency d t.target && inside (Currency d)) (worth t) 0) users

  -- and where it comes from, if that is inside
  from-currencies : Ticket → ℕ
  from-currencies t = sum_by (λ d. cond ((t.issuer == d) && inside (Currency d)) (worth t) 0) users

  goes-in : Target → Bool
  goes-in aim = option_any inside (target_node aim)

  goes-once : (m : ℕ) (t : Ticket) → to-threads m t + to-currencies t ≤ cond (goes-in t.target) (worth t) 0
  unfolding users to-threads to-currencies goes-in
  goes-once m t = at t.target (worth t)
    where
      at : (aim : Target) (w : ℕ) → sum_by (λ u. cond (is_thread u aim && inside (Thread u)) w 0) (range_with_len 1 m)
          + sum_by (λ d. cond (is_currency d aim && inside (Currency d)) w 0) (range_with_len 1 many)
          ≤ cond (option_any inside (target_node aim)) w 0
      at target.Unfunded w =
          omega (arith, sum-none (λ u. false) w 1 m (λ k low. refl), sum-none (λ d. false) w 1 many (λ k low. refl))
      at (target.Currency d) w =
          omega (arith, sum-none (λ u. false) w 1 m (λ k low. refl), one-in (λ e. inside (Currency e)) d w 1 many)
      at (target.Thread v) w =
          omega (arith, one-in (λ u. inside (Thread u)) v w 1 m, sum-none (λ d. false) w 1 many (λ k low. refl))

  -- what goes inside comes from the currency, or from inside
  comes : (i : ℕ) (t : Ticket) → slice_get f.tickets i ≡ Some (Some t)
      → cond (goes-in t.target) (worth t) 0 ≤ cond (t.issuer == c) (worth t) 0 + from-currencies t
  unfolding many users from-currencies goes-in
  comes i t at = by (target_node t.target) refl
    where
      here : ticket_at f (suc i) ≡ Some t
      here = ticket_in-suc f.tickets i ∙ ap option_flatten at

      from : t.issuer ≢ 0 → (Currency t.issuer ≡ Currency c) ⊎ (inside (Currency t.issuer) ≡ true)
          → worth t ≤ cond (t.issuer == c) (worth t) 0 + from-currencies t
      from some (inl same) =
          let one : cond (t.issuer == c) (worth t) 0 ≡ worth t =
          ap (λ b. cond b (worth t) 0) (eq-eqb t.issuer c (currency-one t.issuer c same)) in
          omega (arith, one)
      from some (inr issuer_in) =
          let few = term-there (λ (u : Ticket). u.issuer) f.tickets i t at in
          let one : sum_by (λ d.
          cond ((t.issuer == d) && inside (Currency d)) (worth t) 0) (range_with_len 1 many) ≡ worth t =
          sum-one (λ d. (t.issuer == d) && inside (Currency d)) (worth t) t.issuer
          (λ k differs. ap (λ b. b && inside (Currency k)) (ne_eqb t.issuer k (λ same. differs (sym same))))
          (ap (λ b. b && inside (Currency t.issuer)) (eq-eqb t.issuer t.issuer refl) ∙ issuer_in) 1 many
          (omega (arith, some))
          (omega (arith, few)) in
          omega (arith, one)

      to-node : (to : Node) → target_node t.target ≡ Some to → (b : Bool) → inside to ≡ b
          → cond b (worth t) 0 ≤ cond (t.issuer == c) (worth t) 0 + from-currencies t
      to-node to node false is = omega arith
      to-node to node true is =
          let edge : IsEdge f (Currency t.issuer) to = (
            OfTicket (suc i),
            ticket-ends f (suc i) t.issuer t.target to
                (issuer-of f (suc i) t here) (target-of f (suc i) t here) node,
          ) in
          by-issuer to edge is (cases_eq t.issuer 0)
        where
          by-issuer : (to : Node) → IsEdge f (Currency t.issuer) to → inside to ≡ true
              → (t.issuer ≡ 0) ⊎ (¬ (t.issuer ≡ 0))
              → worth t ≤ cond (t.issuer == c) (worth t) 0 + from-currencies t
          by-issuer to edge is (inl base) =
              let never : false ≡ true = sym (no_base to (subst (λ x. IsEdge f (Currency x) to) base edge)) ∙ is in cc
          by-issuer to edge is (inr apart) =
              from apart (encloses.alone (Currency t.issuer) to edge is (λ e. apart (currency-one t.issuer 0 e)))

      by : (o : Option Node) → target_node t.target ≡ o
          → cond (option_any inside o) (worth t) 0 ≤ cond (t.issuer == c) (worth t) 0 + from-currencies t
      by None is = omega arith
      by (Some to) is = to-node to is (inside to) refl

  pub threads-within : (m : ℕ)
      → sum_by (λ u. cond (inside (Thread u)) (sum_by worth (backing_thread f u)) 0) (range_with_len 1 m)
      ≤ sum_by worth (issued_in f c)
  unfolding users to-threads to-currencies from-currencies goes-in
  threads-within m =
      let all = all_tickets f in
      let threads = sum-same (λ u. cond (inside (Thread u)) (sum_by worth (backing_thread f u)) 0)
      (λ u. sum_by (λ (t : Ticket). cond (is_thread u t.target && inside (Thread u)) (worth t) 0) all)
      (range_with_len 1 m)
      (λ u. sym (under-test (inside (Thread u)) (λ (t : Ticket). is_thread u t.target) worth all))
      ∙ sum-swap (λ u (t : Ticket). cond (is_thread u t.target && inside (Thread u)) (worth t) 0)
      (range_with_len 1 m) all in
      let went =
      sum-le (λ t. to-threads m t + to-currencies t) (λ (t : Ticket). cond (goes-in t.target) (worth t) 0) all
      (goes-once m) in
      let parts = sum-plus (to-threads m) to-currencies all in
      let came = sum-le_there (λ (t : Ticket). cond (goes-in t.target) (worth t) 0)
      (λ (t : Ticket). cond (t.issuer == c) (worth t) 0 + from-currencies t) f.tickets comes in
      let sources = sum-plus (λ (t : Ticket). cond (t.issuer == c) (worth t) 0) from-currencies all in
      let own = sum-filter worth (λ (t : Ticket). t.issuer == c) all in
      let given = sum-swap (λ d (t : Ticket). cond ((t.issuer == d) && inside (Currency d)) (worth t) 0) users all in
      let got =
      sum-swap (λ d (t : Ticket). cond (is_currency d t.target && inside (Currency d)) (worth t) 0) users all in
      let passed = sum-le_from
      (λ d. sum_by (λ (t : Ticket). cond ((t.issuer == d) && inside (Currency d)) (worth t) 0) all)
      (λ d. sum_by (λ (t : Ticket). cond (is_currency d t.target && inside (Currency d)) (worth t) 0) all) 1 many
      each in
      omega (arith, threads, went, parts, came, sources, own, given, got, passed)
    where
      each : (d : ℕ) → 1 ≤ d
          → sum_by (λ (t : Ticket). cond ((t.issuer == d) && inside (Currency d)) (worth t) 0) (all_tickets f)
          ≤ sum_by (λ (t : Ticket). cond (is_currency d t.target && inside (Currency d)) (worth t) 0) (all_tickets f)
      each d some =
          omega (
            arith,
            under-test (inside (Currency d)) (λ (t : Ticket). t.issuer == d) worth (all_tickets f),
            under-test (inside (Currency d)) (λ (t : Ticket). is_currency d t.target) worth (all_tickets f),
            cond-le (inside (Currency d)) (sum_by worth (issued_in f d)) (sum_by worth (backing_currency f d))
                (gives d (λ base. absurd (omega (arith, some, base)))),
          )
