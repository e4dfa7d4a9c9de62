-- One more thread lends: the values of threads afterwards, if the same tickets stay active.
use Rattle.lot_laws.proofs.Common.{Bool, Funding, FundsThere, HasNoCycle, IsActive, IsBacked, IsChain, IsLendChain, IsLive, Lend, LendsLead, LendsTo, List, Nobody, None, Option, Some, Target, Ticket, ToMutex, ToThread, active_amount, all_tickets, ap, arith, at_number, backing_currency, backing_thread, borrower, borrower_of, cases_eq, cond, eq-eqb, false, filter, if◌then◌else◌, inl, inr, is_active, is_active-exact, is_backed, is_backed-exact, is_currency, is_thread, issued_in, lends_lead, lends_lead-exact, length, length-filter, numbers, option_and_then, option_flatten, option_map, own_value, place_of, range_with_len, refl, slice_get, some-injective, subst, suc, sum-filter, sum-nothing, sum-plus, sum-same, sum-under, sum_by, sym, target-of, target_of, term-there, thread_value, ticket_at, ticket_in-suc, ticket_value, ticket_value_within, true, zero, ℕ, [], ◌*◌, ◌+◌, ◌/◌, ◌==◌, ◌↔◌, ◌∙◌, ◌∷◌, ◌≡◌, ◌≢◌, ◌⊎◌}
use Rattle.lot_machine.specs.declared.ticket.Target.TheVariants as target
use Rattle.lot_machine.proofs.Tickets as tickets
use Rattle.lot_laws.proofs.KeptValues.{same-bool}

-- the same tickets and owners, with other lends
abbrev pub lending : Funding → List Lend → Funding
lending f lends = record f { lends = lends }

pub same-borrower : (f : Funding) (lends : List Lend) (o : Option Lend)
    → option_and_then (borrower (lending f lends)) o ≡ option_and_then (borrower f) o
same-borrower f lends None = refl
same-borrower f lends (Some Nobody) = refl
same-borrower f lends (Some (ToThread u)) = refl
same-borrower f lends (Some (ToMutex m)) = refl

-- the same tickets, with other lends and owners
abbrev pub relent : Funding → List Lend → List (Option ℕ) → Funding
relent f lends owners = record f { lends = lends; owners = owners }

same-chain : (f : Funding) (lends : List Lend) (owners : List (Option ℕ)) (n : ℕ) (rest : List ℕ) (to : Target)
    → IsChain f n rest to → IsChain (relent f lends owners) n rest to
same-chain f lends owners n [] to is = is
same-chain f lends owners n (m ∷ rest) to is = (is.0, same-chain f lends owners m rest to is.1)

chain-same : (f : Funding) (lends : List Lend) (owners : List (Option ℕ)) (n : ℕ) (rest : List ℕ) (to : Target)
    → IsChain (relent f lends owners) n rest to → IsChain f n rest to
chain-same f lends owners n [] to is = is
chain-same f lends owners n (m ∷ rest) to is = (is.0, chain-same f lends owners m rest to is.1)

-- the last ticket of a chain
chain-last : (f : Funding) (n : ℕ) (rest : List ℕ) (to : Target) → IsChain f n rest to
    → (m : ℕ) × (target_of f m ≡ Some to)
chain-last f n [] to is = (n, is)
chain-last f n (m ∷ rest) to is = chain-last f m rest to is.1

-- what a ticket funds has a ticket
not-funded : (f : Funding) (u n : ℕ) → backing_thread f u ≡ [] → ¬ (target_of f n ≡ Some (target.Thread u))
not-funded f u n none funds = from (ticket_at f n) refl funds
  where
    from : (o : Option Ticket) → ticket_at f n ≡ o → option_map (λ (t : Ticket). t.target) o ≡ Some (target.Thread u)
        → ⊥
    from None at is = cc
    from (Some t) at is =
        let aims : t.target ≡ target.Thread u = some-injective t.target (target.Thread u) is in
        let place = place_of f.tickets n t at in
        let least = term-there (λ ticket. cond (is_thread u ticket.target) 1 0) f.tickets place.0 t place.2 in
        let passes : is_thread u t.target ≡ true = ap (is_thread u) aims ∙ eq-eqb u u refl in
        let one : cond {A = ℕ} (is_thread u t.target) 1 0 ≡ 1 = ap (λ b. cond {A = ℕ} b 1 0) passes in
        absurd (omega (arith, least, one, length-filter (λ (ticket : Ticket). is_thread u ticket.target) (all_tickets f), ap length none))

-- ---- chains of lends

chain-join : (f : Funding) (u : ℕ) (chain : List ℕ) (w : ℕ) (rest : List ℕ) (v : ℕ) → IsLendChain f u chain w
    → IsLendChain f w rest v → LendsLead f u v
chain-join f u [] w rest v is more = (rest, subst (λ x. IsLendChain f x rest v) (sym is) more)
chain-join f u (x ∷ chain) w rest v (first, is) more = let r = chain-join f x chain w rest v is more in
    (x ∷ r.0, (first, r.1))

-- only the thread itself leads to one to which nobody lends
pub none-led : (f : Funding) (t : ℕ) → ((u : ℕ) → ¬ LendsTo f u t) → (u : ℕ) (chain : List ℕ) → IsLendChain f u chain t
    → u ≡ t
none-led f t no_lender u [] is = is
none-led f t no_lender u (w ∷ rest) (first, more) = let to : w ≡ t = none-led f t no_lender w rest more in
    absurd (no_lender u (first ∙ ap Some to))

-- and a thread that lends to nobody leads to itself alone
pub leads-itself : (f : Funding) (t v : ℕ) → borrower_of f t ≡ None → LendsLead f t v → t ≡ v
leads-itself f t v nobody ([], is) = is
leads-itself f t v nobody (w ∷ rest, (first, more)) = let no : None ≡ Some w = sym nobody ∙ first in cc

no-leads : (joins : Bool) → (false ≡ true) ⊎ ((false ≡ true) × (joins ≡ true)) → ⊥
no-leads joins (inl never) = cc
no-leads joins (inr pair) = let no : false ≡ true = pair.0 in cc

no-joins : (leads : Bool) → (false ≡ true) ⊎ ((leads ≡ true) × (false ≡ true)) → ⊥
no-joins leads (inl never) = cc
no-joins leads (inr pair) = let no : false ≡ true = pair.1 in cc

-- what leads on, of four tests
split : (now before joins leads : Bool) (w : ℕ) → (now ≡ true → (before ≡ true) ⊎ ((leads ≡ true) × (joins ≡ true)))
    → (before ≡ true → now ≡ true)
    → (leads ≡ true → joins ≡ true → now ≡ true) → (before ≡ true → leads ≡ true → joins ≡ true → ⊥)
    → cond now w 0 ≡ cond before w 0 + cond joins (cond leads w 0) 0
split true true true true w to on through both = absurd (both refl refl refl)
split true true true false w to on through both = omega arith
split true true false leads w to on through both = omega arith
split true false true true w to on through both = omega arith
split true false true false w to on through both = absurd (no-leads true (to refl))
split true false false leads w to on through both = absurd (no-joins leads (to refl))
split false true joins leads w to on through both = let no : false ≡ true = on refl in cc
split false false true true w to on through both = let no : false ≡ true = through refl refl in cc
split false false true false w to on through both = omega arith
split false false false leads w to on through both = omega arith

-- ---- the same tickets are active

-- if each thread that has a ticket is backed in the one as in the other
module _ (f : Funding) (lends : List Lend) (owners : List (Option ℕ)) (no_cycle : HasNoCycle f)
    (no_cycle_now : HasNoCycle (relent f lends owners)) (live now : List Bool) (there : FundsThere f)
    (backed-on : (u : ℕ) → IsBacked f live u → IsBacked (relent f lends owners) now u) (backed-back : (u : ℕ)
    → (backing_thread f u ≡ []) ⊎ (IsBacked (relent f lends owners) now u → IsBacked f live u)) where
  active-same : (i : ℕ) (ticket : Ticket) → slice_get f.tickets i ≡ Some (Some ticket)
      → is_active f live ticket ≡ is_active (relent f lends owners) now ticket
  active-same i ticket at =
      same-bool (is_active f live ticket) (is_active (relent f lends owners) now ticket)
      (λ on. exact_now.1 (to (exact.0 on))) (λ on. exact.1 (back (exact_now.0 on)))
    where
      here : ticket_at f (suc i) ≡ Some ticket
      here = ticket_in-suc f.tickets i ∙ ap option_flatten at

      exact : (is_active f live ticket ≡ true) ↔ IsActive f live (suc i)
      exact = is_active-exact f no_cycle there live (suc i) ticket here

      exact_now : (is_active (relent f lends owners) now ticket ≡ true) ↔ IsActive (relent f lends owners) now (suc i)
      exact_now = is_active-exact (relent f lends owners) no_cycle_now there now (suc i) ticket here

      to : IsActive f live (suc i) → IsActive (relent f lends owners) now (suc i)
      to (rest, u, is, backed) =
          (rest, u, same-chain f lends owners (suc i) rest (target.Thread u) is, backed-on u backed)

      back : IsActive (relent f lends owners) now (suc i) → IsActive f live (suc i)
      back (rest, u, is, backed) =
          let before = chain-same f lends owners (suc i) rest (target.Thread u) is in
          let last = chain-last f (suc i) rest (target.Thread u) before in
          (rest, u, before, by last (backed-back u))
        where
          by : (m : ℕ) × (target_of f m ≡ Some (target.Thread u)) → (backing_thread f u ≡ [])
              ⊎ (IsBacked (relent f lends owners) now u → IsBacked f live u) → IsBacked f live u
          by (m, funds) (inl none) = absurd (not-funded f u m none funds)
          by last (inr from) = from backed

  amount-same : (c : ℕ) → active_amount f live c ≡ active_amount (relent f lends owners) now c
  amount-same c =
      sum-filter (λ (x : Ticket). x.amount) (is_active f live) (issued_in f c)
      ∙ tickets.sum-same (λ x. cond (is_active f live x) x.amount 0)
      (λ x. cond (is_active (relent f lends owners) now x) x.amount 0) (λ x. x.issuer == c) f.tickets
      (λ i x at issued. ap (λ on. cond on x.amount 0) (active-same i x at))
      ∙ sym (sum-filter (λ (x : Ticket). x.amount) (is_active (relent f lends owners) now) (issued_in f c))

  module _ (unit : ℕ) where
    within-same : (k i : ℕ) (ticket : Ticket) → slice_get f.tickets i ≡ Some (Some ticket)
        → ticket_value_within k unit f live ticket ≡ ticket_value_within k unit (relent f lends owners) now ticket
    within-same zero i ticket at =
        ap (λ on. if on then (if ticket.issuer == 0 then ticket.amount * unit else 0) else 0) (active-same i ticket at)
    within-same (suc k) i ticket at =
        let funds : sum_by (ticket_value_within k unit f live) (backing_currency f ticket.issuer)
        ≡ sum_by (ticket_value_within k unit (relent f lends owners) now) (backing_currency f ticket.issuer) =
        tickets.sum-same (ticket_value_within k unit f live) (ticket_value_within k unit (relent f lends owners) now)
        (λ x. is_currency ticket.issuer x.target) f.tickets (λ j x there_at passes. within-same k j x there_at) in
        ap (λ on. if on then (if ticket.issuer == 0 then ticket.amount * unit else sum_by (ticket_value_within k unit f
        live) (backing_currency f ticket.issuer) * ticket.amount / active_amount f live ticket.issuer) else 0)
        (active-same i ticket at)
        ∙ ap (λ w. if is_active (relent f lends owners) now ticket then (if ticket.issuer == 0 then ticket.amount * unit
        else w * ticket.amount / active_amount f live ticket.issuer) else 0) funds
        ∙ ap (λ a. if is_active (relent f lends owners) now ticket then (if ticket.issuer == 0 then ticket.amount * unit
        else sum_by (ticket_value_within k unit (relent f lends owners) now)
        (backing_currency f ticket.issuer) * ticket.amount / a) else 0) (amount-same ticket.issuer)

    pub own-same : (u : ℕ) → own_value unit f live u ≡ own_value unit (relent f lends owners) now u
    own-same u = tickets.sum-same (ticket_value unit f live) (ticket_value unit (relent f lends owners) now)
        (λ x. is_thread u x.target) f.tickets (λ i x at passes. within-same _ i x at)

-- a thread's value, as a sum over all threads
pub spread : (unit : ℕ) (g : Funding) (alive : List Bool) (v : ℕ)
    → thread_value unit g alive v ≡ sum_by (λ u. cond (lends_lead g u v) (own_value unit g alive u) 0) (numbers g.lends)
spread unit g alive v = sum-filter (own_value unit g alive) (λ u. lends_lead g u v) (numbers g.lends)

-- ---- one thread more lends

-- thread t lends to nobody in the one, and to b in the other; all others lend as they do
module _ (f : Funding) (lends : List Lend) (t b : ℕ) (many : length lends ≡ length f.lends)
    (alone : borrower_of f t ≡ None) (lent : borrower_of (lending f lends) t ≡ Some b)
    (others : (u : ℕ) → u ≢ t → at_number lends u ≡ at_number f.lends u)
    (no_cycle : HasNoCycle f) (no_cycle_now : HasNoCycle (lending f lends)) where
  lends-same : (u : ℕ) → u ≢ t → borrower_of (lending f lends) u ≡ borrower_of f u
  lends-same u differs = ap (option_and_then (borrower (lending f lends))) (others u differs)
      ∙ same-borrower f lends (at_number f.lends u)

  step-on : (u v : ℕ) → LendsTo f u v → LendsTo (lending f lends) u v
  step-on u v is = by (cases_eq u t)
    where
      by : (u ≡ t) ⊎ (¬ (u ≡ t)) → LendsTo (lending f lends) u v
      by (inl same) = let no : None ≡ Some v = sym alone ∙ ap (borrower_of f) (sym same) ∙ is in cc
      by (inr differs) = lends-same u differs ∙ is

  chain-on : (u : ℕ) (chain : List ℕ) (v : ℕ) → IsLendChain f u chain v → IsLendChain (lending f lends) u chain v
  chain-on u [] v is = is
  chain-on u (w ∷ rest) v (first, more) = (step-on u w first, chain-on w rest v more)

  pub lead-on : (u v : ℕ) → LendsLead f u v → LendsLead (lending f lends) u v
  lead-on u v (chain, is) = (chain, chain-on u chain v is)

  -- who leads to the thread leads on to those to whom b leads
  pub lead-through : (u v : ℕ) → LendsLead f u t → LendsLead f b v → LendsLead (lending f lends) u v
  lead-through u v (chain, is) (rest, more) =
      chain-join (lending f lends) u chain t (b ∷ rest) v (chain-on u chain t is) (lent, chain-on b rest v more)

  -- b doesn't lead back to the thread
  pub no-return : ¬ LendsLead f b t
  no-return lead = no_cycle_now.lends t (b, lent, lead-on b t lead)

  -- a chain is as before, or leads over the thread
  pub chain-back : (u : ℕ) (chain : List ℕ) (v : ℕ) → IsLendChain (lending f lends) u chain v
      → LendsLead f u v ⊎ (LendsLead f u t × LendsLead f b v)
  chain-back u [] v is = inl ([], is)
  chain-back u (w ∷ rest) v (first, more) = by (cases_eq u t) (chain-back w rest v more)
    where
      by : (u ≡ t) ⊎ (¬ (u ≡ t)) → LendsLead f w v ⊎ (LendsLead f w t × LendsLead f b v)
          → LendsLead f u v ⊎ (LendsLead f u t × LendsLead f b v)
      by (inl same) next = at next
        where
          to : w ≡ b
          to = some-injective w b (sym first ∙ ap (borrower_of (lending f lends)) same ∙ lent)

          at : LendsLead f w v ⊎ (LendsLead f w t × LendsLead f b v)
              → LendsLead f u v ⊎ (LendsLead f u t × LendsLead f b v)
          at (inl lead) = inr (([], same), subst (λ x. LendsLead f x v) to lead)
          at (inr (lead, more_on)) = absurd (no-return (subst (λ x. LendsLead f x t) to lead))
      by (inr differs) (inl (chain, is)) = inl (w ∷ chain, (sym (lends-same u differs) ∙ first, is))
      by (inr differs) (inr ((chain, is), more_on)) =
          inr ((w ∷ chain, (sym (lends-same u differs) ∙ first, is)), more_on)

  -- of two chains from one thread, one that ends at the thread t goes on where the other ends
  meet : (u : ℕ) (chain : List ℕ) (v : ℕ) (other : List ℕ) → IsLendChain f u chain v → IsLendChain f u other t
      → LendsLead f v t
  meet u [] v other is also = (other, subst (λ x. IsLendChain f x other t) is also)
  meet u (w ∷ rest) v [] is also = let no : None ≡ Some w = sym alone ∙ ap (borrower_of f) (sym also) ∙ is.0 in cc
  meet u (w ∷ rest) v (x ∷ more) is also =
      let same : x ≡ w = some-injective x w (sym also.0 ∙ is.0) in
      meet w rest v more is.1 (subst (λ y. IsLendChain f y more t) same also.1)

  not-both : (u v : ℕ) → LendsLead f u v → LendsLead f u t → LendsLead f b v → ⊥
  not-both u v (chain, is) (other, also) (from_b, leads) =
      let (back, to) = meet u chain v other is also in no-return (chain-join f b from_b v back t leads to)

  -- what is lent to v, in one and in the other
  each-lends : (u v w : ℕ) → cond (lends_lead (lending f lends) u v) w 0
      ≡ cond (lends_lead f u v) w 0 + cond (lends_lead f b v) (cond (lends_lead f u t) w 0) 0
  each-lends u v w =
      let exact = lends_lead-exact f no_cycle.lends in
      let exact_now = lends_lead-exact (lending f lends) no_cycle_now.lends in
      split (lends_lead (lending f lends) u v) (lends_lead f u v) (lends_lead f b v) (lends_lead f u t) w
      (λ is. to (chain-back u ((exact_now u v).0 is).0 v ((exact_now u v).0 is).1))
      (λ is. (exact_now u v).1 (lead-on u v ((exact u v).0 is)))
      (λ leads joins. (exact_now u v).1 (lead-through u v ((exact u t).0 leads) ((exact b v).0 joins)))
      (λ is leads joins. not-both u v ((exact u v).0 is) ((exact u t).0 leads) ((exact b v).0 joins))
    where
      to : LendsLead f u v ⊎ (LendsLead f u t × LendsLead f b v)
          → (lends_lead f u v ≡ true) ⊎ ((lends_lead f u t ≡ true) × (lends_lead f b v ≡ true))
      to (inl lead) = inl ((lends_lead-exact f no_cycle.lends u v).1 lead)
      to (inr (leads, joins)) =
          inr ((lends_lead-exact f no_cycle.lends u t).1 leads, (lends_lead-exact f no_cycle.lends b v).1 joins)

  -- ---- the same tickets are active

  -- if each thread that has a ticket is backed in the one as in the other
  module _ (live now : List Bool) (there : FundsThere f)
      (backed-on : (u : ℕ) → IsBacked f live u → IsBacked (lending f lends) now u)
      (backed-back : (u : ℕ) → (backing_thread f u ≡ []) ⊎ (IsBacked (lending f lends) now u → IsBacked f live u)) where
    module _ (unit : ℕ) where
      own-each : (u : ℕ) → own_value unit f live u ≡ own_value unit (lending f lends) now u
      own-each = own-same f lends f.owners no_cycle no_cycle_now live now there backed-on backed-back unit

      -- what backed threads own is the same together
      backed-each : (u : ℕ) → cond (is_backed (lending f lends) now u)
          (own_value unit (lending f lends) now u) 0 ≡ cond (is_backed f live u) (own_value unit f live u) 0
      backed-each u = ap (λ w. cond (is_backed (lending f lends) now u) w 0) (sym (own-each u)) ∙ by (backed-back u)
        where
          both : (x y : Bool) (w : ℕ) → w ≡ 0 → cond x w 0 ≡ cond y w 0
          both true true w none = refl
          both true false w none = none
          both false true w none = sym none
          both false false w none = refl

          by : (backing_thread f u ≡ []) ⊎ (IsBacked (lending f lends) now u → IsBacked f live u)
              → cond (is_backed (lending f lends) now u) (own_value unit f live u) 0 ≡ cond (is_backed f live u)
              (own_value unit f live u) 0
          by (inl none) = both (is_backed (lending f lends) now u) (is_backed f live u) (own_value unit f live u)
              (ap (sum_by (ticket_value unit f live)) none)
          by (inr from) =
              ap (λ on. cond on (own_value unit f live u) 0)
              (same-bool (is_backed (lending f lends) now u) (is_backed f live u)
              (λ on. (is_backed-exact f no_cycle.lends live u).1
              (from ((is_backed-exact (lending f lends) no_cycle_now.lends now u).0 on)))
              (λ on. (is_backed-exact (lending f lends) no_cycle_now.lends now u).1
              (backed-on u ((is_backed-exact f no_cycle.lends live u).0 on))))

      pub backed-same : (us : List ℕ) → sum_by (own_value unit (lending f lends) now)
          (filter (is_backed (lending f lends) now) us) ≡ sum_by (own_value unit f live) (filter (is_backed f live) us)
      backed-same us =
          sum-filter (own_value unit (lending f lends) now) (is_backed (lending f lends) now) us
          ∙ sum-same (λ u. cond (is_backed (lending f lends) now u) (own_value unit (lending f lends) now u) 0)
          (λ u. cond (is_backed f live u) (own_value unit f live u) 0) us backed-each
          ∙ sym (sum-filter (own_value unit f live) (is_backed f live) us)

      -- those to whom b leads are worth as much more as the thread was worth, and all others what they were
      pub lent-worth : (v : ℕ) → thread_value unit (lending f lends) now v
          ≡ thread_value unit f live v + cond (lends_lead f b v) (thread_value unit f live t) 0
      lent-worth v =
          let us = numbers f.lends in
          let own = own_value unit f live in
          spread unit (lending f lends) now v ∙ ap (λ n. sum_by (λ u.
          cond (lends_lead (lending f lends) u v) (own_value unit (lending f lends) now u) 0) (range_with_len 1 n)) many
          ∙ sum-same (λ u. cond (lends_lead (lending f lends) u v) (own_value unit (lending f lends) now u) 0)
          (λ u. cond (lends_lead f u v) (own u) 0 + cond (lends_lead f b v) (cond (lends_lead f u t) (own u) 0) 0) us
          (λ u. ap (λ w. cond (lends_lead (lending f lends) u v) w 0) (sym (own-each u)) ∙ each-lends u v (own u))
          ∙ sum-plus (λ u. cond (lends_lead f u v) (own u) 0)
          (λ u. cond (lends_lead f b v) (cond (lends_lead f u t) (own u) 0) 0) us
          ∙ ap (λ w. w + sum_by (λ u. cond (lends_lead f b v) (cond (lends_lead f u t) (own u) 0) 0) us)
          (sym (spread unit f live v))
          ∙ ap (λ w. thread_value unit f live v + w) (sum-under (lends_lead f b v) (λ u.
          cond (lends_lead f u t) (own u) 0) us ∙ ap (λ w. cond (lends_lead f b v) w 0) (sym (spread unit f live t)))

  -- ---- who is backed

  module _ (live now : List Bool) (lived : IsLive live t) (ended : ¬ IsLive now t) where
    -- Another lives in the place of the thread, and nothing led to it or funded it.
    module _ (woken : IsLive now b) (lives : (u : ℕ) → u ≢ t → u ≢ b → at_number now u ≡ at_number live u)
        (no_ticket : backing_thread f b ≡ []) (no_lender : (u : ℕ) → ¬ LendsTo f u b) where
      pub woken-on : (u : ℕ) → IsBacked f live u → IsBacked (lending f lends) now u
      woken-on u (v, lead, alive) = by (cases_eq v t) (cases_eq v b)
        where
          by : (v ≡ t) ⊎ (¬ (v ≡ t)) → (v ≡ b) ⊎ (¬ (v ≡ b)) → IsBacked (lending f lends) now u
          by (inl same) which = (b, lead-through u b (subst (LendsLead f u) same lead) ([], refl), woken)
          by (inr differs) (inl same) = (b, lead-on u b (subst (LendsLead f u) same lead), woken)
          by (inr differs) (inr other) = (v, lead-on u v lead, lives v differs other ∙ alive)

      pub woken-back : (u : ℕ) → (backing_thread f u ≡ []) ⊎ (IsBacked (lending f lends) now u → IsBacked f live u)
      woken-back u = at (cases_eq u b)
        where
          at : (u ≡ b) ⊎ (¬ (u ≡ b))
              → (backing_thread f u ≡ []) ⊎ (IsBacked (lending f lends) now u → IsBacked f live u)
          at (inl same) = inl (ap (backing_thread f) same ∙ no_ticket)
          at (inr apart) = inr from
            where
              by : (v : ℕ) → IsLive now v → LendsLead f u v ⊎ (LendsLead f u t × LendsLead f b v)
                  → (v ≡ t) ⊎ (¬ (v ≡ t)) → (v ≡ b) ⊎ (¬ (v ≡ b)) → IsBacked f live u
              by v alive lead (inl same) which = absurd (ended (subst (IsLive now) same alive))
              by v alive (inr (lead, joins)) (inr differs) which = (t, lead, lived)
              by v alive (inl (chain, is)) (inr differs) (inl same) =
                  absurd (apart (none-led f b no_lender u chain (subst (λ x. IsLendChain f u chain x) same is)))
              by v alive (inl lead) (inr differs) (inr other) = (v, lead, sym (lives v differs other) ∙ alive)

              from : IsBacked (lending f lends) now u → IsBacked f live u
              from (v, (chain, is), alive) = by v alive (chain-back u chain v is) (cases_eq v t) (cases_eq v b)

    -- Nobody else begins or ceases to live, and b is backed.
    module _ (lives : (u : ℕ) → u ≢ t → at_number now u ≡ at_number live u) (backed : IsBacked f live b) where
      still-live : (v : ℕ) → LendsLead f b v → IsLive live v → IsLive now v
      still-live v lead alive = lives v (λ same. no-return (subst (LendsLead f b) same lead)) ∙ alive

      pub stays-on : (u : ℕ) → IsBacked f live u → IsBacked (lending f lends) now u
      stays-on u (v, lead, alive) = by (cases_eq v t)
        where
          by : (v ≡ t) ⊎ (¬ (v ≡ t)) → IsBacked (lending f lends) now u
          by (inl same) = (backed.0, lead-through u backed.0 (subst (LendsLead f u) same lead) backed.1, still-live backed.0 backed.1 backed.2)
          by (inr differs) = (v, lead-on u v lead, lives v differs ∙ alive)

      stays-from : (u : ℕ) → IsBacked (lending f lends) now u → IsBacked f live u
      stays-from u (v, (chain, is), alive) = by (chain-back u chain v is) (cases_eq v t)
        where
          by : LendsLead f u v ⊎ (LendsLead f u t × LendsLead f b v) → (v ≡ t) ⊎ (¬ (v ≡ t)) → IsBacked f live u
          by lead (inl same) = absurd (ended (subst (IsLive now) same alive))
          by (inl lead) (inr differs) = (v, lead, sym (lives v differs) ∙ alive)
          by (inr (lead, joins)) (inr differs) = (t, lead, lived)

      pub stays-back : (u : ℕ) → (backing_thread f u ≡ []) ⊎ (IsBacked (lending f lends) now u → IsBacked f live u)
      stays-back u = inr (stays-from u)

-- a thread with nothing of its own is worth nothing
pub worth-nothing : (f : Funding) (live : List Bool) (unit t : ℕ) → HasNoCycle f → backing_thread f t ≡ []
    → ((u : ℕ) → ¬ LendsTo f u t) → thread_value unit f live t ≡ 0
worth-nothing f live unit t no_cycle no_ticket no_lender =
    sum-filter (own_value unit f live) (λ u. lends_lead f u t) (numbers f.lends)
    ∙ sum-same (λ u. cond (lends_lead f u t) (own_value unit f live u) 0) (λ u. 0) (numbers f.lends)
    (λ u. each u (lends_lead f u t) refl) ∙ sum-nothing (numbers f.lends)
  where
    each : (u : ℕ) (on : Bool) → lends_lead f u t ≡ on → cond on (own_value unit f live u) 0 ≡ 0
    each u false is = refl
    each u true is =
        let (chain, leads) = (lends_lead-exact f no_cycle.lends u t).0 is in
        ap (own_value unit f live) (none-led f t no_lender u chain leads)
        ∙ ap (sum_by (ticket_value unit f live)) no_ticket

-- with nothing of its own it is worth what comes to it
pub comes-alone : (whole own more : ℕ) → whole ≡ own + more → own ≡ 0 → whole ≡ more
comes-alone whole own more is none = omega (arith, is, none)

-- ---- each thread lends as before, through other lends and owners

-- then nothing is lent in a circle if nothing is so
pub untangled-same : (f : Funding) (lends : List Lend) (owners : List (Option ℕ))
    → ((u : ℕ) → borrower_of (relent f lends owners) u ≡ borrower_of f u) → HasNoCycle (relent f lends owners)
    → HasNoCycle f
untangled-same f lends owners to_same no_cycle =
    record { funding = no_cycle.funding; lends = λ t (u, first, (chain, is)). no_cycle.lends t (u, to_same t ∙ first, (chain, chain-on u chain t is)) }
  where
    chain-on : (u : ℕ) (chain : List ℕ) (v : ℕ) → IsLendChain f u chain v
        → IsLendChain (relent f lends owners) u chain v
    chain-on u [] v is = is
    chain-on u (w ∷ rest) v (first, more) = (to_same u ∙ first, chain-on w rest v more)

-- each lends to the same thread, and lives as before
module _ (f : Funding) (lends : List Lend) (owners : List (Option ℕ)) (live now : List Bool)
    (many : length lends ≡ length f.lends) (no_cycle : HasNoCycle f) (no_cycle_now : HasNoCycle (relent f lends owners))
    (there : FundsThere f)
    (to_same : (u : ℕ) → borrower_of (relent f lends owners) u ≡ borrower_of f u)
    (lives : (u : ℕ) → at_number now u ≡ at_number live u) where
  chain-to : (u : ℕ) (chain : List ℕ) (v : ℕ) → IsLendChain f u chain v → IsLendChain (relent f lends owners) u chain v
  chain-to u [] v is = is
  chain-to u (w ∷ rest) v (first, more) = (to_same u ∙ first, chain-to w rest v more)

  chain-from : (u : ℕ) (chain : List ℕ) (v : ℕ) → IsLendChain (relent f lends owners) u chain v
      → IsLendChain f u chain v
  chain-from u [] v is = is
  chain-from u (w ∷ rest) v (first, more) = (sym (to_same u) ∙ first, chain-from w rest v more)

  same-lead : (u v : ℕ) → lends_lead (relent f lends owners) u v ≡ lends_lead f u v
  same-lead u v =
      let exact = lends_lead-exact f no_cycle.lends u v in
      let exact_now = lends_lead-exact (relent f lends owners) no_cycle_now.lends u v in
      same-bool (lends_lead (relent f lends owners) u v) (lends_lead f u v)
      (λ on. let lead = exact_now.0 on in exact.1 (lead.0, chain-from u lead.0 v lead.1))
      (λ on. let lead = exact.0 on in exact_now.1 (lead.0, chain-to u lead.0 v lead.1))

  pub same-worth : (unit v : ℕ) → thread_value unit (relent f lends owners) now v ≡ thread_value unit f live v
  same-worth unit v =
      spread unit (relent f lends owners) now v ∙ ap (λ n. sum_by (λ u. cond (lends_lead (relent f lends owners) u v)
      (own_value unit (relent f lends owners) now u) 0) (range_with_len 1 n)) many
      ∙ sum-same (λ u. cond (lends_lead (relent f lends owners) u v) (own_value unit (relent f lends owners) now u) 0)
      (λ u. cond (lends_lead f u v) (own_value unit f live u) 0) (numbers f.lends)
      (λ u. ap (λ b. cond b (own_value unit (relent f lends owners) now u) 0) (same-lead u v)
      ∙ ap (λ w. cond (lends_lead f u v) w 0) (sym (owns u)))
      ∙ sym (spread unit f live v)
    where
      owns : (u : ℕ) → own_value unit f live u ≡ own_value unit (relent f lends owners) now u
      owns =
          own-same f lends owners no_cycle no_cycle_now live now there
          (λ u (v, (chain, is), alive). (v, (chain, chain-to u chain v is), lives v ∙ alive))
          (λ u. inr (λ (v, (chain, is), alive). (v, (chain, chain-from u chain v is), sym (lives v) ∙ alive))) unit
