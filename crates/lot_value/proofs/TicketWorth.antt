-- A ticket's value, by the cached values.
use Rattle.lot_value.proofs.Common.{Bool, Contains, Currency, Edge, FitsLimits, Funding, IsFunding, IsRight, IsSmall, IsSound, IsStale, IsTrue, Known, Layout, LimitedFunding, List, Node, OfTicket, Option, Some, Target, Ticket, activates_within, active_amount, ap, arith, backing_currency, currency_value, edges_into, ends-ticket, ends_of, eqb-false, false, funding-ticket, get_or-le-sum_by, if◌then◌else◌, into-once, is_active, is_funding, is_unfunded, kept_worth, length, node-bounded, node_value, not, option_any, option_map, other_ticket, refl, share, some-injective, subst, suc, sum_by, sym, target_node, ticket-is, ticket_at, ticket_share, ticket_value, ticket_value_within, true, unwrap_or, user_currency_count, value_in, values-solve, zero, ℕ, ◌*◌, ◌/◌, ◌<◌, ◌==◌, ◌^◌, ◌∙◌, ◌≡◌, ◌≤◌}
use Rattle.lot_machine.specs.declared.ticket.Target.TheVariants as target
use Rattle.lot_value.proofs.Rightness.{has-not-base, right-worth}

unfunded-off : (k : ℕ) (f : Funding) (live : List Bool) → activates_within k f live target.Unfunded ≡ false
unfunded-off zero f live = refl
unfunded-off (suc k) f live = refl

-- a number of a list is at most their sum
contained-part : {A : Type 0} (g : A → ℕ) (xs : List A) (x : A) → Contains xs x → g x ≤ sum_by g xs
contained-part g xs x (place, within, at) = subst (λ y. g y ≤ sum_by g xs) at (get_or-le-sum_by g xs place x within)

-- what an edge passes on, by the same values
pub share-at : (unit other : ℕ) (f : Funding) (live : List Bool) (l m : Layout) (vs us : List ℕ) (edge : Edge) → unit
    ≡ other → l ≡ m → vs ≡ us → share unit f live (kept_worth l vs) edge ≡ share other f live (kept_worth m us) edge
share-at unit other f live l m vs us edge units layouts values =
    ap (λ k. share k f live (kept_worth l vs) edge) units ∙ ap (λ (k : Layout). share other f live
    (kept_worth k vs) edge) layouts ∙ ap (λ (ks : List ℕ). share other f live (kept_worth m ks) edge) values

module _ (w : LimitedFunding) (live : List Bool) (c : Known) (sound : IsSound w.funding) (fits : FitsLimits w)
    (right : IsRight w live c) (n : ℕ) (t : Ticket) (at : ticket_at w.funding n ≡ Some t) where
  -- a ticket that funds nothing is worth nothing
  pub unfunded-worth : ¬ IsFunding w.funding n → ticket_value c.unit w.funding live t ≡ 0
  unfunded-worth none = other_ticket w.funding sound.no_cycle sound.funds_there c.unit live t (by t.target refl)
    where
      by : (to : Target) → t.target ≡ to → ¬ (is_active w.funding live t ≡ true)
      by target.Unfunded is on = let off = ap (activates_within (length w.funding.currencies) w.funding live) is
          ∙ unfunded-off (length w.funding.currencies) w.funding live in let wrong = sym off ∙ on in cc
      by (target.Currency d) is on = none (subst (λ (o : Option Ticket). IsTrue (option_any is_funding o)) (sym at)
          (subst (λ (to : Target). IsTrue (not (is_unfunded to))) (sym is) refl))
      by (target.Thread s) is on = none (subst (λ (o : Option Ticket). IsTrue (option_any is_funding o)) (sym at)
          (subst (λ (to : Target). IsTrue (not (is_unfunded to))) (sym is) refl))

  module _ (funds : IsFunding w.funding n) where
    -- where the ticket leads
    pub funded-end : (to : Node) × (ends_of w.funding (OfTicket n) ≡ Some (Currency t.issuer, to))
    funded-end =
        let (u, to, here, leads) = funding-ticket w.funding n funds in
        let same : u ≡ t = some-injective u t (sym here ∙ at) in
        (to, ends-ticket w.funding n t to at (ap (λ (x : Ticket). target_node x.target) (sym same) ∙ leads))

    -- its share by the values that are kept is what it is worth, if its issuer isn't stale
    pub kept-share : ¬ IsStale c (Currency t.issuer)
        → share c.unit w.funding live (value_in c) (OfTicket n) ≡ ticket_value c.unit w.funding live t
    kept-share fresh =
        ap (λ (o : Option Ticket). unwrap_or (option_map (ticket_share c.unit w.funding live (value_in c)) o) 0) at
        ∙ by (t.issuer == 0) refl ∙ sym (ticket-is w.funding sound.no_cycle sound.funds_there c.unit live t)
      where
        by : (b : Bool) → (t.issuer == 0) ≡ b → ticket_share c.unit w.funding live (value_in c) t
            ≡ ticket_share c.unit w.funding live (node_value c.unit w.funding live) t
        by true e = rw e refl
        by false e =
            let within = fits.from (OfTicket n) (Currency t.issuer) funded-end.0 funded-end.1 in
            let is : value_in c (Currency t.issuer) ≡ currency_value c.unit w.funding live t.issuer = right-worth w live
            c sound fits right (Currency t.issuer) fresh within (eqb-false t.issuer 0 e) ∙ rw e refl in
            rw (e, is) refl

    -- and small
    pub ticket-small : IsSmall c.unit w live → ticket_value c.unit w.funding live t < 2 ^ 64
    ticket-small small =
        let (to, ends) = funded-end in
        let has = right.ends (Currency t.issuer) to (OfTicket n, ends) in
        let part = contained-part (share c.unit w.funding live (node_value c.unit w.funding live))
        (edges_into w.funding to) (OfTicket n) ((into-once w.funding to).all (OfTicket n) (Currency t.issuer, ends)) in
        let is : share c.unit w.funding live (node_value c.unit w.funding live) (OfTicket n)
        ≡ ticket_value c.unit w.funding live t =
        ap (λ (o : Option Ticket).
        unwrap_or (option_map (ticket_share c.unit w.funding live (node_value c.unit w.funding live)) o) 0) at
        ∙ sym (ticket-is w.funding sound.no_cycle sound.funds_there c.unit live t) in
        omega (arith, part, is, values-solve w.funding sound.no_cycle sound.funds_there c.unit live to has, node-bounded w.funding sound.no_cycle sound.funds_there c.unit live to (has-not-base w.funding to has), small)

-- a ticket that funds nothing is worth nothing
pub unfunded-nothing : (unit : ℕ) (f : Funding) (live : List Bool) (n : ℕ) (t : Ticket) → ticket_at f n ≡ Some t
    → ¬ IsFunding f n → 0 ≡ ticket_value unit f live t
unfunded-nothing unit f live n t at none = by (user_currency_count f) (off t.target refl)
  where
    off : (to : Target) → t.target ≡ to → is_active f live t ≡ false
    off target.Unfunded is = ap (activates_within (length f.currencies) f live) is
        ∙ unfunded-off (length f.currencies) f live
    off (target.Currency c) is = absurd (none (ap (option_any is_funding) at ∙ ap (λ x. not (is_unfunded x)) is))
    off (target.Thread u) is = absurd (none (ap (option_any is_funding) at ∙ ap (λ x. not (is_unfunded x)) is))

    by : (k : ℕ) → is_active f live t ≡ false → 0 ≡ ticket_value_within k unit f live t
    by zero is = sym (ap (λ b. if b then (if t.issuer == 0 then t.amount * unit else 0) else 0) is)
    by (suc k) is = sym (ap (λ b. if b then (if t.issuer == 0 then t.amount * unit else sum_by (ticket_value_within k
        unit f live) (backing_currency f t.issuer) * t.amount / active_amount f live t.issuer) else 0) is)
