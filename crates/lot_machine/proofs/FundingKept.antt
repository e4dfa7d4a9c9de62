-- Changes of tickets and currencies after which nothing makes a cycle, and tickets fund only existing targets.
use Rattle.lot_machine.proofs.Common.{Bool, ChainLeads, Currency, Funding, FundsThere, HasNoCycle, IsChain, List, None, Option, Some, Target, Ticket, WouldCycle, all_tickets, ap, arith, at_number, backing_currency, currency_funded, eq-eqb, false, filter, inl, inr, is_currency, issuer_of, length, list_any, option_flatten, option_map, placed, refl, retargeted, set_number, slice_get, slice_get_within, slice_set, subst, suc, sym, target_of, ticket_at, ticket_in, true, with_new_ticket, with_target, without_ticket, would_cycle, ℕ, [], ◌++◌, ◌-◌, ◌∙◌, ◌∷◌, ◌≡◌, ◌⊎◌}
use Rattle.lot_machine.proofs.Paths.{IsPath, Leads, LeadsOn, HasNoReturn, fewer-steps, one-step-more}
use Rattle.lot_machine.proofs.Changes.{place-set_other, number-set}
use Rattle.lot_machine.proofs.Places.{place-placed, number-placed}
use Rattle.lot_machine.proofs.Tickets.{ticket-of, some-injective, place_of, any_from}
use Rattle.lot_machine.proofs.TicketDepth.{would_cycle-exact}

-- ---- chains of tickets, as paths from currency to currency

-- a ticket of currency c funds currency d
abbrev pub FundsFrom : Funding → ℕ → ℕ → Type 0
FundsFrom f c d = (n : ℕ) × (issuer_of f n ≡ Some c) × (target_of f n ≡ Some (Currency d))

pub chain-path : (f : Funding) (n : ℕ) (rest : List ℕ) (c d : ℕ) → issuer_of f n ≡ Some c
    → IsChain f n rest (Currency d) → LeadsOn (FundsFrom f) c d
chain-path f n [] c d issued is = (d, (n, issued, is), ([], refl))
chain-path f n (m ∷ rest) c d issued ((e, funds, next), is) =
    let r = chain-path f m rest e d next is in (e, (n, issued, funds), (r.0 ∷ r.2.0, (r.1, r.2.1)))

pub path-chain : (f : Funding) (chain : List ℕ) (c e d : ℕ) → FundsFrom f c e → IsPath (FundsFrom f) e chain d
    → ChainLeads f c (Currency d)
path-chain f [] c e d (n, issued, funds) same = (n, [], issued, funds ∙ ap (λ x. Some (Currency x)) same)
path-chain f (s ∷ rest) c e d (n, issued, funds) (first, others) =
    let r = path-chain f rest e s d first others in (n, r.0 ∷ r.1, issued, ((e, funds, r.2), r.3))

pub no-return : (f : Funding) → HasNoCycle f → HasNoReturn (FundsFrom f)
no-return f no_cycle c (e, first, (chain, is)) = no_cycle.funding c (path-chain f chain c e c first is)

pub no-chain-back : (f : Funding) → HasNoReturn (FundsFrom f) → (c : ℕ) → ¬ ChainLeads f c (Currency c)
no-chain-back f none c (n, rest, issued, is) = none c (chain-path f n rest c c issued is)

-- ---- tickets that fund no more currencies than before

-- each ticket is as before, or funds no currency
abbrev pub FundsNoMore : List (Option Ticket) → List (Option Ticket) → Type 0
FundsNoMore old new = (n : ℕ) → (ticket_in new n ≡ ticket_in old n)
    ⊎ ((c : ℕ) → ¬ (option_map (λ (t : Ticket). t.target) (ticket_in new n) ≡ Some (Currency c)))

module _ (f : Funding) (tickets : List (Option Ticket)) (no_more : FundsNoMore f.tickets tickets) where
  funded-before : (n c d : ℕ) → issuer_of (record f { tickets = tickets }) n ≡ Some c
      → target_of (record f { tickets = tickets }) n ≡ Some (Currency d) → FundsFrom f c d
  funded-before n c d issued funds = from (no_more n)
    where
      from : (ticket_in tickets n ≡ ticket_in f.tickets n)
          ⊎ ((e : ℕ) → ¬ (option_map (λ (t : Ticket). t.target) (ticket_in tickets n) ≡ Some (Currency e)))
          → FundsFrom f c d
      from (inl same) = (n, ap (option_map (λ (t : Ticket). t.issuer)) (sym same) ∙ issued, ap (option_map (λ (t : Ticket). t.target)) (sym same) ∙ funds)
      from (inr without) = absurd (without d funds)

  pub HasNoCycle-no_more : HasNoCycle f → HasNoCycle (record f { tickets = tickets })
  HasNoCycle-no_more no_cycle = record {
    funding = no-chain-back (record f { tickets = tickets })
        (fewer-steps (FundsFrom (record f { tickets = tickets })) (FundsFrom f)
        (λ c d (n, issued, funds). funded-before n c d issued funds) (no-return f no_cycle));
    lends = no_cycle.lends;
  }

  pub FundsThere-no_more : FundsThere f → FundsThere (record f { tickets = tickets })
  FundsThere-no_more there n c funds = from (no_more n)
    where
      from : (ticket_in tickets n ≡ ticket_in f.tickets n)
          ⊎ ((e : ℕ) → ¬ (option_map (λ (t : Ticket). t.target) (ticket_in tickets n) ≡ Some (Currency e)))
          → slice_get f.currencies c ≡ Some true
      from (inl same) = there n c (ap (option_map (λ (t : Ticket). t.target)) (sym same) ∙ funds)
      from (inr without) = absurd (without c funds)

-- a target that is no currency isn't one
not-currency : (to : Target) (c : ℕ) → currency_funded to ≡ None → Some to ≡ Some (Currency c) → ⊥
not-currency to c none e = let is : to ≡ Currency c = some-injective to (Currency c) e in
    let some : currency_funded to ≡ Some c = ap currency_funded is in cc

-- a new ticket that funds no currency
pub no_more-placed : (tickets : List (Option Ticket)) (free : List ℕ) (ticket : Ticket)
    → currency_funded ticket.target ≡ None → FundsNoMore tickets (placed tickets free (Some ticket))
no_more-placed tickets free ticket none n = from (number-placed tickets free (Some ticket) n)
  where
    from : (at_number (placed tickets free (Some ticket)) n ≡ at_number tickets n)
        ⊎ (at_number (placed tickets free (Some ticket)) n ≡ Some (Some ticket))
        → (ticket_in (placed tickets free (Some ticket)) n ≡ ticket_in tickets n) ⊎ ((c : ℕ) → ¬ (option_map
        (λ (t : Ticket). t.target) (ticket_in (placed tickets free (Some ticket)) n) ≡ Some (Currency c)))
    from (inl same) = inl (ap option_flatten same)
    from (inr is) = inr (λ c e. not-currency ticket.target c none
        (sym (ap (λ o. option_map (λ (t : Ticket). t.target) (option_flatten o)) is) ∙ e))

-- a ticket's place that has another ticket then, or none
module _ (tickets : List (Option Ticket)) (n : ℕ) (put : Option Ticket)
    (other : (c : ℕ) → ¬ (option_map (λ (t : Ticket). t.target) put ≡ Some (Currency c))) where
  pub no_more-put : FundsNoMore tickets (set_number tickets n put)
  no_more-put k = from (number-set tickets n put k)
    where
      from : (at_number (set_number tickets n put) k ≡ at_number tickets k)
          ⊎ ((k ≡ suc (n - 1)) × (at_number (set_number tickets n put) k ≡ Some put))
          → (ticket_in (set_number tickets n put) k ≡ ticket_in tickets k) ⊎ ((c : ℕ)
          → ¬ (option_map (λ (t : Ticket). t.target) (ticket_in (set_number tickets n put) k) ≡ Some (Currency c)))
      from (inl same) = inl (ap option_flatten same)
      from (inr (at, is)) =
          inr (λ c e. other c (sym (ap (λ o. option_map (λ (t : Ticket). t.target) (option_flatten o)) is) ∙ e))

-- a ticket that is removed
pub no_more-without : (tickets : List (Option Ticket)) (n : ℕ) → FundsNoMore tickets (without_ticket tickets n)
no_more-without tickets n = no_more-put tickets n None (λ c e. cc)

-- a ticket that gets a target that is no currency
pub no_more-target : (tickets : List (Option Ticket)) (n : ℕ) (to : Target) → currency_funded to ≡ None
    → FundsNoMore tickets (with_target tickets n to)
no_more-target tickets n to none =
    no_more-put tickets n (option_map (retargeted to) (ticket_in tickets n)) (λ c. at c (ticket_in tickets n))
  where
    at : (c : ℕ) (o : Option Ticket)
        → ¬ (option_map (λ (t : Ticket). t.target) (option_map (retargeted to) o) ≡ Some (Currency c))
    at c None e = cc
    at c (Some t) e = not-currency to c none e

-- ---- a ticket that funds a currency then

module _ (f : Funding) (n issuer c : ℕ) (issued : issuer_of f n ≡ Some issuer) where
  -- the funding then
  abbrev funded : Funding
  funded = record f { tickets = with_target f.tickets n (Currency c) }

  -- a ticket's targets and issuers are as before, or it is the ticket
  funded-at : (k : ℕ) → (ticket_at funded k ≡ ticket_at f k)
      ⊎ ((issuer_of funded k ≡ Some issuer) × (target_of funded k ≡ Some (Currency c)))
  funded-at k = from (number-set f.tickets n (option_map (retargeted (Currency c)) (ticket_in f.tickets n)) k)
      (ticket-of f n issuer issued)
    where
      from : (at_number (with_target f.tickets n (Currency c)) k ≡ at_number f.tickets k)
          ⊎ ((k ≡ suc (n - 1)) × (at_number (with_target f.tickets n (Currency c)) k
          ≡ Some (option_map (retargeted (Currency c)) (ticket_in f.tickets n))))
          → ((t : Ticket) × (ticket_at f n ≡ Some t) × (t.issuer ≡ issuer))
          → (ticket_at funded k ≡ ticket_at f k)
          ⊎ ((issuer_of funded k ≡ Some issuer) × (target_of funded k ≡ Some (Currency c)))
      from (inl same) found = inl (ap option_flatten same)
      from (inr (at, is)) (t, there, of_issuer) =
          let now : ticket_at funded k ≡ Some (retargeted (Currency c) t) = ap option_flatten is
          ∙ ap (option_map (retargeted (Currency c))) there in
          inr (ap (option_map (λ (u : Ticket). u.issuer)) now ∙ ap Some of_issuer, ap (option_map (λ (u : Ticket). u.target)) now)

  funded-either : (d e : ℕ) → FundsFrom funded d e → FundsFrom f d e ⊎ ((d ≡ issuer) × (e ≡ c))
  funded-either d e (k, of_currency, funds) = from (funded-at k)
    where
      from : (ticket_at funded k ≡ ticket_at f k)
          ⊎ ((issuer_of funded k ≡ Some issuer) × (target_of funded k ≡ Some (Currency c)))
          → FundsFrom f d e ⊎ ((d ≡ issuer) × (e ≡ c))
      from (inl same) = inl (k, ap (option_map (λ (u : Ticket). u.issuer)) (sym same) ∙ of_currency, ap (option_map (λ (u : Ticket). u.target)) (sym same) ∙ funds)
      from (inr (by, to)) = inr
          (some-injective d issuer (sym of_currency ∙ by), same-currency (some-injective (Currency e) (Currency c) (sym funds ∙ to)))
        where
          same-currency : Currency e ≡ Currency c → e ≡ c
          same-currency same = some-injective e c (ap currency_funded same)

  would-cycle : Leads (FundsFrom f) c issuer → WouldCycle f issuer c
  would-cycle ([], same) = inl same
  would-cycle (s ∷ rest, (first, others)) = inr (path-chain f rest c s issuer first others)

  pub HasNoCycle-funds : ¬ WouldCycle f issuer c → HasNoCycle f → HasNoCycle funded
  HasNoCycle-funds apart no_cycle = record {
    funding = no-chain-back funded (one-step-more (FundsFrom funded) (FundsFrom f) issuer c funded-either
        (λ lead. apart (would-cycle lead)) (no-return f no_cycle));
    lends = no_cycle.lends;
  }

  pub FundsThere-funds : slice_get f.currencies c ≡ Some true → FundsThere f → FundsThere funded
  FundsThere-funds here there k d funds = from (funded-at k)
    where
      from : (ticket_at funded k ≡ ticket_at f k)
          ⊎ ((issuer_of funded k ≡ Some issuer) × (target_of funded k ≡ Some (Currency c)))
          → slice_get f.currencies d ≡ Some true
      from (inl same) = there k d (ap (option_map (λ (u : Ticket). u.target)) (sym same) ∙ funds)
      from (inr (by, to)) = let same : d ≡ c = some-injective d c
          (ap currency_funded (some-injective (Currency d) (Currency c) (sym funds ∙ to))) in rw same here

  -- the same, by the test
  pub HasNoCycle-funds_tested : would_cycle f issuer c ≡ false → slice_get f.currencies c ≡ Some true → FundsThere f
      → HasNoCycle f → HasNoCycle funded
  HasNoCycle-funds_tested test here there no_cycle =
      HasNoCycle-funds (λ would. let is : would_cycle f issuer c ≡ true =
      (would_cycle-exact f no_cycle there issuer c (slice_get_within f.currencies c true here)).1 would in cc) no_cycle

-- ---- currencies

pub HasNoCycle-currencies : (f : Funding) (currencies : List Bool) → HasNoCycle f
    → HasNoCycle (record f { currencies = currencies })
HasNoCycle-currencies f currencies no_cycle = record { funding = no_cycle.funding; lends = no_cycle.lends }

pub FundsThere-placed : (f : Funding) (free : List ℕ) → FundsThere f
    → FundsThere (record f { currencies = placed f.currencies free true })
FundsThere-placed f free there n c funds = from (place-placed f.currencies free true c)
  where
    from : (slice_get (placed f.currencies free true) c ≡ slice_get f.currencies c)
        ⊎ (slice_get (placed f.currencies free true) c ≡ Some true)
        → slice_get (placed f.currencies free true) c ≡ Some true
    from (inl same) = same ∙ there n c funds
    from (inr is) = is

pub FundsThere-after : (f : Funding) → FundsThere f → FundsThere (record f { currencies = f.currencies ++ true ∷ [] })
FundsThere-after f = FundsThere-placed f []

-- what some element passes leaves something of a filter
pub filtered-some : {A : Type 0} (test : A → Bool) (xs : List A) → list_any test xs ≡ true
    → ¬ (length (filter test xs) ≡ 0)
filtered-some test [] any none = cc
filtered-some test (x ∷ xs) any none = at (filtered-some test xs) (test x) refl
  where
    at : (list_any test xs ≡ true → ¬ (length (filter test xs) ≡ 0)) → (b : Bool) → test x ≡ b → ⊥
    at more true e = let is : length (filter test (x ∷ xs)) ≡ suc (length (filter test xs)) = rw e refl in
        absurd (omega (arith, is, none))
    at more false e =
        let rest : filter test (x ∷ xs) ≡ filter test xs = rw e refl in
        let any_rest : list_any test (x ∷ xs) ≡ list_any test xs = rw e refl in
        more (sym any_rest ∙ any) (ap length (sym rest) ∙ none)

-- the ticket that a number has, from what it funds
ticket-funding : (f : Funding) (n : ℕ) (to : Target) → target_of f n ≡ Some to
    → (t : Ticket) × (ticket_at f n ≡ Some t) × (t.target ≡ to)
ticket-funding f n to e = from (ticket_at f n) refl e
  where
    from : (o : Option Ticket) → ticket_at f n ≡ o → option_map (λ (u : Ticket). u.target) o ≡ Some to
        → (t : Ticket) × (ticket_at f n ≡ Some t) × (t.target ≡ to)
    from None is e = cc
    from (Some t) is e = (t, is, some-injective t.target to e)

-- a ticket funds the currency, so it isn't without backing tickets
backed-by : (f : Funding) (n c : ℕ) → target_of f n ≡ Some (Currency c) → ¬ (length (backing_currency f c) ≡ 0)
backed-by f n c funds none = from (ticket-funding f n (Currency c) funds)
  where
    from : ((t : Ticket) × (ticket_at f n ≡ Some t) × (t.target ≡ Currency c)) → ⊥
    from (t, there, to) =
        let place = place_of f.tickets n t there in
        let passes : is_currency c t.target ≡ true = ap (is_currency c) to ∙ eq-eqb c c refl in
        filtered-some (λ (u : Ticket). is_currency c u.target) (all_tickets f)
        (any_from (λ u. is_currency c u.target) f.tickets place.0 t place.2 passes) none

pub FundsThere-removed : (f : Funding) (c : ℕ) → length (backing_currency f c) ≡ 0 → FundsThere f
    → FundsThere (record f { currencies = slice_set f.currencies c false })
FundsThere-removed f c none there n d funds =
    place-set_other f.currencies c false d
    (λ same. backed-by f n c (subst (λ x. target_of f n ≡ Some (Currency x)) same funds) none) ∙ there n d funds

-- ---- the changes by name

module _ (f : Funding) where
  pub HasNoCycle-placed_ticket : (free : List ℕ) (ticket : Ticket) → currency_funded ticket.target ≡ None → HasNoCycle f
      → HasNoCycle (record f { tickets = placed f.tickets free (Some ticket) })
  HasNoCycle-placed_ticket free ticket none = HasNoCycle-no_more f _ (no_more-placed f.tickets free ticket none)

  pub FundsThere-placed_ticket : (free : List ℕ) (ticket : Ticket) → currency_funded ticket.target ≡ None → FundsThere f
      → FundsThere (record f { tickets = placed f.tickets free (Some ticket) })
  FundsThere-placed_ticket free ticket none = FundsThere-no_more f _ (no_more-placed f.tickets free ticket none)

  pub HasNoCycle-new_ticket : (amount issuer : ℕ) (to : Target) → currency_funded to ≡ None → HasNoCycle f
      → HasNoCycle (record f { tickets = with_new_ticket f.tickets amount issuer to })
  HasNoCycle-new_ticket amount issuer to =
      HasNoCycle-placed_ticket [] (record { amount = amount; issuer = issuer; target = to })

  pub FundsThere-new_ticket : (amount issuer : ℕ) (to : Target) → currency_funded to ≡ None → FundsThere f
      → FundsThere (record f { tickets = with_new_ticket f.tickets amount issuer to })
  FundsThere-new_ticket amount issuer to =
      FundsThere-placed_ticket [] (record { amount = amount; issuer = issuer; target = to })

  pub HasNoCycle-without_ticket : (n : ℕ) → HasNoCycle f
      → HasNoCycle (record f { tickets = without_ticket f.tickets n })
  HasNoCycle-without_ticket n = HasNoCycle-no_more f _ (no_more-without f.tickets n)

  pub FundsThere-without_ticket : (n : ℕ) → FundsThere f
      → FundsThere (record f { tickets = without_ticket f.tickets n })
  FundsThere-without_ticket n = FundsThere-no_more f _ (no_more-without f.tickets n)

  pub HasNoCycle-target : (n : ℕ) (to : Target) → currency_funded to ≡ None → HasNoCycle f
      → HasNoCycle (record f { tickets = with_target f.tickets n to })
  HasNoCycle-target n to none = HasNoCycle-no_more f _ (no_more-target f.tickets n to none)

  pub FundsThere-target : (n : ℕ) (to : Target) → currency_funded to ≡ None → FundsThere f
      → FundsThere (record f { tickets = with_target f.tickets n to })
  FundsThere-target n to none = FundsThere-no_more f _ (no_more-target f.tickets n to none)
