-- No command makes a cycle, or leaves a ticket that funds a missing currency.
use Rattle.lot_machine.proofs.Common.{Bool, Currency, CurrencyRef, FundsThere, HasNoCycle, List, None, Option, Refusal, Some, State, Step, Target, TargetRef, ThreadRef, Ticket, Unfunded, ap, arith, currency_funded, currency_meant, currency_named, false, first_failing, funding_of, get_or, is_cycle, is_meant_by, is_none, is_some, issuer_of, length, ltb-false, map, nat_lt, option_any, option_flatten, option_map, option_or, position, position-Some, refl, slice_get, slice_get-get_or, slice_get-map, subst, suc, sym, target_meant, target_named, thread_at, thread_meant, thread_named, ticket_in, true, unless_refused, with_target, without_ticket, would_cycle, ℕ, [], ◌+◌, ◌∙◌, ◌∷◌, ◌≡◌}
use Rattle.lot_machine.specs.declared.ticket.Target.TheVariants.{Thread}
use Rattle.lot_machine.specs.declared.reference.CurrencyRef.TheVariants as currency_ref
use Rattle.lot_machine.specs.declared.record.Thread.{Thread as ThreadRecord}
use Rattle.lot_machine.specs.declared.reference.ThreadRef.TheVariants as thread_ref
use Rattle.lot_machine.specs.declared.reference.TargetRef.TheVariants as target_ref
use Rattle.lot_machine.proofs.Tickets.{at_number-suc, some-injective}
use Rattle.lot_machine.proofs.FundingKept.{HasNoCycle-without_ticket, FundsThere-without_ticket, HasNoCycle-target, FundsThere-target, HasNoCycle-funds_tested, FundsThere-funds}

-- nothing makes a cycle, and tickets fund only currencies that are there
abbrev pub IsFunded : State → Type 0
IsFunded s = HasNoCycle (funding_of s) × FundsThere (funding_of s)

-- what holds before, and after if nothing is refused, holds after
pub unrefused : (P : State → Type 0) (s : State) (o : Option Refusal) (next : Step) → P s → (o ≡ None → P next.state)
    → P (unless_refused s o next).state
unrefused P s None next before after = after refl
unrefused P s (Some refusal) next before after = before

-- no check fails
abbrev pub AllPass : {R : Type 0} → List (Bool × R) → Type 0
AllPass [] = Unit {0}
AllPass (check ∷ checks) = (check.0 ≡ false) × AllPass checks

pub all-pass : {R : Type 0} (checks : List (Bool × R)) → first_failing checks ≡ None → AllPass checks
all-pass [] e = tt
all-pass (check ∷ checks) e = at (all-pass checks) check.0 refl
  where
    at : (first_failing checks ≡ None → AllPass checks) → (b : Bool) → check.0 ≡ b → (check.0 ≡ false) × AllPass checks
    at rest true is = let fails : first_failing (check ∷ checks) ≡ Some check.1 = rw is refl in cc
    at rest false is = let same : first_failing (check ∷ checks) ≡ first_failing checks = rw is refl in
        (is, rest (sym same ∙ e))

-- there is one
abbrev pub IsThere : {A : Type 0} → Option A → Type 0
IsThere {A} o = (x : A) × (o ≡ Some x)

pub some-of : {A : Type 0} (o : Option A) → is_none o ≡ false → IsThere o
some-of None e = cc
some-of (Some x) e = (x, refl)

pub none-of : {A : Type 0} (xs : List A) → nat_lt 0 (length xs) ≡ false → length xs ≡ 0
none-of xs e = omega (arith, ltb-false 0 (length xs) e)

-- a currency that has the name is there
pub named-there : (name : List ℕ) (names : List (Option (List ℕ))) (c : ℕ)
    → position (option_any (is_meant_by name)) names ≡ Some c → slice_get (map is_some names) c ≡ Some true
named-there name names c named =
    let found = position-Some (option_any (is_meant_by name)) names c None named in
    slice_get-map is_some names c ∙ ap (option_map is_some) (slice_get-get_or names c None found.0)
    ∙ ap Some (passes (get_or names c None) found.1)
  where
    passes : (o : Option (List ℕ)) → option_any (is_meant_by name) o ≡ true → is_some o ≡ true
    passes None e = cc
    passes (Some x) e = refl

-- a currency that is a name's target is the one with the name
pub target-currency : (s : State) (name : List ℕ) (c : ℕ) → target_named s name ≡ Some (Currency c)
    → currency_named s name ≡ Some c
target-currency s name c e = from (currency_named s name) (thread_named s name) e
  where
    from : (o p : Option ℕ) → option_or (option_map Currency o) (option_map Thread p) ≡ Some (Currency c) → o ≡ Some c
    from (Some d) p is = cc
    from None (Some t) is = cc
    from None None is = cc

-- a currency that is meant is there
pub meant-there : (s : State) (currency : CurrencyRef) (c : ℕ) → currency_meant s currency ≡ Some c
    → slice_get (map is_some s.currencies) c ≡ Some true
meant-there s (currency_ref.Named name) c is = named-there name s.currencies c is
meant-there s (currency_ref.Numbered d) c is = from (slice_get s.currencies d) refl is
  where
    from : (o : Option (Option (List ℕ))) → slice_get s.currencies d ≡ o
        → option_map (λ name. d) (option_flatten o) ≡ Some c → slice_get (map is_some s.currencies) c ≡ Some true
    from None here e = cc
    from (Some None) here e = cc
    from (Some (Some name)) here e =
        let same : d ≡ c = some-injective d c e in
        subst (λ n. slice_get (map is_some s.currencies) n ≡ Some true) same
        (slice_get-map is_some s.currencies d ∙ ap (option_map is_some) here)

pub target-there : (s : State) (to : TargetRef) (c : ℕ) → target_meant s to ≡ Some (Currency c)
    → slice_get (map is_some s.currencies) c ≡ Some true
target-there s (target_ref.Named name) c is = named-there name s.currencies c (target-currency s name c is)
target-there s (target_ref.Currency d) c is = from (currency_meant s (currency_ref.Numbered d)) refl is
  where
    from : (o : Option ℕ) → currency_meant s (currency_ref.Numbered d) ≡ o → option_map Currency o ≡ Some (Currency c)
        → slice_get (map is_some s.currencies) c ≡ Some true
    from None meant e = cc
    from (Some n) meant e = let same : n ≡ c = cc in meant-there s (currency_ref.Numbered d) c (meant ∙ ap Some same)
target-there s (target_ref.Thread t) c is = from (thread_meant s (thread_ref.Numbered t)) is
  where
    from : (o : Option ℕ) → option_map Thread o ≡ Some (Currency c) → slice_get (map is_some s.currencies) c ≡ Some true
    from None e = cc
    from (Some n) e = cc

-- and a thread that is meant
pub meant-thread : (s : State) (thread : ThreadRef) (t : ℕ) → thread_meant s thread ≡ Some t
    → IsThere (thread_at s.threads t)
meant-thread s (thread_ref.Named name) t is =
    from (position (option_any (λ (x : ThreadRecord). is_meant_by name x.name)) s.threads) refl is
  where
    passes : (o : Option ThreadRecord) → option_any (λ (x : ThreadRecord). is_meant_by name x.name) o ≡ true → IsThere o
    passes None e = cc
    passes (Some x) e = (x, refl)

    from : (o : Option ℕ) → position (option_any (λ (x : ThreadRecord). is_meant_by name x.name)) s.threads ≡ o
        → option_map (λ place. place + 1) o ≡ Some t → IsThere (thread_at s.threads t)
    from None found e = cc
    from (Some i) found e =
        let there = position-Some (option_any (λ (x : ThreadRecord). is_meant_by name x.name)) s.threads i None found in
        let (x, is_x) = passes (get_or s.threads i None) there.1 in
        let same : i + 1 ≡ t = some-injective (i + 1) t e in
        let number : suc i ≡ t = omega (arith, same) in
        subst (λ n. IsThere (thread_at s.threads n)) number
        (x, ap option_flatten (at_number-suc s.threads i ∙ slice_get-get_or s.threads i None there.0 ∙ ap Some is_x))
meant-thread s (thread_ref.Numbered u) t is = from (thread_at s.threads u) refl is
  where
    from : (o : Option ThreadRecord) → thread_at s.threads u ≡ o → option_map (λ (x : ThreadRecord). u) o ≡ Some t
        → IsThere (thread_at s.threads t)
    from None here e = cc
    from (Some x) here e = let same : u ≡ t = some-injective u t e in (x, ap (thread_at s.threads) (sym same) ∙ here)

pub target-thread : (s : State) (to : TargetRef) (t : ℕ) → target_meant s to ≡ Some (Thread t)
    → IsThere (thread_at s.threads t)
target-thread s (target_ref.Named name) t is =
    meant-thread s (thread_ref.Named name) t (from (currency_named s name) (thread_named s name) is)
  where
    from : (o p : Option ℕ) → option_or (option_map Currency o) (option_map Thread p) ≡ Some (Thread t) → p ≡ Some t
    from (Some c) p is = cc
    from None (Some u) is = cc
    from None None is = cc
target-thread s (target_ref.Currency c) t is = from (currency_meant s (currency_ref.Numbered c)) is
  where
    from : (o : Option ℕ) → option_map Currency o ≡ Some (Thread t) → IsThere (thread_at s.threads t)
    from None e = cc
    from (Some n) e = cc
target-thread s (target_ref.Thread u) t is =
    meant-thread s (thread_ref.Numbered u) t (from (thread_meant s (thread_ref.Numbered u)) is)
  where
    from : (o : Option ℕ) → option_map Thread o ≡ Some (Thread t) → o ≡ Some t
    from None e = cc
    from (Some n) e = cc

module _ (s : State) (no_cycle : HasNoCycle (funding_of s)) (there : FundsThere (funding_of s)) where
  pub keeps-remove_ticket : (n : ℕ) → IsFunded (record s { tickets = without_ticket s.tickets n })
  keeps-remove_ticket n =
      (HasNoCycle-without_ticket (funding_of s) n no_cycle, FundsThere-without_ticket (funding_of s) n there)

  pub keeps-unfund : (n : ℕ) (to : Target) → currency_funded to ≡ None
      → IsFunded (record s { tickets = with_target s.tickets n to })
  keeps-unfund n to none =
      (HasNoCycle-target (funding_of s) n to none no_cycle, FundsThere-target (funding_of s) n to none there)

  pub keeps-target : (n : ℕ) (to : Target)
      → ((c : ℕ) → to ≡ Currency c → (is_cycle s n to ≡ false) × (slice_get (map is_some s.currencies) c ≡ Some true))
      → is_none (ticket_in s.tickets n) ≡ false → IsFunded (record s { tickets = with_target s.tickets n to })
  keeps-target n Unfunded checked here = keeps-unfund n Unfunded refl
  keeps-target n (Thread t) checked here = keeps-unfund n (Thread t) refl
  keeps-target n (Currency c) checked here = from (some-of (ticket_in s.tickets n) here) (checked c refl)
    where
      from : ((t : Ticket) × (ticket_in s.tickets n ≡ Some t))
          → (is_cycle s n (Currency c) ≡ false) × (slice_get (map is_some s.currencies) c ≡ Some true)
          → IsFunded (record s { tickets = with_target s.tickets n (Currency c) })
      from (t, is) (apart, in_currencies) =
          let issued : issuer_of (funding_of s) n ≡ Some t.issuer = ap (option_map (λ (u : Ticket). u.issuer)) is in
          let test : would_cycle (funding_of s) t.issuer c ≡ false =
          sym (ap (option_any (λ issuer. would_cycle (funding_of s) issuer c)) issued) ∙ apart in (
            HasNoCycle-funds_tested (funding_of s) n t.issuer c issued test in_currencies there no_cycle,
            FundsThere-funds (funding_of s) n t.issuer c issued in_currencies there,
          )
