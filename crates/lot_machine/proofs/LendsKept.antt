-- Changes of threads' lends and of mutexes' owners after which nothing makes a cycle.
use Rattle.lot_machine.proofs.Common.{Funding, HasNoCycle, IsLendChain, Lend, LendsLead, LendsOnTo, LendsTo, List, Nobody, None, Option, Some, ToMutex, ToThread, ap, at_number, borrower, false, inl, inr, lends_lead, option_and_then, option_any, option_flatten, owner_of, placed, refl, set_number, suc, sym, true, ℕ, [], ◌++◌, ◌-◌, ◌∙◌, ◌∷◌, ◌≡◌, ◌⊎◌}
use Rattle.lot_machine.proofs.Paths.{IsPath, HasNoReturn, fewer-steps, one-step-more, steps-to-end}
use Rattle.lot_machine.proofs.Changes.{number-set, number-there}
use Rattle.lot_machine.proofs.Places.{number-placed}
use Rattle.lot_machine.proofs.Tickets.{some-injective}
use Rattle.lot_machine.proofs.LendDepth.{lends_lead-exact}

-- ---- chains of lends, as paths

pub lend-path : (f : Funding) (t : ℕ) (chain : List ℕ) (u : ℕ) → IsLendChain f t chain u → IsPath (LendsTo f) t chain u
lend-path f t [] u is = is
lend-path f t (s ∷ rest) u (first, others) = (first, lend-path f s rest u others)

pub path-lend : (f : Funding) (t : ℕ) (chain : List ℕ) (u : ℕ) → IsPath (LendsTo f) t chain u → IsLendChain f t chain u
path-lend f t [] u is = is
path-lend f t (s ∷ rest) u (first, others) = (first, path-lend f s rest u others)

pub no-lend-return : (f : Funding) → HasNoCycle f → HasNoReturn (LendsTo f)
no-lend-return f no_cycle t (s, first, (chain, is)) = no_cycle.lends t (s, first, (chain, path-lend f s chain t is))

pub no-lend-back : (f : Funding) → HasNoReturn (LendsTo f) → (t : ℕ) → ¬ LendsOnTo f t t
no-lend-back f none t (s, first, (chain, is)) = none t (s, first, (chain, lend-path f s chain t is))

-- ---- a thread that lends to another, or to nobody

module _ (f : Funding) (t : ℕ) (lend : Lend) where
  -- the funding then
  abbrev lent : Funding
  lent = record f { lends = set_number f.lends t lend }

  -- a thread lends as before, or it is the thread
  lent-either : (u s : ℕ) → LendsTo lent u s → LendsTo f u s ⊎ ((u ≡ suc (t - 1)) × (borrower f lend ≡ Some s))
  lent-either u s lends = from (number-set f.lends t lend u)
    where
      from : (at_number (set_number f.lends t lend) u ≡ at_number f.lends u)
          ⊎ ((u ≡ suc (t - 1)) × (at_number (set_number f.lends t lend) u ≡ Some lend))
          → LendsTo f u s ⊎ ((u ≡ suc (t - 1)) × (borrower f lend ≡ Some s))
      from (inl same) = inl (ap (option_and_then (borrower f)) (sym same) ∙ lends)
      from (inr (at, is)) = inr (at, ap (option_and_then (borrower f)) (sym is) ∙ lends)

  -- to nobody that gets anything
  pub HasNoCycle-lends_nobody : borrower f lend ≡ None → HasNoCycle f → HasNoCycle lent
  HasNoCycle-lends_nobody none no_cycle = record {
    funding = no_cycle.funding;
    lends = no-lend-back lent (fewer-steps (LendsTo lent) (LendsTo f) (λ u s lends. from u s (lent-either u s lends))
        (no-lend-return f no_cycle));
  }
    where
      from : (u s : ℕ) → LendsTo f u s ⊎ ((u ≡ suc (t - 1)) × (borrower f lend ≡ Some s)) → LendsTo f u s
      from u s (inl old) = old
      from u s (inr (at, is)) = cc

  -- to one from whom no lends lead back to it
  HasNoCycle-lends_one : (b : ℕ) → borrower f lend ≡ Some b → suc (t - 1) ≡ t → ¬ LendsLead f b t → HasNoCycle f
      → HasNoCycle lent
  HasNoCycle-lends_one b to number apart no_cycle = record {
    funding = no_cycle.funding;
    lends = no-lend-back lent (one-step-more (LendsTo lent) (LendsTo f) t b (λ u s lends. from u s
        (lent-either u s lends)) (λ (chain, is). apart (chain, path-lend f b chain t is)) (no-lend-return f no_cycle));
  }
    where
      from : (u s : ℕ) → LendsTo f u s ⊎ ((u ≡ suc (t - 1)) × (borrower f lend ≡ Some s))
          → LendsTo f u s ⊎ ((u ≡ t) × (s ≡ b))
      from u s (inl old) = inl old
      from u s (inr (at, is)) = inr (at ∙ number, some-injective s b (sym is ∙ to))

  pub HasNoCycle-lends : (before : Lend) → at_number f.lends t ≡ Some before
      → ((b : ℕ) → borrower f lend ≡ Some b → ¬ LendsLead f b t) → HasNoCycle f → HasNoCycle lent
  HasNoCycle-lends before there apart no_cycle = from (borrower f lend) refl
    where
      from : (o : Option ℕ) → borrower f lend ≡ o → HasNoCycle lent
      from None to = HasNoCycle-lends_nobody to no_cycle
      from (Some b) to = HasNoCycle-lends_one b to (number-there f.lends t before there) (apart b to) no_cycle

  -- the same, by the test
  pub HasNoCycle-lends_tested : (before : Lend) → at_number f.lends t ≡ Some before
      → option_any (λ b. lends_lead f b t) (borrower f lend) ≡ false → HasNoCycle f → HasNoCycle lent
  HasNoCycle-lends_tested before there test no_cycle = HasNoCycle-lends before there apart no_cycle
    where
      apart : (b : ℕ) → borrower f lend ≡ Some b → ¬ LendsLead f b t
      apart b to lead =
          let fails : lends_lead f b t ≡ false = sym (ap (option_any (λ x. lends_lead f x t)) to) ∙ test in
          let passes : lends_lead f b t ≡ true = (lends_lead-exact f no_cycle.lends b t).1 lead in
          cc

-- ---- one thread more, which lends to nobody

pub HasNoCycle-lends_placed : (f : Funding) (free : List ℕ) → HasNoCycle f
    → HasNoCycle (record f { lends = placed f.lends free Nobody })
HasNoCycle-lends_placed f free no_cycle = record {
  funding = no_cycle.funding;
  lends = no-lend-back more (fewer-steps (LendsTo more) (LendsTo f) before (no-lend-return f no_cycle));
}
  where
    more : Funding
    more = record f { lends = placed f.lends free Nobody }

    before : (u s : ℕ) → LendsTo more u s → LendsTo f u s
    before u s lends = from (number-placed f.lends free Nobody u)
      where
        from : (at_number (placed f.lends free Nobody) u ≡ at_number f.lends u)
            ⊎ (at_number (placed f.lends free Nobody) u ≡ Some Nobody) → LendsTo f u s
        from (inl same) = ap (option_and_then (borrower f)) (sym same) ∙ lends
        from (inr is) = let none : None ≡ Some s = ap (option_and_then (borrower f)) (sym is) ∙ lends in cc

pub HasNoCycle-lends_more : (f : Funding) → HasNoCycle f → HasNoCycle (record f { lends = f.lends ++ Nobody ∷ [] })
HasNoCycle-lends_more f = HasNoCycle-lends_placed f []

-- ---- another owner of a mutex, or none

module _ (f : Funding) (m : ℕ) (owner : Option ℕ) where
  -- the funding then
  abbrev owned : Funding
  owned = record f { owners = set_number f.owners m owner }

  -- a thread lends as before, or to the owner
  owned-borrower : (s : ℕ) (lend : Lend) → borrower owned lend ≡ Some s → (borrower f lend ≡ Some s) ⊎ (owner ≡ Some s)
  owned-borrower s Nobody e = cc
  owned-borrower s (ToThread server) e = inl e
  owned-borrower s (ToMutex k) e = from (number-set f.owners m owner k)
    where
      from : (at_number (set_number f.owners m owner) k ≡ at_number f.owners k)
          ⊎ ((k ≡ suc (m - 1)) × (at_number (set_number f.owners m owner) k ≡ Some owner))
          → (owner_of f k ≡ Some s) ⊎ (owner ≡ Some s)
      from (inl same) = inl (ap option_flatten (sym same) ∙ e)
      from (inr (at, is)) = inr (ap option_flatten (sym is) ∙ e)

  owned-either : (u s : ℕ) → LendsTo owned u s → LendsTo f u s ⊎ (owner ≡ Some s)
  owned-either u s lends = from (at_number f.lends u) lends
    where
      from : (o : Option Lend) → option_and_then (borrower owned) o ≡ Some s
          → (option_and_then (borrower f) o ≡ Some s) ⊎ (owner ≡ Some s)
      from None e = cc
      from (Some lend) e = owned-borrower s lend e

-- a mutex that gets free
pub HasNoCycle-freed : (f : Funding) (m : ℕ) → HasNoCycle f
    → HasNoCycle (record f { owners = set_number f.owners m None })
HasNoCycle-freed f m no_cycle = record {
  funding = no_cycle.funding;
  lends = no-lend-back (owned f m None) (fewer-steps (LendsTo (owned f m None)) (LendsTo f)
      (λ u s lends. from u s (owned-either f m None u s lends)) (no-lend-return f no_cycle));
}
  where
    from : (u s : ℕ) → LendsTo f u s ⊎ (None ≡ Some s) → LendsTo f u s
    from u s (inl old) = old
    from u s (inr none) = cc

-- a mutex that a thread owns then which lends to nobody, if it is there
pub HasNoCycle-owned_any : (f : Funding) (m w : ℕ) → ((lend : Lend) → at_number f.lends w ≡ Some lend → lend ≡ Nobody)
    → HasNoCycle f → HasNoCycle (record f { owners = set_number f.owners m (Some w) })
HasNoCycle-owned_any f m w nobody no_cycle = record {
  funding = no_cycle.funding;
  lends = no-lend-back (owned f m (Some w)) (steps-to-end (LendsTo (owned f m (Some w))) (LendsTo f) w
      (λ u s lends. from u s (owned-either f m (Some w) u s lends)) ends (no-lend-return f no_cycle));
}
  where
    from : (u s : ℕ) → LendsTo f u s ⊎ (Some w ≡ Some s) → LendsTo f u s ⊎ (s ≡ w)
    from u s (inl old) = inl old
    from u s (inr to) = inr (some-injective s w (sym to))

    ends : (s : ℕ) → ¬ LendsTo (owned f m (Some w)) w s
    ends s lends = at (at_number f.lends w) refl lends
      where
        at : (o : Option Lend) → at_number f.lends w ≡ o → option_and_then (borrower (owned f m (Some w))) o ≡ Some s
            → ⊥
        at None is e = cc
        at (Some lend) is e = let none : None ≡ Some s = sym (ap (borrower (owned f m (Some w))) (nobody lend is))
            ∙ e in cc

pub HasNoCycle-owned : (f : Funding) (m w : ℕ) → at_number f.lends w ≡ Some Nobody → HasNoCycle f
    → HasNoCycle (record f { owners = set_number f.owners m (Some w) })
HasNoCycle-owned f m w nobody = HasNoCycle-owned_any f m w (λ lend is. some-injective lend Nobody (sym is ∙ nobody))
