-- A mutex handed over, in three changes of the threads: it becomes free, its next owner wakes, and it gets that owner.
use Rattle.lot_mutex.proofs.Common.{CanOwn, IsLive, IsMutex, IsOwnerBetween, IsThreadOf, List, MakesStaleIn, None, Option, Ready, Record, Some, Threaded, ap, arith, at_number, cases_eq, change_record, funding_in, inl, inr, length, length-set, live-apart, live-status, live-there, live_in, makes-each, number-again, number-set, number-set_same, number-some, option_flatten, option_map, owner_of, refl, released, set_number, some-injective, status-now, status_of, subst, suc, sym, with_records, ℕ, ◌-◌, ◌∙◌, ◌≡◌, ◌≢◌, ◌⊎◌}

module _ (a b d : Threaded) (m next : ℕ) (mutex : IsMutex (funding_in a) m) (thread : IsThreadOf a next)
    (other : owner_of (funding_in a) m ≢ Some next)
    (first : b ≡ record a { owners = set_number a.owners m None; stale = b.stale })
    (second : d ≡ with_records b (change_record released b.records next) d.stale) where
  number : suc (m - 1) ≡ m
  number = omega (arith, mutex.0)

  -- the mutex is free
  freed : at_number d.owners m ≡ Some None
  freed =
      let (owner, there) = number-some a.owners m mutex.0 mutex.1 in
      ap (λ (x : Threaded). at_number x.owners m) second ∙ ap (λ (x : Threaded). at_number x.owners m) first
      ∙ number-set_same a.owners m None owner there

  woken : d
      ≡ record (with_records a (change_record released a.records next) d.stale) { owners = set_number a.owners m None }
  woken = second ∙ ap (λ (x : Threaded). with_records x (change_record released x.records next) d.stale) first

  -- and the thread is Ready
  live : IsLive (live_in d.records) next
  live =
      let (r, there) = number-some a.records next (omega (arith, thread.0)) thread.1 in
      let ready = status-now released a.records next r.status Ready (ap (option_map (λ (x : Record). x.status)) there)
      (λ x. refl) in
      live-status d.records next Ready (ap (λ (x : Threaded). status_of x.records next) woken ∙ ready) refl

  -- so that it may own the mutex
  pub may-own : CanOwn (funding_in d) m next × (owner_of (funding_in d) m ≡ None)
  may-own =
      let mutexes : length d.owners ≡ length a.owners = ap (λ (x : Threaded). length x.owners) woken
      ∙ length-set a.owners (m - 1) None in
      (((mutex.0, omega (arith, mutex.1, mutexes)), live-there d next live, live-apart d next m live), ap option_flatten freed)

  module _ (e : Threaded) (third : e ≡ record d { owners = set_number d.owners m (Some next); stale = e.stale }) where
    pub handed : e ≡ record (with_records a
        (change_record released a.records next) e.stale) { owners = set_number a.owners m (Some next) }
    handed =
        third ∙ ap (λ (x : Threaded). record x { owners = set_number x.owners m (Some next); stale = e.stale }) woken
        ∙ ap (λ (os : List (Option ℕ)). record (with_records a
        (change_record released a.records next) e.stale) { owners = os }) (number-again a.owners m None (Some next))

    -- the first two changes
    both : MakesStaleIn a b → MakesStaleIn b d → MakesStaleIn a d
    both =
        makes-each a b d (ap (λ (x : Threaded). x.lending) first, sym (ap (λ (x : Threaded). x.lending) second)) (ap
        (λ (x : Threaded). x.tickets) first) (λ k. inr (inl (ap (λ (x : Threaded). at_number x.owners k) (sym second))))
        (λ u. inl (ap (λ (x : Threaded). at_number x.records u) first))

    between : (k : ℕ) → IsOwnerBetween a d e k
    between k = from (cases_eq k m)
      where
        apart : (t : ℕ) → option_flatten (at_number a.owners m) ≡ Some t
            → ¬ (option_flatten (at_number e.owners m) ≡ Some t)
        apart t before after =
            let now : at_number e.owners m ≡ Some (Some next) = ap (λ (x : Threaded). at_number x.owners m) third
            ∙ number-set_same d.owners m (Some next) None freed in
            let same : t ≡ next = some-injective t next (sym after ∙ ap option_flatten now) in
            other (before ∙ ap Some same)

        here : k ≡ m → IsOwnerBetween a d e k
        here same = subst (IsOwnerBetween a d e) (sym same) (inr (inr (ap option_flatten freed, apart)))

        elsewhere : ¬ (k ≡ m) → (at_number (set_number a.owners m None) k ≡ at_number a.owners k)
            ⊎ ((k ≡ suc (m - 1)) × (at_number (set_number a.owners m None) k ≡ Some None)) → IsOwnerBetween a d e k
        elsewhere off (inl same) = inl (ap (λ (x : Threaded). at_number x.owners k) woken ∙ same)
        elsewhere off (inr (at, _)) = absurd (off (at ∙ number))

        from : (k ≡ m) ⊎ (k ≡ m → ⊥) → IsOwnerBetween a d e k
        from (inl same) = here same
        from (inr off) = elsewhere off (number-set a.owners m None k)

    pub handed-stale : MakesStaleIn a b → MakesStaleIn b d → MakesStaleIn d e → MakesStaleIn a e
    handed-stale one two three =
        makes-each a d e (ap (λ (x : Threaded). x.lending) woken, sym (ap (λ (x : Threaded). x.lending) third))
        (ap (λ (x : Threaded). x.tickets) woken) between
        (λ u. inr (ap (λ (x : Threaded). at_number x.records u) (sym third))) (both one two) three
