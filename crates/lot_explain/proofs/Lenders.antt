-- A loan is the lend of the machine's thread.
use Rattle.lot_explain.proofs.Common.{All, All-append, All-cons, All-nil, Bool, IsLent, List, Loan, Mutex, None, Option, Ready, Record, Running, Served, Some, State, Status, ThreadRow, Waiting, all_loans, ap, arith, at_number, at_number-map, borrower, borrower_of, cond, eqb-false, false, flat_map, funding_of, is_live, is_live_status, is_none, lend-at, lend_of, lends-to-nobody, lends_to, live_of, loan_in, loan_of, loan_to, mutex_at, numbers, option_and_then, option_any, option_flatten, option_map, or_parts, owner_of, refl, status_of, sym, thread_row, true, unlent-nothing, unwrap_or, value_of, ℕ, [], ◌==◌, ◌||◌, ◌∙◌, ◌∷◌, ◌≡◌}
use Rattle.lot_explain.proofs.ShortLots.{rows-record}

module _ (s : State) where
  -- a mutex's owner, by either name
  owner-is : (m : ℕ) → owner_of (funding_of s) m ≡ (mutex_at s.mutexes m).owner
  owner-is m = ap option_flatten (at_number-map (λ (x : Mutex). x.owner) s.mutexes m) ∙ at (at_number s.mutexes m)
    where
      at : (o : Option Mutex) → option_flatten (option_map (λ (x : Mutex). x.owner) o)
          ≡ (unwrap_or {T = Mutex} o (record { owner = None; waiters = [] })).owner
      at None = refl
      at (Some mutex) = refl

  -- who is told to lend to somebody lends to nobody else
  borrower-is : (now : Status) (to : ℕ) → s.limits.without_lending ≡ false → lends_to s now ≡ Some to
      → borrower (funding_of s) (lend_of s.limits now) ≡ lends_to s now
  borrower-is (Served server) to on is = rw on refl
  borrower-is (Waiting m) to on is = rw on (owner-is m)
  borrower-is other to on is = cc

  -- a blocked thread isn't live
  not-live : (now : Status) (to : ℕ) → lends_to s now ≡ Some to → is_live_status now ≡ false
  not-live Ready to is = cc
  not-live (Running p used) to is = cc
  not-live other to is = refl

  -- without lending nobody has a borrower
  nobody : s.limits.without_lending ≡ true → (u : ℕ) → borrower_of (funding_of s) u ≡ None
  nobody off u = lends-to-nobody s.limits off (funding_of s) s.records u

  -- a thread with a row
  row-lent : (t : ℕ) (o : Option ThreadRow) → thread_row s t ≡ o → All (IsLent s) (loan_in s t o)
  row-lent t None is = All-nil (IsLent s)
  row-lent t (Some row) is = to-lent (lends_to s row.status) refl
    where
      status-is : status_of s.records t ≡ Some row.status
      status-is = let (r, there, same) = rows-record s t row is in ap (option_map (λ (x : Record). x.status)) there
          ∙ ap (λ (x : ThreadRow). Some x.status) same

      value-is : row.value ≡ value_of s t
      value-is = let (r, there, same) = rows-record s t row is in sym (ap (λ (x : ThreadRow). x.value) same)

      lends : (to : ℕ) → s.limits.without_lending ≡ false → lends_to s row.status ≡ Some to
          → borrower_of (funding_of s) t ≡ lends_to s row.status
      lends to on is = ap (option_and_then (borrower (funding_of s)))
          (lend-at s.limits s.records t row.status status-is) ∙ borrower-is row.status to on is

      -- without lending a blocked thread is worth nothing
      worthless-then : s.limits.without_lending ≡ true → (to : ℕ) → lends_to s row.status ≡ Some to → row.value ≡ 0
      worthless-then off to to_is =
          let (r, there, same) = rows-record s t row is in
          let now : r.status ≡ row.status = ap (λ (x : ThreadRow). x.status) same in
          let gone : is_live (live_of s) t ≡ false =
          ap (option_any (λ flag. flag)) (at_number-map (λ (x : Record). is_live_status x.status) s.records t
          ∙ ap (option_map (λ (x : Record). is_live_status x.status)) there) ∙ ap is_live_status now
          ∙ not-live row.status to to_is in
          value-is ∙ unlent-nothing (funding_of s) (live_of s) (nobody off) s.limits.unit t gone

      to-lent : (o : Option ℕ) → lends_to s row.status ≡ o → All (IsLent s) (loan_to s t row o)
      to-lent None to_is = All-nil (IsLent s)
      to-lent (Some to) to_is = by ((row.value == 0) || is_none (thread_row s to)) refl
        where
          loan : Loan
          loan = record { thread = t; name = row.name; value = row.value; to = to }

          by : (b : Bool) → ((row.value == 0) || is_none (thread_row s to)) ≡ b → All (IsLent s) (cond b [] (loan ∷ []))
          by true worthless = All-nil (IsLent s)
          by false worth =
              let some = eqb-false row.value 0 (or_parts (row.value == 0) (is_none (thread_row s to)) worth).0 in
              at s.limits.without_lending refl some
            where
              at : (b : Bool) → s.limits.without_lending ≡ b → ¬ (row.value ≡ 0) → All (IsLent s) (loan ∷ [])
              at true off some = absurd (some (worthless-then off to to_is))
              at false on some = All-cons (IsLent s) loan []
                  (record { lends = lends to on to_is ∙ to_is; value = value-is; some = omega (arith, some) })
                  (All-nil (IsLent s))

  loans-lent : (ts : List ℕ) → All (IsLent s) (flat_map (loan_of s) ts)
  loans-lent [] = All-nil (IsLent s)
  loans-lent (t ∷ ts) =
      All-append (IsLent s) (loan_of s t) (flat_map (loan_of s) ts) (row-lent t (thread_row s t) refl) (loans-lent ts)

  pub all-lent : All (IsLent s) (all_loans s)
  all-lent = loans-lent (numbers s.records)
