-- The lots of a lottery and the loans at it: no more than the limit on threads, with short names, and the lots weigh
-- less than 2 ^ 66 together.
use Rattle.lot_explain.proofs.Common.{All, All-append, All-cons, All-nil, Bool, Compensation, Contains, Contains-from_any, Entrants, IfSome, IsDistinct-from_apart, IsInOrder, List, Loan, Lot, Mutex, Nobody, None, Option, Record, Some, State, Status, Thread, ThreadRow, Waiters, all_loans, ap, arith, at_number, at_number-suc, compensation_of, cond, draw_lots, eqb, eqb-true, false, filter, filter-passes, flat_map, funding_of, get_or, get_or_from_slice_get, is-ready, is_none, is_ready, lends_to, length, length-append, length-le_from_distinct_below, length-map, length-range_with_len, list_any, live_of, loan_in, loan_of, loan_to, loans_among, lot_of, lots_among, map, mutex_lots, ne_eqb, numbers, option_and_then, option_any, option_flatten, option_map, order-sound, ready_lot, ready_threads, refl, row_of_thread, slice_get, slice_get-get_or, slice_get_within, some-injective, status_of, subst, suc, sum-map, sum_by, sum_by-cons, sym, thread-bounded, thread_name, thread_row, total_of, true, unwrap_or, value_of, waiter_lot, waiters-worth, weight_of, zero, ℕ, [], ◌+◌, ◌<◌, ◌==◌, ◌^◌, ◌||◌, ◌∙◌, ◌∷◌, ◌≡◌, ◌≤◌}
use Rattle.lot_machine.specs.declared.record.Status.TheVariants as status
use Rattle.lot_explain.specs.declared.entrants.Entrants.TheVariants.{Ready}
use Rattle.lot_explain.proofs.Lengths.{IsShortLoan, IsShortLot, IsShortReason}
use Rattle.lot_explain.proofs.PartQuanta.{AreParts, part-at}
use Rattle.lot_machine.proofs.RecordsKept.{numbered}

-- a thread's name has at most 16 bytes
abbrev pub IsShortThread : Thread → Type 0
IsShortThread thread = length thread.name ≤ 16

-- so has that of the thread at a place, if it is there
abbrev pub IsShortPlace : Option Thread → Type 0
IsShortPlace place = IfSome place IsShortThread

-- a state that is in order, has no more threads than there may be, compensates only for less than a quantum, and has short names
pub record HasShortNames (s : State) : Type 0 where
  pub order : IsInOrder s
  pub room : length s.records ≤ s.limits.threads
  pub names : All IsShortPlace s.threads
  pub parts : AreParts s.limits.quantum s.records

-- lots and loans that are no more together than there may be threads, each of them short, and lots that weigh less than 2 ^ 66 together
pub record AreShort (s : State) (lots : List Lot) (loans : List Loan) : Type 0 where
  pub few : length lots + length loans ≤ s.limits.threads
  pub each : All IsShortLot lots
  pub each_loan : All IsShortLoan loans
  pub total : total_of lots < 2 ^ 66

-- each of these is one of the state's threads
abbrev AreThere : State → List ℕ → Type 0
AreThere s ts = (place t : ℕ) → slice_get ts place ≡ Some t → (now : Status) × (status_of s.records t ≡ Some now)

-- the lots of threads weigh together what the threads weigh
weighs : (s : State) (v : ℕ → ℕ) (why : ℕ → Option Compensation) (ts : List ℕ)
    → total_of (map (λ t. lot_of s t (v t) (why t)) ts) ≡ sum_by v ts
weighs s v why [] = refl
weighs s v why (t ∷ ts) =
    let weigh : Lot → ℕ = λ lot. lot.weight in
    omega (arith, sum_by-cons v t ts, weighs s v why ts, sum_by-cons weigh (lot_of s t (v t) (why t)) (map (λ u. lot_of s u (v u) (why u)) ts))

-- ---- who has a lot has no loan

-- a thread that has a row has a record, by which its row is
pub rows-record : (s : State) (t : ℕ) (row : ThreadRow) → thread_row s t ≡ Some row
    → (r : Record) × (at_number s.records t ≡ Some r) × (row_of_thread s t r ≡ row)
rows-record s t row = at (thread_name s t) (at_number s.records t)
  where
    at : (name : Option (List ℕ)) (o : Option Record) → option_and_then (λ name. option_map (row_of_thread s t) o) name
        ≡ Some row → (r : Record) × (o ≡ Some r) × (row_of_thread s t r ≡ row)
    at None o is = cc
    at (Some name) None is = cc
    at (Some name) (Some r) is = (r, refl, some-injective (row_of_thread s t r) row is)

-- one that is Ready lends nothing, and any other at most once
loan-few : (s : State) (t : ℕ) → cond (option_any is_ready (status_of s.records t)) 1 0 + length (loan_of s t) ≤ 1
loan-few s t = at (thread_row s t) refl
  where
    to-few : (row : ThreadRow) (o : Option ℕ) → length (loan_to s t row o) ≤ 1
    to-few row None = omega arith
    to-few row (Some to) = by ((row.value == 0) || is_none (thread_row s to))
      where
        by : (b : Bool) → length {A = Loan}
            (cond b [] (record { thread = t; name = row.name; value = row.value; to = to } ∷ [])) ≤ 1
        by true = omega arith
        by false = omega arith

    ready-none : (row : ThreadRow) (now : Status)
        → cond (is_ready now) 1 0 + length (loan_to s t row (lends_to s now)) ≤ 1
    ready-none row status.Ready = omega arith
    ready-none row (status.Served server) = omega (arith, to-few row (Some server))
    ready-none row (status.Waiting m) = omega (arith, to-few row (lends_to s (status.Waiting m)))
    ready-none row other = omega arith

    at : (o : Option ThreadRow) → thread_row s t ≡ o
        → cond (option_any is_ready (status_of s.records t)) 1 0 + length (loan_in s t o) ≤ 1
    at None is = by (option_any is_ready (status_of s.records t))
      where
        by : (b : Bool) → cond b 1 0 + 0 ≤ 1
        by true = omega arith
        by false = omega arith
    at (Some row) is =
        let (r, there, same) = rows-record s t row is in
        let now : status_of s.records t ≡ Some row.status = ap (option_map (λ (x : Record). x.status)) there
        ∙ ap (λ (x : ThreadRow). Some x.status) same in
        rw now (ready-none row row.status)

-- so lots and loans are no more together than threads
entries-few : (s : State) (ts : List ℕ) → length (filter (λ t. option_any is_ready (status_of s.records t)) ts)
    + length (flat_map (loan_of s) ts) ≤ length ts
entries-few s [] = omega arith
entries-few s (t ∷ ts) = at (option_any is_ready (status_of s.records t)) refl (entries-few s ts)
  where
    at : (b : Bool) → option_any is_ready (status_of s.records t) ≡ b → length
        (filter (λ u. option_any is_ready (status_of s.records u)) ts) + length (flat_map (loan_of s) ts) ≤ length ts
        → length (filter (λ u. option_any is_ready (status_of s.records u)) (t ∷ ts))
        + length (flat_map (loan_of s) (t ∷ ts)) ≤ length (t ∷ ts)
    at true is rest = let one = rw is at (loan-few s t) in
        rw is (omega (arith, one, rest, length-append (loan_of s t) (flat_map (loan_of s) ts)))
    at false is rest = let one = rw is at (loan-few s t) in
        rw is (omega (arith, one, rest, length-append (loan_of s t) (flat_map (loan_of s) ts)))

-- Numbers from 1 up to n, none of which stands twice, are at most n: with 0 they are different numbers below n + 1.
once-few : (n : ℕ) (ts : List ℕ)
    → ((place other t : ℕ) → slice_get ts place ≡ Some t → slice_get ts other ≡ Some t → place ≡ other)
    → ((place t : ℕ) → slice_get ts place ≡ Some t → (1 ≤ t) × (t < 1 + n)) → length ts ≤ n
once-few n ts once within =
    let count = length-le_from_distinct_below (0 ∷ ts) (1 + n) (IsDistinct-from_apart eqb (0 ∷ ts) apart) below in
    omega (arith, count)
  where
    apart : (i j d : ℕ) → i < j → j < length (0 ∷ ts) → eqb (get_or (0 ∷ ts) i d) (get_or (0 ∷ ts) j d) ≡ false
    apart i zero d low high = absurd (omega (arith, low))
    apart zero (suc j) d low high = ne_eqb 0 (get_or ts j d)
        (λ e. absurd (omega (arith, e, (within j (get_or ts j d) (slice_get-get_or ts j d (omega (arith, high)))).0)))
    apart (suc i) (suc j) d low high =
        ne_eqb (get_or ts i d) (get_or ts j d) (λ e.
        let same = once i j (get_or ts i d) (slice_get-get_or ts i d (omega (arith, low, high)))
        (slice_get-get_or ts j d (omega (arith, high)) ∙ ap Some (sym e)) in
        absurd (omega (arith, low, same)))

    below : (q : ℕ) → list_any (eqb q) (0 ∷ ts) ≡ true → q < 1 + n
    below q found = at (Contains-from_any eqb-true q (0 ∷ ts) found)
      where
        at : Contains (0 ∷ ts) q → q < 1 + n
        at (zero, low, is) = omega (arith, is)
        at (suc i, low, is) = (within i q (slice_get-get_or ts i q (omega (arith, low)) ∙ ap Some is)).1

module _ (s : State) (short : HasShortNames s) where
  -- a thread's name is short, and so is the empty one where there is no thread
  name-short : (t : ℕ) → length (unwrap_or (thread_name s t) []) ≤ 16
  name-short t = at (at_number s.threads t) refl
    where
      at : (o : Option (Option Thread)) → at_number s.threads t ≡ o
          → length (unwrap_or (option_map (λ (thread : Thread). thread.name) (option_flatten o)) []) ≤ 16
      at None is = omega arith
      at (Some None) is = omega arith
      at (Some (Some thread)) is = found t is
        where
          found : (n : ℕ) → at_number s.threads n ≡ Some (Some thread) → length thread.name ≤ 16
          found zero there = cc
          found (suc i) there =
              let place = sym (at_number-suc s.threads i) ∙ there in
              subst IsShortPlace (get_or_from_slice_get s.threads i (Some thread) (Some thread) place)
              (short.names i (Some thread) (slice_get_within s.threads i (Some thread) place))

  -- a thread is worth no more than base's active tickets
  value-few : (t : ℕ) → value_of s t < 2 ^ 66
  value-few t =
      let bounded =
      thread-bounded (funding_of s) short.order.no_cycle short.order.funds_there s.limits.unit (live_of s) t in
      omega (arith, bounded, (order-sound s short.order).bounded.base)

  -- a reason has a value, the quantum, and less ticks
  reason-short : (t : ℕ) → IfSome (compensation_of s t) IsShortReason
  reason-short t = at (at_number s.records t) refl
    where
      of : (o : Option ℕ) → IfSome o (λ used. (0 < used) × (used < s.limits.quantum)) → IfSome (option_map
          (λ used. record { value = value_of s t; quantum = s.limits.quantum; used = used }) o) IsShortReason
      of None part = tt
      of (Some used) part =
          let quantum = short.order.bounds.of_quantum.1 in
          record { value = value-few t; quantum = quantum; used = omega (arith, part.1, quantum) }

      at : (o : Option Record) → at_number s.records t ≡ o
          → IfSome (option_map (λ used. record { value = value_of s t; quantum = s.limits.quantum; used = used })
          (option_and_then (λ (r : Record). r.compensation) o)) IsShortReason
      at None is = tt
      at (Some r) is = of r.compensation (part-at s.limits.quantum s.records t r short.parts is)

  -- the lots of threads that are there have short names
  each-short : (v : ℕ → ℕ) (why : ℕ → Option Compensation) → ((t : ℕ) → IfSome (why t) IsShortReason) → (ts : List ℕ)
      → AreThere s ts → All IsShortLot (map (λ t. lot_of s t (v t) (why t)) ts)
  each-short v why reasons [] there = All-nil IsShortLot
  each-short v why reasons (t ∷ ts) there =
      let first = there 0 t refl in
      let within = numbered s.records t first.0 first.1 in
      All-cons IsShortLot (lot_of s t (v t) (why t)) (map (λ u. lot_of s u (v u) (why u)) ts)
      (record { thread = omega (arith, within.1, short.room, short.order.bounds.of_threads.1); name = name-short t; reason = reasons t })
      (each-short v why reasons ts (λ place u at. there (suc place) u at))

  -- a thread with a row is one of those that there may be
  row-few : (t : ℕ) (row : ThreadRow) → thread_row s t ≡ Some row → t ≤ 4096
  row-few t row is =
      let (r, there, same) = rows-record s t row is in
      omega (arith, (numbered s.records t r.status (ap (option_map (λ (x : Record). x.status)) there)).1, short.room, short.order.bounds.of_threads.1)

  -- so are the two of a loan
  loan-in-short : (t : ℕ) (o : Option ThreadRow) → thread_row s t ≡ o → All IsShortLoan (loan_in s t o)
  loan-in-short t None is = All-nil IsShortLoan
  loan-in-short t (Some row) is = to-short (lends_to s row.status)
    where
      to-short : (o : Option ℕ) → All IsShortLoan (loan_to s t row o)
      to-short None = All-nil IsShortLoan
      to-short (Some to) = by (row.value == 0) (thread_row s to) refl
        where
          loan : Loan
          loan = record { thread = t; name = row.name; value = row.value; to = to }

          short-loan : (borrower : ThreadRow) → thread_row s to ≡ Some borrower → IsShortLoan loan
          short-loan borrower there =
              let (r, _, same) = rows-record s t row is in
              record {
                thread = row-few t row is;
                name = subst (λ (x : ThreadRow). length x.name ≤ 16) same (name-short t);
                value = subst (λ (x : ThreadRow). x.value < 2 ^ 66) same (value-few t);
                to = row-few to borrower there;
              }

          by : (b : Bool) (o : Option ThreadRow) → thread_row s to ≡ o
              → All IsShortLoan (cond (b || is_none o) [] (loan ∷ []))
          by true o there = All-nil IsShortLoan
          by false None there = All-nil IsShortLoan
          by false (Some borrower) there =
              All-cons IsShortLoan loan [] (short-loan borrower there) (All-nil IsShortLoan)

  -- and of each loan
  loans-each : (ts : List ℕ) → All IsShortLoan (flat_map (loan_of s) ts)
  loans-each [] = All-nil IsShortLoan
  loans-each (t ∷ ts) = All-append IsShortLoan (loan_of s t) (flat_map (loan_of s) ts)
      (loan-in-short t (thread_row s t) refl) (loans-each ts)

  -- those of a draw: the Ready threads and those that lend are some of all
  draw-short : AreShort s (draw_lots s) (all_loans s)
  draw-short =
      let ready = ready_threads s.records in
      let test : ℕ → Bool = λ t. option_any is_ready (status_of s.records t) in
      let sound = order-sound s short.order in
      record {
        few = omega (arith, length-map ready (ready_lot s), entries-few s (numbers s.records), length-range_with_len 1 (length s.records), short.room);
        each_loan = loans-each (numbers s.records);
        each = each-short (weight_of s) (compensation_of s) reason-short ready (λ place t at.
            (status.Ready, is-ready (status_of s.records t) (filter-passes test (numbers s.records) place t at)));
        total = omega (arith, weighs s (weight_of s) (compensation_of s) ready, sum-map (weight_of s) ready, sound.bounded.weights);
      }

  -- those of the lottery of a mutex: who waits for it stands there once
  waiters-short : (m : ℕ) → AreShort s (mutex_lots s m) []
  waiters-short m = from (at_number s.mutexes m) refl
    where
      from : (o : Option Mutex) → at_number s.mutexes m ≡ o
          → AreShort s (map (waiter_lot s) (unwrap_or {T = Mutex} o (record { owner = None; waiters = [] })).waiters) []
      from None is =
          record { few = omega arith; each = All-nil IsShortLot; each_loan = All-nil IsShortLoan; total = omega arith }
      from (Some mutex) is =
          let queue = short.order.queues.waiters m mutex is in
          let sound = order-sound s short.order in
          let worth = waiters-worth s short.order.no_cycle short.order.funds_there m mutex.waiters queue in
          let few = once-few (length s.records) mutex.waiters queue.once
          (λ place t at. numbered s.records t (status.Waiting m) (queue.each place t at)) in
          record {
            few = omega (arith, length-map mutex.waiters (waiter_lot s), few, short.room);
            each_loan = All-nil IsShortLoan;
            each = each-short (value_of s) (λ t. None) (λ t. tt) mutex.waiters
                (λ place t at. (status.Waiting m, queue.each place t at));
            total = omega (arith, weighs s (value_of s) (λ t. None) mutex.waiters, worth, sound.bounded.base);
          }

  -- and those of whoever takes part
  pub among-short : (who : Entrants) → AreShort s (lots_among s who) (loans_among s who)
  among-short Nobody =
      record { few = omega arith; each = All-nil IsShortLot; each_loan = All-nil IsShortLoan; total = omega arith }
  among-short Ready = draw-short
  among-short (Waiters m) = waiters-short m
