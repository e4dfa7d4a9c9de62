-- The active amount of a currency, by its tickets and by the edges of the net.
use Rattle.lot_active.proofs.Common.{AwakeAre, Bool, Currency, Edge, EdgePlaces, FitsIn, Funding, Layout, List, Mutex, Node, None, OfLender, OfMutex, OfTicket, Option, Some, Target, Tells, Thread, Ticket, active_amount, amount_from, ap, arith, cases_lt, cond, counted_amount, edge-by, edge_at, edge_count, ends-ticket, ends_of, false, filter, filter_map, inl, inr, is_active, is_active-exact, le-ltb, leads_to, leads_to_passed, lender-ends, length, lt-ltb, mutex-ends, net_of, node_place, option_and_then, option_flatten, option_map, part, places_of_edge, refl, same-list, slice_get, slice_get_past, suc, sum_below, sum_by, sum_by-cons, sym, target_node, ticket-ends, ticket_at, ticket_in-suc, true, unwrap_or, zero, ℕ, [], ◌&&◌, ◌+◌, ◌-◌, ◌<◌, ◌==◌, ◌∙◌, ◌∷◌, ◌≡◌, ◌≤◌, ◌⊎◌}
use Rattle.lot_machine.specs.declared.ticket.Target.TheVariants as target
use Rattle.lot_machine.specs.Facts as facts
use Rattle.lot_active.proofs.Sums.{sum-same, part-off}
use Rattle.lot_active.proofs.Ends.{places-ends}
use Rattle.lot_active.proofs.Ways.{net-active, active-net, ticket-active, active-ticket}

-- ---- sums

-- the last terms are nothing
sum-short : (few more : ℕ) (h : ℕ → ℕ) → ((i : ℕ) → few ≤ i → h i ≡ 0) → sum_below (few + more) h ≡ sum_below few h
sum-short few zero h nothing = ap (λ m. sum_below m h) (let same : few + zero ≡ few = omega arith in same)
sum-short few (suc more) h nothing =
    let before = sum-short few more h nothing in
    let last = nothing (few + more) (omega arith) in
    ap (λ m. sum_below m h) (let same : few + suc more ≡ suc (few + more) = omega arith in same)
    ∙ omega (arith, before, last)

-- the first term by itself
sum-first : (m : ℕ) (h : ℕ → ℕ) → sum_below (suc m) h ≡ h 0 + sum_below m (λ i. h (suc i))
sum-first zero h = omega arith
sum-first (suc m) h = let before = sum-first m h in omega (arith, before)

-- by the places of a list
sum-places : {A : Type 0} (worth : Option A → ℕ) (each : A → ℕ) (xs : List A) → ((x : A) → worth (Some x) ≡ each x)
    → sum_below (length xs) (λ i. worth (slice_get xs i)) ≡ sum_by each xs
sum-places worth each [] same = refl
sum-places worth each (x ∷ xs) same =
    sum-first (length xs) (λ i. worth (slice_get (x ∷ xs) i))
    ∙ omega (arith, same x, sum-places worth each xs same, sum_by-cons each x xs)

-- over those that are there and pass two tests
sum-passed : (p q : Ticket → Bool) (xs : List (Option Ticket)) (each : Option Ticket → ℕ) → each None ≡ 0
    → ((t : Ticket) → each (Some t) ≡ cond (q t) (cond (p t) t.amount 0) 0)
    → sum_by (λ t. t.amount) (filter p (filter q (filter_map (λ t. t) xs))) ≡ sum_by each xs
sum-passed p q [] each none some = refl
sum-passed p q (None ∷ xs) each none some = sum-passed p q xs each none some
    ∙ sym (omega (arith, sum_by-cons each None xs, none))
sum-passed p q (Some t ∷ xs) each none some = outer (q t) (some t) (sum-passed p q xs each none some)
  where
    ys : List Ticket
    ys = filter q (filter_map (λ u. u) xs)

    inner : (b : Bool) → each (Some t) ≡ cond b t.amount 0
        → sum_by (λ (u : Ticket). u.amount) (filter p ys) ≡ sum_by each xs
        → sum_by (λ (u : Ticket). u.amount) (cond b (t ∷ filter p ys) (filter p ys)) ≡ sum_by each (Some t ∷ xs)
    inner true is more = sum_by-cons (λ (u : Ticket). u.amount) t (filter p ys)
        ∙ omega (arith, is, more, sum_by-cons each (Some t) xs)
    inner false is more = omega (arith, is, more, sum_by-cons each (Some t) xs)

    outer : (a : Bool) → each (Some t) ≡ cond a (cond (p t) t.amount 0) 0
        → sum_by (λ (u : Ticket). u.amount) (filter p ys) ≡ sum_by each xs
        → sum_by (λ (u : Ticket). u.amount) (filter p (cond a (t ∷ ys) ys)) ≡ sum_by each (Some t ∷ xs)
    outer true is more = inner (p t) is more
    outer false is more = omega (arith, is, more, sum_by-cons each (Some t) xs)

-- ---- edges by place

place-ticket : (l : Layout) (i n : ℕ) → edge_at l i ≡ OfTicket n → (i < l.tickets) × (n ≡ i + 1)
place-ticket l i n is = by (cases_lt i l.tickets) (cases_lt i (l.tickets + l.threads))
  where
    index : Edge → ℕ
    index (OfTicket k) = k
    index (OfLender k) = k
    index (OfMutex k) = k

    by : (i < l.tickets) ⊎ (l.tickets ≤ i) → (i < l.tickets + l.threads) ⊎ (l.tickets + l.threads ≤ i)
        → (i < l.tickets) × (n ≡ i + 1)
    by (inl a) b =
        let at : OfTicket (i + 1) ≡ OfTicket n =
        sym (edge-by l i true true (lt-ltb i l.tickets a) (lt-ltb i (l.tickets + l.threads) (omega (arith, a)))) ∙ is in
        let same : i + 1 ≡ n = cc in
        (a, sym same)
    by (inr a) (inl b) = let wrong : OfLender (i - l.tickets + 1) ≡ OfTicket n =
        sym (edge-by l i false true (le-ltb i l.tickets a) (lt-ltb i (l.tickets + l.threads) b)) ∙ is in cc
    by (inr a) (inr b) = let wrong : OfMutex (i - (l.tickets + l.threads) + 1) ≡ OfTicket n =
        sym (edge-by l i false false (le-ltb i l.tickets a) (le-ltb i (l.tickets + l.threads) b)) ∙ is in cc

ticket-place : (l : Layout) (i : ℕ) → i < l.tickets → edge_at l i ≡ OfTicket (i + 1)
ticket-place l i low =
    edge-by l i true true (lt-ltb i l.tickets low) (lt-ltb i (l.tickets + l.threads) (omega (arith, low)))

ticket-slot : (f : Funding) (i : ℕ) → ticket_at f (i + 1) ≡ option_flatten (slice_get f.tickets i)
ticket-slot f i = ap (ticket_at f) (let same : i + 1 ≡ suc i = omega arith in same) ∙ ticket_in-suc f.tickets i

unfunded-only : (to : Target) → target_node to ≡ None → to ≡ target.Unfunded
unfunded-only target.Unfunded e = refl
unfunded-only (target.Currency d) e = cc
unfunded-only (target.Thread u) e = cc

two-tests : (b e : Bool) (x : ℕ) → cond (b && e) x 0 ≡ cond e (cond b x 0) 0
two-tests true true x = refl
two-tests true false x = refl
two-tests false true x = refl
two-tests false false x = refl

nothing-passes : (e : Bool) → ◌≡◌ {A = ℕ} 0 (cond e 0 0)
nothing-passes true = refl
nothing-passes false = refl

same-bool : (a b : Bool) → (a ≡ true → b ≡ true) → (b ≡ true → a ≡ true) → a ≡ b
same-bool true true p q = refl
same-bool false false p q = refl
same-bool true false p q = let wrong = p refl in cc
same-bool false true p q = let wrong = q refl in cc

module _ (l : Layout) (f : Funding) (live awake : List Bool) (fits : FitsIn l f) (are : AwakeAre l live awake)
    (none : facts.HasNoCycle f) (there : facts.FundsThere f) (c : ℕ) (low : c ≤ l.currencies) (test : ℕ → Bool)
    (tells : Tells (net_of l f) awake test) where
  -- what a ticket's place is worth to the amount
  worth : Option (Option Ticket) → ℕ
  worth None = 0
  worth (Some None) = 0
  worth (Some (Some t)) = cond (t.issuer == c) (cond (is_active f live t) t.amount 0) 0

  piece : ℕ → ℕ
  piece i = part (places_of_edge l f (edge_at l i)) (leads_to (net_of l f) test i) c

  -- after the tickets nothing leaves the currency
  past : (i : ℕ) → length f.tickets ≤ i → piece i ≡ 0
  unfolding piece
  past i high = by (places_of_edge l f (edge_at l i)) refl
    where
      ends-none : (a : EdgePlaces) → places_of_edge l f (edge_at l i) ≡ Some a → ¬ (a.from ≡ c)
      ends-none a is same =
          let r = places-ends l f (edge_at l i) a is in
          let from_is : r.0 ≡ Currency c =
          same-list l r.0 (Currency c) (fits.from (edge_at l i) r.0 r.1 r.2) low (sym r.3 ∙ same) in
          inside (edge_at l i) refl r.0 r.1 r.2 from_is
        where
          inside : (edge : Edge) → edge_at l i ≡ edge → (from to : Node) → ends_of f (edge_at l i) ≡ Some (from, to)
              → from ≡ Currency c → ⊥
          inside (OfTicket n) at from to ends from_is =
              let t = ticket-ends f n from to (ap (ends_of f) (sym at) ∙ ends) in
              let place = place-ticket l i n at in
              let gone : option_flatten (slice_get f.tickets i) ≡ None =
              ap option_flatten (slice_get_past f.tickets i high) in
              let slot : ticket_at f n ≡ None = ap (ticket_at f) place.1 ∙ ticket-slot f i ∙ gone in
              let wrong : None ≡ Some t.0 = sym slot ∙ t.1 in
              cc
          inside (OfLender t) at from to ends from_is = let r = lender-ends f t from to
              (ap (ends_of f) (sym at) ∙ ends) in let wrong : Thread t ≡ Currency c = sym r.2 ∙ from_is in cc
          inside (OfMutex m) at from to ends from_is = let r = mutex-ends f m from to
              (ap (ends_of f) (sym at) ∙ ends) in let wrong : Mutex m ≡ Currency c = sym r.2 ∙ from_is in cc

      by : (o : Option EdgePlaces) → places_of_edge l f (edge_at l i) ≡ o → part o (leads_to (net_of l f) test i) c ≡ 0
      by None is = refl
      by (Some a) is = part-off a (leads_to (net_of l f) test i) c (ends-none a is)

  -- a ticket is marked if and only if it is active
  marked : (n : ℕ) (t : Ticket) (to : Node) → ticket_at f n ≡ Some t → target_node t.target ≡ Some to
      → test (node_place l to) ≡ is_active f live t
  marked n t to here at =
      let within = fits.to (OfTicket n) (Currency t.issuer) to (ends-ticket f n t to here at) in
      let exact = is_active-exact f none there live n t here in
      same-bool (test (node_place l to)) (is_active f live t) (λ on. exact.1 (ticket-active f live n t to here at
      (net-active l f live awake fits are to within ((tells (node_place l to)).0 on))))
      (λ on. (tells (node_place l to)).1
      (active-net l f live awake fits are to within (active-ticket f live n t to here at (exact.0 on))))

  -- by the ends of the edge
  abbrev ended : ℕ → Option (Node × Node) → ℕ
  ended i o = part (option_map (λ (ends : Node × Node). let a : EdgePlaces =
      record { from = node_place l ends.0; to = node_place l ends.1; amount = counted_amount f (OfTicket (i + 1)) } in
      a) o)
      (leads_to_passed test (option_map (λ (ends : Node × Node). let a : EdgePlaces =
      record { from = node_place l ends.0; to = node_place l ends.1; amount = counted_amount f (OfTicket (i + 1)) } in
      a) o)) c

  none-there : (i : ℕ) → ticket_at f (i + 1) ≡ None → part (places_of_edge l f (OfTicket (i + 1)))
      (leads_to_passed test (places_of_edge l f (OfTicket (i + 1)))) c ≡ 0
  none-there i gone = ap (ended i) (ap (option_and_then (λ (u : Ticket).
      option_map (λ to. let p : Node × Node = (Currency u.issuer, to) in p) (target_node u.target))) gone)

  some-there : (i : ℕ) (t : Ticket) → ticket_at f (i + 1) ≡ Some t → (o : Option Node) → target_node t.target ≡ o
      → part (places_of_edge l f (OfTicket (i + 1))) (leads_to_passed test (places_of_edge l f (OfTicket (i + 1)))) c
      ≡ cond (t.issuer == c) (cond (is_active f live t) t.amount 0) 0
  some-there i t here None target_is =
      let ends : ends_of f (OfTicket (i + 1)) ≡ None = ap (option_and_then (λ (u : Ticket).
      option_map (λ to. let p : Node × Node = (Currency u.issuer, to) in p) (target_node u.target))) here
      ∙ ap (option_map (λ to. let p : Node × Node = (Currency t.issuer, to) in p)) target_is in
      let idle : is_active f live t ≡ false = inactive (unfunded-only t.target target_is) in
      ap (ended i) ends ∙ nothing-passes (t.issuer == c)
      ∙ sym (ap (λ b. cond (t.issuer == c) (cond b t.amount 0) 0) idle)
    where
      inactive : t.target ≡ target.Unfunded → is_active f live t ≡ false
      inactive same = rw same refl
  some-there i t here (Some to) target_is =
      let ends = ends-ticket f (i + 1) t to here target_is in
      let amount : counted_amount f (OfTicket (i + 1)) ≡ t.amount =
      ap (λ (o : Option Ticket). unwrap_or (option_map (λ (u : Ticket). u.amount) o) 0) here in
      ap (ended i) ends ∙ two-tests (test (node_place l to)) (t.issuer == c) (counted_amount f (OfTicket (i + 1)))
      ∙ ap (λ b. cond (t.issuer == c) (cond b (counted_amount f (OfTicket (i + 1))) 0) 0)
      (marked (i + 1) t to here target_is)
      ∙ ap (λ x. cond (t.issuer == c) (cond (is_active f live t) x 0) 0) amount

  -- each ticket's place gives what the ticket is worth
  same-piece : (i : ℕ) → i < length f.tickets → piece i ≡ worth (slice_get f.tickets i)
  unfolding piece worth
  same-piece i below = ap (λ edge. part (places_of_edge l f edge) (leads_to_passed test (places_of_edge l f edge)) c) at
      ∙ by (slice_get f.tickets i) refl
    where
      at : edge_at l i ≡ OfTicket (i + 1)
      at = ticket-place l i (omega (arith, below, fits.tickets))

      by : (o : Option (Option Ticket)) → slice_get f.tickets i ≡ o → part (places_of_edge l f (OfTicket (i + 1)))
          (leads_to_passed test (places_of_edge l f (OfTicket (i + 1)))) c ≡ worth o
      by None is = none-there i (ticket-slot f i ∙ ap option_flatten is)
      by (Some None) is = none-there i (ticket-slot f i ∙ ap option_flatten is)
      by (Some (Some t)) is = some-there i t (ticket-slot f i ∙ ap option_flatten is) (target_node t.target) refl

  pub same-amount : amount_from (net_of l f) (leads_to (net_of l f) test) c ≡ active_amount f live c
  unfolding piece worth
  same-amount =
      let more : edge_count l ≡ length f.tickets + (edge_count l - length f.tickets) = omega (arith, fits.tickets) in
      ap (λ m. sum_below m piece) more ∙ sum-short (length f.tickets) (edge_count l - length f.tickets) piece past
      ∙ sum-same (length f.tickets) piece (λ i. worth (slice_get f.tickets i)) same-piece
      ∙ sum-places worth (λ o. worth (Some o)) f.tickets (λ o. refl)
      ∙ sym (sum-passed (is_active f live) (λ t. t.issuer == c) f.tickets (λ o. worth (Some o)) refl (λ t. refl))
