-- The tables after a ticket or a currency is made in the first free place.
use Rattle.lot_kernel.proofs.Common.{Freed, List, Option, QueueLists, ReuseCurrency, ReuseTicket, Sizes, Some, State, Threaded, Ticket, ap, applied_in, drop, false, free_currencies, free_tickets, held, is_some, map-set, none_free, option_map, slice_get, slice_set, subst, sym, threads_of, true, with_currency, with_ticket, ℕ, ◌+◌, ◌∙◌, ◌≡◌}
use Rattle.lot_kernel.proofs.Holding.{IsHeld, snapshot_of}
use Rattle.lot_kernel.proofs.Reusing.{given-tickets, given-currencies, ticket-again, currency-again}

module _ (sizes : Sizes) (freed : Freed) (names : List (Option (List ℕ))) (v new : Threaded) (q : QueueLists) where
  -- the threads are held with a currency in a place that was free
  pub held-again : IsHeld sizes freed names v q → (c : ℕ) (name : List ℕ)
      → new ≡ record v { currencies = slice_set v.currencies c true; stale = new.stale }
      → IsHeld sizes freed (slice_set names c (Some name)) new q
  held-again was c name is =
      subst (λ n. IsHeld sizes freed (slice_set names c (Some name)) n q) (sym is)
      (ap (λ (w : Threaded). record w { currencies = slice_set w.currencies c true; stale = new.stale }) was
      ∙ ap (λ flags. record (threads_of (held sizes freed names v q) new.stale v.meter) { currencies = flags })
      (sym (map-set is_some names c (Some name))))

  module _ (places : List ℕ) (none : sizes.reuse ≡ false → freed ≡ none_free) (same : new.stale ≡ v.stale) where
    abbrev before : State
    before = held sizes freed names v q

    -- the ticket is in the first free place, which is free no longer
    pub ticket-there : (place : ℕ) (ticket : Ticket) → new ≡ applied_in v (ReuseTicket (place + 1) ticket) new.stale
        → places ≡ drop 1 freed.tickets → Some place ≡ slice_get freed.tickets 0
        → snapshot_of sizes (record freed { tickets = places }) names q new
        ≡ record (snapshot_of sizes freed names q v) { state = with_ticket before ticket }
    ticket-there place ticket applied rest first =
        ap (snapshot_of sizes (record freed { tickets = places }) names q) applied
        ∙ ap (λ free. snapshot_of sizes (record freed { tickets = free }) names q
        (applied_in v (ReuseTicket (place + 1) ticket) new.stale)) rest
        ∙ ap (λ stale. snapshot_of sizes (record freed { tickets = drop 1 freed.tickets }) names q
        (applied_in v (ReuseTicket (place + 1) ticket) stale)) same
        ∙ ap (λ s. record (snapshot_of sizes freed names q v) { state = s })
        (ticket-again before place ticket (given-tickets before none) (sym first))

    -- so is the currency
    pub currency-there : (place : ℕ) (name : List ℕ) → new ≡ applied_in v (ReuseCurrency place) new.stale
        → places ≡ drop 1 freed.currencies → Some place ≡ slice_get freed.currencies 0
        → snapshot_of sizes (record freed { currencies = places }) (slice_set names place (Some name)) q new
        ≡ record (snapshot_of sizes freed names q v) { state = with_currency before name }
    currency-there place name applied rest first =
        ap (snapshot_of sizes (record freed { currencies = places }) (slice_set names place (Some name)) q) applied
        ∙ ap (λ free. snapshot_of sizes (record freed { currencies = free }) (slice_set names place (Some name)) q
        (applied_in v (ReuseCurrency place) new.stale)) rest
        ∙ ap (λ stale. snapshot_of sizes (record freed { currencies = drop 1 freed.currencies })
        (slice_set names place (Some name)) q (applied_in v (ReuseCurrency place) stale)) same
        ∙ ap (λ s. record (snapshot_of sizes freed names q v) { state = s })
        (currency-again before place name (given-currencies before none) (sym first))

-- the number that is given again is that of the first free place
module _ (s : State) (none : s.limits.reuse ≡ false → s.freed ≡ none_free) where
  pub ticket-number : (o r : Option ℕ) → o ≡ slice_get s.freed.tickets 0 → r ≡ option_map (λ (place : ℕ). place + 1) o
      → r ≡ option_map (λ (place : ℕ). place + 1) (slice_get (free_tickets s) 0)
  ticket-number o r first is = is ∙ ap (option_map (λ (place : ℕ). place + 1))
      (first ∙ ap (λ places. slice_get places 0) (sym (given-tickets s none)))

  pub currency-number : (o : Option ℕ) → o ≡ slice_get s.freed.currencies 0 → o ≡ slice_get (free_currencies s) 0
  currency-number o first = first ∙ ap (λ places. slice_get places 0) (sym (given-currencies s none))
