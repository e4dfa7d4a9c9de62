-- The state after a new element in a free place or at the end of a table, and after a place is freed.
use Rattle.lot_kernel.proofs.Common.{Bool, FreeStack, Freed, HasIdlePlace, HasRoomFor, IsInOrder, List, None, Option, Record, Sizes, Some, State, Thread, Ticket, ap, are_currencies_full, are_threads_full, are_tickets_full, arith, at_number, at_number-suc, cond, drop, drop_currency, drop_thread, drop_ticket, false, flatten-some, free_currencies, free_threads, free_tickets, freed_in, is_none_free, is_some, leb-false, length, length-append, length-set, ltb-false, map, nat_le, nat_lt, newborn, next_currency, next_place, next_thread, next_ticket, none_free, option_map, place-kept, placed, refl, set_number, slice_get, slice_get-map, slice_get_within, slice_set, some-injective, suc, sym, ticket_in, true, with_currency, with_thread, with_ticket, without_ticket, zero, ℕ, [], ◌&&◌, ◌++◌, ◌+◌, ◌-◌, ◌<◌, ◌∙◌, ◌∷◌, ◌≡◌, ◌≤◌}
use Rattle.lot_kernel.specs.declared.freed.Freed.{Freed as Stacks}
use Rattle.lot_kernel.proofs.Freeing.{given-same, set-place, placed-first, free-few, ticket-gap, currency-gap, thread-gap}

-- ---- which place comes first

-- none is free if none comes first
pub none-first : (free : List ℕ) → None ≡ option_map (λ (place : ℕ). place + 1) (slice_get free 0) → free ≡ []
none-first [] is = refl
none-first (place ∷ free) is = cc

-- ---- tickets

module _ (s : State) where
  -- a ticket in the first free place
  pub ticket-again : (place : ℕ) (ticket : Ticket) → free_tickets s ≡ s.freed.tickets
      → slice_get s.freed.tickets 0 ≡ Some place
      → record s { tickets = set_number s.tickets (place + 1) (Some ticket); freed = record s.freed { tickets = drop 1 s.freed.tickets } }
      ≡ with_ticket s ticket
  ticket-again place ticket given first =
      ap (λ ts. record s { tickets = ts; freed = record s.freed { tickets = drop 1 s.freed.tickets } })
      (set-place s.tickets place (Some ticket) ∙ sym (placed-first s.tickets s.freed.tickets place (Some ticket) first))
      ∙ ap (λ free.
      record s { tickets = placed s.tickets free (Some ticket); freed = record s.freed { tickets = drop 1 free } })
      (sym given)

  -- at the end, if no place is free
  pub ticket-last : (ticket : Ticket) → free_tickets s ≡ s.freed.tickets → free_tickets s ≡ []
      → record s { tickets = s.tickets ++ Some ticket ∷ [] } ≡ with_ticket s ticket
  ticket-last ticket given none =
      ap (λ free. record s { tickets = s.tickets ++ Some ticket ∷ []; freed = record s.freed { tickets = free } })
      (sym given ∙ none)
      ∙ ap (λ free.
      record s { tickets = placed s.tickets free (Some ticket); freed = record s.freed { tickets = drop 1 free } })
      (sym none)

  pub first-ticket : (n : ℕ) → Some n ≡ option_map (λ (place : ℕ). place + 1) (slice_get (free_tickets s) 0)
      → n ≡ next_ticket s
  first-ticket n = by (free_tickets s) refl
    where
      by : (free : List ℕ) → free_tickets s ≡ free → Some n ≡ option_map (λ (place : ℕ). place + 1) (slice_get free 0)
          → n ≡ next_ticket s
      by [] e is = cc
      by (place ∷ free) e is = some-injective n (place + 1) is ∙ sym (ap (λ places. next_place s.tickets places + 1) e)

  pub last-ticket : free_tickets s ≡ [] → next_ticket s ≡ length s.tickets + 1
  last-ticket none = ap (λ places. next_place s.tickets places + 1) none

  pub ticket-room : free_tickets s ≡ [] → are_tickets_full s ≡ false → length s.tickets < s.limits.tickets
  ticket-room none room = leb-false s.limits.tickets (length s.tickets)
      (sym (ap (λ places. is_none_free places && nat_le s.limits.tickets (length s.tickets)) none) ∙ room)

-- ---- currencies

module _ (s : State) where
  pub currency-again : (place : ℕ) (name : List ℕ) → free_currencies s ≡ s.freed.currencies
      → slice_get s.freed.currencies 0 ≡ Some place
      → record s { currencies = slice_set s.currencies place (Some name); freed = record s.freed { currencies = drop 1 s.freed.currencies } }
      ≡ with_currency s name
  currency-again place name given first =
      ap (λ cs. record s { currencies = cs; freed = record s.freed { currencies = drop 1 s.freed.currencies } })
      (sym (placed-first s.currencies s.freed.currencies place (Some name) first))
      ∙ ap (λ free. record s { currencies = placed s.currencies free (Some name); freed = record s.freed { currencies = drop 1 free } }) (sym given)

  pub currency-last : (name : List ℕ) → free_currencies s ≡ s.freed.currencies → free_currencies s ≡ []
      → record s { currencies = s.currencies ++ Some name ∷ [] } ≡ with_currency s name
  currency-last name given none =
      ap
      (λ free. record s { currencies = s.currencies ++ Some name ∷ []; freed = record s.freed { currencies = free } })
      (sym given ∙ none)
      ∙ ap (λ free. record s { currencies = placed s.currencies free (Some name); freed = record s.freed { currencies = drop 1 free } }) (sym none)

  pub first-currency : (n : ℕ) → Some n ≡ slice_get (free_currencies s) 0 → n ≡ next_currency s
  first-currency n = by (free_currencies s) refl
    where
      by : (free : List ℕ) → free_currencies s ≡ free → Some n ≡ slice_get free 0 → n ≡ next_currency s
      by [] e is = cc
      by (place ∷ free) e is = some-injective n place is ∙ sym (ap (next_place s.currencies) e)

  pub last-currency : free_currencies s ≡ [] → next_currency s ≡ length s.currencies
  last-currency none = ap (next_place s.currencies) none

  pub currency-room : free_currencies s ≡ [] → are_currencies_full s ≡ false → length s.currencies ≤ s.limits.currencies
  currency-room none room = ltb-false s.limits.currencies (length s.currencies)
      (sym (ap (λ places. is_none_free places && nat_lt s.limits.currencies (length s.currencies)) none) ∙ room)

-- ---- threads

module _ (s : State) where
  abbrev made_with : List (Option Thread) → List Record → List (List ℕ) → List ℕ → State
  made_with threads records clients free =
      record s { threads = threads; records = records; clients = clients; freed = record s.freed { threads = free } }

  -- where nobody was served
  pub thread-again : (place : ℕ) (name : List ℕ) (script : ℕ) → free_threads s ≡ s.freed.threads
      → slice_get s.freed.threads 0 ≡ Some place → slice_get s.clients place ≡ Some []
      → made_with (set_number s.threads (place + 1) (Some (record { name = name; script = script })))
      (set_number s.records (place + 1) newborn) s.clients (drop 1 s.freed.threads) ≡ with_thread s name script
  thread-again place name script given first idle =
      let made : Thread = record { name = name; script = script } in
      let free = s.freed.threads in
      ap (λ ts. made_with ts (set_number s.records (place + 1) newborn) s.clients (drop 1 free))
      (set-place s.threads place (Some made) ∙ sym (placed-first s.threads free place (Some made) first))
      ∙ ap (λ rs. made_with (placed s.threads free (Some made)) rs s.clients (drop 1 free))
      (set-place s.records place newborn ∙ sym (placed-first s.records free place newborn first))
      ∙ ap (λ cs. made_with (placed s.threads free (Some made)) (placed s.records free newborn) cs (drop 1 free))
      (sym (place-kept s.clients place [] idle) ∙ sym (placed-first s.clients free place [] first))
      ∙ ap (λ places. made_with (placed s.threads places (Some made)) (placed s.records places newborn)
      (placed s.clients places []) (drop 1 places)) (sym given)

  pub thread-last : (name : List ℕ) (script : ℕ) → free_threads s ≡ s.freed.threads → free_threads s ≡ []
      → record s { threads = s.threads ++ Some (record { name = name; script = script }) ∷ []; records = s.records ++ newborn ∷ []; clients = s.clients ++ [] ∷ [] }
      ≡ with_thread s name script
  thread-last name script given none =
      let made : Thread = record { name = name; script = script } in
      ap (made_with (s.threads ++ Some made ∷ []) (s.records ++ newborn ∷ []) (s.clients ++ [] ∷ [])) (sym given ∙ none)
      ∙ ap (λ places. made_with (placed s.threads places (Some made)) (placed s.records places newborn)
      (placed s.clients places []) (drop 1 places)) (sym none)

  pub first-thread : (n : ℕ) → Some n ≡ option_map (λ (place : ℕ). place + 1) (slice_get (free_threads s) 0)
      → n ≡ next_thread s
  first-thread n = by (free_threads s) refl
    where
      by : (free : List ℕ) → free_threads s ≡ free → Some n ≡ option_map (λ (place : ℕ). place + 1) (slice_get free 0)
          → n ≡ next_thread s
      by [] e is = cc
      by (place ∷ free) e is = some-injective n (place + 1) is ∙ sym (ap (λ places. next_place s.threads places + 1) e)

  pub last-thread : free_threads s ≡ [] → next_thread s ≡ length s.threads + 1
  last-thread none = ap (λ places. next_place s.threads places + 1) none

  pub thread-room : free_threads s ≡ [] → are_threads_full s ≡ false → length s.threads < s.limits.threads
  thread-room none room = leb-false s.limits.threads (length s.threads)
      (sym (ap (λ places. is_none_free places && nat_le s.limits.threads (length s.threads)) none) ∙ room)

-- ---- places that are left

-- none is left if numbers are given once
pub left-given : (reuse : Bool) (pushed free : List ℕ) → (reuse ≡ false → free ≡ [])
    → cond {A = List ℕ} reuse pushed free ≡ cond {A = List ℕ} reuse pushed []
left-given true pushed free none = refl
left-given false pushed free none = none refl

module _ (s : State) (none : s.limits.reuse ≡ false → s.freed ≡ none_free) where
  pub given-tickets : free_tickets s ≡ s.freed.tickets
  given-tickets = given-same s.limits.reuse s.freed.tickets (λ off. ap (λ (f : Freed). f.tickets) (none off))

  pub given-currencies : free_currencies s ≡ s.freed.currencies
  given-currencies = given-same s.limits.reuse s.freed.currencies (λ off. ap (λ (f : Freed). f.currencies) (none off))

  pub given-threads : free_threads s ≡ s.freed.threads
  given-threads = given-same s.limits.reuse s.freed.threads (λ off. ap (λ (f : Freed). f.threads) (none off))

  pub ticket-left : (n : ℕ)
      → record s { tickets = without_ticket s.tickets n; freed = record s.freed { tickets = cond {A = List ℕ} s.limits.reuse ((n - 1) ∷ s.freed.tickets) s.freed.tickets } } ≡ drop_ticket s n
  ticket-left n =
      ap (λ free. record s { tickets = without_ticket s.tickets n; freed = record s.freed { tickets = free } })
      (left-given s.limits.reuse ((n - 1) ∷ s.freed.tickets) s.freed.tickets
      (λ off. ap (λ (f : Freed). f.tickets) (none off)))

  pub currency-left : (c : ℕ)
      → record s { currencies = slice_set s.currencies c None; freed = record s.freed { currencies = cond {A = List ℕ} s.limits.reuse (c ∷ s.freed.currencies) s.freed.currencies } }
      ≡ drop_currency s c
  currency-left c =
      ap (λ free. record s { currencies = slice_set s.currencies c None; freed = record s.freed { currencies = free } })
      (left-given s.limits.reuse (c ∷ s.freed.currencies) s.freed.currencies
      (λ off. ap (λ (f : Freed). f.currencies) (none off)))

  pub thread-left : (t : ℕ)
      → record s { threads = set_number s.threads t None; freed = record s.freed { threads = cond {A = List ℕ} s.limits.reuse ((t - 1) ∷ s.freed.threads) s.freed.threads } } ≡ drop_thread s t
  thread-left t =
      ap (λ free. record s { threads = set_number s.threads t None; freed = record s.freed { threads = free } })
      (left-given s.limits.reuse ((t - 1) ∷ s.freed.threads) s.freed.threads
      (λ off. ap (λ (f : Freed). f.threads) (none off)))

-- the place that comes first is a gap
module _ (s : State) (order : IsInOrder s) (none : s.limits.reuse ≡ false → s.freed ≡ none_free) (place : ℕ) where
  pub first-ticket_gap : Some place ≡ slice_get s.freed.tickets 0 → slice_get s.tickets place ≡ Some None
  first-ticket_gap first =
      ticket-gap s order place (ap (λ places. slice_get places 0) (given-tickets s none) ∙ sym first)

  pub first-currency_gap : Some place ≡ slice_get s.freed.currencies 0 → slice_get s.currencies place ≡ Some None
  first-currency_gap first =
      currency-gap s order place (ap (λ places. slice_get places 0) (given-currencies s none) ∙ sym first)

pub first-thread_gap : (s : State) → (s.limits.reuse ≡ false → s.freed ≡ none_free) → HasIdlePlace s → (place : ℕ)
    → Some place ≡ slice_get s.freed.threads 0
    → (slice_get s.threads place ≡ Some None) × (slice_get s.clients place ≡ Some [])
first-thread_gap s none idle place first =
    idle place (ap (λ places. slice_get places 0) (given-threads s none) ∙ sym first)

-- there is room for one more free place while what leaves it is there
module _ (s : State) (order : IsInOrder s) (on : s.limits.reuse ≡ true) where
  pub ticket-fits : (n : ℕ) (t : Ticket) → ticket_in s.tickets n ≡ Some t → length s.freed.tickets < s.limits.tickets
  ticket-fits n t there = omega
      (arith, free-few s.tickets s.freed.tickets (n - 1) t (order.gaps on).tickets (place n (flatten-some (at_number s.tickets n) t there)), order.ticket_count)
    where
      place : (n : ℕ) → at_number s.tickets n ≡ Some (Some t) → slice_get s.tickets (n - 1) ≡ Some (Some t)
      place zero at = cc
      place (suc i) at = let same : suc i - 1 ≡ i = omega arith in ap (slice_get s.tickets) same
          ∙ sym (at_number-suc s.tickets i) ∙ at

  pub currency-fits : (c : ℕ) → slice_get (map is_some s.currencies) c ≡ Some true
      → length s.freed.currencies < length s.currencies
  currency-fits c there = by (slice_get s.currencies c) refl (sym (slice_get-map is_some s.currencies c) ∙ there)
    where
      by : (o : Option (Option (List ℕ))) → slice_get s.currencies c ≡ o → option_map is_some o ≡ Some true
          → length s.freed.currencies < length s.currencies
      by None at is = cc
      by (Some None) at is = cc
      by (Some (Some name)) at is = free-few s.currencies s.freed.currencies c name (order.gaps on).currencies at

  pub thread-fits : (k : ℕ) (t : Thread) → slice_get s.threads k ≡ Some (Some t)
      → length s.freed.threads < length s.threads
  thread-fits k t at = free-few s.threads s.freed.threads k t (order.gaps on).threads at

-- a ticket that is there has a number
pub ticket-some : (tickets : List (Option Ticket)) (n : ℕ) (t : Ticket) → Some t ≡ ticket_in tickets n → 0 < n
ticket-some tickets zero t is = cc
ticket-some tickets (suc i) t is = omega arith

-- the next thread has a record then
pub next-within : (s : State) (order : IsInOrder s) → length s.threads ≡ length s.records
    → next_thread s ≤ length (placed s.records (free_threads s) newborn)
next-within s order count = by (free_threads s) refl
  where
    by : (free : List ℕ) → free_threads s ≡ free
        → next_place s.threads free + 1 ≤ length (placed s.records free newborn)
    by [] e = omega (arith, count, length-append s.records (newborn ∷ []))
    by (place ∷ free) e =
        let gap = thread-gap s order place (ap (λ places. slice_get places 0) e) in
        omega (arith, slice_get_within s.threads place None gap, count, length-set s.records place newborn)

-- ---- the stacks then

module _ (sizes : Sizes) (old : Stacks) (room : HasRoomFor sizes old) where
  -- if numbers are given again, there is room for each place
  pub room-on : sizes.reuse ≡ true → (old.tickets.room ≡ sizes.tickets)
      × ((old.currencies.room ≡ sizes.currencies + 1) × (old.threads.room ≡ sizes.threads))
  room-on on = (
    room.tickets ∙ ap (λ b. cond {A = ℕ} b sizes.tickets 0) on,
    (room.currencies ∙ ap (λ b. cond {A = ℕ} b (sizes.currencies + 1) 0) on, room.threads ∙ ap (λ b. cond {A = ℕ} b sizes.threads 0) on),
  )

  pub room-tickets : (new : FreeStack) → new.room ≡ old.tickets.room → HasRoomFor sizes (record old { tickets = new })
  room-tickets new same = record { tickets = same ∙ room.tickets; currencies = room.currencies; threads = room.threads }

  pub room-currencies : (new : FreeStack) → new.room ≡ old.currencies.room
      → HasRoomFor sizes (record old { currencies = new })
  room-currencies new same =
      record { tickets = room.tickets; currencies = same ∙ room.currencies; threads = room.threads }

  pub room-threads : (new : FreeStack) → new.room ≡ old.threads.room → HasRoomFor sizes (record old { threads = new })
  room-threads new same = record { tickets = room.tickets; currencies = room.currencies; threads = same ∙ room.threads }

-- nothing is free if numbers are given once, whatever would be left or taken otherwise
module _ (reuse : Bool) (old : Stacks) (none : reuse ≡ false → freed_in old ≡ none_free) where
  pub none-tickets : (new : FreeStack) (pushed : List ℕ)
      → new.places ≡ cond {A = List ℕ} reuse pushed old.tickets.places → reuse ≡ false
      → freed_in (record old { tickets = new }) ≡ none_free
  none-tickets new pushed is off = ap (λ ps. record (freed_in old) { tickets = ps })
      (is ∙ ap (λ b. cond {A = List ℕ} b pushed old.tickets.places) off) ∙ none off

  pub none-currencies : (new : FreeStack) (pushed : List ℕ)
      → new.places ≡ cond {A = List ℕ} reuse pushed old.currencies.places → reuse ≡ false
      → freed_in (record old { currencies = new }) ≡ none_free
  none-currencies new pushed is off = ap (λ ps. record (freed_in old) { currencies = ps })
      (is ∙ ap (λ b. cond {A = List ℕ} b pushed old.currencies.places) off) ∙ none off

  pub none-threads : (new : FreeStack) (pushed : List ℕ)
      → new.places ≡ cond {A = List ℕ} reuse pushed old.threads.places → reuse ≡ false
      → freed_in (record old { threads = new }) ≡ none_free
  none-threads new pushed is off = ap (λ ps. record (freed_in old) { threads = ps })
      (is ∙ ap (λ b. cond {A = List ℕ} b pushed old.threads.places) off) ∙ none off

  pub popped-tickets : (new : FreeStack) → new.places ≡ drop 1 old.tickets.places → reuse ≡ false
      → freed_in (record old { tickets = new }) ≡ none_free
  popped-tickets new is off = ap (λ ps. record (freed_in old) { tickets = ps }) is
      ∙ ap (λ (f : Freed). record f { tickets = drop 1 f.tickets }) (none off)

  pub popped-currencies : (new : FreeStack) → new.places ≡ drop 1 old.currencies.places → reuse ≡ false
      → freed_in (record old { currencies = new }) ≡ none_free
  popped-currencies new is off = ap (λ ps. record (freed_in old) { currencies = ps }) is
      ∙ ap (λ (f : Freed). record f { currencies = drop 1 f.currencies }) (none off)

  pub popped-threads : (new : FreeStack) → new.places ≡ drop 1 old.threads.places → reuse ≡ false
      → freed_in (record old { threads = new }) ≡ none_free
  popped-threads new is off = ap (λ ps. record (freed_in old) { threads = ps }) is
      ∙ ap (λ (f : Freed). record f { threads = drop 1 f.threads }) (none off)
