-- The number that a reply gives to a new ticket, currency or thread is that of the next place of its table.
use Rattle.lot_laws.proofs.Common.{Bool, By, Command, Drawn, DropCurrency, Event, Fund, HasEachOnce, IsInOrder, Keeps, Kill, List, MakeCurrency, MakeFunded, MakeThread, MakeTicket, NewCurrency, NewThread, None, Option, Refusal, RemoveCurrency, RemoveThread, RemoveTicket, SetTicket, Sizes, Some, State, Step, Unfund, ap, arith, at_number, at_number-suc, by_event, cond, contains-at, currency_or_base, command_effect, command_refusal, draw, event_effect, event_refusal, false, free_currencies, free_threads, free_tickets, inl, inr, kept, length, length-append, length-range_with_len, length-set, map, next_place, option_flatten, placed, ready_threads, refl, slice_get, some-injective, step, step-leads, step-limits, suc, sym, thread_at, thread_given, thread_meant, true, unless_refused, unwrap_or, weight_of, winner, ℕ, [], ◌+◌, ◌-◌, ◌∙◌, ◌∷◌, ◌≡◌, ◌≢◌, ◌⊎◌}
use Rattle.std.specs.Prelude.{AllPairs}
use Rattle.std.specs.List.{cons_option, range_with_len}
use Rattle.std.proofs.lemmas.List.FromFn.{get_or-range_with_len}
use Rattle.std.proofs.lemmas.Option.{slice_get_past}
use Rattle.lot_machine.specs.Change.{DropThread, DropTicket, NewTicket, PutTicket}
use Rattle.lot_machine.specs.Funding.{ticket_in}
use Rattle.lot_machine.specs.Order.{IsGap}
use Rattle.lot_machine.specs.State.{given_again}
use Rattle.lot_machine.specs.declared.command.Command.TheVariants.{List as Listing}
use Rattle.lot_machine.specs.declared.event.Event.TheVariants as event
use Rattle.lot_machine.specs.declared.reply.Reply.{Reply}
use Rattle.lot_machine.proofs.StepChanges.{IsConsole}
use Rattle.lot_laws.specs.Numbers.{currency_given, numbers_given, ticket_given}

-- ---- what a step gives

-- A step gives no number, and the table has as many places; or it gives the number of the next place, and puts a new
-- element there.
abbrev pub Gives : {A : Type 0} → (Reply → Option ℕ) → (ℕ → ℕ) → List (Option A) → List ℕ → Step → List (Option A)
    → Type 0
Gives {A} given number table free next after = ((given next.reply ≡ None) × (length after ≡ length table))
    ⊎ ((given next.reply ≡ Some (number (next_place table free))) × ((x : A) × (after ≡ placed table free (Some x))))

-- places are numbered from 1, but currencies from 0
abbrev pub from-one : ℕ → ℕ
from-one place = place + 1

abbrev pub from-zero : ℕ → ℕ
from-zero place = place

abbrev GivesTicket : State → Step → Type 0
GivesTicket s next = Gives ticket_given from-one s.tickets (free_tickets s) next next.state.tickets

abbrev GivesCurrency : State → Step → Type 0
GivesCurrency s next = Gives currency_given from-zero s.currencies (free_currencies s) next next.state.currencies

abbrev GivesThread : State → Step → Type 0
GivesThread s next = Gives thread_given from-one s.threads (free_threads s) next next.state.threads

-- what all three give
abbrev GivesEach : State → Step → Type 0
GivesEach s next = GivesTicket s next × GivesCurrency s next × GivesThread s next

refused-gives : (s : State) (o : Option Refusal) (next : Step) → GivesEach s next
    → GivesEach s (unless_refused s o next)
refused-gives s None next gives = gives
refused-gives s (Some refusal) next gives = (inl (refl, refl), inl (refl, refl), inl (refl, refl))

command-gives : (s : State) (c : Command) → GivesEach s (command_effect s c)
command-gives s (MakeTicket amount currency) = (inr (refl, (_, refl)), inl (refl, refl), inl (refl, refl))
command-gives s (RemoveTicket n) = (inl (refl, length-set s.tickets (n - 1) None), inl (refl, refl), inl (refl, refl))
command-gives s (MakeCurrency name) = (inl (refl, refl), inr (refl, (name, refl)), inl (refl, refl))
command-gives s (RemoveCurrency currency) =
    (inl (refl, refl), inl (refl, length-set s.currencies (currency_or_base s currency) None), inl (refl, refl))
command-gives s (Fund n to) = (inl (refl, length-set s.tickets (n - 1) _), inl (refl, refl), inl (refl, refl))
command-gives s (Unfund n) = (inl (refl, length-set s.tickets (n - 1) _), inl (refl, refl), inl (refl, refl))
command-gives s (SetTicket n amount) = (inl (refl, length-set s.tickets (n - 1) _), inl (refl, refl), inl (refl, refl))
command-gives s (MakeThread name script) = (inl (refl, refl), inl (refl, refl), inr (refl, (_, refl)))
command-gives s (RemoveThread thread) = (
  inl (refl, refl),
  inl (refl, refl),
  inl (refl, length-set s.threads (unwrap_or (thread_meant s thread) 0 - 1) None),
)
command-gives s (Kill thread) = (inl (refl, refl), inl (refl, refl), inl (refl, refl))
command-gives s (MakeFunded amount currency name script) =
    (inr (refl, (_, refl)), inl (refl, refl), inr (refl, (_, refl)))
command-gives s (Listing kind) = (inl (refl, refl), inl (refl, refl), inl (refl, refl))

-- the other events change none of the tables
abbrev HasTablesOf : State → State → Type 0
HasTablesOf s a = (a.tickets ≡ s.tickets) × (a.currencies ≡ s.currencies) × (a.threads ≡ s.threads)

change-tables : (by : By) (s : State) → ¬ IsConsole by → Keeps by s (HasTablesOf s)
change-tables by s other a (NewTicket t) allowed same = absurd (other allowed.0)
change-tables by s other a (DropTicket n) allowed same = absurd (other allowed.0)
change-tables by s other a (PutTicket n x) allowed same = absurd (other allowed.0)
change-tables by s other a (NewCurrency name) allowed same = absurd (other allowed)
change-tables by s other a (DropCurrency c) allowed same = absurd (other allowed.0)
change-tables by s other a (NewThread t) allowed same = absurd (other allowed.0)
change-tables by s other a (DropThread t) allowed same = absurd (other allowed.0)
change-tables by s other a c allowed same = same

-- and their replies give no numbers
abbrev GivesNothing : Reply → Type 0
GivesNothing r = (ticket_given r ≡ None) × (currency_given r ≡ None) × (thread_given r ≡ None)

refused-nothing : (s : State) (o : Option Refusal) (next : Step) → GivesNothing next.reply
    → GivesNothing (unless_refused s o next).reply
refused-nothing s None next nothing = nothing
refused-nothing s (Some refusal) next nothing = (refl, refl, refl)

draw-nothing : (s : State) (p d : ℕ) → GivesNothing (draw s p d).reply
draw-nothing s p d = by (winner (map (weight_of s) (ready_threads s.records)) d) refl
  where
    by : (o : Option Drawn) → winner (map (weight_of s) (ready_threads s.records)) d ≡ o
        → GivesNothing (draw s p d).reply
    by None is = rw is (refl, refl, refl)
    by (Some w) is = rw is (refl, refl, refl)

other-gives : (s : State) (e : Event) → ¬ IsConsole (by_event s e) → GivesNothing (event_effect s e).reply
    → GivesEach s (step s e)
other-gives s e other nothing =
    let same = kept (HasTablesOf s) (change-tables (by_event s e) s other) (step-leads s e) (refl, refl, refl) in
    let none = refused-nothing s (event_refusal s e) (event_effect s e) nothing in
    (inl (none.0, ap length same.0), inl (none.1, ap length same.1), inl (none.2, ap length same.2))

event-gives : (s : State) (e : Event) → GivesEach s (step s e)
event-gives s (event.Command c) = refused-gives s (command_refusal s c) (command_effect s c) (command-gives s c)
event-gives s (event.Draw p d) = other-gives s (event.Draw p d) (λ e. cc) (draw-nothing s p d)
event-gives s (event.Expire p) = other-gives s (event.Expire p) (λ e. cc) (refl, refl, refl)
event-gives s (event.Trap p ran action) = other-gives s (event.Trap p ran action) (λ e. cc) (refl, refl, refl)
event-gives s (event.Preempt p ticks) = other-gives s (event.Preempt p ticks) (λ e. cc) (refl, refl, refl)
event-gives s (event.Overrun p late) = other-gives s (event.Overrun p late) (λ e. cc) (refl, refl, refl)
event-gives s (event.Wake t) = other-gives s (event.Wake t) (λ e. cc) (refl, refl, refl)

-- ---- free numbers

-- there is nothing at the next place
next-free : {A : Type 0} (reuse : Bool) (xs : List (Option A)) (free : List ℕ)
    → (reuse ≡ true → HasEachOnce free (IsGap xs))
    → option_flatten (slice_get xs (next_place xs (cond {A = List ℕ} reuse free []))) ≡ None
next-free false xs free are = ap option_flatten (slice_get_past xs (length xs) (omega arith))
next-free true xs [] are = ap option_flatten (slice_get_past xs (length xs) (omega arith))
next-free true xs (place ∷ free) are =
    ap option_flatten ((are refl).each place (contains-at (place ∷ free) 0 place refl))

given-free : {A : Type 0} (given : Reply → Option ℕ) (number : ℕ → ℕ) (at : ℕ → Option A)
    (table after : List (Option A))
    (free : List ℕ) (next : Step) (n : ℕ) → Gives given number table free next after
    → at (number (next_place table free)) ≡ None → given next.reply ≡ Some n → at n ≡ None
given-free given number at table after free next n (inl (none, same)) nothing is =
    let never : None ≡ Some n = sym none ∙ is in cc
given-free given number at table after free next n (inr (some, put)) nothing is =
    ap at (some-injective n (number (next_place table free)) (sym is ∙ some)) ∙ nothing

-- numbered from 1
numbered-free : {A : Type 0} (xs : List (Option A)) (place : ℕ) → option_flatten (slice_get xs place) ≡ None
    → option_flatten (at_number xs (place + 1)) ≡ None
numbered-free xs place none =
    let next : place + 1 ≡ suc place = omega arith in
    ap (λ n. option_flatten (at_number xs n)) next ∙ ap option_flatten (at_number-suc xs place) ∙ none

pub ticket-free : (s : State) (e : Event) (n : ℕ) → IsInOrder s → ticket_given (step s e).reply ≡ Some n
    → ticket_in s.tickets n ≡ None
ticket-free s e n order =
    given-free ticket_given from-one (ticket_in s.tickets) s.tickets (step s e).state.tickets (free_tickets s)
    (step s e) n (event-gives s e).0 (numbered-free s.tickets (next_place s.tickets (free_tickets s))
    (next-free s.limits.reuse s.tickets s.freed.tickets (λ on. (order.gaps on).tickets)))

pub currency-free : (s : State) (e : Event) (c : ℕ) → IsInOrder s → currency_given (step s e).reply ≡ Some c
    → option_flatten (slice_get s.currencies c) ≡ None
currency-free s e c order =
    given-free currency_given from-zero (λ x. option_flatten (slice_get s.currencies x)) s.currencies
    (step s e).state.currencies (free_currencies s) (step s e) c (event-gives s e).1
    (next-free s.limits.reuse s.currencies s.freed.currencies (λ on. (order.gaps on).currencies))

pub thread-free : (s : State) (e : Event) (t : ℕ) → IsInOrder s → thread_given (step s e).reply ≡ Some t
    → thread_at s.threads t ≡ None
thread-free s e t order =
    given-free thread_given from-one (thread_at s.threads) s.threads (step s e).state.threads (free_threads s)
    (step s e) t (event-gives s e).2 (numbered-free s.threads (next_place s.threads (free_threads s))
    (next-free s.limits.reuse s.threads s.freed.threads (λ on. (order.gaps on).threads)))

-- ---- a whole run

-- without `reuse` the next place is the end, and what is new stands there
step-counts : {A : Type 0} (given : Reply → Option ℕ) (number : ℕ → ℕ) (table after : List (Option A)) (free : List ℕ)
    (next : Step) → free ≡ [] → Gives given number table free next after
    → ((given next.reply ≡ None) × (length after ≡ length table))
    ⊎ ((given next.reply ≡ Some (number (length table))) × (length after ≡ length table + 1))
step-counts given number table after free next none (inl same) = inl same
step-counts given number table after free next none (inr (some, (x, is))) =
    inr (
      some ∙ ap (λ xs. Some (number (next_place table xs))) none,
      ap length is ∙ ap (λ xs. length (placed table xs (Some x))) none ∙ length-append table (Some x ∷ []),
    )

module _ (given : Reply → Option ℕ) (next : State → ℕ)
    (each : (s : State) (e : Event) → s.limits.reuse ≡ false
    → ((given (step s e).reply ≡ None) × (next (step s e).state ≡ next s))
    ⊎ ((given (step s e).reply ≡ Some (next s)) × (next (step s e).state ≡ next s + 1))) where
  -- the numbers that a run gives follow each other
  pub in-order : (s : State) (events : List Event) → s.limits.reuse ≡ false
      → numbers_given given s events ≡ range_with_len (next s) (length (numbers_given given s events))
  in-order s [] off = refl
  in-order s (e ∷ events) off =
      by (numbers_given given (step s e).state events) (each s e off)
      (in-order (step s e).state events (ap (λ (limits : Sizes). limits.reuse) (step-limits s e) ∙ off))
    where
      by : (later : List ℕ) → ((given (step s e).reply ≡ None) × (next (step s e).state ≡ next s))
          ⊎ ((given (step s e).reply ≡ Some (next s)) × (next (step s e).state ≡ next s + 1))
          → later ≡ range_with_len (next (step s e).state) (length later)
          → cons_option (given (step s e).reply) later
          ≡ range_with_len (next s) (length (cons_option (given (step s e).reply) later))
      by later (inl (none, same)) rest = rw none (rest ∙ ap (λ n. range_with_len n (length later)) same)
      by later (inr (some, more)) rest =
          rw some (ap (λ xs. next s ∷ xs) (rest ∙ ap (λ n. range_with_len n (length later)) more))

-- numbers that follow each other differ
pub range-differs : (a n : ℕ) → AllPairs (λ x y. x ≢ y) (range_with_len a n)
range-differs a n i j d below within same =
    let long = length-range_with_len a n in
    let first = get_or-range_with_len a n i d (omega (arith, below, within, long)) in
    let second = get_or-range_with_len a n j d (omega (arith, within, long)) in
    absurd (omega (arith, below, same, first, second))

no-free : (s : State) (free : List ℕ) → s.limits.reuse ≡ false → given_again s free ≡ []
no-free s free off = ap (λ b. cond {A = List ℕ} b free []) off

pub tickets-in-order : (s : State) (events : List Event) → s.limits.reuse ≡ false
    → numbers_given ticket_given s events
    ≡ range_with_len (length s.tickets + 1) (length (numbers_given ticket_given s events))
tickets-in-order =
    in-order ticket_given (λ s. length s.tickets + 1) (λ s e off. by s e (step-counts ticket_given from-one
    s.tickets (step s e).state.tickets (free_tickets s) (step s e) (no-free s s.freed.tickets off) (event-gives s e).0))
  where
    by : (s : State) (e : Event) → ((ticket_given (step s e).reply ≡ None)
        × (length (step s e).state.tickets ≡ length s.tickets))
        ⊎ ((ticket_given (step s e).reply ≡ Some (length s.tickets + 1))
        × (length (step s e).state.tickets ≡ length s.tickets + 1))
        → ((ticket_given (step s e).reply ≡ None) × (length (step s e).state.tickets + 1 ≡ length s.tickets + 1))
        ⊎ ((ticket_given (step s e).reply ≡ Some (length s.tickets + 1))
        × (length (step s e).state.tickets + 1 ≡ length s.tickets + 1 + 1))
    by s e (inl (none, same)) = inl (none, ap (λ n. n + 1) same)
    by s e (inr (some, more)) = inr (some, ap (λ n. n + 1) more)

pub currencies-in-order : (s : State) (events : List Event) → s.limits.reuse ≡ false
    → numbers_given currency_given s events
    ≡ range_with_len (length s.currencies) (length (numbers_given currency_given s events))
currencies-in-order = in-order currency_given (λ s. length s.currencies)
    (λ s e off. step-counts currency_given from-zero s.currencies (step s e).state.currencies (free_currencies s)
    (step s e) (no-free s s.freed.currencies off) (event-gives s e).1)

pub threads-in-order : (s : State) (events : List Event) → s.limits.reuse ≡ false
    → numbers_given thread_given s events
    ≡ range_with_len (length s.threads + 1) (length (numbers_given thread_given s events))
threads-in-order =
    in-order thread_given (λ s. length s.threads + 1) (λ s e off. by s e (step-counts thread_given from-one
    s.threads (step s e).state.threads (free_threads s) (step s e) (no-free s s.freed.threads off) (event-gives s e).2))
  where
    by : (s : State) (e : Event) → ((thread_given (step s e).reply ≡ None)
        × (length (step s e).state.threads ≡ length s.threads))
        ⊎ ((thread_given (step s e).reply ≡ Some (length s.threads + 1))
        × (length (step s e).state.threads ≡ length s.threads + 1))
        → ((thread_given (step s e).reply ≡ None) × (length (step s e).state.threads + 1 ≡ length s.threads + 1))
        ⊎ ((thread_given (step s e).reply ≡ Some (length s.threads + 1))
        × (length (step s e).state.threads + 1 ≡ length s.threads + 1 + 1))
    by s e (inl (none, same)) = inl (none, ap (λ n. n + 1) same)
    by s e (inr (some, more)) = inr (some, ap (λ n. n + 1) more)
