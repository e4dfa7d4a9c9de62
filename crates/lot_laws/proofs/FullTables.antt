-- The tables for currencies and threads stay within their limits; and a table is full exactly if as many count as its
-- limit allows.
use Rattle.lot_laws.proofs.Common.{Bool, Command, Event, IsReachable, Keeps, List, MakeCurrency, MakeFunded, MakeThread, NewCurrency, NewThread, DropCurrency, None, Option, RemoveCurrency, RemoveThread, Some, State, all-pass, are_currencies_full, are_threads_full, are_tickets_full, arith, by_event, command_effect, command_refusal, cond, count_by, count_by-le-length, currency_meant, currency_or_base, false, free_currencies, free_threads, is_bad_amount, is_name, is_no_script, is_none, is_some, is_taken, is_thread_name, kept, length, length-append, length-set, not, opening, or_parts, placed, refl, slice_get, state_after, step, step-leads, subst, suc, sum_by-cons, sym, thread_meant, true, unrefused, unwrap_or, zero, ℕ, [], ◌+◌, ◌-◌, ◌<◌, ◌||◌, ◌∷◌, ◌≡◌, ◌≤◌, ◌↔◌, BadAmount, BadName, Full, NameTaken, NoCurrency, NoScript, By, nat_le, nat_lt, with_thread}
use Rattle.std.proofs.Common.{◌&&◌}
use Rattle.std.proofs.lemmas.Bool.{le-leb, leb-false, leb-true, lt-ltb, ltb-false, ltb-true}
use Rattle.lot_machine.specs.Change.{DropThread}
use Rattle.lot_machine.specs.declared.event.Event.TheVariants as event
use Rattle.lot_machine.specs.Equations.{HasEachOnce}
use Rattle.lot_machine.specs.Order.{IsGap, IsInOrder}
use Rattle.lot_machine.specs.Places.{is_none_free}
use Rattle.lot_machine.proofs.Places.{no-gap-count}
use Rattle.lot_machine.proofs.EachOnce.{contains-at, contains-nothing}
use Rattle.lot_machine.proofs.StepChanges.{IsConsole}
use Rattle.lot_laws.specs.Numbers.{HasAllCurrencies, HasAllThreads, HasAllTickets}
use Rattle.lot_laws.proofs.EachTicket.{reachable-order}

-- ---- the limits of tables

-- the tables for currencies and threads are within their limits
abbrev pub HasTables : State → Type 0
HasTables s = (length s.currencies ≤ s.limits.currencies + 1) × (length s.threads ≤ s.limits.threads)

-- one more element in a table that isn't full
placed-within : {A : Type 0} (xs : List A) (free : List ℕ) (x : A) (limit : ℕ) (past : Bool) → length xs ≤ limit
    → (is_none_free free && past) ≡ false → (past ≡ false → length xs < limit) → length (placed xs free x) ≤ limit
placed-within xs [] x limit past within spare below = omega (arith, below spare, length-append xs (x ∷ []))
placed-within xs (i ∷ free) x limit past within spare below = omega (arith, within, length-set xs i x)

thread-within : (s : State) (name : List ℕ) (script : ℕ) → length s.threads ≤ s.limits.threads
    → are_threads_full s ≡ false → length (with_thread s name script).threads ≤ s.limits.threads
thread-within s name script within spare =
    placed-within s.threads (free_threads s) (Some (record { name = name; script = script })) s.limits.threads
    (nat_le s.limits.threads (length s.threads)) within spare (leb-false s.limits.threads (length s.threads))

effect-tables : (s : State) (c : Command) → command_refusal s c ≡ None → HasTables s
    → HasTables (command_effect s c).state
effect-tables s (MakeCurrency name) e (currencies, threads) =
    let passed = all-pass
    ((not (is_name s.limits name), BadName) ∷ (is_taken s name, NameTaken) ∷ (are_currencies_full s, Full) ∷ []) e in (
      placed-within s.currencies (free_currencies s) (Some name) (s.limits.currencies + 1)
          (nat_lt s.limits.currencies (length s.currencies)) currencies passed.1.1.0
          (λ low. omega (arith, ltb-false s.limits.currencies (length s.currencies) low)),
      threads,
    )
effect-tables s (RemoveCurrency currency) e (currencies, threads) =
    (omega (arith, currencies, length-set s.currencies (currency_or_base s currency) None), threads)
effect-tables s (MakeThread name script) e (currencies, threads) =
    let passed = all-pass ((not (is_thread_name s.limits name), BadName) ∷ (is_taken s name, NameTaken)
    ∷ (is_no_script s script, NoScript) ∷ (are_threads_full s, Full) ∷ []) e in
    (currencies, thread-within s name script threads passed.1.1.1.0)
effect-tables s (MakeFunded amount currency name script) e (currencies, threads) =
    let passed = all-pass ((is_bad_amount amount, BadAmount) ∷ (is_none (currency_meant s currency), NoCurrency)
    ∷ (not (is_thread_name s.limits name), BadName)
    ∷ (is_taken s name, NameTaken) ∷ (is_no_script s script, NoScript)
    ∷ (are_tickets_full s || are_threads_full s, Full) ∷ []) e in
    let room = or_parts (are_tickets_full s) (are_threads_full s) passed.1.1.1.1.1.0 in
    (currencies, thread-within s name script threads room.1)
effect-tables s (RemoveThread thread) e (currencies, threads) =
    (currencies, omega (arith, threads, length-set s.threads (unwrap_or (thread_meant s thread) 0 - 1) None))
effect-tables s c e tables = tables

-- nobody but the console changes these tables
change-tables : (by : By) (s : State) → ¬ IsConsole by → Keeps by s HasTables
change-tables by s other a (NewCurrency name) allowed same = absurd (other allowed)
change-tables by s other a (DropCurrency c) allowed same = absurd (other allowed.0)
change-tables by s other a (NewThread t) allowed same = absurd (other allowed.0)
change-tables by s other a (DropThread t) allowed same = absurd (other allowed.0)
change-tables by s other a c allowed same = same

work-tables : (s : State) (e : Event) → ¬ IsConsole (by_event s e) → HasTables s → HasTables (step s e).state
work-tables s e other tables = kept HasTables (change-tables (by_event s e) s other) (step-leads s e) tables

step-tables : (s : State) (e : Event) → HasTables s → HasTables (step s e).state
step-tables s (event.Command c) tables =
    unrefused HasTables s (command_refusal s c) (command_effect s c) tables (λ e. effect-tables s c e tables)
step-tables s (event.Draw p d) tables = work-tables s (event.Draw p d) (λ e. cc) tables
step-tables s (event.Expire p) tables = work-tables s (event.Expire p) (λ e. cc) tables
step-tables s (event.Trap p ran action) tables = work-tables s (event.Trap p ran action) (λ e. cc) tables
step-tables s (event.Preempt p ticks) tables = work-tables s (event.Preempt p ticks) (λ e. cc) tables
step-tables s (event.Overrun p late) tables = work-tables s (event.Overrun p late) (λ e. cc) tables
step-tables s (event.Wake t) tables = work-tables s (event.Wake t) (λ e. cc) tables

run-tables : (s : State) (events : List Event) → HasTables s → HasTables (state_after s events)
run-tables s [] tables = tables
run-tables s (e ∷ events) tables = run-tables (step s e).state events (step-tables s e tables)

pub reachable-tables : (s : State) → IsReachable s → HasTables s
reachable-tables s (limits, events, bounds, is) =
    subst HasTables (sym is) (run-tables (opening limits) events (omega arith, omega arith))

-- ---- what counts

module _ {A : Type 0} where
  -- a gap isn't counted
  gap-count : (xs : List (Option A)) (place : ℕ) → slice_get xs place ≡ Some None → count_by is_some xs < length xs
  gap-count [] place gap = cc
  gap-count (None ∷ xs) zero gap =
      omega (arith, count_by-le-length is_some xs, sum_by-cons (λ o. cond (is_some o) 1 0) None xs)
  gap-count (Some x ∷ xs) zero gap = cc
  gap-count (None ∷ xs) (suc place) gap =
      omega (arith, gap-count xs place gap, sum_by-cons (λ o. cond (is_some o) 1 0) None xs)
  gap-count (Some x ∷ xs) (suc place) gap =
      omega (arith, gap-count xs place gap, sum_by-cons (λ o. cond (is_some o) 1 0) (Some x) xs)

  -- a table is full exactly if as many count as the limit allows
  full-table : (reuse : Bool) (xs : List (Option A)) (free : List ℕ) (limit : ℕ) (past : Bool)
      → (reuse ≡ true → HasEachOnce free (IsGap xs)) → length xs ≤ limit
      → (past ≡ true) ↔ (limit ≤ length xs)
      → ((is_none_free (cond {A = List ℕ} reuse free []) && past) ≡ true)
      ↔ (cond reuse (count_by is_some xs) (length xs) ≡ limit)
  full-table false xs free limit past are within low =
      (λ full. omega (arith, within, low.0 full), λ all. low.1 (omega (arith, all)))
  full-table true xs [] limit past are within low =
      let gaps = are refl in
      let many = no-gap-count xs (λ place gap. contains-nothing place (gaps.all place gap)) in
      let few = count_by-le-length is_some xs in
      (λ full. omega (arith, within, low.0 full, many, few), λ all. low.1 (omega (arith, all, few)))
  full-table true xs (place ∷ free) limit past are within low =
      let gaps = are refl in
      let few = gap-count xs place (gaps.each place (contains-at (place ∷ free) 0 place refl)) in
      (λ full. cc, λ all. absurd (omega (arith, all, few, within)))

pub tickets-full : (s : State) → IsInOrder s → (are_tickets_full s ≡ true) ↔ HasAllTickets s
tickets-full s order =
    full-table s.limits.reuse s.tickets s.freed.tickets s.limits.tickets (nat_le s.limits.tickets (length s.tickets))
    (λ on. (order.gaps on).tickets) order.ticket_count
    (leb-true s.limits.tickets (length s.tickets), le-leb s.limits.tickets (length s.tickets))

pub currencies-full : (s : State) → IsReachable s → (are_currencies_full s ≡ true) ↔ HasAllCurrencies s
currencies-full s reachable =
    let many = length s.currencies in
    full-table s.limits.reuse s.currencies s.freed.currencies (s.limits.currencies + 1)
    (nat_lt s.limits.currencies (length s.currencies))
    (λ on. ((reachable-order s reachable).gaps on).currencies) (reachable-tables s reachable).0 (
      λ low. omega (arith, ltb-true s.limits.currencies many low),
      λ low. lt-ltb s.limits.currencies many (omega (arith, low)),
    )

pub threads-full : (s : State) → IsReachable s → (are_threads_full s ≡ true) ↔ HasAllThreads s
threads-full s reachable =
    full-table s.limits.reuse s.threads s.freed.threads s.limits.threads
    (nat_le s.limits.threads (length s.threads))
    (λ on. ((reachable-order s reachable).gaps on).threads) (reachable-tables s reachable).1
    (leb-true s.limits.threads (length s.threads), le-leb s.limits.threads (length s.threads))
