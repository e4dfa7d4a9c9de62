-- With `reuse` a table is full only if as many exist as its limit allows.
use Rattle.lot_machine.proofs.Common.{Bool, HasEachOnce, IsGap, IsInOrder, List, Option, State, ap, are_currencies_full, are_threads_full, are_tickets_full, arith, cond, count_by, given_again, is_none_free, is_some, leb-true, length, ltb-true, nat_le, nat_lt, sym, true, ℕ, [], ◌&&◌, ◌<◌, ◌∙◌, ◌≡◌, ◌≤◌}
use Rattle.lot_machine.proofs.Places.{full-count}

-- by the free places themselves
full : {A : Type 0} (s : State) (xs : List (Option A)) (free : List ℕ) (is_full : Bool) → s.limits.reuse ≡ true
    → HasEachOnce free (IsGap xs) → (is_none_free (given_again s free) && is_full) ≡ true
    → (length xs ≤ count_by is_some xs) × (is_full ≡ true)
full s xs free is_full on are is =
    full-count xs free is_full are (sym (ap (λ b. is_none_free (cond {A = List ℕ} b free []) && is_full) on) ∙ is)

pub tickets-counted : (s : State) → IsInOrder s → s.limits.reuse ≡ true → are_tickets_full s ≡ true
    → s.limits.tickets ≤ count_by is_some s.tickets
tickets-counted s order on is =
    let (many, at) = full s s.tickets s.freed.tickets (nat_le s.limits.tickets (length s.tickets)) on
    (order.gaps on).tickets is in omega (arith, many, leb-true s.limits.tickets (length s.tickets) at)

pub currencies-counted : (s : State) → IsInOrder s → s.limits.reuse ≡ true → are_currencies_full s ≡ true
    → s.limits.currencies < count_by is_some s.currencies
currencies-counted s order on is =
    let (many, at) = full s s.currencies s.freed.currencies (nat_lt s.limits.currencies (length s.currencies)) on
    (order.gaps on).currencies is in omega (arith, many, ltb-true s.limits.currencies (length s.currencies) at)

pub threads-counted : (s : State) → IsInOrder s → s.limits.reuse ≡ true → are_threads_full s ≡ true
    → s.limits.threads ≤ count_by is_some s.threads
threads-counted s order on is =
    let (many, at) = full s s.threads s.freed.threads (nat_le s.limits.threads (length s.threads)) on
    (order.gaps on).threads is in omega (arith, many, leb-true s.limits.threads (length s.threads) at)
