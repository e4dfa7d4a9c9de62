-- The lottery of an unlock: of the numbers below the sum of the waiters' values, as many pass the mutex to a waiter as
-- it is worth.
use Rattle.lot_laws.proofs.Common.{Bool, Contains, Event, IsApart, IsInOrder, List, Mutex, None, Option, Refusal, Some, State, Trap, TrapRefusal, Trapped, Unlock, ap, apart-from, arith, at_number, cases_eq, contains-at, contains-later, contains-nothing, checked_effect, count_by, eq-eqb, event_effect, event_refusal, false, filter, finish_trap, inl, inr, length, length-map, map, mutex_at, ne_eqb, option_map, range_with_len, refl, slice_get, slice_get-get_or, slice_index, step, subst, suc, sum, sum-mapped, sum_by, sum_by-cons, sym, thread_there, trap_effect, trap_refusal, true, unless_refused, unlock, unwrap_or, used_there, value_of, winner, zero, ℕ, [], ◌+◌, ◌<◌, ◌==◌, ◌∙◌, ◌∷◌, ◌≡◌, ◌⊎◌}
use Rattle.std.proofs.Math.Nat.{mod-eq_of_lt}
use Rattle.lot_machine.specs.Lottery.{first_above, running_sums}
use Rattle.lot_machine.specs.Step.{ends_quantum}
use Rattle.lot_machine.specs.declared.drawn.Drawn.{Drawn}
use Rattle.lot_machine.specs.declared.reply.Outcome.{Outcome}
use Rattle.lot_machine.specs.declared.reply.Outcome.TheVariants.{Passed}
use Rattle.lot_machine.proofs.Counts.{count-same, count-places, weight_at-named}
use Rattle.lot_laws.specs.Unlocks.{PassesOn, is_passed_to, waiters_of}
use Rattle.lot_laws.proofs.UnlockMoves.{place-within, place_of_winner}

-- ---- the outcome

-- the mutex passes to the winner of the lottery, or to the first waiter without one
abbrev passing : (ℕ → ℕ) → List ℕ → ℕ → Outcome
passing value ws n = Passed (slice_index ws (place_of_winner (map value ws) n))
    (option_map (λ (w : Drawn). (w.number, w.total)) (winner (map value ws) n))

-- if it passes on with one number, there are waiters, and it does with each
unlock-each : (s : State) (m d next : ℕ) (lottery : Option (ℕ × ℕ))
    → (unlock s.records s.mutexes (value_of s) m d).outcome ≡ Passed next lottery
    → (¬ (length (waiters_of s m) ≡ 0))
    × ((n : ℕ) → (unlock s.records s.mutexes (value_of s) m n).outcome ≡ passing (value_of s) (waiters_of s m) n)
unlock-each s m d next lottery = by (waiters_of s m) refl
  where
    by : (ws : List ℕ) → (mutex_at s.mutexes m).waiters ≡ ws
        → (unlock s.records s.mutexes (value_of s) m d).outcome ≡ Passed next lottery
        → (¬ (length ws ≡ 0))
        × ((n : ℕ) → (unlock s.records s.mutexes (value_of s) m n).outcome ≡ passing (value_of s) ws n)
    by [] is = rw is (λ came. cc)
    by (w ∷ ws) is = rw is (λ came. (λ none. absurd (omega (arith, none)), λ n. refl))

-- the reply to an unlock with each number is that to the one that passes it on, but for the lottery
unlock-replies : (s : State) (p ran m d n t ticks next : ℕ) (lottery : Option (ℕ × ℕ)) (ends : Bool)
    → (step s (Trap p ran (Unlock m d))).reply ≡ Trapped t ticks (Passed next lottery) ends
    → ((unlock s.records s.mutexes (value_of s) m d).outcome ≡ Passed next lottery)
    × ((ended : Bool) × ((step s (Trap p ran (Unlock m n))).reply
    ≡ Trapped t ticks (unlock s.records s.mutexes (value_of s) m n).outcome ended))
unlock-replies s p ran m d n t ticks next lottery ends = by (event_refusal s (Trap p ran (Unlock m d)))
  where
    checked : (u used : ℕ) (o : Option TrapRefusal)
        → (finish_trap s p u (ran + 1) used (checked_effect s o (trap_effect s u (Unlock m d)))).reply
        ≡ Trapped t ticks (Passed next lottery) ends
        → ((unlock s.records s.mutexes (value_of s) m d).outcome ≡ Passed next lottery)
        × ((ended : Bool)
        × ((finish_trap s p u (ran + 1) used (checked_effect s o (trap_effect s u (Unlock m n)))).reply
        ≡ Trapped t ticks (unlock s.records s.mutexes (value_of s) m n).outcome ended))
    checked u used (Some refusal) e = cc
    checked u used None e =
        let came : (unlock s.records s.mutexes (value_of s) m d).outcome ≡ Passed next lottery = cc in
        let who : u ≡ t = cc in
        let time : ran + 1 ≡ ticks = cc in
        let ended : Bool = ends_quantum (trap_effect s u (Unlock m n)).after used s.limits.quantum in (
          came,
          (
            ended,
            ap (λ x. Trapped x (ran + 1) (unlock s.records s.mutexes (value_of s) m n).outcome ended) who
                ∙ ap (λ x. Trapped t x (unlock s.records s.mutexes (value_of s) m n).outcome ended) time,
          ),
        )

    by : (o : Option Refusal)
        → (unless_refused s o (event_effect s (Trap p ran (Unlock m d)))).reply
        ≡ Trapped t ticks (Passed next lottery) ends
        → ((unlock s.records s.mutexes (value_of s) m d).outcome ≡ Passed next lottery)
        × ((ended : Bool) × ((unless_refused s o (event_effect s (Trap p ran (Unlock m n)))).reply
        ≡ Trapped t ticks (unlock s.records s.mutexes (value_of s) m n).outcome ended))
    by (Some refusal) e = cc
    by None e = checked (thread_there s p) (used_there s p + ran + 1)
        (trap_refusal s (thread_there s p) (Unlock m d)) e

-- what an unlock that passes the mutex on says of the lottery
pub passing-on : (s : State) (e : Event) (m t next : ℕ) → PassesOn s e m t next
    → (¬ (length (waiters_of s m) ≡ 0))
    × ((d : ℕ) × (slice_index (waiters_of s m) (place_of_winner (map (value_of s) (waiters_of s m)) d) ≡ next))
passing-on s e m t next (p, ran, d, ticks, lottery, ends, is, replied) =
    let (came, _) = unlock-replies s p ran m d d t ticks next lottery ends
    (ap (λ x. (step s x).reply) (sym is) ∙ replied) in
    let (some, outcome) = unlock-each s m d next lottery came in
    let same : passing (value_of s) (waiters_of s m) d ≡ Passed next lottery = sym (outcome d) ∙ came in
    (some, (d, ap passed-next same))
  where
    passed-next : Outcome → ℕ
    passed-next (Passed u lottery) = u
    passed-next other = 0

-- and of each other number
pub passing-each : (s : State) (p ran m d t next n : ℕ) → PassesOn s (Trap p ran (Unlock m d)) m t next
    → (ticks : ℕ) × (ended : Bool) × ((step s (Trap p ran (Unlock m n))).reply
    ≡ Trapped t ticks (passing (value_of s) (waiters_of s m) n) ended)
passing-each s p ran m d t next n (q, run, c, ticks, lottery, ends, is, replied) =
    let (came, (ended, reply)) = unlock-replies s p ran m d n t ticks next lottery ends replied in
    let (some, outcome) = unlock-each s m d next lottery came in
    (ticks, ended, reply ∙ ap (λ o. Trapped t ticks o ended) (outcome n))

pub each-passes : (s : State) (p ran m d t next n : ℕ) → PassesOn s (Trap p ran (Unlock m d)) m t next
    → (other : ℕ) × PassesOn s (Trap p ran (Unlock m n)) m t other
each-passes s p ran m d t next n passes =
    let (ticks, ended, reply) = passing-each s p ran m d t next n passes in
    (_, (p, ran, n, ticks, _, ended, refl, reply))

pub next-waits : (s : State) (e : Event) (m t next : ℕ) → PassesOn s e m t next → Contains (waiters_of s m) next
next-waits s e m t next passes =
    let (some, (d, is)) = passing-on s e m t next passes in
    let long : length (map (value_of s) (waiters_of s m)) ≡ length (waiters_of s m) =
    length-map (waiters_of s m) (value_of s) in
    let within = place-within (map (value_of s) (waiters_of s m)) d (λ none. some (omega (arith, none, long))) in
    let place = place_of_winner (map (value_of s) (waiters_of s m)) d in
    contains-at (waiters_of s m) place next
    (slice_get-get_or (waiters_of s m) place 0 (omega (arith, within, long)) ∙ ap Some is)

pub first-gets : (s : State) (e : Event) (m t next : ℕ) → PassesOn s e m t next
    → sum_by (value_of s) (waiters_of s m) ≡ 0 → slice_get (waiters_of s m) 0 ≡ Some next
first-gets s e m t next passes nothing =
    let (some, (d, is)) = passing-on s e m t next passes in
    let none : (sum (map (value_of s) (waiters_of s m)) == 0) ≡ true =
    eq-eqb (sum (map (value_of s) (waiters_of s m))) 0 (sum-mapped (λ v. v) (value_of s) (waiters_of s m) ∙ nothing) in
    let first : place_of_winner (map (value_of s) (waiters_of s m)) d ≡ 0 = rw none refl in
    slice_get-get_or (waiters_of s m) 0 0 (omega (arith, some))
    ∙ ap Some (ap (slice_index (waiters_of s m)) (sym first) ∙ is)

-- ---- counting

-- no thread waits twice
waiters-once : (s : State) (m : ℕ) → IsInOrder s → IsApart (waiters_of s m)
waiters-once s m order = by (at_number s.mutexes m) refl
  where
    by : (o : Option Mutex) → at_number s.mutexes m ≡ o
        → IsApart (unwrap_or o (record { owner = None; waiters = [] })).waiters
    by None is = tt
    by (Some mutex) is = apart-from mutex.waiters
        (λ u place other. (order.queues.waiters m mutex is).once place other u)

-- a number of the list stands there once
absent-once : (u : ℕ) (us : List ℕ) → ¬ Contains us u → filter (λ v. v == u) us ≡ []
absent-once u [] out = refl
absent-once u (v ∷ us) out =
    let differs : (v == u) ≡ false = ne_eqb v u (λ same. out (zero, omega arith, same)) in
    rw differs (absent-once u us (λ c. out (contains-later v us u c)))

named-once : (u : ℕ) (us : List ℕ) → IsApart us → Contains us u → filter (λ v. v == u) us ≡ u ∷ []
named-once u [] apart c = absurd (contains-nothing u c)
named-once u (v ∷ us) apart c = by (cases_eq v u) (named-once u us apart.1)
  where
    later : ¬ (v ≡ u) → Contains (v ∷ us) u → Contains us u
    later differs (zero, low, is) = absurd (differs is)
    later differs (suc i, low, is) = (i, omega (arith, low), is)

    by : (v ≡ u) ⊎ (¬ (v ≡ u)) → (Contains us u → filter (λ w. w == u) us ≡ u ∷ [])
        → filter (λ w. w == u) (v ∷ us) ≡ u ∷ []
    by (inl same) rest =
        let is : (v == u) ≡ true = eq-eqb v u same in
        rw is (ap (λ xs. v ∷ xs) (absent-once u us (λ in_rest. apart.0 (subst (Contains us) (sym same) in_rest)))
        ∙ ap (λ x. x ∷ []) same)
    by (inr differs) rest =
        let is : (v == u) ≡ false = ne_eqb v u differs in
        rw is (rest (later differs c))

-- the place of the winner with a number below the sum
place-above : (ws : List ℕ) (n : ℕ) → n < sum ws → place_of_winner ws n ≡ first_above n (running_sums 0 ws)
place-above ws n low =
    let some : (sum ws == 0) ≡ false = ne_eqb (sum ws) 0 (λ none. absurd (omega (arith, low, none))) in
    rw (some, mod-eq_of_lt low) refl

pub waiter-share : (s : State) (p ran m d t next u : ℕ) → IsInOrder s
    → PassesOn s (Trap p ran (Unlock m d)) m t next → Contains (waiters_of s m) u
    → count_by (λ n. is_passed_to u (step s (Trap p ran (Unlock m n))).reply)
    (range_with_len 0 (sum_by (value_of s) (waiters_of s m))) ≡ value_of s u
waiter-share s p ran m d t next u order passes waits =
    ap (λ n. count_by (λ k. is_passed_to u (step s (Trap p ran (Unlock m k))).reply) (range_with_len 0 n))
    (sym (sum-mapped (λ v. v) (value_of s) (waiters_of s m)))
    ∙ count-same (λ k. is_passed_to u (step s (Trap p ran (Unlock m k))).reply)
    (λ k. slice_index (waiters_of s m) (first_above k (running_sums 0 (map (value_of s) (waiters_of s m)))) == u) 0
    (sum (map (value_of s) (waiters_of s m))) (λ k low high. told k (omega (arith, high)))
    ∙ count-places (λ i. slice_index (waiters_of s m) i == u) (map (value_of s) (waiters_of s m)) 0
    ∙ weight_at-named (value_of s) (waiters_of s m) u
    ∙ ap (sum_by (value_of s)) (named-once u (waiters_of s m) (waiters-once s m order) waits)
    ∙ omega (arith, sum_by-cons (value_of s) u [])
  where
    told : (k : ℕ) → k < sum (map (value_of s) (waiters_of s m))
        → is_passed_to u (step s (Trap p ran (Unlock m k))).reply
        ≡ (slice_index (waiters_of s m) (first_above k (running_sums 0 (map (value_of s) (waiters_of s m)))) == u)
    told k low =
        let (ticks, ended, reply) = passing-each s p ran m d t next k passes in
        ap (is_passed_to u) reply
        ∙ ap (λ place. slice_index (waiters_of s m) place == u) (place-above (map (value_of s) (waiters_of s m)) k low)
