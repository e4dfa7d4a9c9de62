-- The sleeping threads in a table.
use Rattle.lot_playback.proofs.Common.{Alarms, AreAlarms, AreNumbered, Due, Each, IfSome, IsBetween, IsNextAlarm, List, Moment, None, Option, Program, Seen, Sleeper, Some, World, alarm_at, alarms_in, all_due, ap, append-nil, arith, at_number-suc, cases_lt, each-due, earliest, earliest-one, first-due, flat_map, found-runs, inl, inr, length, length-replicate, map, next_due, numbered, option_flatten, option_map_or, range_with_len, refl, replicate, sleeper-found, sleeper_on, slice_get, suc, sym, take, world_of, zero, ℕ, [], ◌++◌, ◌+◌, ◌-◌, ◌<◌, ◌∙◌, ◌∷◌, ◌≡◌, ◌≤◌, ◌⊎◌}
use Rattle.lot_machine.specs.declared.record.Status.TheVariants as status
use Rattle.lot_playback.proofs.TimeFacts.{range-push}

-- ---- the turns of the threads that sleep

-- numbers that give nothing may be left out
range-longer : {A : Type 0} (f : ℕ → List A) (k n : ℕ) → ((t : ℕ) → k < t → f t ≡ [])
    → flat_map f (range_with_len 1 (k + n)) ≡ flat_map f (range_with_len 1 k)
range-longer f k zero none = let e : k + 0 ≡ k = omega arith in ap (λ m. flat_map f (range_with_len 1 m)) e
range-longer f k (suc n) none =
    let e : k + suc n ≡ suc (k + n) = omega arith in
    ap (λ m. flat_map f (range_with_len 1 m)) e ∙ range-push f 1 (k + n)
    ∙ ap (λ xs. flat_map f (range_with_len 1 (k + n)) ++ xs) (none (1 + (k + n)) (omega arith))
    ∙ append-nil (flat_map f (range_with_len 1 (k + n))) ∙ range-longer f k n none

-- a thread that doesn't sleep has no turn of the timer
nothing-at : (processors : ℕ) (alarms : ℕ → Option ℕ) (t : ℕ) → ((time : ℕ) → alarms t ≡ Some time → ⊥)
    → alarm_at processors alarms t ≡ []
nothing-at processors alarms t never = at (alarms t) never
  where
    at : (o : Option ℕ) → ((time : ℕ) → o ≡ Some time → ⊥)
        → option_map_or {U = List Due} (λ time. record { time = time; actor = processors + t } ∷ []) o [] ≡ []
    at None h = refl
    at (Some time) h = absurd (h time refl)

-- those of all threads are those of the threads up to the highest that sleeps
range-any : (processors : ℕ) (alarms : ℕ → Option ℕ) (k n : ℕ) → ((t time : ℕ) → alarms t ≡ Some time → t ≤ k)
    → ((t time : ℕ) → alarms t ≡ Some time → t ≤ n)
    → flat_map (alarm_at processors alarms) (range_with_len 1 k) ≡ flat_map (alarm_at processors alarms)
    (range_with_len 1 n)
range-any processors alarms k n one other = at (cases_lt k n)
  where
    longer : (low high : ℕ) → low ≤ high → ((t time : ℕ) → alarms t ≡ Some time → t ≤ low)
        → flat_map (alarm_at processors alarms) (range_with_len 1 high) ≡ flat_map (alarm_at processors alarms)
        (range_with_len 1 low)
    longer low high le above =
        let e : high ≡ low + (high - low) = omega (arith, le) in
        ap (λ m. flat_map (alarm_at processors alarms) (range_with_len 1 m)) e
        ∙ range-longer (alarm_at processors alarms) low (high - low)
        (λ t past. nothing-at processors alarms t (λ time is. omega (arith, past, above t time is)))

    at : (k < n) ⊎ (n ≤ k) → flat_map (alarm_at processors alarms)
        (range_with_len 1 k) ≡ flat_map (alarm_at processors alarms) (range_with_len 1 n)
    at (inl less) = sym (longer k n (omega (arith, less)) one)
    at (inr more) = longer n k more other

-- the next alarm is the timer's turn
pub next-alarm : (program : Program) (seen : Seen) (alarms : Alarms) → AreAlarms program.limits.processors alarms
    → AreNumbered (length (world_of seen).state.records) (alarms_in alarms.threads.items)
    → IsNextAlarm program seen alarms
next-alarm program seen alarms are numbered =
    are.next ∙ ap earliest (range-any program.limits.processors (alarms_in alarms.threads.items) alarms.highest
    (length (world_of seen).state.records) are.asleep (λ t time is. (numbered t time is).1))

-- ---- tables

-- a thread that sleeps has a place in the table
pub asleep-there : (threads : List (Option ℕ)) (t time : ℕ) → alarms_in threads t ≡ Some time
    → IsBetween 1 (length threads) t
asleep-there threads zero time is = absurd (let e : None ≡ Some time = is in cc)
asleep-there threads (suc i) time is =
    (omega arith, below threads i (sym (ap option_flatten (at_number-suc threads i)) ∙ is))
  where
    below : (xs : List (Option ℕ)) (i : ℕ) → option_flatten (slice_get xs i) ≡ Some time → suc i ≤ length xs
    below [] i e = absurd (let wrong : None ≡ Some time = e in cc)
    below (x ∷ xs) zero e = omega arith
    below (x ∷ xs) (suc i) e = omega (arith, below xs i e)

-- nobody sleeps at the start
pub none-asleep : (count : ℕ) → alarms_in (replicate count None) ≡ (λ (t : ℕ). None)
none-asleep count = λ i. λ t. (each t) i
  where
    nothing : (n i : ℕ) → option_flatten {T = ℕ} (slice_get (replicate n None) i) ≡ None
    nothing zero i = refl
    nothing (suc n) zero = refl
    nothing (suc n) (suc i) = nothing n i

    each : (t : ℕ) → alarms_in (replicate count None) t ≡ None
    each zero = refl
    each (suc i) = ap option_flatten (at_number-suc (replicate count None) i) ∙ nothing count i

-- then the timer has no turn
pub none-sleeping : (processors : ℕ) (alarms : Alarms) (count : ℕ) → count ≤ 4096 → alarms.threads.items
    ≡ replicate count None → alarms.highest ≡ 0 → alarms.next ≡ None → AreAlarms processors alarms
none-sleeping processors alarms count few none highest next =
    let nobody : alarms_in alarms.threads.items ≡ (λ (t : ℕ). None) = ap alarms_in none ∙ none-asleep count in
    record {
      few = omega (arith, few, ap length none, length-replicate {A = Option ℕ} count None);
      highest = omega (arith, highest);
      asleep =
          λ t time is. absurd (let wrong : None ≡ Some time = ap (λ (f : ℕ → Option ℕ). f t) (sym nobody) ∙ is in cc);
      next = next ∙ sym (ap (λ h.
          earliest (flat_map (alarm_at processors (alarms_in alarms.threads.items)) (range_with_len 1 h))) highest);
    }

-- ---- the timer's turn

console-none : (processors : ℕ) (alarms : ℕ → Option ℕ) (times : List ℕ)
    → Each (λ due. processors < due.actor → alarms (due.actor - processors) ≡ Some due.time)
    (map (λ time. record { time = time; actor = 0 }) (take 1 times))
console-none processors alarms [] = tt
console-none processors alarms (t ∷ ts) = ((λ past. absurd (omega (arith, past))), tt)

-- if it is next, its thread sleeps until its time
pub alarm-due : (program : Program) (m : Moment) (due : Due) → next_due program m ≡ Some due
    → program.limits.processors < due.actor → m.alarms (due.actor - program.limits.processors) ≡ Some due.time
alarm-due program m due is =
    earliest-one (λ d. program.limits.processors < d.actor
    → m.alarms (d.actor - program.limits.processors) ≡ Some d.time) (all_due program m) due
    (each-due (λ d. program.limits.processors < d.actor → m.alarms (d.actor - program.limits.processors) ≡ Some d.time)
    program m (console-none program.limits.processors m.alarms m.times)
    (λ t time low high there past. let whom : program.limits.processors + t - program.limits.processors ≡ t =
    omega arith in ap m.alarms whom ∙ there)
    (λ p low high runs past. absurd (omega (arith, high, past))))
    (first-due program m due is)

-- who goes to sleep is one of the numbered threads
pub sleeper-numbered : (w : World) (p : ℕ) (o : Option Sleeper) → o ≡ sleeper_on w p
    → IfSome o (λ s. IsBetween 1 (length w.state.records) s.thread)
sleeper-numbered w p None is = tt
sleeper-numbered w p (Some sleeper) is =
    let runs = found-runs w.state.records p sleeper.thread (sleeper-found w p sleeper (sym is)) in
    let there = numbered w.state.records sleeper.thread (status.Running p runs.0) runs.1 in
    (there.0, omega (arith, there.1))

pub sleeper-there : (o : Option Sleeper) (few many : ℕ) → few ≤ many → IfSome o (λ s. IsBetween 1 few s.thread)
    → IfSome o (λ s. IsBetween 1 many s.thread)
sleeper-there None few many le is = tt
sleeper-there (Some sleeper) few many le is = (is.0, omega (arith, is.1, le))
