-- The total weight of a lottery's lots is the total of its draw, and only the winner's lot has the drawn number.
use Rattle.lot_explain.proofs.Common.{Answered, Bool, Command, Compensation, Drawn, Event, HasNumber, IfSome, List, Lot, None, Option, Program, Refusal, Reply, Some, State, Step, TrapRefusal, Won, World, actor_event, ap, arith, checked_effect, compensation_of, cond, console_turn, draw, draw_lots, ends_quantum, event_effect, event_refusal, false, first_above, le-ltb, lot_of, lots_of, lt-ltb, ltb-false, ltb-true, map, mutex_at, mutex_lots, nat_lt, next_name, number_in, ready_threads, refl, resolved, running_sums, slice_index, step, subst, sum, sum-map, sum_by-cons, sym, system_turn, thread_there, total_of, trap_effect, trap_refusal, true, unless_refused, unlock, used_there, value_of, weight_of, winner, winner-is, won_in, ℕ, [], ◌%◌, ◌++◌, ◌+◌, ◌<◌, ◌==◌, ◌∙◌, ◌∷◌, ◌≡◌, ◌≤◌}
use Rattle.lot_machine.specs.declared.trap.Trap.TheVariants as action
use Rattle.lot_machine.specs.declared.event.Event.TheVariants as event
use Rattle.lot_machine.specs.declared.reply.Reply.TheVariants as reply

-- a lot of the thread has the number, and no lot of another does
abbrev pub IsOnly : List Lot → ℕ → ℕ → Type 0
IsOnly lots t number = ((lot : Lot) × HasNumber lots number lot × (lot.thread ≡ t))
    × ((lot : Lot) → HasNumber lots number lot → lot.thread ≡ t)

-- a lottery that was won is one of these lots, and the winner's has the number
abbrev HasWon : List Lot → Event → Reply → Type 0
HasWon lots e r = IfSome (won_in e r) (λ w. (w.total ≡ total_of lots) × IfSome (number_in r) (IsOnly lots w.winner))

-- the lots of threads weigh together what the threads weigh
weighs : (s : State) (v : ℕ → ℕ) (why : ℕ → Option Compensation) (ts : List ℕ)
    → sum (map v ts) ≡ total_of (map (λ t. lot_of s t (v t) (why t)) ts)
weighs s v why [] = refl
weighs s v why (t ∷ ts) =
    let weigh : Lot → ℕ = λ lot. lot.weight in
    omega (arith, sum-map v (t ∷ ts), sum_by-cons v t ts, sum-map v ts, weighs s v why ts, sum_by-cons weigh (lot_of s t (v t) (why t)) (map (λ u. lot_of s u (v u) (why u)) ts))

-- what a number was drawn from
winner-total : (ws : List ℕ) (d : ℕ) (w : Drawn) → winner ws d ≡ Some w → w.total ≡ sum ws
winner-total ws d w is = let facts = rw is at (winner-is ws d) in facts.3

-- the winner's place
winner-place : (ws : List ℕ) (d : ℕ) (w : Drawn) → winner ws d ≡ Some w
    → w.place ≡ first_above w.number (running_sums 0 ws)
winner-place ws d w = at (sum ws == 0)
  where
    drawn : Drawn
    drawn = record { place = first_above (d % sum ws) (running_sums 0 ws); number = d % sum ws; total = sum ws }

    at : (b : Bool) → cond {A = Option Drawn} b None (Some drawn) ≡ Some w
        → w.place ≡ first_above w.number (running_sums 0 ws)
    at true is = cc
    at false is =
        let same : drawn ≡ w = cc in
        subst (λ (x : Drawn). x.place ≡ first_above x.number (running_sums 0 ws)) same refl

-- ---- whose number it is

module _ (s : State) (v : ℕ → ℕ) (why : ℕ → Option Compensation) where
  abbrev lots_for : List ℕ → List Lot
  lots_for ts = map (λ t. lot_of s t (v t) (why t)) ts

  -- If the numbers of these lots begin with this one, the lot that has a number is that of the first thread whose running sum is above it.
  thread-above : (first n : ℕ) (ts : List ℕ) (before : List Lot) (lot : Lot) (after : List Lot)
      → lots_for ts ≡ before ++ lot ∷ after
      → first + total_of before ≤ n → n < first + total_of before + lot.weight
      → lot.thread ≡ slice_index ts (first_above n (running_sums first (map v ts)))
  thread-above first n [] [] lot after place low high = cc
  thread-above first n [] (b ∷ before) lot after place low high = cc
  thread-above first n (t ∷ ts) [] lot after place low high =
      let same : lot_of s t (v t) (why t) ≡ lot = cc in
      let none : total_of [] ≡ 0 = refl in
      let above : nat_lt n (first + v t) ≡ true =
      lt-ltb n (first + v t) (omega (arith, high, none, ap (λ (x : Lot). x.weight) same)) in
      rw above (sym (ap (λ (x : Lot). x.thread) same))
  thread-above first n (t ∷ ts) (b ∷ before) lot after place low high =
      let same : lot_of s t (v t) (why t) ≡ b = cc in
      let rest : lots_for ts ≡ before ++ lot ∷ after = cc in
      let more = sum_by-cons (λ (x : Lot). x.weight) b before in
      let weighs = ap (λ (x : Lot). x.weight) same in
      let above : nat_lt n (first + v t) ≡ false = le-ltb n (first + v t) (omega (arith, low, more, weighs)) in
      rw above (thread-above (first + v t) n ts before lot after rest (omega (arith, low, more, weighs))
      (omega (arith, high, more, weighs)))

  -- the numbers of these lots begin with this one, and this is the lot that has the number
  record HasFrom (first : ℕ) (lots : List Lot) (n : ℕ) : Type 0 where
    lot : Lot
    before : List Lot
    after : List Lot
    place : lots ≡ before ++ lot ∷ after
    from : first + total_of before ≤ n
    below : n < first + total_of before + lot.weight

  lot-above : (first n : ℕ) (ts : List ℕ) → first ≤ n → n < first + sum (map v ts) → HasFrom first (lots_for ts) n
  lot-above first n [] low high = let none : sum [] ≡ 0 = refl in absurd (omega (arith, low, high, none))
  lot-above first n (t ∷ ts) low high = at (nat_lt n (first + v t)) refl (lot-above (first + v t) n ts)
    where
      here : Lot
      here = lot_of s t (v t) (why t)

      at : (b : Bool) → nat_lt n (first + v t) ≡ b
          → (first + v t ≤ n → n < first + v t + sum (map v ts) → HasFrom (first + v t) (lots_for ts) n)
          → HasFrom first (lots_for (t ∷ ts)) n
      at true is later =
          let none : total_of [] ≡ 0 = refl in
          record { lot = here; before = []; after = lots_for ts; place = refl; from = omega (arith, low, none); below = omega (arith, ltb-true n (first + v t) is, none) }
      at false is later =
          let least = ltb-false n (first + v t) is in
          let rest = later least (omega (arith, high, sum-map v (t ∷ ts), sum_by-cons v t ts, sum-map v ts)) in
          let more = sum_by-cons (λ (x : Lot). x.weight) here rest.before in
          record {
            lot = rest.lot;
            before = here ∷ rest.before;
            after = rest.after;
            place = ap (λ xs. here ∷ xs) rest.place;
            from = omega (arith, rest.from, more);
            below = omega (arith, rest.below, more);
          }

  only-winner : (ts : List ℕ) (d : ℕ) (w : Drawn) → winner (map v ts) d ≡ Some w
      → IsOnly (lots_for ts) (slice_index ts w.place) w.number
  only-winner ts d w is =
      let facts = rw is at (winner-is (map v ts) d) in
      let found = lot-above 0 w.number ts (omega arith) (omega (arith, facts.2)) in
      let has : HasNumber (lots_for ts) w.number found.lot =
      record { before = found.before; after = found.after; place = found.place; from = omega (arith, found.from); below = omega (arith, found.below) } in
      ((found.lot, has, owner found.lot has), owner)
    where
      owner : (lot : Lot) → HasNumber (lots_for ts) w.number lot → lot.thread ≡ slice_index ts w.place
      owner lot has =
          thread-above 0 w.number ts has.before lot has.after has.place (omega (arith, has.from))
          (omega (arith, has.below))
          ∙ ap (slice_index ts) (sym (winner-place (map v ts) d w is))

-- ---- draws

drawn-won : (s : State) (p d : ℕ) → HasWon (draw_lots s) (event.Draw p d) (draw s p d).reply
drawn-won s p d = at (winner weights d) refl
  where
    weights : List ℕ
    weights = map (weight_of s) (ready_threads s.records)

    at : (o : Option Drawn) → winner weights d ≡ o → HasWon (draw_lots s) (event.Draw p d) (draw s p d).reply
    at None is = rw is tt
    at (Some w) is = rw is (winner-total weights d w is ∙ weighs s (weight_of s) (compensation_of s) (ready_threads s.records), only-winner s (weight_of s) (compensation_of s) (ready_threads s.records) d w is)

refused-draw : (s : State) (p d : ℕ) (o : Option Refusal) (next : Step) → HasWon (draw_lots s)
    (event.Draw p d) next.reply → HasWon (draw_lots s) (event.Draw p d) (unless_refused s o next).reply
refused-draw s p d None next is = is
refused-draw s p d (Some refusal) next is = tt

-- ---- unlocks

module _ (s : State) (p ran m d : ℕ) where
  abbrev IsWon : Reply → Type 0
  IsWon r = HasWon (mutex_lots s m) (event.Trap p ran (action.Unlock m d)) r

  unlocked-won : (ws : List ℕ) → (mutex_at s.mutexes m).waiters ≡ ws → (t ticks : ℕ) (ends : Bool)
      → IsWon (reply.Trapped t ticks (unlock s.records s.mutexes (value_of s) m d).outcome ends)
  unlocked-won [] is t ticks ends = rw is tt
  unlocked-won (w ∷ ws) is t ticks ends = at (winner (map (value_of s) (w ∷ ws)) d) refl
    where
      at : (o : Option Drawn) → winner (map (value_of s) (w ∷ ws)) d ≡ o
          → IsWon (reply.Trapped t ticks (unlock s.records s.mutexes (value_of s) m d).outcome ends)
      at None won = rw (is, won) tt
      at (Some x) won = rw (is, won)
          (winner-total (map (value_of s) (w ∷ ws)) d x won ∙ weighs s (value_of s) (λ t. None) (w ∷ ws), only-winner s (value_of s) (λ t. None) (w ∷ ws) d x won)

  checked-won : (o : Option TrapRefusal) (t u ticks : ℕ) (ends : Bool)
      → IsWon (reply.Trapped t ticks (checked_effect s o (trap_effect s u (action.Unlock m d))).outcome ends)
  checked-won None t u ticks ends = unlocked-won (mutex_at s.mutexes m).waiters refl t ticks ends
  checked-won (Some why) t u ticks ends = tt

  refused-unlock : (o : Option Refusal) (next : Step) → IsWon next.reply → IsWon (unless_refused s o next).reply
  refused-unlock None next is = is
  refused-unlock (Some refusal) next is = tt

-- ---- each event

step-won : (s : State) (e : Event) → HasWon (lots_of s e) e (step s e).reply
step-won s (event.Draw p d) = refused-draw s p d (event_refusal s (event.Draw p d)) (draw s p d) (drawn-won s p d)
step-won s (event.Trap p ran (action.Unlock m d)) =
    let e = event.Trap p ran (action.Unlock m d) in
    let t = thread_there s p in
    let effect = checked_effect s (trap_refusal s t (action.Unlock m d)) (trap_effect s t (action.Unlock m d)) in
    let ends = ends_quantum effect.after (used_there s p + ran + 1) s.limits.quantum in
    refused-unlock s p ran m d (event_refusal s e) (event_effect s e)
    (checked-won s p ran m d (trap_refusal s t (action.Unlock m d)) t t (ran + 1) ends)
step-won s e = tt

-- ---- each turn

-- a turn's reply is that of the kernel to its event
console-reply : (program : Program) (w : World) (commands : List Command) (e : Event) (r : Reply)
    → (console_turn program w commands).answer ≡ Answered e r → (step w.state e).reply ≡ r
console-reply program w [] e r is = cc
console-reply program w (c ∷ cs) e r is = cc

turn-reply : (program : Program) (w : World) (actor : ℕ) (e : Event) (r : Reply)
    → (system_turn program w actor).answer ≡ Answered e r → (step w.state e).reply ≡ r
turn-reply program w actor e r is = at (actor == 0) refl
  where
    at : (b : Bool) → (actor == 0) ≡ b → (step w.state e).reply ≡ r
    at true zero = console-reply program w w.commands e r (rw zero at is)
    at false zero =
        let one : Answered (actor_event program w actor) (step w.state (actor_event program w actor)).reply
        ≡ Answered e r = rw zero at is in
        cc

-- and leads to the state after it
console-state : (program : Program) (w : World) (commands : List Command) (e : Event) (r : Reply)
    → (console_turn program w commands).answer ≡ Answered e r
    → (console_turn program w commands).world.state ≡ (step w.state e).state
console-state program w [] e r is = cc
console-state program w (c ∷ cs) e r is = let same : event.Command (resolved w.tickets (next_name w) c) ≡ e = cc in
    ap (λ x. (step w.state x).state) same

pub turn-state : (program : Program) (w : World) (actor : ℕ) (e : Event) (r : Reply)
    → (system_turn program w actor).answer ≡ Answered e r
    → (system_turn program w actor).world.state ≡ (step w.state e).state
turn-state program w actor e r is = at (actor == 0) refl
  where
    at : (b : Bool) → (actor == 0) ≡ b → (system_turn program w actor).world.state ≡ (step w.state e).state
    at true zero = rw zero (console-state program w w.commands e r (rw zero at is))
    at false zero =
        let one : Answered (actor_event program w actor) (step w.state (actor_event program w actor)).reply
        ≡ Answered e r = rw zero at is in
        let same : actor_event program w actor ≡ e = cc in
        rw zero (ap (λ x. (step w.state x).state) same)

pub turn-won : (program : Program) (w : World) (actor : ℕ) (e : Event) (r : Reply)
    → (system_turn program w actor).answer ≡ Answered e r → HasWon (lots_of w.state e) e r
turn-won program w actor e r is =
    subst (HasWon (lots_of w.state e) e) (turn-reply program w actor e r is) (step-won w.state e)

pub won-total : (program : Program) (w : World) (actor : ℕ) (e : Event) (r : Reply)
    → (system_turn program w actor).answer ≡ Answered e r
    → IfSome (won_in e r) (λ won. won.total ≡ total_of (lots_of w.state e))
won-total program w actor e r is = from (won_in e r) (turn-won program w actor e r is)
  where
    lots : List Lot
    lots = lots_of w.state e

    from : (o : Option Won)
        → IfSome o (λ won. (won.total ≡ total_of lots) × IfSome (number_in r) (IsOnly lots won.winner))
        → IfSome o (λ won. won.total ≡ total_of lots)
    from None is = tt
    from (Some won) is = is.0
