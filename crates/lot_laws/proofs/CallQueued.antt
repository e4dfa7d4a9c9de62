-- A queued call, and its receipt as the next event: the values of threads afterwards.
use Rattle.lot_laws.proofs.Common.{Call, Event, IsInOrder, Leaves, LendsServed, List, Queued, QueuesCall, Ready, Record, Running, Sizes, Some, State, TakesQueuedCall, Trap, after_trap, ap, at_number, at_number-map, call, change-length, change_record, false, filter, finish_trap, funding_of, is_live, is_live_status, lend_of, length, live_in, live_of, live_value, map, map-set, number-kept, number-set_same, numbers, of_ports, option_map, port_at, range_with_len, record-of, refl, set-set, set_number, status_of, step, step-limits, step-order, subst, sum-same, sum_by, sym, thread_value, value_of, with_ready, with_ticks, ℕ, [], ◌+◌, ◌-◌, ◌∙◌, ◌∷◌, ◌≡◌, ◌≢◌}
use Rattle.lot_machine.specs.declared.record.Status.TheVariants.{Queued as QueuedAt}
use Rattle.lot_laws.proofs.Trapped.{port-off, IsDone, trap-done}
use Rattle.lot_laws.proofs.Lending.{lending}
use Rattle.lot_laws.proofs.Blocked.{lends_in}
use Rattle.lot_laws.proofs.CallReceived as received

-- ---- a list, changed twice in one place

-- a place may change if what is seen of it doesn't
pub map-kept : {A B : Type 0} (v : A → B) (xs : List A) (n : ℕ) (x y : A) → at_number xs n ≡ Some x → v y ≡ v x
    → map v (set_number xs n y) ≡ map v xs
map-kept v xs n x y there same =
    map-set v xs (n - 1) y
    ∙ number-kept (map v xs) n (v y) (at_number-map v xs n ∙ ap (option_map v) there ∙ ap Some (sym same))

changed : (change : Record → Record) (records : List Record) (t : ℕ) (r : Record) → at_number records t ≡ Some r
    → change_record change records t ≡ set_number records t (change r)
changed change records t r there = rw there refl

twice-kept : {B : Type 0} (v : Record → B) (change again : Record → Record) (records : List Record) (t : ℕ) (r : Record)
    → at_number records t ≡ Some r → v (again (change r)) ≡ v r
    → map v (change_record again (change_record change records t) t) ≡ map v records
twice-kept v change again records t r there same =
    let first : change_record change records t ≡ set_number records t (change r) = changed change records t r there in
    let second : change_record again (set_number records t (change r)) t
    ≡ set_number (set_number records t (change r)) t (again (change r)) =
    changed again (set_number records t (change r)) t (change r) (number-set_same records t (change r) r there) in
    ap (λ rs. map v (change_record again rs t)) first
    ∙ ap (map v) (second ∙ set-set records (t - 1) (change r) (again (change r)))
    ∙ map-kept v records t r (again (change r)) there same

-- ---- the state

-- the state after a call was queued
abbrev pub queued : State → ℕ → ℕ → ℕ → ℕ → ℕ → ℕ → State
queued s p ran used port number caller = record s {
  records = change_record
      (λ r. with_ticks (ran + 1) (after_trap (Leaves (QueuedAt port)) p used s.limits r)) s.records caller;
  clients = s.clients;
  ports = (call s.records s.clients s.ports caller port number).ports;
}

pub call-queued : (s : State) (p ran used port number caller : ℕ)
    → (call s.records s.clients s.ports caller port number).outcome ≡ Queued
    → (finish_trap s p caller (ran + 1) used (of_ports s (call s.records s.clients s.ports caller port number))).state
    ≡ queued s p ran used port number caller
call-queued s p ran used port number caller = at (port_at s.ports port).receivers refl
  where
    at : (o : List ℕ) → (port_at s.ports port).receivers ≡ o
        → (call s.records s.clients s.ports caller port number).outcome ≡ Queued
        → (finish_trap s p caller (ran + 1) used (of_ports s
        (call s.records s.clients s.ports caller port number))).state ≡ queued s p ran used port number caller
    at [] is = rw is (λ came. refl)
    at (first ∷ others) is = rw is (λ came. cc)

-- with the caller Ready it is worth what it was, and so is each other thread
module _ (s : State) (p ran used before port number caller : ℕ)
    (runs : status_of s.records caller ≡ Some (Running p before)) where
  records_ready : List Record
  records_ready =
      change_record (λ r. record r { status = Ready }) (queued s p ran used port number caller).records caller

  lends-kept : lends_in s.limits records_ready ≡ lends_in s.limits s.records
  unfolding records_ready
  lends-kept =
      let (r, there, status) = record-of s.records caller (Running p before) runs in
      twice-kept (λ (x : Record). lend_of s.limits x.status)
      (λ r. with_ticks (ran + 1) (after_trap (Leaves (QueuedAt port)) p used s.limits r))
      (λ r. record r { status = Ready }) s.records caller r there (sym (ap (lend_of s.limits) status))

  live-kept : live_in records_ready ≡ live_in s.records
  unfolding records_ready
  live-kept =
      let (r, there, status) = record-of s.records caller (Running p before) runs in
      twice-kept (λ (x : Record). is_live_status x.status) (λ r. with_ticks (ran + 1) (after_trap
      (Leaves (QueuedAt port)) p used s.limits r)) (λ r. record r { status = Ready }) s.records caller r there
      (sym (ap is_live_status status))

  many-kept : length records_ready ≡ length s.records
  unfolding records_ready
  many-kept =
      change-length (λ r. record r { status = Ready }) (queued s p ran used port number caller).records caller
      ∙ change-length
      (λ r. with_ticks (ran + 1) (after_trap (Leaves (QueuedAt port)) p used s.limits r)) s.records caller

  pub queued-worth : (v : ℕ) → value_of (with_ready (queued s p ran used port number caller) caller) v ≡ value_of s v
  unfolding records_ready
  queued-worth v =
      ap (λ lends. thread_value s.limits.unit (lending (funding_of s) lends) (live_in records_ready) v) lends-kept
      ∙ ap (λ live. thread_value s.limits.unit (funding_of s) live v) live-kept

  pub queued-together : live_value (with_ready (queued s p ran used port number caller) caller) ≡ live_value s
  unfolding records_ready
  queued-together =
      let ready = with_ready (queued s p ran used port number caller) caller in
      ap (λ live. sum_by (value_of ready) (filter (is_live live) (numbers records_ready))) live-kept
      ∙ ap (λ n. sum_by (value_of ready) (filter (is_live (live_of s)) (range_with_len 1 n))) many-kept
      ∙ sum-same (value_of ready) (value_of s) (filter (is_live (live_of s)) (numbers s.records)) queued-worth

-- ---- the event

after-queued : (P : State → Type 0) (s : State) → s.limits.queued_lend ≡ false → (e : Event) (caller : ℕ)
    → QueuesCall s e caller
    → ((p ran used before port number : ℕ) → status_of s.records caller ≡ Some (Running p before)
    → P (queued s p ran used port number caller)) → P (step s e).state
after-queued P s off e caller (p, ran, port, number, ticks, ends, is, replied) holds =
    by (trap-done s p ran (Call port number) caller ticks Queued ends (λ refusal same. cc)
    (ap (λ x. (step s x).reply) (sym is) ∙ replied))
  where
    by : IsDone s p ran (Call port number) caller Queued (step s (Trap p ran (Call port number))).state
        → P (step s e).state
    by done =
        let here : (step s e).state ≡ queued s p ran done.used port number caller = ap (λ x. (step s x).state) is
        ∙ done.state ∙ ap (λ x. (finish_trap s p caller (ran + 1) done.used x).state)
        (port-off s caller port (call s.records s.clients s.ports caller port number) off)
        ∙ call-queued s p ran done.used port number caller done.came in
        subst P (sym here) (holds p ran done.used done.before port number done.runs)

pub ready-worth : (s : State) → s.limits.queued_lend ≡ false → (e : Event) (caller v : ℕ) → QueuesCall s e caller
    → value_of (with_ready (step s e).state caller) v ≡ value_of s v
ready-worth s off e caller v queues =
    after-queued (λ x. value_of (with_ready x caller) v ≡ value_of s v) s off e caller queues
    (λ p ran used before port number runs. queued-worth s p ran used before port number caller runs v)

pub ready-together : (s : State) → s.limits.queued_lend ≡ false → (e : Event) (caller : ℕ) → QueuesCall s e caller
    → live_value (with_ready (step s e).state caller) ≡ live_value s
ready-together s off e caller queues =
    after-queued (λ x. live_value (with_ready x caller) ≡ live_value s) s off e caller queues
    (λ p ran used before port number runs. queued-together s p ran used before port number caller runs)

-- ---- both events

pub server-gets : (s : State) (e next : Event) (caller server : ℕ) → IsInOrder s → LendsServed s → QueuesCall s e caller
    → TakesQueuedCall (step s e).state next caller server
    → value_of (step (step s e).state next).state server ≡ value_of s server + value_of s caller
server-gets s e next caller server order lends queues takes =
    received.server-gets (step s e).state next caller server (step-order s e order)
    (ap (λ (l : Sizes). l.without_lending) (step-limits s e) ∙ lends.0, ap (λ (l : Sizes). l.queued_lend) (step-limits s e) ∙ lends.1) takes
    ∙ ap (λ w. w + value_of (with_ready (step s e).state caller) caller) (ready-worth s lends.1 e caller server queues)
    ∙ ap (λ w. value_of s server + w) (ready-worth s lends.1 e caller caller queues)

pub others-keep : (s : State) (e next : Event) (caller server other : ℕ) → IsInOrder s → LendsServed s
    → QueuesCall s e caller → TakesQueuedCall (step s e).state next caller server → other ≢ server
    → value_of (step (step s e).state next).state other ≡ value_of s other
others-keep s e next caller server other order lends queues takes differs =
    received.others-keep (step s e).state next caller server other (step-order s e order)
    (ap (λ (l : Sizes). l.without_lending) (step-limits s e) ∙ lends.0, ap (λ (l : Sizes). l.queued_lend) (step-limits s e) ∙ lends.1)
    takes differs ∙ ready-worth s lends.1 e caller other queues

pub together-same : (s : State) (e next : Event) (caller server : ℕ) → IsInOrder s → LendsServed s
    → QueuesCall s e caller → TakesQueuedCall (step s e).state next caller server
    → live_value (step (step s e).state next).state ≡ live_value s
together-same s e next caller server order lends queues takes =
    received.together-same (step s e).state next caller server (step-order s e order)
    (ap (λ (l : Sizes). l.without_lending) (step-limits s e) ∙ lends.0, ap (λ (l : Sizes). l.queued_lend) (step-limits s e) ∙ lends.1) takes
    ∙ ready-together s lends.1 e caller queues
