-- A reply and a receipt in one trap: the values of threads afterwards.
use Rattle.lot_laws.proofs.Common.{Event, GoesOn, HasNoCycle, IsBacked, IsInOrder, IsQueue, Leaves, LendsServed, List, NoPort, Nobody, NothingToReply, OwnsNothing, QueuedCall, Ready, Receiving, Record, RepliedThenReceived, RepliedThenWaits, RepliesThenReceives, RepliesThenWaits, Running, Serve, Served, Some, State, Trap, after_trap, all-pass, ap, arith, at_number, cases_eq, change-length, change_record, clients_of, cond, counts-once, cycle-nobody, drop, false, finish_trap, first_client, funding_of, inl, inr, is_live_status, is_none, lend_of, lends_lead, length, live_of, live_value, map, of_ports, option_map, port_at, queue-clients, refl, serve, served_at, set_number, some-injective, status-now, status-other, status_of, step, step-order, subst, sym, true, unwrap_or, value_of, with_client, with_ready, with_ticks, ℕ, [], ◌++◌, ◌+◌, ◌∙◌, ◌∷◌, ◌≡◌, ◌≢◌, ◌⊎◌}
use Rattle.lot_machine.specs.declared.record.Status.TheVariants.{Queued as QueuedAt}
use Rattle.lot_laws.proofs.Trapped.{port-stays, port-off, IsDone, trap-done}
use Rattle.lot_laws.proofs.Lending.{worth-nothing, comes-alone}
use Rattle.lot_laws.proofs.Blocked.{lead-itself, lead-other, lends-nobody, is-live, woken-worth, woken-own, blocked-worth, blocked-own, served-lends}
use Rattle.lot_laws.proofs.CallTaken.{port-there}
use Rattle.lot_laws.proofs.Replied.{woken, lends-on, lives-on, caller-first}

-- ---- the state

-- the records and the state after the server waits
abbrev left : State → ℕ → ℕ → ℕ → ℕ → ℕ → ℕ → ℕ → List Record
left s p ran used port number caller server = change_record
    (λ r. with_ticks (ran + 1) (after_trap (Leaves (Receiving port)) p used s.limits r)) (woken s number caller) server

abbrev waiting : State → ℕ → ℕ → ℕ → ℕ → ℕ → ℕ → ℕ → State
waiting s p ran used port number caller server = record s {
  records = left s p ran used port number caller server;
  clients = set_number s.clients server (drop 1 (clients_of s.clients server));
  ports = set_number s.ports port (record { calls = []; receivers = (port_at s.ports port).receivers ++ server ∷ [] });
}

-- and after it took the next call
abbrev taken : State → ℕ → ℕ → ℕ → ℕ → List Record
taken s number caller next server =
    change_record (λ r. record r { status = Served server }) (woken s number caller) next

abbrev gone_on : State → ℕ → ℕ → ℕ → ℕ → ℕ → ℕ → ℕ → List Record
gone_on s p ran used number caller next server = change_record
    (λ r. with_ticks (ran + 1) (after_trap GoesOn p used s.limits r)) (taken s number caller next server) server

abbrev pub serving : State → ℕ → ℕ → ℕ → ℕ → ℕ → List QueuedCall → ℕ → ℕ → ℕ → State
serving s p ran used port number others caller next server = record s {
  records = gone_on s p ran used number caller next server;
  clients = with_client (set_number s.clients server (drop 1 (clients_of s.clients server))) server next;
  ports = set_number s.ports port (record { calls = others; receivers = (port_at s.ports port).receivers });
}

serve-waits : (s : State) (p ran used port number caller server : ℕ)
    → (serve s.records s.clients s.ports server port number).outcome ≡ RepliedThenWaits caller
    → (unwrap_or (first_client s.clients server) 0 ≡ caller)
    × ((finish_trap s p server (ran + 1) used (of_ports s (serve s.records s.clients s.ports server port number))).state
    ≡ waiting s p ran used port number caller server)
serve-waits s p ran used port number caller server = at (port_at s.ports port).calls refl
  where
    at : (o : List QueuedCall) → (port_at s.ports port).calls ≡ o
        → (serve s.records s.clients s.ports server port number).outcome ≡ RepliedThenWaits caller
        → (unwrap_or (first_client s.clients server) 0 ≡ caller) × ((finish_trap s p server (ran + 1) used (of_ports s
        (serve s.records s.clients s.ports server port number))).state ≡ waiting s p ran used port number caller server)
    at [] is = rw is (λ came. let same : unwrap_or (first_client s.clients server) 0 ≡ caller = cc in
        (same, ap (λ x. waiting s p ran used port number x server) same))
    at (first ∷ others) is = rw is (λ came. cc)

-- the first of these calls was the next caller's, and this is the state then
abbrev pub IsServing : State → ℕ → ℕ → ℕ → ℕ → ℕ → ℕ → ℕ → ℕ → List QueuedCall → State → Type 0
IsServing s p ran used port number caller next server calls after =
    (first : QueuedCall) × (others : List QueuedCall) × (calls ≡ first ∷ others) × (first.caller ≡ next) × (unwrap_or
    (first_client s.clients server) 0 ≡ caller) × (after ≡ serving s p ran used port number others caller next server)

pub serve-receives : (s : State) (p ran used port number caller next got server : ℕ)
    → (serve s.records s.clients s.ports server port number).outcome ≡ RepliedThenReceived caller next got
    → IsServing s p ran used port number caller next server (port_at s.ports port).calls
    (finish_trap s p server (ran + 1) used (of_ports s (serve s.records s.clients s.ports server port number))).state
serve-receives s p ran used port number caller next got server = at (port_at s.ports port).calls refl
  where
    at : (o : List QueuedCall) → (port_at s.ports port).calls ≡ o
        → (serve s.records s.clients s.ports server port number).outcome ≡ RepliedThenReceived caller next got
        → IsServing s p ran used port number caller next server o (finish_trap s p server (ran + 1) used
        (of_ports s (serve s.records s.clients s.ports server port number))).state
    at [] is = rw is (λ came. cc)
    at (first ∷ others) is =
        rw is (λ came.
        let same : unwrap_or (first_client s.clients server) 0 ≡ caller = cc in
        let its : first.caller ≡ next = cc in
        (first, others, refl, its, same, ap (λ x. serving s p ran used port number others x first.caller server) same ∙ ap (λ x. serving s p ran used port number others caller x server) its))

-- ---- the thread that is replied to, and the server

module _ (s : State) (order : IsInOrder s) (lends : s.limits.without_lending ≡ false) (p before caller server : ℕ)
    (runs : status_of s.records server ≡ Some (Running p before))
    (first : first_client s.clients server ≡ Some caller) where
  served : status_of s.records caller ≡ Some (Served server)
  served = (queue-clients s.records s.clients s.ports s.mutexes order.queues server).each 0 caller first

  apart : ¬ (caller ≡ server)
  apart same =
      let both : Running p before ≡ Served server =
      some-injective (Running p before) (Served server) (sym runs ∙ ap (status_of s.records) (sym same) ∙ served) in cc

  -- ---- the server waits, and is left with nothing

  module _ (ran used port number : ℕ)
      (no_cycle_now : HasNoCycle (funding_of (waiting s p ran used port number caller server))) where
    records_left : List Record
    records_left = left s p ran used port number caller server

    caller-left : status_of records_left caller ≡ Some Ready
    unfolding records_left
    caller-left =
        status-other (λ r. with_ticks (ran + 1) (after_trap (Leaves (Receiving port)) p used s.limits r))
        (woken s number caller) server caller apart
        ∙ status-now (λ r. record r { status = Ready; delivered = Some number }) s.records caller
        (Served server) Ready served (λ r. refl)

    server-left : status_of records_left server ≡ Some (Receiving port)
    unfolding records_left
    server-left =
        status-now (λ r. with_ticks (ran + 1) (after_trap (Leaves (Receiving port)) p used s.limits r))
        (woken s number caller) server (Running p before) (Receiving port)
        (status-other (λ r. record r { status = Ready; delivered = Some number }) s.records caller server
        (λ same. apart (sym same)) ∙ runs) (λ r. refl)

    other-left : (u : ℕ) → u ≢ caller → u ≢ server → status_of s.records u ≡ status_of records_left u
    unfolding records_left
    other-left u one two =
        sym (status-other (λ r. with_ticks (ran + 1) (after_trap (Leaves (Receiving port)) p used s.limits r))
        (woken s number caller) server u two
        ∙ status-other (λ r. record r { status = Ready; delivered = Some number }) s.records caller u one)

    many-left : length s.records ≡ length records_left
    unfolding records_left
    many-left =
        sym (change-length (λ r. with_ticks (ran + 1) (after_trap (Leaves (Receiving port)) p used s.limits r))
        (woken s number caller) server
        ∙ change-length (λ r. record r { status = Ready; delivered = Some number }) s.records caller)

    lends-left : (u : ℕ) → u ≢ caller → option_map (lend_of s.limits)
        (status_of s.records u) ≡ option_map (lend_of s.limits) (status_of records_left u)
    lends-left u differs = by (cases_eq u server)
      where
        by : (u ≡ server) ⊎ (¬ (u ≡ server)) → option_map (lend_of s.limits)
            (status_of s.records u) ≡ option_map (lend_of s.limits) (status_of records_left u)
        by (inl same) = ap (λ x. option_map (lend_of s.limits) (status_of s.records x)) same
            ∙ ap (option_map (lend_of s.limits)) runs ∙ sym (ap (option_map (lend_of s.limits)) server-left)
            ∙ ap (λ x. option_map (lend_of s.limits) (status_of records_left x)) (sym same)
        by (inr other) = ap (option_map (lend_of s.limits)) (other-left u differs other)

    lives-left : (u : ℕ) → u ≢ caller → u ≢ server
        → option_map is_live_status (status_of s.records u) ≡ option_map is_live_status (status_of records_left u)
    lives-left u one two = ap (option_map is_live_status) (other-left u one two)

    module _ (owns : OwnsNothing (waiting s p ran used port number caller server) server) where
      left-worth : (v : ℕ) → value_of s v ≡ value_of (waiting s p ran used port number caller server) v
          + cond (lends_lead (funding_of (waiting s p ran used port number caller server)) server v)
          (value_of (waiting s p ran used port number caller server) caller) 0
      unfolding records_left
      left-worth =
          woken-worth (waiting s p ran used port number caller server) s.records caller server Ready (Served server)
          many-left caller-left refl refl served refl (served-lends (waiting s p ran used port number caller server)
          server lends) lends-left no_cycle_now order.funds_there order.no_cycle
          (is-live s.records server (Running p before) runs refl) lives-left owns

      left-together : live_value (waiting s p ran used port number caller server) ≡ live_value s
      unfolding records_left
      left-together =
          counts-once (waiting s p ran used port number caller server) no_cycle_now
          ∙ sym (woken-own (waiting s p ran used port number caller server) s.records caller server Ready
          (Served server) many-left caller-left refl refl served refl (served-lends (waiting s p ran used port number
          caller server) server lends) lends-left no_cycle_now order.funds_there order.no_cycle
          (is-live s.records server (Running p before) runs refl) lives-left owns)
          ∙ sym (counts-once s order.no_cycle)

      left-others : (v : ℕ) → v ≢ server → value_of (waiting s p ran used port number caller server) v ≡ value_of s v
      unfolding records_left
      left-others v differs =
          let now = waiting s p ran used port number caller server in
          let off : lends_lead (funding_of now) server v ≡ false = lead-other (funding_of now) server v no_cycle_now
          (lends-nobody now server (Receiving port) server-left refl) differs in
          let is : value_of s v ≡ value_of now v + 0 = left-worth v
          ∙ ap (λ b. value_of now v + cond b (value_of now caller) 0) off in
          omega (arith, is)

      left-server : value_of s server ≡ value_of s caller
      left-server =
          let now = waiting s p ran used port number caller server in
          let none : value_of now server ≡ 0 =
          worth-nothing (funding_of now) (live_of now) s.limits.unit server no_cycle_now owns.0 owns.1 in
          comes-alone (value_of s server) (value_of now server) (value_of now caller)
          (left-worth server ∙ ap (λ b. value_of now server + cond b (value_of now caller) 0)
          (lead-itself (funding_of now) server no_cycle_now)) none
          ∙ left-others caller apart

  -- ---- the server takes the next call

  module _ (ran used port number next : ℕ) (queued : QueuedCall) (others : List QueuedCall)
      (there : at_number s.ports port ≡ Some (port_at s.ports port))
      (calls : (port_at s.ports port).calls ≡ queued ∷ others) (next_is : queued.caller ≡ next)
      (no_cycle_now : HasNoCycle (funding_of (serving s p ran used port number others caller next server))) where
    in-queue : status_of s.records next ≡ Some (QueuedAt port)
    in-queue =
        let queue : IsQueue s.records (QueuedAt port) (map (λ (c : QueuedCall). c.caller) (queued ∷ others)) =
        subst (λ cs. IsQueue s.records (QueuedAt port) (map (λ (c : QueuedCall). c.caller) cs)) calls
        (order.queues.callers port (port_at s.ports port) there) in
        queue.each 0 next (ap Some next_is)

    next-server : ¬ (next ≡ server)
    next-server same =
        let both : Running p before ≡ QueuedAt port = some-injective (Running p before) (QueuedAt port)
        (sym runs ∙ ap (status_of s.records) (sym same) ∙ in-queue) in cc

    next-caller : ¬ (next ≡ caller)
    next-caller same =
        let both : Served server ≡ QueuedAt port = some-injective (Served server) (QueuedAt port)
        (sym served ∙ ap (status_of s.records) (sym same) ∙ in-queue) in cc

    records_ready : List Record
    records_ready = change_record (λ r. record r { status = Ready })
        (change_record (λ r. record r { status = Ready }) s.records caller) next

    records_now : List Record
    records_now = gone_on s p ran used number caller next server

    ready : State
    ready = with_ready (with_ready s caller) next

    next-ready : status_of records_ready next ≡ Some Ready
    unfolding records_ready
    next-ready =
        status-now (λ r. record r { status = Ready })
        (change_record (λ r. record r { status = Ready }) s.records caller) next (QueuedAt port) Ready
        (status-other (λ r. record r { status = Ready }) s.records caller next next-caller ∙ in-queue) (λ r. refl)

    caller-ready : status_of records_ready caller ≡ Some Ready
    unfolding records_ready
    caller-ready =
        status-other (λ r. record r { status = Ready })
        (change_record (λ r. record r { status = Ready }) s.records caller) next caller (λ same. next-caller (sym same))
        ∙ status-now (λ r. record r { status = Ready }) s.records caller (Served server) Ready served (λ r. refl)

    other-ready : (u : ℕ) → u ≢ caller → u ≢ next → status_of records_ready u ≡ status_of s.records u
    unfolding records_ready
    other-ready u one two =
        status-other (λ r. record r { status = Ready }) (change_record (λ r. record r { status = Ready }) s.records
        caller) next u two ∙ status-other (λ r. record r { status = Ready }) s.records caller u one

    server-ready : status_of records_ready server ≡ Some (Running p before)
    server-ready = other-ready server (λ same. apart (sym same)) (λ same. next-server (sym same)) ∙ runs

    server-then : status_of (taken s number caller next server) server ≡ Some (Running p before)
    server-then =
        status-other (λ r. record r { status = Served server }) (woken s number caller) next server
        (λ same. next-server (sym same))
        ∙ status-other (λ r. record r { status = Ready; delivered = Some number }) s.records caller server
        (λ same. apart (sym same)) ∙ runs

    next-now : status_of records_now next ≡ Some (Served server)
    unfolding records_now
    next-now =
        status-other (λ r. with_ticks (ran + 1) (after_trap GoesOn p used s.limits r))
        (taken s number caller next server) server next next-server
        ∙ status-now (λ r. record r { status = Served server }) (woken s number caller) next (QueuedAt port)
        (Served server)
        (status-other (λ r. record r { status = Ready; delivered = Some number }) s.records caller next next-caller
        ∙ in-queue) (λ r. refl)

    caller-now : status_of records_now caller ≡ Some Ready
    unfolding records_now
    caller-now =
        status-other (λ r. with_ticks (ran + 1) (after_trap GoesOn p used s.limits r))
        (taken s number caller next server) server caller apart
        ∙ status-other (λ r. record r { status = Served server }) (woken s number caller) next caller
        (λ same. next-caller (sym same))
        ∙ status-now (λ r. record r { status = Ready; delivered = Some number }) s.records caller
        (Served server) Ready served (λ r. refl)

    other-now : (u : ℕ) → u ≢ caller → u ≢ next → u ≢ server → status_of records_now u ≡ status_of s.records u
    unfolding records_now
    other-now u one two three =
        status-other (λ r. with_ticks (ran + 1) (after_trap GoesOn p used s.limits r))
        (taken s number caller next server) server u three
        ∙ status-other (λ r. record r { status = Served server }) (woken s number caller) next u two
        ∙ status-other (λ r. record r { status = Ready; delivered = Some number }) s.records caller u one

    server-lend : option_map (lend_of s.limits) (status_of records_now server) ≡ Some Nobody
    unfolding records_now
    server-lend =
        lends-on s.limits (taken s number caller next server) server p used (ran + 1) s.limits before server-then

    server-live : option_map is_live_status (status_of records_now server) ≡ Some true
    unfolding records_now
    server-live = lives-on (taken s number caller next server) server p used (ran + 1) s.limits before server-then

    many-now : length records_now ≡ length records_ready
    unfolding records_now records_ready
    many-now =
        change-length (λ r. with_ticks (ran + 1) (after_trap GoesOn p used s.limits r))
        (taken s number caller next server) server
        ∙ change-length (λ r. record r { status = Served server }) (woken s number caller) next
        ∙ change-length (λ r. record r { status = Ready; delivered = Some number }) s.records caller
        ∙ sym (change-length (λ r. record r { status = Ready }) (change_record (λ r. record r { status = Ready })
        s.records caller) next ∙ change-length (λ r. record r { status = Ready }) s.records caller)

    lends-now : (u : ℕ) → u ≢ next → option_map (lend_of s.limits)
        (status_of records_now u) ≡ option_map (lend_of s.limits) (status_of records_ready u)
    lends-now u differs = by (cases_eq u server) (cases_eq u caller)
      where
        by : (u ≡ server) ⊎ (¬ (u ≡ server)) → (u ≡ caller) ⊎ (¬ (u ≡ caller)) → option_map (lend_of s.limits)
            (status_of records_now u) ≡ option_map (lend_of s.limits) (status_of records_ready u)
        by (inl same) which =
            ap (λ x. option_map (lend_of s.limits) (status_of records_now x)) same ∙ server-lend
            ∙ sym (ap (option_map (lend_of s.limits)) server-ready)
            ∙ ap (λ x. option_map (lend_of s.limits) (status_of records_ready x)) (sym same)
        by (inr other) (inl same) =
            ap (λ x. option_map (lend_of s.limits) (status_of records_now x)) same
            ∙ ap (option_map (lend_of s.limits)) (caller-now ∙ sym caller-ready)
            ∙ ap (λ x. option_map (lend_of s.limits) (status_of records_ready x)) (sym same)
        by (inr other) (inr another) =
            ap (option_map (lend_of s.limits)) (other-now u another differs other ∙ sym (other-ready u another differs))

    lives-now : (u : ℕ) → u ≢ next
        → option_map is_live_status (status_of records_now u) ≡ option_map is_live_status (status_of records_ready u)
    lives-now u differs = by (cases_eq u server) (cases_eq u caller)
      where
        by : (u ≡ server) ⊎ (¬ (u ≡ server)) → (u ≡ caller) ⊎ (¬ (u ≡ caller)) → option_map is_live_status
            (status_of records_now u) ≡ option_map is_live_status (status_of records_ready u)
        by (inl same) which =
            ap (λ x. option_map is_live_status (status_of records_now x)) same ∙ server-live
            ∙ sym (ap (option_map is_live_status) server-ready)
            ∙ ap (λ x. option_map is_live_status (status_of records_ready x)) (sym same)
        by (inr other) (inl same) =
            ap (λ x. option_map is_live_status (status_of records_now x)) same ∙ ap (option_map is_live_status)
            (caller-now ∙ sym caller-ready) ∙ ap (λ x. option_map is_live_status (status_of records_ready x)) (sym same)
        by (inr other) (inr another) =
            ap (option_map is_live_status) (other-now u another differs other ∙ sym (other-ready u another differs))

    no_cycle_ready : HasNoCycle (funding_of (with_ready (with_ready s caller) next))
    no_cycle_ready = cycle-nobody (with_ready s caller) (λ r. record r { status = Ready }) next (λ r. refl)
        (cycle-nobody s (λ r. record r { status = Ready }) caller (λ r. refl) order.no_cycle)

    server-backed : IsBacked (funding_of (with_ready (with_ready s caller) next))
        (live_of (with_ready (with_ready s caller) next)) server
    unfolding records_ready
    server-backed = (server, ([], refl), is-live records_ready server (Running p before) server-ready refl)

    serve-worth : (v : ℕ) → value_of (serving s p ran used port number others caller next server) v
        ≡ value_of (with_ready (with_ready s caller) next) v
        + cond (lends_lead (funding_of (with_ready (with_ready s caller) next)) server v)
        (value_of (with_ready (with_ready s caller) next) next) 0
    unfolding records_now records_ready
    serve-worth =
        blocked-worth (with_ready (with_ready s caller) next) records_now next server Ready (Served server) many-now
        next-ready refl refl next-now refl (served-lends (with_ready (with_ready s caller) next) server lends) lends-now
        no_cycle_ready order.funds_there no_cycle_now lives-now server-backed

    serve-together : live_value (serving s p ran used port number others caller next server)
        ≡ live_value (with_ready (with_ready s caller) next)
    unfolding records_now records_ready
    serve-together =
        counts-once (serving s p ran used port number others caller next server) no_cycle_now
        ∙ blocked-own (with_ready (with_ready s caller) next) records_now next server Ready (Served server) many-now
        next-ready refl refl next-now refl (served-lends (with_ready (with_ready s caller) next) server lends) lends-now
        no_cycle_ready order.funds_there no_cycle_now lives-now server-backed
        ∙ sym (counts-once (with_ready (with_ready s caller) next) no_cycle_ready)

    serve-others : (v : ℕ) → v ≢ server → value_of (serving s p ran used port number others caller next server) v
        ≡ value_of (with_ready (with_ready s caller) next) v
    unfolding records_ready
    serve-others v differs =
        let as_if = with_ready (with_ready s caller) next in
        let off : lends_lead (funding_of as_if) server v ≡ false = lead-other (funding_of as_if) server v no_cycle_ready
        (lends-nobody as_if server (Running p before) server-ready refl) differs in
        serve-worth v ∙ ap (λ b. value_of as_if v + cond b (value_of as_if next) 0) off ∙ omega arith

    serve-server : value_of (serving s p ran used port number others caller next server) server ≡ value_of
        (with_ready (with_ready s caller) next) server + value_of (with_ready (with_ready s caller) next) next
    serve-server =
        let as_if = with_ready (with_ready s caller) next in
        serve-worth server ∙ ap (λ b. value_of as_if server + cond b (value_of as_if next) 0)
        (lead-itself (funding_of as_if) server no_cycle_ready)

-- ---- the event

after-wait : (P : State → Type 0) (s : State) (e : Event) (caller server : ℕ) → IsInOrder s
    → RepliesThenWaits s e caller server
    → ((p ran used before port number : ℕ) → status_of s.records server ≡ Some (Running p before)
    → first_client s.clients server ≡ Some caller
    → HasNoCycle (funding_of (waiting s p ran used port number caller server))
    → P (waiting s p ran used port number caller server)) → P (step s e).state
after-wait P s e caller server order (p, ran, port, number, ticks, ends, is, replies) holds =
    by (trap-done s p ran (Serve port number) server ticks (RepliedThenWaits caller) ends (λ refusal same. cc)
    (ap (λ x. (step s x).reply) (sym is) ∙ replies))
  where
    by : IsDone s p ran (Serve port number) server (RepliedThenWaits caller)
        (step s (Trap p ran (Serve port number))).state → P (step s e).state
    by done =
        let (same, state) = serve-waits s p ran done.used port number caller server done.came in
        let checks = all-pass ((is_none (at_number s.ports port), NoPort)
        ∷ (is_none (first_client s.clients server), NothingToReply) ∷ []) done.passed in
        let here : (step s e).state ≡ waiting s p ran done.used port number caller server = ap (λ x. (step s x).state)
        is ∙ done.state ∙ ap (λ x. (finish_trap s p server (ran + 1) done.used x).state) (port-stays s server port
        (serve s.records s.clients s.ports server port number) (ap (served_at s server port) done.came)) ∙ state in
        let now : HasNoCycle (funding_of (step s e).state) = (step-order s e order).no_cycle in
        subst P (sym here) (holds p ran done.used done.before port number done.runs
        (caller-first s caller server same checks.1.0) (subst (λ x. HasNoCycle (funding_of x)) here now))

after-serve : (P : State → Type 0) (s : State) → s.limits.queued_lend ≡ false → (e : Event) (caller next server : ℕ)
    → IsInOrder s → RepliesThenReceives s e caller next server
    → ((p ran used before port number : ℕ) (queued : QueuedCall) (others : List QueuedCall)
    → status_of s.records server ≡ Some (Running p before) → first_client s.clients server ≡ Some caller
    → at_number s.ports port ≡ Some (port_at s.ports port) → (port_at s.ports port).calls ≡ queued ∷ others
    → queued.caller ≡ next
    → HasNoCycle (funding_of (serving s p ran used port number others caller next server))
    → P (serving s p ran used port number others caller next server)) → P (step s e).state
after-serve P s off e caller next server order (p, ran, port, number, got, ticks, ends, is, replies) holds =
    by (trap-done s p ran (Serve port number) server ticks (RepliedThenReceived caller next got) ends
    (λ refusal same. cc) (ap (λ x. (step s x).reply) (sym is) ∙ replies))
  where
    by : IsDone s p ran (Serve port number) server (RepliedThenReceived caller next got)
        (step s (Trap p ran (Serve port number))).state → P (step s e).state
    by done =
        let (queued, others, calls, next_is, same, state) =
        serve-receives s p ran done.used port number caller next got server done.came in
        let checks = all-pass ((is_none (at_number s.ports port), NoPort)
        ∷ (is_none (first_client s.clients server), NothingToReply) ∷ []) done.passed in
        let there : at_number s.ports port ≡ Some (port_at s.ports port) = port-there s port checks.0 in
        let here : (step s e).state ≡ serving s p ran done.used port number others caller next server =
        ap (λ x. (step s x).state) is ∙ done.state ∙ ap (λ x. (finish_trap s p server (ran + 1) done.used x).state)
        (port-off s server port (serve s.records s.clients s.ports server port number) off) ∙ state in
        let now : HasNoCycle (funding_of (step s e).state) = (step-order s e order).no_cycle in
        subst P (sym here) (holds p ran done.used done.before port number queued others done.runs (caller-first s caller
        server same checks.1.0) there calls next_is (subst (λ x. HasNoCycle (funding_of x)) here now))

-- that a server is left with nothing, if it is in the state then
pub waits-server : (s : State) (e : Event) (caller server : ℕ) → IsInOrder s → s.limits.without_lending ≡ false
    → RepliesThenWaits s e caller server → OwnsNothing (step s e).state server → value_of s server ≡ value_of s caller
waits-server s e caller server order lends replies =
    after-wait (λ x. OwnsNothing x server → value_of s server ≡ value_of s caller) s e caller server order replies
    (λ p ran used before port number runs first now owns.
    left-server s order lends p before caller server runs first ran used port number now owns)

pub waits-others : (s : State) (e : Event) (caller server other : ℕ) → IsInOrder s → s.limits.without_lending ≡ false
    → RepliesThenWaits s e caller server → other ≢ server → OwnsNothing (step s e).state server
    → value_of (step s e).state other ≡ value_of s other
waits-others s e caller server other order lends replies differs =
    after-wait (λ x. OwnsNothing x server → value_of x other ≡ value_of s other) s e caller server order replies
    (λ p ran used before port number runs first now owns.
    left-others s order lends p before caller server runs first ran used port number now owns other differs)

pub waits-together : (s : State) (e : Event) (caller server : ℕ) → IsInOrder s → s.limits.without_lending ≡ false
    → RepliesThenWaits s e caller server → OwnsNothing (step s e).state server
    → live_value (step s e).state ≡ live_value s
waits-together s e caller server order lends replies =
    after-wait (λ x. OwnsNothing x server → live_value x ≡ live_value s) s e caller server order replies
    (λ p ran used before port number runs first now owns.
    left-together s order lends p before caller server runs first ran used port number now owns)

pub serves-server : (s : State) (e : Event) (caller next server : ℕ) → IsInOrder s → LendsServed s
    → RepliesThenReceives s e caller next server
    → value_of (step s e).state server
    ≡ value_of (with_ready (with_ready s caller) next) server + value_of (with_ready (with_ready s caller) next) next
serves-server s e caller next server order lends replies =
    after-serve (λ x. value_of x server ≡ value_of (with_ready (with_ready s caller) next) server + value_of
    (with_ready (with_ready s caller) next) next) s lends.1 e caller next server order replies
    (λ p ran used before port number queued others runs first there calls next_is now. serve-server s order lends.0 p
    before caller server runs first ran used port number next queued others there calls next_is now)

pub serves-others : (s : State) (e : Event) (caller next server other : ℕ) → IsInOrder s → LendsServed s
    → RepliesThenReceives s e caller next server → other ≢ server
    → value_of (step s e).state other ≡ value_of (with_ready (with_ready s caller) next) other
serves-others s e caller next server other order lends replies differs =
    after-serve (λ x. value_of x other ≡ value_of (with_ready (with_ready s caller) next) other) s lends.1 e caller next
    server order replies
    (λ p ran used before port number queued others runs first there calls next_is now. serve-others s order lends.0 p
    before caller server runs first ran used port number next queued others there calls next_is now other differs)

pub serves-together : (s : State) (e : Event) (caller next server : ℕ) → IsInOrder s → LendsServed s
    → RepliesThenReceives s e caller next server
    → live_value (step s e).state ≡ live_value (with_ready (with_ready s caller) next)
serves-together s e caller next server order lends replies =
    after-serve (λ x. live_value x ≡ live_value (with_ready (with_ready s caller) next)) s lends.1 e caller next server
    order replies
    (λ p ran used before port number queued others runs first there calls next_is now. serve-together s order lends.0 p
    before caller server runs first ran used port number next queued others there calls next_is now)
