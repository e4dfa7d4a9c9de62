-- In a reachable state each thread whose call is queued is among the callers of its port, and each thread that waits to
-- receive among its receivers.
use Rattle.lot_laws.proofs.Common.{Action, After, AlreadyOwner, Bool, Call, Command, Drawn, Effect, Ends, Event, Exit, GoesOn, IsAmong, IsInOrder, IsReachable, Kill, Leaves, List, Lock, LockCycle, MakeFunded, MakeThread, Mutex, NoMutex, NoPort, None, NothingToReply, Option, Port, QueuedCall, Receive, Record, Serve, Sizes, Some, State, Status, TrapRefusal, Unlock, after_trap, all-pass, among-append_left, among-append_right, ap, at_number, at_number-map, at_number-suc, before_lock, call, callers_of, change_record, checked-sizes, checked_effect, command_effect, command_refusal, command_step, compensation_for, cond, draw, eqb-true, event_effect, false, filter, first_client, free_threads, inl, inr, is_no_mutex, is_none, killed, killed-dead, killed-either, lends_on_to, lock, map, mutex_at, nat_lt, newborn, not, number-placed, number-set, number-set_same, number-there, of_mutexes, of_ports, opening, opening-order, option_any, option_map, or_parts, owns, placed, port_at, port_without, ready_threads, receive, refl, reply, set_number, slice_get, slice_index, some-injective, started, state_after, status-changed, status-now, status_of, step, step-order, stopped, subst, suc, sym, thread_meant, thread_there, trap, trap_effect, trap_refusal, true, unlock, unrefused, unwrap_or, used_there, value_of, weight_of, winner, with_ticks, without, without_servers, zero, ℕ, [], ◌++◌, ◌+◌, ◌-◌, ◌==◌, ◌∙◌, ◌∷◌, ◌≡◌, ◌⊎◌}
use Rattle.lot_machine.specs.declared.record.Status.TheVariants as status
use Rattle.lot_machine.specs.declared.trap.Trap.TheVariants.{Reply as ReplyTo}
use Rattle.lot_machine.specs.declared.event.Event.TheVariants as event
use Rattle.lot_laws.proofs.CallTaken.{port-there}

-- A thread with this status stands in the port's queue that the status says. One that waits for a mutex waits for no port's holder.
abbrev pub Stands : List Port → ℕ → Status → ℕ → Type 0
Stands ports many (status.Queued p) u = IsAmong (callers_of ports p) u
Stands ports many (status.Receiving p) u = IsAmong (port_at ports p).receivers u
Stands ports many (status.Waiting m) u = nat_lt many m ≡ false
Stands ports many other u = Unit {0}

-- each thread does
abbrev pub AreListed : List Record → List Port → ℕ → Type 0
AreListed records ports many = (u : ℕ) (now : Status) → status_of records u ≡ Some now → Stands ports many now u

-- ---- lists

among-push : (calls : List QueuedCall) (c : QueuedCall) (u : ℕ) → IsAmong (map (λ (x : QueuedCall). x.caller) calls) u
    → IsAmong (map (λ (x : QueuedCall). x.caller) (calls ++ c ∷ [])) u
among-push [] c u (place, e) = cc
among-push (d ∷ calls) c u (zero, e) = (zero, e)
among-push (d ∷ calls) c u (suc place, e) = let more = among-push calls c u (place, e) in (suc more.0, more.1)

among-last : (calls : List QueuedCall) (c : QueuedCall)
    → IsAmong (map (λ (x : QueuedCall). x.caller) (calls ++ c ∷ [])) c.caller
among-last [] c = (zero, refl)
among-last (d ∷ calls) c = let more = among-last calls c in (suc more.0, more.1)

-- another than the first stands behind it
among-rest : (x : ℕ) (xs all : List ℕ) (u : ℕ) → all ≡ x ∷ xs → ¬ (u ≡ x) → IsAmong all u → IsAmong xs u
among-rest x xs all u is differs among = by (subst (λ ys. IsAmong ys u) is among)
  where
    by : IsAmong (x ∷ xs) u → IsAmong xs u
    by (zero, e) = absurd (differs (sym (some-injective x u e)))
    by (suc place, e) = (place, e)

among-none : (xs ys : List ℕ) (u : ℕ) → xs ≡ [] → IsAmong xs u → IsAmong ys u
among-none xs ys u none among = by (subst (λ zs. IsAmong zs u) none among)
  where
    by : IsAmong [] u → IsAmong ys u
    by (place, e) = cc

-- who isn't taken out is left
left-callers : (t : ℕ) (calls : List QueuedCall) (u : ℕ) → ¬ (u ≡ t)
    → IsAmong (map (λ (x : QueuedCall). x.caller) calls) u
    → IsAmong (map (λ (x : QueuedCall). x.caller) (filter (λ (x : QueuedCall). not (x.caller == t)) calls)) u
left-callers t [] u differs (place, e) = cc
left-callers t (c ∷ calls) u differs (zero, e) = first (c.caller == t) refl
  where
    first : (b : Bool) → (c.caller == t) ≡ b
        → IsAmong
        (map (λ (x : QueuedCall). x.caller) (cond (not b) (c ∷ filter (λ (x : QueuedCall). not (x.caller == t)) calls)
        (filter (λ (x : QueuedCall). not (x.caller == t)) calls))) u
    first true at = absurd (differs (sym (some-injective c.caller u e) ∙ eqb-true c.caller t at))
    first false at = (zero, e)
left-callers t (c ∷ calls) u differs (suc place, e) = next (c.caller == t) (left-callers t calls u differs (place, e))
  where
    next : (b : Bool)
        → IsAmong (map (λ (x : QueuedCall). x.caller) (filter (λ (x : QueuedCall). not (x.caller == t)) calls)) u
        → IsAmong
        (map (λ (x : QueuedCall). x.caller) (cond (not b) (c ∷ filter (λ (x : QueuedCall). not (x.caller == t)) calls)
        (filter (λ (x : QueuedCall). not (x.caller == t)) calls))) u
    next true (i, h) = (i, h)
    next false (i, h) = (suc i, h)

pub left-threads : (t : ℕ) (xs : List ℕ) (u : ℕ) → ¬ (u ≡ t) → IsAmong xs u → IsAmong (without t xs) u
left-threads t [] u differs (place, e) = (place, e)
left-threads t (x ∷ xs) u differs (zero, e) = first (x == t) refl
  where
    first : (b : Bool) → (x == t) ≡ b → IsAmong (cond (not b) (x ∷ without t xs) (without t xs)) u
    first true at = absurd (differs (sym (some-injective x u e) ∙ eqb-true x t at))
    first false at = (zero, e)
left-threads t (x ∷ xs) u differs (suc place, e) = next (x == t) (left-threads t xs u differs (place, e))
  where
    next : (b : Bool) → IsAmong (without t xs) u → IsAmong (cond (not b) (x ∷ without t xs) (without t xs)) u
    next true (i, h) = (i, h)
    next false (i, h) = (suc i, h)

-- ---- changes

-- a thread that stands where its new status says
keep-change : (change : Record → Record) (records : List Record) (ports : List Port) (many t : ℕ)
    → ((r : Record) → Stands ports many (change r).status t) → AreListed records ports many
    → AreListed (change_record change records t) ports many
keep-change change records ports many t stands listed u now is = from (status-changed change records t u)
  where
    from : (status_of (change_record change records t) u ≡ status_of records u) ⊎ ((u ≡ t) × ((r : Record)
        × (at_number records t ≡ Some r) × (status_of (change_record change records t) u ≡ Some (change r).status)))
        → Stands ports many now u
    from (inl same) = listed u now (sym same ∙ is)
    from (inr (at, (r, there, new))) = subst (Stands ports many now) (sym at)
        (subst (λ st. Stands ports many st t) (some-injective (change r).status now (sym new ∙ is)) (stands r))

-- what stands at a number that is set
set-port : (ports : List Port) (p q : ℕ) (x : Port) → (port_at (set_number ports p x) q ≡ port_at ports q)
    ⊎ ((q ≡ suc (p - 1)) × (port_at (set_number ports p x) q ≡ x))
set-port ports p q x = from (number-set ports p x q)
  where
    from : (at_number (set_number ports p x) q ≡ at_number ports q)
        ⊎ ((q ≡ suc (p - 1)) × (at_number (set_number ports p x) q ≡ Some x))
        → (port_at (set_number ports p x) q ≡ port_at ports q)
        ⊎ ((q ≡ suc (p - 1)) × (port_at (set_number ports p x) q ≡ x))
    from (inl same) = inl (ap (λ (o : Option Port). unwrap_or o (record { calls = []; receivers = [] })) same)
    from (inr (at, new)) = inr (at, ap (λ (o : Option Port). unwrap_or o (record { calls = []; receivers = [] })) new)

-- a port changes, and those who wait there still stand in it
keep-port : (records : List Record) (ports : List Port) (many p : ℕ) (x : Port)
    → at_number ports p ≡ Some (port_at ports p)
    → ((u : ℕ) → status_of records u ≡ Some (status.Queued p) → IsAmong (callers_of ports p) u
    → IsAmong (map (λ (c : QueuedCall). c.caller) x.calls) u)
    → ((u : ℕ) → status_of records u ≡ Some (status.Receiving p) → IsAmong (port_at ports p).receivers u
    → IsAmong x.receivers u)
    → AreListed records ports many → AreListed records (set_number ports p x) many
keep-port records ports many p x there calls receivers listed u now is = by now is (listed u now is)
  where
    number : suc (p - 1) ≡ p
    number = number-there ports p (port_at ports p) there

    by : (now : Status) → status_of records u ≡ Some now → Stands ports many now u
        → Stands (set_number ports p x) many now u
    by (status.Queued q) at among = from (set-port ports p q x)
      where
        from : (port_at (set_number ports p x) q ≡ port_at ports q)
            ⊎ ((q ≡ suc (p - 1)) × (port_at (set_number ports p x) q ≡ x))
            → IsAmong (callers_of (set_number ports p x) q) u
        from (inl same) = subst (λ (y : Port). IsAmong (map (λ (c : QueuedCall). c.caller) y.calls) u) (sym same) among
        from (inr (here, new)) =
            let same : q ≡ p = here ∙ number in
            subst (λ (y : Port). IsAmong (map (λ (c : QueuedCall). c.caller) y.calls) u) (sym new)
            (calls u (at ∙ ap (λ n. Some (status.Queued n)) same)
            (subst (λ n. IsAmong (callers_of ports n) u) same among))
    by (status.Receiving q) at among = from (set-port ports p q x)
      where
        from : (port_at (set_number ports p x) q ≡ port_at ports q)
            ⊎ ((q ≡ suc (p - 1)) × (port_at (set_number ports p x) q ≡ x))
            → IsAmong (port_at (set_number ports p x) q).receivers u
        from (inl same) = subst (λ (y : Port). IsAmong y.receivers u) (sym same) among
        from (inr (here, new)) =
            let same : q ≡ p = here ∙ number in
            subst (λ (y : Port). IsAmong y.receivers u) (sym new) (receivers u (at
            ∙ ap (λ n. Some (status.Receiving n)) same) (subst (λ n. IsAmong (port_at ports n).receivers u) same among))
    by other at stands = stands

-- a thread that has a status has one after a change
still-some : (change : Record → Record) (records : List Record) (t u : ℕ) (now : Status)
    → status_of records u ≡ Some now → (later : Status) × (status_of (change_record change records t) u ≡ Some later)
still-some change records t u now is = from (status-changed change records t u)
  where
    from : (status_of (change_record change records t) u ≡ status_of records u) ⊎ ((u ≡ t) × ((r : Record)
        × (at_number records t ≡ Some r) × (status_of (change_record change records t) u ≡ Some (change r).status)))
        → (later : Status) × (status_of (change_record change records t) u ≡ Some later)
    from (inl same) = (now, same ∙ is)
    from (inr (at, (r, there, new))) = ((change r).status, new)

-- ---- traps

-- The thread that makes a trap, which runs. How it leaves its processor says its new status; if it stays or ends it waits nowhere.
module _ (finish : After → Record → Record) (leaves : (now : Status) (r : Record)
    → (finish (Leaves now) r).status ≡ now) (s : State) (order : IsInOrder s) (t : ℕ)
    (stays : (ports : List Port) (r : Record) → Stands ports s.limits.mutexes (finish GoesOn r).status t)
    (ends : (ports : List Port) (r : Record) → Stands ports s.limits.mutexes (finish Ends r).status t)
    (listed : AreListed s.records s.ports s.limits.mutexes) where
  many : ℕ
  many = s.limits.mutexes

  leaves-stands : (ports : List Port) (now : Status) → Stands ports s.limits.mutexes now t → (r : Record)
      → Stands ports s.limits.mutexes (finish (Leaves now) r).status t
  leaves-stands ports now stands r = subst (λ st. Stands ports s.limits.mutexes st t) (sym (leaves now r)) stands

  -- the state after an effect
  abbrev Done : Effect → Type 0
  Done e = AreListed (change_record (finish e.after) e.state.records t) e.state.ports s.limits.mutexes

  call-listed : (port number : ℕ) → at_number s.ports port ≡ Some (port_at s.ports port)
      → Done (of_ports s (call s.records s.clients s.ports t port number))
  call-listed port number there = at (port_at s.ports port).receivers refl
    where
      queued : (port_at s.ports port).receivers ≡ []
          → AreListed (change_record (finish (Leaves (status.Queued port))) s.records t)
          (set_number s.ports port (record { calls = (port_at s.ports port).calls ++ record { caller = t; number = number } ∷ []; receivers = [] })) s.limits.mutexes
      queued none =
          let x : Port = record { calls = (port_at s.ports port).calls ++ record { caller = t; number = number } ∷ []; receivers = [] } in
          let here : port_at (set_number s.ports port x) port ≡ x = ap (λ (o : Option Port). unwrap_or o
          (record { calls = []; receivers = [] })) (number-set_same s.ports port x (port_at s.ports port) there) in
          keep-change (finish (Leaves (status.Queued port))) s.records (set_number s.ports port x) s.limits.mutexes t
          (leaves-stands (set_number s.ports port x) (status.Queued port)
          (subst (λ (y : Port). IsAmong (map (λ (c : QueuedCall). c.caller) y.calls) t) (sym here)
          (among-last (port_at s.ports port).calls (record { caller = t; number = number }))))
          (keep-port s.records s.ports s.limits.mutexes port x there
          (λ u at among. among-push (port_at s.ports port).calls (record { caller = t; number = number }) u among)
          (λ u at among. among-none (port_at s.ports port).receivers [] u none among) listed)

      served : (server : ℕ) (others : List ℕ) → (port_at s.ports port).receivers ≡ server ∷ others
          → AreListed (change_record (finish (Leaves (status.Served server)))
          (change_record (λ r. record r { status = status.Ready; delivered = Some number }) s.records server) t)
          (set_number s.ports port (record { calls = (port_at s.ports port).calls; receivers = others }))
          s.limits.mutexes
      served server others is =
          let wake : Record → Record = λ r. record r { status = status.Ready; delivered = Some number } in
          let x : Port = record { calls = (port_at s.ports port).calls; receivers = others } in
          let receives : status_of s.records server ≡ Some (status.Receiving port) = (order.queues.receivers port
          (port_at s.ports port) there).each 0 server (ap (λ (xs : List ℕ). slice_get xs 0) is) in
          let ready : status_of (change_record wake s.records server) server ≡ Some status.Ready =
          status-now wake s.records server (status.Receiving port) status.Ready receives (λ r. refl) in
          keep-change (finish (Leaves (status.Served server))) (change_record wake s.records server) (set_number s.ports
          port x) s.limits.mutexes t (leaves-stands (set_number s.ports port x) (status.Served server) tt)
          (keep-port (change_record wake s.records server) s.ports s.limits.mutexes port x there (λ u at among. among)
          (λ u at among. among-rest server others (port_at s.ports port).receivers u is (other _ ready u at) among)
          (keep-change wake s.records s.ports s.limits.mutexes server (λ r. tt) listed))
        where
          other : (records : List Record) → status_of records server ≡ Some status.Ready → (u : ℕ)
              → status_of records u ≡ Some (status.Receiving port) → ¬ (u ≡ server)
          other records ready u at same = let never : Some status.Ready ≡ Some (status.Receiving port) = sym ready
              ∙ ap (status_of records) (sym same) ∙ at in cc

      at : (o : List ℕ) → (port_at s.ports port).receivers ≡ o
          → Done (of_ports s (call s.records s.clients s.ports t port number))
      at [] is = rw is (queued is)
      at (server ∷ others) is = rw is (served server others is)

  -- after a reply, or at once
  receive-listed : (a : State) (port : ℕ) → at_number a.ports port ≡ Some (port_at a.ports port)
      → ((first : QueuedCall) (others : List QueuedCall) → (port_at a.ports port).calls ≡ first ∷ others
      → (now : Status) × (status_of a.records first.caller ≡ Some now))
      → AreListed a.records a.ports s.limits.mutexes → Done (of_ports a (receive a.records a.clients a.ports t port))
  receive-listed a port there has before = at (port_at a.ports port).calls refl
    where
      waits : (port_at a.ports port).calls ≡ []
          → AreListed (change_record (finish (Leaves (status.Receiving port))) a.records t) (set_number a.ports port
          (record { calls = []; receivers = (port_at a.ports port).receivers ++ t ∷ [] })) s.limits.mutexes
      waits none =
          let x : Port = record { calls = []; receivers = (port_at a.ports port).receivers ++ t ∷ [] } in
          let here : port_at (set_number a.ports port x) port ≡ x = ap (λ (o : Option Port). unwrap_or o
          (record { calls = []; receivers = [] })) (number-set_same a.ports port x (port_at a.ports port) there) in
          keep-change (finish (Leaves (status.Receiving port))) a.records (set_number a.ports port x) s.limits.mutexes t
          (leaves-stands (set_number a.ports port x) (status.Receiving port) (subst (λ (y : Port).
          IsAmong y.receivers t) (sym here) (among-append_right (port_at a.ports port).receivers (t ∷ []) 0 t refl)))
          (keep-port a.records a.ports s.limits.mutexes port x there
          (λ u at among. among-none (callers_of a.ports port) [] u (ap (map (λ (c : QueuedCall). c.caller)) none) among)
          (λ u at among. among-append_left (port_at a.ports port).receivers (t ∷ []) among.0 u among.1) before)

      takes : (first : QueuedCall) (others : List QueuedCall) → (port_at a.ports port).calls ≡ first ∷ others
          → AreListed (change_record (finish GoesOn)
          (change_record (λ r. record r { status = status.Served t }) a.records first.caller) t)
          (set_number a.ports port (record { calls = others; receivers = (port_at a.ports port).receivers }))
          s.limits.mutexes
      takes first others is =
          let serve : Record → Record = λ r. record r { status = status.Served t } in
          let x : Port = record { calls = others; receivers = (port_at a.ports port).receivers } in
          let (now, was) = has first others is in
          let served : status_of (change_record serve a.records first.caller) first.caller ≡ Some (status.Served t) =
          status-now serve a.records first.caller now (status.Served t) was (λ r. refl) in
          keep-change (finish GoesOn) (change_record serve a.records first.caller)
          (set_number a.ports port x) s.limits.mutexes t (stays (set_number a.ports port x))
          (keep-port (change_record serve a.records first.caller) a.ports s.limits.mutexes port x there
          (λ u at among. among-rest first.caller (map (λ (c : QueuedCall). c.caller) others) (callers_of a.ports port) u
          (ap (map (λ (c : QueuedCall). c.caller)) is) (other _ first served u at) among) (λ u at among. among)
          (keep-change serve a.records a.ports s.limits.mutexes first.caller (λ r. tt) before))
        where
          other : (records : List Record) (first : QueuedCall) → status_of records first.caller ≡ Some (status.Served t)
              → (u : ℕ) → status_of records u ≡ Some (status.Queued port) → ¬ (u ≡ first.caller)
          other records first served u at same = let never : Some (status.Served t) ≡ Some (status.Queued port) =
              sym served ∙ ap (status_of records) (sym same) ∙ at in cc

      at : (o : List QueuedCall) → (port_at a.ports port).calls ≡ o
          → Done (of_ports a (receive a.records a.clients a.ports t port))
      at [] is = rw is (waits is)
      at (first ∷ others) is = rw is (takes first others is)

  -- the first of a port's calls has its caller
  has-caller : (port : ℕ) → at_number s.ports port ≡ Some (port_at s.ports port)
      → (first : QueuedCall) (others : List QueuedCall) → (port_at s.ports port).calls ≡ first ∷ others
      → (now : Status) × (status_of s.records first.caller ≡ Some now)
  has-caller port there first others is =
      (status.Queued port, (order.queues.callers port (port_at s.ports port) there).each 0 first.caller (ap (λ (cs : List QueuedCall). slice_get (map (λ (c : QueuedCall). c.caller) cs) 0) is))

  replied-listed : (number : ℕ)
      → AreListed (reply s.records s.clients s.ports t number).records s.ports s.limits.mutexes
  replied-listed number = keep-change (λ r. record r { status = status.Ready; delivered = Some number }) s.records
      s.ports s.limits.mutexes (unwrap_or (first_client s.clients t) 0) (λ r. tt) listed

  lock-listed : (mutexes : List Mutex) (m : ℕ) → nat_lt s.limits.mutexes m ≡ false
      → Done (of_mutexes s (lock s.records mutexes t m))
  lock-listed mutexes m small = at (mutex_at mutexes m).owner refl
    where
      at : (o : Option ℕ) → (mutex_at mutexes m).owner ≡ o → Done (of_mutexes s (lock s.records mutexes t m))
      at None is = rw is (keep-change (finish GoesOn) s.records s.ports s.limits.mutexes t (stays s.ports) listed)
      at (Some owner) is = rw is (keep-change (finish (Leaves (status.Waiting m))) s.records s.ports s.limits.mutexes t
          (leaves-stands s.ports (status.Waiting m) small) listed)

  unlock-listed : (value : ℕ → ℕ) (m d : ℕ) → Done (of_mutexes s (unlock s.records s.mutexes value m d))
  unlock-listed value m d = at (mutex_at s.mutexes m).waiters refl
    where
      at : (o : List ℕ) → (mutex_at s.mutexes m).waiters ≡ o
          → Done (of_mutexes s (unlock s.records s.mutexes value m d))
      at [] is = rw is (keep-change (finish GoesOn) s.records s.ports s.limits.mutexes t (stays s.ports) listed)
      at (w ∷ ws) is =
          let place = unwrap_or (option_map (λ (drawn : Drawn). drawn.place) (winner (map value (w ∷ ws)) d)) 0 in
          let passed = slice_index (w ∷ ws) place in
          rw is
          (keep-change (finish (Leaves status.Ready)) (change_record (λ r. record r { status = status.Ready }) s.records
          passed) s.ports s.limits.mutexes t (leaves-stands s.ports status.Ready tt)
          (keep-change (λ r. record r { status = status.Ready }) s.records s.ports s.limits.mutexes passed
          (λ r. tt) listed))

  effect-listed : (action : Action) → trap_refusal s t action ≡ None → Done (trap_effect s t action)
  effect-listed Exit allowed = keep-change (finish Ends) s.records s.ports s.limits.mutexes t (ends s.ports) listed
  effect-listed (Call port number) allowed =
      call-listed port number (port-there s port (all-pass ((is_none (at_number s.ports port), NoPort) ∷ []) allowed).0)
  effect-listed (Receive port) allowed =
      let there = port-there s port (all-pass ((is_none (at_number s.ports port), NoPort) ∷ []) allowed).0 in
      receive-listed s port there (has-caller port there) listed
  effect-listed (ReplyTo number) allowed =
      let replied = reply s.records s.clients s.ports t number in
      keep-change (finish GoesOn) replied.records s.ports s.limits.mutexes t (stays s.ports) (replied-listed number)
  effect-listed (Serve port number) allowed =
      let passed = all-pass ((is_none (at_number s.ports port), NoPort)
      ∷ (is_none (first_client s.clients t), NothingToReply) ∷ []) allowed in
      let there = port-there s port passed.0 in
      receive-listed (of_ports s (reply s.records s.clients s.ports t number)).state port there
      (λ first others is. let (now, was) = has-caller port there first others is in
      still-some (λ r. record r { status = status.Ready; delivered = Some number }) s.records
      (unwrap_or (first_client s.clients t) 0) first.caller now was) (replied-listed number)
  effect-listed (Lock m) allowed =
      let passed = all-pass ((is_no_mutex s m, NoMutex) ∷ (owns s t m, AlreadyOwner)
      ∷ (option_any (λ owner. lends_on_to (without_servers s) owner t) (mutex_at s.mutexes m).owner, LockCycle)
      ∷ []) allowed in
      lock-listed (before_lock s t m) m
      (or_parts (is_none (at_number s.mutexes m)) (nat_lt s.limits.mutexes m) passed.0).1
  effect-listed (Unlock m d) allowed = unlock-listed (value_of s) m d
  effect-listed other allowed = keep-change (finish (trap_effect s t other).after) s.records s.ports s.limits.mutexes t
      (leaves-stands s.ports _ tt) listed

  checked-listed : (action : Action) (o : Option TrapRefusal) → trap_refusal s t action ≡ o
      → Done (checked_effect s o (trap_effect s t action))
  checked-listed action None allowed = effect-listed action allowed
  checked-listed action (Some refusal) refused =
      keep-change (finish GoesOn) s.records s.ports s.limits.mutexes t (stays s.ports) listed

-- ---- commands

abbrev ListedIn : State → Type 0
ListedIn s = AreListed s.records s.ports s.limits.mutexes

-- one thread more, which is Ready
keep-thread : (s : State) → ListedIn s → AreListed (placed s.records (free_threads s) newborn) s.ports s.limits.mutexes
keep-thread s listed u now is = from (number-placed s.records (free_threads s) newborn u)
  where
    from : (at_number (placed s.records (free_threads s) newborn) u ≡ at_number s.records u)
        ⊎ (at_number (placed s.records (free_threads s) newborn) u ≡ Some newborn)
        → Stands s.ports s.limits.mutexes now u
    from (inl same) = listed u now (ap (option_map (λ (r : Record). r.status)) (sym same) ∙ is)
    from (inr new) = subst (λ st. Stands s.ports s.limits.mutexes st u)
        (some-injective status.Ready now (sym (ap (option_map (λ (r : Record). r.status)) new) ∙ is)) tt

-- a kill
keep-kill : (s : State) (t : ℕ) → ListedIn s → ListedIn (killed s t)
keep-kill s t listed u now is = from (killed-either s t u)
  where
    other : (before : Status) → status_of s.records u ≡ Some before → ¬ (now ≡ status.Dead) → ¬ (u ≡ t)
    other before was lives at =
        let dead : status_of (killed s t).records t ≡ Some status.Dead =
        killed-dead s t before (ap (status_of s.records) (sym at) ∙ was) in
        lives (some-injective now status.Dead (sym is ∙ ap (status_of (killed s t).records) at ∙ dead))

    left : (o : Option Port) → ¬ (u ≡ t)
        → IsAmong (map (λ (c : QueuedCall). c.caller) (unwrap_or o (record { calls = []; receivers = [] })).calls) u
        → IsAmong (map (λ (c : QueuedCall). c.caller)
        (unwrap_or (option_map (port_without t) o) (record { calls = []; receivers = [] })).calls) u
    left None differs among = among
    left (Some port) differs among = left-callers t port.calls u differs among

    left_over : (o : Option Port) → ¬ (u ≡ t)
        → IsAmong (unwrap_or o (record { calls = []; receivers = [] })).receivers u
        → IsAmong (unwrap_or (option_map (port_without t) o) (record { calls = []; receivers = [] })).receivers u
    left_over None differs among = among
    left_over (Some port) differs among = left-threads t port.receivers u differs among

    still : (before : Status) → before ≡ now → status_of s.records u ≡ Some before
        → Stands s.ports s.limits.mutexes before u → Stands (map (port_without t) s.ports) s.limits.mutexes before u
    still (status.Queued q) same was among =
        subst (λ (o : Option Port). IsAmong (map (λ (c : QueuedCall). c.caller)
        (unwrap_or o (record { calls = []; receivers = [] })).calls) u) (sym (at_number-map (port_without t) s.ports q))
        (left (at_number s.ports q)
        (other (status.Queued q) was (λ e. let never : status.Queued q ≡ status.Dead = same ∙ e in cc)) among)
    still (status.Receiving q) same was among =
        subst (λ (o : Option Port). IsAmong (unwrap_or o (record { calls = []; receivers = [] })).receivers u)
        (sym (at_number-map (port_without t) s.ports q))
        (left_over (at_number s.ports q)
        (other (status.Receiving q) was (λ e. let never : status.Receiving q ≡ status.Dead = same ∙ e in cc)) among)
    still before same was stands = stands

    from : (status_of (killed s t).records u ≡ status_of s.records u)
        ⊎ ((status_of (killed s t).records u ≡ Some status.Ready)
        ⊎ (status_of (killed s t).records u ≡ Some status.Dead))
        → Stands (map (port_without t) s.ports) s.limits.mutexes now u
    from (inl same) = still now refl (sym same ∙ is) (listed u now (sym same ∙ is))
    from (inr (inl ready)) = subst (λ st. Stands (map (port_without t) s.ports) s.limits.mutexes st u)
        (some-injective status.Ready now (sym ready ∙ is)) tt
    from (inr (inr dead)) = subst (λ st. Stands (map (port_without t) s.ports) s.limits.mutexes st u)
        (some-injective status.Dead now (sym dead ∙ is)) tt

command-listed : (s : State) (c : Command) → ListedIn s → ListedIn (command_step s c).state
command-listed s (MakeThread name script) listed =
    unrefused ListedIn s _ (command_effect s (MakeThread name script)) listed (λ _. keep-thread s listed)
command-listed s (MakeFunded amount currency name script) listed = unrefused ListedIn s _
    (command_effect s (MakeFunded amount currency name script)) listed (λ _. keep-thread s listed)
command-listed s (Kill thread) listed = unrefused ListedIn s _ (command_effect s (Kill thread)) listed
    (λ _. keep-kill s (unwrap_or (thread_meant s thread) 0) listed)
command-listed s other listed =
    unrefused ListedIn s (command_refusal s other) (command_effect s other) listed (λ _. listed)

-- ---- events and runs

trap-listed : (s : State) (p t used ran : ℕ) (action : Action) → IsInOrder s → ListedIn s
    → ListedIn (trap s p t used ran action).state
trap-listed s p t used ran action order listed =
    subst (λ (limits : Sizes). AreListed (trap s p t used ran action).state.records (trap s p t used ran
    action).state.ports limits.mutexes) (sym (checked-sizes s t action (trap_refusal s t action)).0)
    (checked-listed (λ after r. with_ticks (ran + 1) (after_trap after p (used + ran + 1) s.limits r))
    (λ now r. refl) s order t stays (λ ports r. tt) listed action (trap_refusal s t action) refl)
  where
    stays : (ports : List Port) (r : Record) → Stands ports s.limits.mutexes
        (with_ticks (ran + 1) (after_trap GoesOn p (used + ran + 1) s.limits r)).status t
    stays ports r = at (nat_lt (used + ran + 1) s.limits.quantum) refl
      where
        at : (b : Bool) → nat_lt (used + ran + 1) s.limits.quantum ≡ b → Stands ports s.limits.mutexes
            (with_ticks (ran + 1) (after_trap GoesOn p (used + ran + 1) s.limits r)).status t
        at true on = rw on tt
        at false on = rw on tt

draw-listed : (s : State) (p d : ℕ) → ListedIn s → ListedIn (draw s p d).state
draw-listed s p d listed = at (winner (map (weight_of s) (ready_threads s.records)) d) refl
  where
    at : (o : Option Drawn) → winner (map (weight_of s) (ready_threads s.records)) d ≡ o → ListedIn (draw s p d).state
    at None is = rw is listed
    at (Some w) is = rw is (keep-change (started p) s.records s.ports s.limits.mutexes
        (slice_index (ready_threads s.records) w.place) (λ r. tt) listed)

stopped-listed : (s : State) (t ticks : ℕ) (compensation : Option ℕ) → ListedIn s
    → ListedIn (stopped s t ticks compensation).state
stopped-listed s t ticks compensation listed =
    keep-change (λ r. with_ticks ticks (record r { status = status.Ready; compensation = compensation })) s.records
    s.ports s.limits.mutexes t (λ r. tt) listed

event-listed : (s : State) (e : Event) → IsInOrder s → ListedIn s → ListedIn (step s e).state
event-listed s (event.Command command) order listed = command-listed s command listed
event-listed s (event.Draw p d) order listed =
    unrefused ListedIn s _ (draw s p d) listed (λ _. draw-listed s p d listed)
event-listed s (event.Expire p) order listed = unrefused ListedIn s _ (event_effect s (event.Expire p)) listed
    (λ _. stopped-listed s (thread_there s p) (s.limits.quantum - used_there s p) None listed)
event-listed s (event.Preempt p ticks) order listed = unrefused ListedIn s _
    (event_effect s (event.Preempt p ticks)) listed (λ _. stopped-listed s (thread_there s p) ticks None listed)
event-listed s (event.Overrun p late) order listed =
    unrefused ListedIn s _ (event_effect s (event.Overrun p late)) listed (λ _. stopped-listed s (thread_there s p)
    (s.limits.quantum - used_there s p + late) (compensation_for s.limits (s.limits.quantum + late)) listed)
event-listed s (event.Wake t) order listed =
    unrefused ListedIn s _ (event_effect s (event.Wake t)) listed
    (λ _. keep-change (λ r. record r { status = status.Ready }) s.records s.ports s.limits.mutexes t (λ r. tt) listed)
event-listed s (event.Trap p ran action) order listed =
    unrefused ListedIn s _ (event_effect s (event.Trap p ran action)) listed
    (λ _. trap-listed s p (thread_there s p) (used_there s p) ran action order listed)

run-listed : (s : State) (events : List Event) → IsInOrder s → ListedIn s → ListedIn (state_after s events)
run-listed s [] order listed = listed
run-listed s (e ∷ events) order listed =
    run-listed (step s e).state events (step-order s e order) (event-listed s e order listed)

pub reachable-waits : (s : State) → IsReachable s → AreListed s.records s.ports s.limits.mutexes
reachable-waits s (limits, events, bounds, is) =
    subst ListedIn (sym is) (run-listed (opening limits) events (opening-order limits bounds) nobody)
  where
    nobody : ListedIn (opening limits)
    nobody zero now e = cc
    nobody (suc i) now e = let none : None ≡ Some now =
        sym (ap (option_map (λ (r : Record). r.status)) (at_number-suc {A = Record} [] i)) ∙ e in cc
