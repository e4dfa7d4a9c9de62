-- A receipt of a queued call, whoever was the port's server, in a reachable state with `queued_lend`: the values of
-- threads afterwards.
use Rattle.lot_laws.proofs.Common.{By, Contains, Event, IsReachable, Keeps, LendsQueued, List, Mutex, None, Option, Port, PutPort, QueuedCall, Some, State, TakesCallAt, ap, arith, at_number, at_number-suc, by_event, callers_of, cond, contains-nothing, counted, eq-eqb, get_or, holder_of, holders, inl, inr, kept, le-leb, length, length-map, length-replicate, length-set, live_value, map, ne_eqb, number-there, opening, place-in, port_at, refl, run-holders, slice_get, slice_get_cases, slice_get_within, state_after, status_of, step, step-leads, subst, suc, sum_by, sym, unwrap_or, value_of, with_callers_ready, ℕ, [], ◌+◌, ◌-◌, ◌<◌, ◌==◌, ◌∙◌, ◌∷◌, ◌≡◌, ◌≢◌, ◌≤◌, ◌⊎◌}
use Rattle.lot_machine.specs.declared.record.Status.TheVariants.{Queued as QueuedAt}
use Rattle.lot_laws.proofs.PortQueues.{reachable-order, queued-listed, lender-queued, queued-lender, callers, callers-apart}
use Rattle.lot_laws.proofs.QueueMoves.{gathers, gathered-together, after-receipt}

-- ---- ports and holders are there

abbrev HasPortsOf : State → State → Type 0
HasPortsOf s a = (a.limits ≡ s.limits) × (length a.ports ≡ length s.ports)

change-ports : (by : By) (s : State) → Keeps by s (HasPortsOf s)
change-ports by s a (PutPort p x) allowed (limits, many) = (limits, length-set a.ports (p - 1) x ∙ many)
change-ports by s a other allowed same = same

run-ports : (s : State) (events : List Event) → HasPortsOf s (state_after s events)
run-ports s [] = (refl, refl)
run-ports s (e ∷ es) =
    let first = kept (HasPortsOf s) (change-ports (by_event s e) s) (step-leads s e) (refl, refl) in
    let rest = run-ports (step s e).state es in (rest.0 ∙ first.0, rest.1 ∙ first.1)

-- as many ports and holders as the sizes say
sized : (s : State) → IsReachable s → (length s.ports ≡ s.limits.ports) × (length s.mutexes ≡ holders s.limits)
sized s (limits, events, bounds, is) =
    subst (λ x. (length x.ports ≡ x.limits.ports) × (length x.mutexes ≡ holders x.limits)) (sym is) (ports, owners)
  where
    ports : length (state_after (opening limits) events).ports ≡ (state_after (opening limits) events).limits.ports
    ports =
        let same = run-ports (opening limits) events in
        same.1 ∙ length-replicate limits.ports (record { calls = []; receivers = [] }) ∙ ap (λ l. l.ports) (sym same.0)

    owners : length (state_after (opening limits) events).mutexes ≡ holders (state_after (opening limits) events).limits
    owners = counted limits events ∙ ap holders (sym (run-holders (opening limits) events).0)

module _ (s : State) (port caller : ℕ) (reachable : IsReachable s) (lends : LendsQueued s)
    (queued : status_of s.records caller ≡ Some (QueuedAt port)) where
  there : at_number s.ports port ≡ Some (port_at s.ports port)
  there = by (at_number s.ports port) refl (queued-listed s caller port reachable queued)
    where
      by : (o : Option Port) → at_number s.ports port ≡ o → Contains
          (map (λ (c : QueuedCall). c.caller) (unwrap_or o (record { calls = []; receivers = [] })).calls) caller
          → at_number s.ports port ≡ Some (port_at s.ports port)
      by None at c = absurd (contains-nothing caller c)
      by (Some x) at c = at
          ∙ ap Some (sym (ap (λ (o : Option Port). unwrap_or o (record { calls = []; receivers = [] })) at))

  pub least : 1 ≤ port
  least = omega (arith, number-there s.ports port (port_at s.ports port) there)

  pub small : port ≤ s.limits.ports
  small =
      let number : suc (port - 1) ≡ port = number-there s.ports port (port_at s.ports port) there in
      let place : slice_get s.ports (port - 1) ≡ Some (port_at s.ports port) = sym (at_number-suc s.ports (port - 1))
      ∙ ap (at_number s.ports) number ∙ there in
      let below : port - 1 < length s.ports = slice_get_within s.ports (port - 1) (port_at s.ports port) place in
      omega (arith, number, below, (sized s reachable).0)

  -- the holder of the port's server is there
  pub held : (was : Option ℕ)
      × (at_number (map (λ (x : Mutex). x.owner) s.mutexes) (holder_of s.limits port) ≡ Some was)
  held = at (slice_get_cases (map (λ (x : Mutex). x.owner) s.mutexes) (holder_of s.limits port - 1)).1
    where
      many : length (map (λ (x : Mutex). x.owner) s.mutexes) ≡ s.limits.mutexes + s.limits.ports
      many = length-map s.mutexes (λ (x : Mutex). x.owner) ∙ (sized s reachable).1
          ∙ ap (λ b. s.limits.mutexes + cond b s.limits.ports 0) lends.1

      holder-is : suc (holder_of s.limits port - 1) ≡ holder_of s.limits port
      holder-is = omega (arith, least)

      at : ((x : Option ℕ) × (holder_of s.limits port - 1 < length (map (λ (x : Mutex). x.owner) s.mutexes))
          × (slice_get (map (λ (x : Mutex). x.owner) s.mutexes) (holder_of s.limits port - 1) ≡ Some x)
          × (get_or (map (λ (x : Mutex). x.owner) s.mutexes) (holder_of s.limits port - 1) x ≡ x))
          ⊎ ((length (map (λ (x : Mutex). x.owner) s.mutexes) ≤ holder_of s.limits port - 1)
          × (slice_get (map (λ (x : Mutex). x.owner) s.mutexes) (holder_of s.limits port - 1) ≡ None))
          → (was : Option ℕ) × (at_number (map (λ (x : Mutex). x.owner) s.mutexes) (holder_of s.limits port) ≡ Some was)
      at (inl (x, low, is, same)) =
          (x, ap (at_number (map (λ (x : Mutex). x.owner) s.mutexes)) (sym holder-is) ∙ at_number-suc (map (λ (x : Mutex). x.owner) s.mutexes) (holder_of s.limits port - 1) ∙ is)
      at (inr (past, none)) = absurd (omega (arith, past, many, least, small))

-- ---- the event

module _ (s : State) (e : Event) (port caller server : ℕ) (reachable : IsReachable s) (lends : LendsQueued s)
    (takes : TakesCallAt s e port caller server) where
  gathered : (v : ℕ) → value_of (step s e).state v ≡ value_of (with_callers_ready s port) v + cond (v == server)
      (sum_by (value_of (with_callers_ready s port)) (callers_of s.ports port)) 0
  gathered v =
      after-receipt (λ x. value_of x v ≡ value_of (with_callers_ready s port) v + cond (v == server)
      (sum_by (value_of (with_callers_ready s port)) (callers_of s.ports port)) 0) s e port caller server
      (reachable-order s reachable) takes
      (λ p ran used before others runs queued now.
      let first = least s port caller reachable lends queued in
      let last = small s port caller reachable lends queued in
      let (was, holds) = held s port caller reachable lends queued in
      gathers s (reachable-order s reachable).no_cycle (reachable-order s reachable).funds_there lends p ran used before
      port caller server others runs queued (le-leb port s.limits.ports last) was holds (callers_of s.ports port)
      (callers-apart s port reachable lends first last)
      (λ u is. queued-listed s u port reachable (lender-queued s port reachable first u is))
      (λ u c. let (place, at) = place-in (callers_of s.ports port) u c in
      queued-lender s port reachable lends first last u (callers s port reachable lends first last place u at)) now v)

  pub server-gathers : value_of (step s e).state server ≡ value_of (with_callers_ready s port) server
      + sum_by (value_of (with_callers_ready s port)) (callers_of s.ports port)
  server-gathers = gathered server ∙ ap (λ on. value_of (with_callers_ready s port) server + cond on
      (sum_by (value_of (with_callers_ready s port)) (callers_of s.ports port)) 0) (eq-eqb server server refl)

  pub others-stay : (v : ℕ) → v ≢ server → value_of (step s e).state v ≡ value_of (with_callers_ready s port) v
  others-stay v differs = omega
      (arith, gathered v, ap (λ on. cond on (sum_by (value_of (with_callers_ready s port)) (callers_of s.ports port)) 0) (ne_eqb v server differs))

  pub together-stays : live_value (step s e).state ≡ live_value (with_callers_ready s port)
  together-stays =
      after-receipt (λ x. live_value x ≡ live_value (with_callers_ready s port)) s e port caller server
      (reachable-order s reachable) takes
      (λ p ran used before others runs queued now.
      let first = least s port caller reachable lends queued in
      let last = small s port caller reachable lends queued in
      let (was, holds) = held s port caller reachable lends queued in
      gathered-together s (reachable-order s reachable).no_cycle
      (reachable-order s reachable).funds_there lends p ran used before port caller server others runs queued
      (le-leb port s.limits.ports last) was holds (callers_of s.ports port)
      (callers-apart s port reachable lends first last)
      (λ u is. queued-listed s u port reachable (lender-queued s port reachable first u is))
      (λ u c. let (place, at) = place-in (callers_of s.ports port) u c in
      queued-lender s port reachable lends first last u (callers s port reachable lends first last place u at)) now)
