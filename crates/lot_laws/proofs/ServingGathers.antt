-- A serve that takes the next queued call, whoever was the port's server, in a reachable state with `queued_lend`: the
-- values of threads afterwards.
use Rattle.lot_laws.proofs.Common.{Bool, Contains, Event, HasNoCycle, IsInOrder, IsReachable, LendsQueued, List, Nobody, None, Option, QueuedCall, Ready, Record, Running, Served, ServesNextAt, Some, State, Status, ToMutex, ap, arith, at_number, borrower, callers_of, cases_eq, change-length, change_each, change_record, cond, cycle-nobody, each-length, eq-eqb, first_client, funding_of, holder_of, inl, inr, is_live, is_live_status, le-leb, lend_of, lends-of, length, length-map, live_of, live_value, ne_eqb, numbers, option_and_then, option_any, option_map, place-in, queue-clients, range_with_len, refl, status-changed, status-now, status-other, status_of, step, sum-filter, sum-same, sum_by, sym, value_of, with_callers_ready, with_ready, ℕ, [], ◌+◌, ◌==◌, ◌∙◌, ◌∷◌, ◌≡◌, ◌≢◌, ◌≤◌, ◌⊎◌}
use Rattle.lot_machine.specs.declared.record.Status.TheVariants.{Queued as QueuedAt}
use Rattle.lot_laws.proofs.Trapped.{lend-is, live-is}
use Rattle.lot_laws.proofs.Lending.{same-worth}
use Rattle.lot_laws.proofs.Blocked.{served-lends}
use Rattle.lot_laws.proofs.Replied.{woken}
use Rattle.lot_laws.proofs.LendersReady.{made_ready, with_ready_each, ready-cycle, each-cycle}
use Rattle.lot_laws.proofs.PortQueues.{reachable-order, queued-listed, lender-queued, queued-lender, callers, callers-apart}
use Rattle.lot_laws.proofs.QueueMoves.{moved, gathers, gathered-together}
use Rattle.lot_laws.proofs.QueueGathers.{least, small, held}
use Rattle.lot_laws.proofs.ServingMoves.{answered, between, after-serving}

-- ---- the same statuses

abbrev SameStatuses : List Record → List Record → Type 0
SameStatuses xs ys = (u : ℕ) → status_of xs u ≡ status_of ys u

-- one thread becomes Ready in both
same-change : (first second : Record → Record) → ((r : Record) → (first r).status ≡ Ready)
    → ((r : Record) → (second r).status ≡ Ready) → (xs ys : List Record) (t : ℕ) → SameStatuses xs ys
    → SameStatuses (change_record first xs t) (change_record second ys t)
same-change first second readies also xs ys t same u = by (cases_eq u t) (status_of xs t) refl
  where
    nothing : (change : Record → Record) (zs : List Record) → status_of zs t ≡ None
        → status_of (change_record change zs t) u ≡ status_of zs u
    nothing change zs none = from (status-changed change zs t u)
      where
        from : (status_of (change_record change zs t) u ≡ status_of zs u) ⊎ ((u ≡ t) × ((r : Record)
            × (at_number zs t ≡ Some r) × (status_of (change_record change zs t) u ≡ Some (change r).status)))
            → status_of (change_record change zs t) u ≡ status_of zs u
        from (inl kept) = kept
        from (inr (at, (r, there, new))) = let never : None ≡ Some r.status = sym none
            ∙ ap (option_map (λ (x : Record). x.status)) there in cc

    by : (u ≡ t) ⊎ (¬ (u ≡ t)) → (o : Option Status) → status_of xs t ≡ o
        → status_of (change_record first xs t) u ≡ status_of (change_record second ys t) u
    by (inr differs) o is = status-other first xs t u differs ∙ same u ∙ sym (status-other second ys t u differs)
    by (inl at) None is = nothing first xs is ∙ same u ∙ sym (nothing second ys (sym (same t) ∙ is))
    by (inl at) (Some now) is =
        ap (status_of (change_record first xs t)) at ∙ status-now first xs t now Ready is readies
        ∙ sym
        (ap (status_of (change_record second ys t)) at ∙ status-now second ys t now Ready (sym (same t) ∙ is) also)

same-each : (ts : List ℕ) (xs ys : List Record) → SameStatuses xs ys
    → SameStatuses (change_each made_ready xs ts) (change_each made_ready ys ts)
same-each [] xs ys same = same
same-each (t ∷ ts) xs ys same = same-each ts (change_record made_ready xs t) (change_record made_ready ys t)
    (same-change made_ready made_ready (λ r. refl) (λ r. refl) xs ys t same)

-- ---- the serving

module _ (s : State) (reachable : IsReachable s) (lends : LendsQueued s)
    (p ran used before port number caller next server : ℕ) (others : List QueuedCall)
    (runs : status_of s.records server ≡ Some (Running p before)) (first : first_client s.clients server ≡ Some caller)
    (queued : status_of s.records next ≡ Some (QueuedAt port))
    (no_cycle_now : HasNoCycle
    (funding_of (moved (between s number caller server) p ran used port others next server))) where
  -- the states between the reply and the receipt, and afterwards; and those with all of the queue Ready
  abbrev middle : State
  middle = between s number caller server

  abbrev later : State
  later = moved middle p ran used port others next server

  abbrev queue : List ℕ
  queue = callers_of s.ports port

  abbrev ready_middle : State
  ready_middle = with_ready_each middle queue

  abbrev ready : State
  ready = with_callers_ready (with_ready s caller) port

  order : IsInOrder s
  order = reachable-order s reachable

  first_port : 1 ≤ port
  first_port = least s port next reachable lends queued

  last_port : port ≤ s.limits.ports
  last_port = small s port next reachable lends queued

  served : status_of s.records caller ≡ Some (Served server)
  served = (queue-clients s.records s.clients s.ports s.mutexes order.queues server).each 0 caller first

  differ : (u : ℕ) → status_of s.records u ≡ Some (QueuedAt port) → ¬ (u ≡ caller)
  differ u is same =
      let both : Some (Served server) ≡ Some (QueuedAt port) = sym served ∙ ap (status_of s.records) (sym same) ∙ is in
      cc

  server-caller : ¬ (server ≡ caller)
  server-caller same =
      let both : Some (Served server) ≡ Some (Running p before) = sym served ∙ ap (status_of s.records) (sym same)
      ∙ runs in cc

  cycle-between : HasNoCycle (funding_of middle)
  cycle-between =
      ready-cycle (answered number) (λ r. refl) s caller server order.no_cycle order.funds_there
      (lends-of s caller server (Served server) served (served-lends s server lends.0))

  other-between : (u : ℕ) → ¬ (u ≡ caller) → status_of (woken s number caller) u ≡ status_of s.records u
  other-between u differs = status-other (answered number) s.records caller u differs

  -- those who lend to the port between the reply and the receipt
  in-queue : (u : ℕ) → at_number (funding_of middle).lends u ≡ Some (ToMutex (holder_of s.limits port))
      → Contains queue u
  in-queue u is = by (cases_eq u caller)
    where
      told : option_map (lend_of s.limits)
          (status_of (woken s number caller) u) ≡ Some (ToMutex (holder_of s.limits port))
      told = sym (lend-is s.limits (woken s number caller) u) ∙ is

      by : (u ≡ caller) ⊎ (¬ (u ≡ caller)) → Contains queue u
      by (inl same) =
          let never : Some Nobody ≡ Some (ToMutex (holder_of s.limits port)) =
          sym (ap (λ x. option_map (lend_of s.limits) (status_of (woken s number caller) x)) same ∙ ap (option_map
          (lend_of s.limits)) (status-now (answered number) s.records caller (Served server) Ready served (λ r. refl)))
          ∙ told in cc
      by (inr differs) =
          queued-listed s u port reachable
          (lender-queued s port reachable first_port u
          (lend-is s.limits s.records u ∙ ap (option_map (lend_of s.limits)) (sym (other-between u differs)) ∙ told))

  of-queue : (u : ℕ) → Contains queue u
      → at_number (funding_of middle).lends u ≡ Some (ToMutex (holder_of s.limits port))
  of-queue u c =
      let (place, at) = place-in queue u c in
      let is : status_of s.records u ≡ Some (QueuedAt port) =
      callers s port reachable lends first_port last_port place u at in
      lend-is s.limits (woken s number caller) u ∙ ap (option_map (lend_of s.limits)) (other-between u (differ u is))
      ∙ sym (lend-is s.limits s.records u)
      ∙ queued-lender s port reachable lends first_port last_port u is

  -- with all of them Ready
  same-ready : SameStatuses ready_middle.records ready.records
  same-ready = same-each queue (woken s number caller) (with_ready s caller).records
      (same-change (answered number) made_ready (λ r. refl) (λ r. refl) s.records s.records caller (λ u. refl))

  as-many : length ready_middle.records ≡ length ready.records
  as-many =
      each-length made_ready (woken s number caller) queue ∙ change-length (answered number) s.records caller
      ∙ sym (each-length made_ready (with_ready s caller).records queue ∙ change-length made_ready s.records caller)

  lives-same : (u : ℕ) → at_number (live_of ready_middle) u ≡ at_number (live_of ready) u
  lives-same u =
      live-is ready_middle.records u ∙ ap (option_map is_live_status) (same-ready u) ∙ sym (live-is ready.records u)

  lend-same : (u : ℕ) → at_number (funding_of ready_middle).lends u ≡ at_number (funding_of ready).lends u
  lend-same u =
      lend-is s.limits ready_middle.records u ∙ ap (option_map (lend_of s.limits)) (same-ready u)
      ∙ sym (lend-is s.limits ready.records u)

  worth-same : (v : ℕ) → value_of ready_middle v ≡ value_of ready v
  worth-same v =
      let was = ready in
      let is = ready_middle in
      same-worth (funding_of was) (funding_of is).lends (funding_of is).owners (live_of was) (live_of is)
      (length-map is.records (λ (r : Record). lend_of s.limits r.status) ∙ as-many
      ∙ sym (length-map was.records (λ (r : Record). lend_of s.limits r.status)))
      (each-cycle queue (with_ready s caller) (cycle-nobody s made_ready caller (λ r. refl) order.no_cycle))
      (each-cycle queue middle cycle-between) order.funds_there
      (λ u. ap (option_and_then (borrower (funding_of is))) (lend-same u)) lives-same s.limits.unit v

  pub serving-gathers : (v : ℕ)
      → value_of later v ≡ value_of ready v + cond (v == server) (sum_by (value_of ready) queue) 0
  serving-gathers v =
      let (was, holds) = held s port next reachable lends queued in
      gathers middle cycle-between order.funds_there lends p ran used before port next server others
      (other-between server server-caller ∙ runs) (other-between next (differ next queued) ∙ queued)
      (le-leb port s.limits.ports last_port) was holds queue
      (callers-apart s port reachable lends first_port last_port) in-queue of-queue no_cycle_now v
      ∙ ap (λ w. w + cond (v == server) (sum_by (value_of ready_middle) queue) 0) (worth-same v)
      ∙ ap (λ w. value_of ready v + cond (v == server) w 0)
      (sum-same (value_of ready_middle) (value_of ready) queue worth-same)

  pub serving-gathered : live_value later ≡ live_value ready
  serving-gathered =
      let was = ready in
      let is = ready_middle in
      let (held_by, holds) = held s port next reachable lends queued in
      gathered-together middle cycle-between order.funds_there lends p ran used before port next server others
      (other-between server server-caller ∙ runs) (other-between next (differ next queued) ∙ queued)
      (le-leb port s.limits.ports last_port) held_by holds queue
      (callers-apart s port reachable lends first_port last_port) in-queue of-queue no_cycle_now
      ∙ sum-filter (value_of is) (is_live (live_of is)) (numbers is.records)
      ∙ ap (λ n. sum_by (λ u. cond (is_live (live_of is) u) (value_of is u) 0) (range_with_len 1 n)) as-many
      ∙ sum-same (λ u. cond (is_live (live_of is) u) (value_of is u) 0)
      (λ u. cond (is_live (live_of was) u) (value_of was u) 0) (numbers was.records)
      (λ u. ap (λ (o : Option Bool). cond (option_any (λ flag. flag) o) (value_of is u) 0) (lives-same u)
      ∙ ap (λ w. cond (is_live (live_of was) u) w 0) (worth-same u))
      ∙ sym (sum-filter (value_of was) (is_live (live_of was)) (numbers was.records))

-- ---- the event

module _ (s : State) (e : Event) (port caller next server : ℕ) (reachable : IsReachable s) (lends : LendsQueued s)
    (serves_next : ServesNextAt s e port caller next server) where
  gathered : (v : ℕ) → value_of (step s e).state v
      ≡ value_of (with_callers_ready (with_ready s caller) port) v + cond (v == server)
      (sum_by (value_of (with_callers_ready (with_ready s caller) port)) (callers_of s.ports port)) 0
  gathered v =
      after-serving (λ x. value_of x v ≡ value_of (with_callers_ready (with_ready s caller) port) v + cond (v == server)
      (sum_by (value_of (with_callers_ready (with_ready s caller) port)) (callers_of s.ports port)) 0)
      s e port caller next server (reachable-order s reachable) serves_next
      (λ p ran used before number others runs first queued now.
      serving-gathers s reachable lends p ran used before port number caller next server others runs first queued now v)

  pub server-gathers : value_of (step s e).state server ≡ value_of (with_callers_ready (with_ready s caller) port)
      server + sum_by (value_of (with_callers_ready (with_ready s caller) port)) (callers_of s.ports port)
  server-gathers =
      gathered server
      ∙ ap (λ on. value_of (with_callers_ready (with_ready s caller) port) server + cond on (sum_by (value_of
      (with_callers_ready (with_ready s caller) port)) (callers_of s.ports port)) 0) (eq-eqb server server refl)

  pub others-stay : (v : ℕ) → v ≢ server
      → value_of (step s e).state v ≡ value_of (with_callers_ready (with_ready s caller) port) v
  others-stay v differs = omega
      (arith, gathered v, ap (λ on. cond on (sum_by (value_of (with_callers_ready (with_ready s caller) port)) (callers_of s.ports port)) 0) (ne_eqb v server differs))

  pub together-stays : live_value (step s e).state ≡ live_value (with_callers_ready (with_ready s caller) port)
  together-stays =
      after-serving (λ x. live_value x ≡ live_value (with_callers_ready (with_ready s caller) port)) s e port caller
      next server (reachable-order s reachable) serves_next
      (λ p ran used before number others runs first queued now.
      serving-gathered s reachable lends p ran used before port number caller next server others runs first queued now)
