-- The threads that wait at a port in a reachable state, and the value that the port passes on.
use Rattle.lot_laws.proofs.Common.{Bool, Contains, HasOneSidedPorts, IsApart, IsInOrder, IsOneSided, IsReachable, Lend, LendsQueued, List, Nobody, None, Option, Port, QueuedCall, Some, State, Status, ToMutex, ToThread, ap, apart-from, arith, at-port, at_number, callers_of, cond, contains-at, contains-nothing, false, funding_of, holder_of, if◌then◌else◌, inl, inr, le-leb, lend_of, lends_at, ltb-false, map, nat_le, option_map, place-in, port_at, port_value, reached-one, reached-order, refl, same-sums, slice_get, some-injective, status_of, subst, sum_by, sym, true, unwrap_or, value_of, waiters_for, ℕ, [], ◌&&◌, ◌+◌, ◌∙◌, ◌≡◌, ◌≢◌, ◌≤◌}
use Rattle.lot_machine.specs.declared.record.Status.TheVariants as status
use Rattle.lot_laws.proofs.Trapped.{lend-is}
use Rattle.lot_laws.proofs.MutexWaiters.{waiters-of, waiters-in, waiters-apart}
use Rattle.lot_laws.proofs.WaitsListed.{reachable-waits}

pub queued-listed : (s : State) (t port : ℕ) → IsReachable s → status_of s.records t ≡ Some (status.Queued port)
    → Contains (callers_of s.ports port) t
queued-listed s t port reachable is = let (place, at) = reachable-waits s reachable t (status.Queued port) is in
    contains-at (callers_of s.ports port) place t at

pub receiving-listed : (s : State) (t port : ℕ) → IsReachable s → status_of s.records t ≡ Some (status.Receiving port)
    → Contains (port_at s.ports port).receivers t
receiving-listed s t port reachable is = let (place, at) = reachable-waits s reachable t (status.Receiving port) is in
    contains-at (port_at s.ports port).receivers place t at

-- a reachable state is one-sided, and in order
reachable-sided : (s : State) → IsReachable s → HasOneSidedPorts s
reachable-sided s (limits, events, bounds, is) = subst HasOneSidedPorts (sym is) (reached-one limits events)

pub reachable-order : (s : State) → IsReachable s → IsInOrder s
reachable-order s (limits, events, bounds, is) = subst IsInOrder (sym is) (reached-order limits events bounds)

pub never-both : (s : State) (caller receiver port : ℕ) → IsReachable s → status_of s.records caller
    ≡ Some (status.Queued port) → status_of s.records receiver ≢ Some (status.Receiving port)
never-both s caller receiver port reachable queued receives = by (at-port s.ports port (reachable-sided s reachable))
  where
    by : IsOneSided (port_at s.ports port) → ⊥
    by (inl none) = contains-nothing caller (subst (λ (cs : List QueuedCall).
        Contains (map (λ (c : QueuedCall). c.caller) cs) caller) none (queued-listed s caller port reachable queued))
    by (inr none) = contains-nothing receiver
        (subst (λ ts. Contains ts receiver) none (receiving-listed s receiver port reachable receives))

-- ---- what a port passes on

module _ (s : State) (port : ℕ) (reachable : IsReachable s) (least : 1 ≤ port) where
  unlent : {A : Type 0} (without : Bool) (lend : Lend) (m : ℕ) → (lend ≡ ToMutex m → A)
      → cond without Nobody lend ≡ ToMutex m → A
  unlent true lend m to is = cc
  unlent false lend m to is = to is

  -- who lends to the holder is queued at the port
  pub lender-queued : (u : ℕ) → at_number (funding_of s).lends u ≡ Some (ToMutex (holder_of s.limits port))
      → status_of s.records u ≡ Some (status.Queued port)
  lender-queued u is = by (status_of s.records u) refl (sym (lend-is s.limits s.records u) ∙ is)
    where
      same-mutex : (m n : ℕ) → ToMutex m ≡ ToMutex n → m ≡ n
      same-mutex m n e = cc

      queued : (p : ℕ) → status_of s.records u ≡ Some (status.Queued p) → (b : Bool)
          → cond b (ToMutex (holder_of s.limits p)) Nobody ≡ ToMutex (holder_of s.limits port)
          → status_of s.records u ≡ Some (status.Queued port)
      queued p at true to = let same : s.limits.mutexes + p ≡ s.limits.mutexes + port = same-mutex _ _ to in
          let number : p ≡ port = omega (arith, same) in at ∙ ap (λ n. Some (status.Queued n)) number
      queued p at false to = cc

      waiting : (m : ℕ) → status_of s.records u ≡ Some (status.Waiting m)
          → ToMutex m ≡ ToMutex (holder_of s.limits port) → status_of s.records u ≡ Some (status.Queued port)
      waiting m at to =
          let within : m ≤ s.limits.mutexes =
          ltb-false s.limits.mutexes m (reachable-waits s reachable u (status.Waiting m) at) in
          let same : m ≡ s.limits.mutexes + port = same-mutex _ _ to in absurd (omega (arith, within, same, least))

      of : (now : Status) → status_of s.records u ≡ Some now → lend_of s.limits now ≡ ToMutex (holder_of s.limits port)
          → status_of s.records u ≡ Some (status.Queued port)
      of status.Ready at to = cc
      of (status.Running p used) at to = cc
      of (status.Receiving p) at to = cc
      of (status.Queued p) at to = unlent s.limits.without_lending (if lends_at s.limits p then ToMutex
          (holder_of s.limits p) else Nobody) (holder_of s.limits port) (queued p at (lends_at s.limits p)) to
      of (status.Served server) at to =
          unlent s.limits.without_lending (ToThread server) (holder_of s.limits port) (λ e. cc) to
      of (status.Waiting m) at to =
          unlent s.limits.without_lending (ToMutex m) (holder_of s.limits port) (waiting m at) to
      of status.Asleep at to = cc
      of status.Dead at to = cc

      by : (o : Option Status) → status_of s.records u ≡ o → option_map (lend_of s.limits) o
          ≡ Some (ToMutex (holder_of s.limits port)) → status_of s.records u ≡ Some (status.Queued port)
      by None at to = cc
      by (Some now) at to = of now at (some-injective (lend_of s.limits now) (ToMutex (holder_of s.limits port)) to)

module _ (s : State) (port : ℕ) (reachable : IsReachable s) (lends : LendsQueued s) (least : 1 ≤ port)
    (small : port ≤ s.limits.ports) where
  -- what a thread whose call is queued at a port lends to
  to-holder : (p : ℕ) → nat_le p s.limits.ports ≡ true
      → lend_of s.limits (status.Queued p) ≡ ToMutex (holder_of s.limits p)
  to-holder p within =
      ap (λ (without : Bool).
      if without then Nobody else (if lends_at s.limits p then ToMutex (holder_of s.limits p) else Nobody)) lends.0
      ∙ ap (λ (on : Bool). if on then ToMutex (holder_of s.limits p) else Nobody)
      (ap (λ q. q && nat_le p s.limits.ports) lends.1 ∙ within)

  -- and the other way round
  pub queued-lender : (u : ℕ) → status_of s.records u ≡ Some (status.Queued port)
      → at_number (funding_of s).lends u ≡ Some (ToMutex (holder_of s.limits port))
  queued-lender u at = lend-is s.limits s.records u ∙ ap (option_map (lend_of s.limits)) at
      ∙ ap Some (to-holder port (le-leb port s.limits.ports small))

  -- a port's callers, each of whom is queued there
  pub callers : (place u : ℕ) → slice_get (callers_of s.ports port) place ≡ Some u
      → status_of s.records u ≡ Some (status.Queued port)
  callers place u = by (at_number s.ports port) refl
    where
      by : (o : Option Port) → at_number s.ports port ≡ o → slice_get (map (λ (c : QueuedCall). c.caller)
          (unwrap_or o (record { calls = []; receivers = [] })).calls) place ≡ Some u
          → status_of s.records u ≡ Some (status.Queued port)
      by None there at = cc
      by (Some x) there at = ((reachable-order s reachable).queues.callers port x there).each place u at

  pub callers-apart : IsApart (callers_of s.ports port)
  callers-apart = by (at_number s.ports port) refl
    where
      by : (o : Option Port) → at_number s.ports port ≡ o
          → IsApart (map (λ (c : QueuedCall). c.caller) (unwrap_or o (record { calls = []; receivers = [] })).calls)
      by None there = tt
      by (Some x) there = apart-from (map (λ (c : QueuedCall). c.caller) x.calls) (λ u place other at also.
          ((reachable-order s reachable).queues.callers port x there).once place other u at also)

  -- what is summed over those who lend to the port is summed over its callers
  pub same-callers : (g : ℕ → ℕ)
      → sum_by g (waiters_for (funding_of s) (holder_of s.limits port)) ≡ sum_by g (callers_of s.ports port)
  same-callers g =
      same-sums g (waiters_for (funding_of s) (holder_of s.limits port)) (callers_of s.ports port)
      (waiters-apart (funding_of s) (holder_of s.limits port)) callers-apart
      (λ u c. queued-listed s u port reachable
      (lender-queued s port reachable least u (waiters-of (funding_of s) (holder_of s.limits port) u c)))
      (λ u c. let (place, at) = place-in (callers_of s.ports port) u c in
      waiters-in (funding_of s) (holder_of s.limits port) u (queued-lender u (callers place u at)))

pub ports-pass : (s : State) (port : ℕ) → IsReachable s → LendsQueued s → 1 ≤ port → port ≤ s.limits.ports
    → port_value s port ≡ sum_by (value_of s) (callers_of s.ports port)
ports-pass s port reachable lends least small = same-callers s port reachable lends least small (value_of s)
