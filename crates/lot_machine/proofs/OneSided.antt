-- No call is queued at a port while a thread waits to receive there.
use Rattle.lot_machine.proofs.Common.{Action, Call, Command, Drawn, Event, HasOneSidedPorts, IsOneSided, Kill, List, None, Option, Port, PutPort, QueuedCall, Receive, Serve, Sizes, Some, State, TrapRefusal, ap, at_number, call, checked_effect, command_effect, command_step, draw, event_effect, filter, inl, inr, map, not, opening, option_map, port_at, port_without, ready_threads, receive, refl, reply, set_number, state_after, step, subst, suc, sym, thread_meant, thread_there, trap_effect, trap_refusal, unwrap_or, weight_of, winner, without, ℕ, [], ◌-◌, ◌==◌, ◌∙◌, ◌∷◌, ◌≡◌, ◌⊎◌}
use Rattle.lot_machine.specs.declared.event.Event.TheVariants as event
use Rattle.lot_machine.proofs.Changes.{number-set}
use Rattle.lot_machine.proofs.CommandsKept.{unrefused}
use Rattle.lot_machine.proofs.OrderKept.{number-replicate}
use Rattle.lot_machine.proofs.StepChanges.{By, Console, IsConsole, Keeps, kept, command-leads}
use Rattle.lot_machine.proofs.Tickets.{some-injective}
use Rattle.lot_machine.proofs.TrapCycles.{at_number-map}

-- ---- ports

-- each of these ports is one-sided
abbrev pub Each : List Port → Type 0
Each ports = (p : ℕ) (port : Port) → at_number ports p ≡ Some port → IsOneSided port

-- and so has one that is looked up, if it is there or not
pub at-port : (ports : List Port) (p : ℕ) → Each ports → IsOneSided (port_at ports p)
at-port ports p each = by (at_number ports p) refl
  where
    by : (o : Option Port) → at_number ports p ≡ o → IsOneSided (unwrap_or o (record { calls = []; receivers = [] }))
    by None is = inl refl
    by (Some port) is = each p port is

set-port : (ports : List Port) (p : ℕ) (new : Port) → IsOneSided new → Each ports → Each (set_number ports p new)
set-port ports p new one each q port is = from (number-set ports p new q)
  where
    from : (at_number (set_number ports p new) q ≡ at_number ports q)
        ⊎ ((q ≡ suc (p - 1)) × (at_number (set_number ports p new) q ≡ Some new)) → IsOneSided port
    from (inl same) = each q port (sym same ∙ is)
    from (inr (at, now)) = subst IsOneSided (some-injective new port (sym now ∙ is)) one

-- a port without a thread
less-port : (t : ℕ) (port : Port) → IsOneSided port → IsOneSided (port_without t port)
less-port t port (inl none) = inl (ap (filter (λ (call : QueuedCall). not (call.caller == t))) none)
less-port t port (inr none) = inr (ap (without t) none)

less-ports : (t : ℕ) (ports : List Port) → Each ports → Each (map (port_without t) ports)
less-ports t ports each q port is = from (at_number ports q) refl (sym (at_number-map (port_without t) ports q) ∙ is)
  where
    from : (o : Option Port) → at_number ports q ≡ o → option_map (port_without t) o ≡ Some port → IsOneSided port
    from None at e = cc
    from (Some old) at e =
        subst IsOneSided (some-injective (port_without t old) port e) (less-port t old (each q old at))

-- ---- traps

module _ (s : State) (each : Each s.ports) where
  called : (t port number : ℕ) → Each (call s.records s.clients s.ports t port number).ports
  called t port number = at (port_at s.ports port).receivers refl (at-port s.ports port each)
    where
      still : (server : ℕ) (others : List ℕ) → (port_at s.ports port).receivers ≡ server ∷ others
          → IsOneSided (port_at s.ports port)
          → IsOneSided (record { calls = (port_at s.ports port).calls; receivers = others })
      still server others is (inl none) = inl none
      still server others is (inr none) = let never : [] ≡ server ∷ others = sym none ∙ is in cc

      at : (o : List ℕ) → (port_at s.ports port).receivers ≡ o → IsOneSided (port_at s.ports port)
          → Each (call s.records s.clients s.ports t port number).ports
      at [] is one = rw is (set-port s.ports port _ (inr refl) each)
      at (server ∷ others) is one = rw is (set-port s.ports port
          (record { calls = (port_at s.ports port).calls; receivers = others }) (still server others is one) each)

  received : (t port : ℕ) → Each (receive s.records s.clients s.ports t port).ports
  received t port = at (port_at s.ports port).calls refl (at-port s.ports port each)
    where
      still : (first : QueuedCall) (others : List QueuedCall) → (port_at s.ports port).calls ≡ first ∷ others
          → IsOneSided (port_at s.ports port)
          → IsOneSided (record { calls = others; receivers = (port_at s.ports port).receivers })
      still first others is (inl none) = let never : [] ≡ first ∷ others = sym none ∙ is in cc
      still first others is (inr none) = inr none

      at : (o : List QueuedCall) → (port_at s.ports port).calls ≡ o → IsOneSided (port_at s.ports port)
          → Each (receive s.records s.clients s.ports t port).ports
      at [] is one = rw is (set-port s.ports port _ (inl refl) each)
      at (first ∷ others) is one = rw is (set-port s.ports port
          (record { calls = others; receivers = (port_at s.ports port).receivers }) (still first others is one) each)

one-after : (s : State) (t : ℕ) (action : Action) → Each s.ports → Each (trap_effect s t action).state.ports
one-after s t (Call port number) each = called s each t port number
one-after s t (Receive port) each = received s each t port
one-after s t (Serve port number) each =
    let replied = reply s.records s.clients s.ports t number in
    received (record s { records = replied.records; clients = replied.clients; ports = replied.ports }) each t port
one-after s t action each = each

checked-one : (s : State) (t : ℕ) (action : Action) (o : Option TrapRefusal) → Each s.ports
    → Each (checked_effect s o (trap_effect s t action)).state.ports
checked-one s t action None each = one-after s t action each
checked-one s t action (Some refusal) each = each

-- ---- commands and events

-- the console changes no port
change-ports : (by : By) (s : State) → IsConsole by → Keeps by s (λ a. a.ports ≡ s.ports)
change-ports by s console a (PutPort p x) allowed same = absurd (allowed console)
change-ports by s console a other allowed same = same

-- unless it kills a thread
command-one : (s : State) (c : Command) → HasOneSidedPorts s → HasOneSidedPorts (command_step s c).state
command-one s (Kill thread) each = unrefused HasOneSidedPorts s _ (command_effect s (Kill thread)) each
    (λ e. less-ports (unwrap_or (thread_meant s thread) 0) s.ports each)
command-one s c each = let same = kept (λ a. a.ports ≡ s.ports) (change-ports (Console c) s refl)
    (command-leads s c) refl in subst Each (sym same) each

draw-one : (s : State) (p d : ℕ) → HasOneSidedPorts s → HasOneSidedPorts (draw s p d).state
draw-one s p d each = by (winner (map (weight_of s) (ready_threads s.records)) d) refl
  where
    by : (o : Option Drawn) → winner (map (weight_of s) (ready_threads s.records)) d ≡ o
        → HasOneSidedPorts (draw s p d).state
    by None is = rw is each
    by (Some w) is = rw is each

pub step-one : (s : State) (e : Event) → HasOneSidedPorts s → HasOneSidedPorts (step s e).state
step-one s (event.Command command) each = command-one s command each
step-one s (event.Draw p d) each = unrefused HasOneSidedPorts s _ (draw s p d) each (λ e. draw-one s p d each)
step-one s (event.Trap p ran action) each =
    unrefused HasOneSidedPorts s _ (event_effect s (event.Trap p ran action)) each
    (λ e. checked-one s (thread_there s p) action (trap_refusal s (thread_there s p) action) each)
step-one s other each = unrefused HasOneSidedPorts s _ (event_effect s other) each (λ e. each)

run-one : (s : State) (events : List Event) → HasOneSidedPorts s → HasOneSidedPorts (state_after s events)
run-one s [] each = each
run-one s (e ∷ events) each = run-one (step s e).state events (step-one s e each)

pub opening-one : (limits : Sizes) → HasOneSidedPorts (opening limits)
opening-one limits p port is =
    inl (ap (λ (x : Port). x.calls) (number-replicate limits.ports (record { calls = []; receivers = [] }) port p is))

pub reached-one : (limits : Sizes) (events : List Event) → HasOneSidedPorts (state_after (opening limits) events)
reached-one limits events = run-one (opening limits) events (opening-one limits)
