-- A thread that is not in use serves nobody, and a dead thread's clients stay unchanged.
use Rattle.lot_machine.proofs.Common.{Action, Bool, Call, Exit, HasQueues, List, Lock, None, Option, QueuedCall, Receive, Record, Serve, Sleep, Some, State, Status, Thread, TrapRefusal, Unlock, Yield, ap, at_number, call, checked_effect, clients_of, drop, edge_count_into, false, first_client, funding_of, inl, inr, is_some, is_thread_in_use, nat_lt, of_ports, port_at, receive, refl, reply, set_number, slice_get, status_of, subst, suc, sym, trap_effect, true, unwrap_or, ℕ, [], ◌++◌, ◌-◌, ◌||◌, ◌∙◌, ◌∷◌, ◌≡◌, ◌⊎◌}
use Rattle.lot_machine.specs.declared.record.Status.TheVariants as status
use Rattle.lot_machine.specs.declared.trap.Trap.TheVariants.{Reply as ReplyTo}
use Rattle.lot_machine.proofs.Tickets.{some-injective}
use Rattle.lot_machine.proofs.Changes.{number-set}
use Rattle.lot_machine.proofs.Idle.{status-number, receiver-stands}

-- ---- a thread that isn't in use

-- a thread that isn't in use serves nobody
pub unused-serves : (s : State) (t : ℕ) → is_thread_in_use s t ≡ false → clients_of s.clients t ≡ []
unused-serves s t unused = by (clients_of s.clients t) refl
    (second (nat_lt 0 (edge_count_into (funding_of s) (Thread t))) (is_some (first_client s.clients t)) unused)
  where
    second : (a b : Bool) → (a || b) ≡ false → b ≡ false
    second true b e = cc
    second false b e = e

    by : (clients : List ℕ) → clients_of s.clients t ≡ clients → is_some (slice_get (clients_of s.clients t) 0) ≡ false
        → clients_of s.clients t ≡ []
    by [] is none = is
    by (client ∷ clients) is none = let some : is_some (slice_get (client ∷ clients) 0) ≡ false =
        subst (λ xs. is_some (slice_get xs 0) ≡ false) is none in absurd (clash some)
      where
        clash : true ≡ false → ⊥
        clash e = cc

-- ---- a dead thread's clients

-- who isn't dead isn't it
clients-other : (records : List Record) (clients : List (List ℕ)) (server u : ℕ) (now : Status) (x : List ℕ)
    → status_of records server ≡ Some now → ¬ (now ≡ status.Dead) → status_of records u ≡ Some status.Dead
    → clients_of (set_number clients server x) u ≡ clients_of clients u
clients-other records clients server u now x is alive dead = by (number-set clients server x u)
  where
    by : (at_number (set_number clients server x) u ≡ at_number clients u)
        ⊎ ((u ≡ suc (server - 1)) × (at_number (set_number clients server x) u ≡ Some x))
        → clients_of (set_number clients server x) u ≡ clients_of clients u
    by (inl same) = ap (λ o. unwrap_or o []) same
    by (inr (at, _)) =
        let there : u ≡ server = at ∙ status-number records server now is in
        absurd (alive (some-injective now status.Dead (sym is ∙ ap (status_of records) (sym there) ∙ dead)))

module _ (s : State) (queues : HasQueues s.records s.clients s.ports s.mutexes) (t p used : ℕ)
    (runs : status_of s.records t ≡ Some (status.Running p used)) (u : ℕ)
    (dead : status_of s.records u ≡ Some status.Dead) where
  -- those of the thread that runs aren't a dead thread's
  own-clients : (clients : List (List ℕ)) (x : List ℕ) → clients_of (set_number clients t x) u ≡ clients_of clients u
  own-clients clients x = clients-other s.records clients t u (status.Running p used) x runs (λ e. cc) dead

  call-clients : (port number : ℕ)
      → clients_of (call s.records s.clients s.ports t port number).clients u ≡ clients_of s.clients u
  call-clients port number = at (port_at s.ports port).receivers refl
    where
      at : (o : List ℕ) → (port_at s.ports port).receivers ≡ o
          → clients_of (call s.records s.clients s.ports t port number).clients u ≡ clients_of s.clients u
      at [] is = rw is refl
      at (server ∷ others) is =
          rw is (clients-other s.records s.clients server u (status.Receiving port) (clients_of s.clients server ++ t
          ∷ []) (receiver-stands s.records s.clients s.ports s.mutexes queues port server others is) (λ e. cc) dead)

  receive-clients : (a : State) (port : ℕ)
      → clients_of (receive a.records a.clients a.ports t port).clients u ≡ clients_of a.clients u
  receive-clients a port = at (port_at a.ports port).calls refl
    where
      at : (o : List QueuedCall) → (port_at a.ports port).calls ≡ o
          → clients_of (receive a.records a.clients a.ports t port).clients u ≡ clients_of a.clients u
      at [] is = rw is refl
      at (first ∷ others) is = rw is (own-clients a.clients (clients_of a.clients t ++ first.caller ∷ []))

  reply-clients : (number : ℕ)
      → clients_of (reply s.records s.clients s.ports t number).clients u ≡ clients_of s.clients u
  reply-clients number = own-clients s.clients (drop 1 (clients_of s.clients t))

  effect-clients : (action : Action) → clients_of (trap_effect s t action).state.clients u ≡ clients_of s.clients u
  effect-clients (Call port number) = call-clients port number
  effect-clients (Receive port) = receive-clients s port
  effect-clients (ReplyTo number) = reply-clients number
  effect-clients (Serve port number) =
      receive-clients (of_ports s (reply s.records s.clients s.ports t number)).state port ∙ reply-clients number
  effect-clients action = refl

  pub checked-clients : (action : Action) (o : Option TrapRefusal)
      → clients_of (checked_effect s o (trap_effect s t action)).state.clients u ≡ clients_of s.clients u
  checked-clients action None = effect-clients action
  checked-clients action (Some refusal) = refl
