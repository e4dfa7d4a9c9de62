-- The server of a port, in a kernel whose queued calls lend: the thread that took the last call there (4.6). The
-- holders of M mutexes and P ports:
--
--     holder   1 .. M               M + 1 .. M + P
--     owner    owner of the mutex   server of the port
use Rattle.std.specs.Prelude.{ℕ, ◌+◌, ◌==◌, Bool, true, Option, Some, None, List, [], ◌∷◌, map, if◌then◌else◌}
use Rattle.std.specs.List.{range_with_len}
use Rattle.lot_machine.specs.declared.sizes.Sizes.{Sizes}
use Rattle.lot_machine.specs.declared.reply.Outcome.{Outcome}
use Rattle.lot_machine.specs.declared.reply.Outcome.TheVariants.{ServedBy, Queued, Received, RepliedThenReceived}
use Rattle.lot_machine.specs.Numbered.{set_number, option_any}
use Rattle.lot_machine.specs.Funding.{Funding, owner_of}
use Rattle.lot_machine.specs.Lends.{lends_lead, lends_on_to}
use Rattle.lot_machine.specs.State.{State, Mutex, funding_of, holder_of}
use Rattle.lot_machine.specs.Mutexes.{mutex_at}

-- a holder with this owner; threads never wait for it by number, as they do for a mutex
abbrev pub held_by : Option ℕ → Mutex
held_by owner = record { owner = owner; waiters = [] }

-- the mutexes and holders after the port gets this server, or none
abbrev pub with_server : Sizes → List Mutex → ℕ → Option ℕ → List Mutex
with_server limits mutexes port server = if limits.queued_lend then set_number mutexes (holder_of limits port) (held_by server) else mutexes

-- whether lends lead from the port's server to the thread
abbrev pub leads_back : State → ℕ → ℕ → Bool
leads_back s t port = option_any (λ server. lends_lead (funding_of s) server t) (owner_of (funding_of s) (holder_of s.limits port))

-- The holders after the thread's trap at the port, by its outcome: the port's server is the thread that took the call.
-- A port loses its server if a queued call would lend to its own caller.
abbrev pub served_at : State → ℕ → ℕ → Outcome → List Mutex
served_at s t port (ServedBy server) = with_server s.limits s.mutexes port (Some server)
served_at s t port Queued = if leads_back s t port then with_server s.limits s.mutexes port None else s.mutexes
served_at s t port (Received client number) = with_server s.limits s.mutexes port (Some t)
served_at s t port (RepliedThenReceived to client number) = with_server s.limits s.mutexes port (Some t)
served_at s t port other = s.mutexes

-- the holders of the ports' servers, by number
abbrev pub port_holders : Sizes → List ℕ
port_holders limits = if limits.queued_lend then range_with_len (limits.mutexes + 1) limits.ports else []

-- the holder without its owner, if that one passes the test
abbrev pub unserved_at : (ℕ → Bool) → List Mutex → ℕ → List Mutex
unserved_at test mutexes n = if option_any test (mutex_at mutexes n).owner then set_number mutexes n (held_by None) else mutexes

-- these holders without their owners that pass the test
abbrev pub unserved : (ℕ → Bool) → List Mutex → List ℕ → List Mutex
unserved test mutexes [] = mutexes
unserved test mutexes (n ∷ ns) = unserved test (unserved_at test mutexes n) ns

-- the funding without the ports' servers
abbrev pub without_servers : State → Funding
without_servers s = record (funding_of s) { owners = map (λ m. m.owner) (unserved (λ server. true) s.mutexes (port_holders s.limits)) }

-- The mutexes and holders before the thread locks the mutex. If its wait would close a cycle of lends through a port's
-- server, each server from which lends lead to the thread is cleared.
abbrev pub before_lock : State → ℕ → ℕ → List Mutex
before_lock s t m =
    if option_any (λ owner. lends_on_to (funding_of s) owner t) (mutex_at s.mutexes m).owner
    then unserved (λ server. lends_lead (funding_of s) server t) s.mutexes (port_holders s.limits)
    else s.mutexes

-- the mutexes and holders after the thread ends, which takes it away as server of each port
abbrev pub left_by : State → ℕ → List Mutex
left_by s t = unserved (λ server. server == t) s.mutexes (port_holders s.limits)
