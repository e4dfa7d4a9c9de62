-- Without `queued_lend` the mutexes are the only holders, and none changes.
use Rattle.lot_machine.proofs.Common.{Bool, Event, List, Mutex, Nobody, None, Option, Outcome, PutMutex, Queued, Sizes, Some, State, ToMutex, ap, arith, at_number, before_lock, cond, false, funding_of, held_by, holder_of, holders, is_no_mutex, is_none, le-ltb, leads_back, left_by, lend_of, lends_lead, lends_on_to, length, length-replicate, length-set, map, mutex_at, nat_le, nat_lt, opening, option_any, port_holders, refl, served_at, set_number, slice_get, slice_get_within, state_after, step, suc, sym, true, unserved, with_server, without_servers, ℕ, [], ◌&&◌, ◌+◌, ◌-◌, ◌<◌, ◌==◌, ◌||◌, ◌∙◌, ◌∷◌, ◌≡◌, ◌≤◌}
use Rattle.lot_machine.specs.declared.reply.Outcome.TheVariants as outcome
use Rattle.lot_machine.proofs.Changes.{number-there}
use Rattle.lot_machine.proofs.Tickets.{at_number-suc}
use Rattle.lot_machine.proofs.StepChanges.{By, Keeps, kept, step-leads, by_event}

-- ---- counted

-- as many holders, by the same limits
abbrev HasHoldersOf : State → State → Type 0
HasHoldersOf s a = (a.limits ≡ s.limits) × (length a.mutexes ≡ length s.mutexes)

change-holders : (by : By) (s : State) → Keeps by s (HasHoldersOf s)
change-holders by s a (PutMutex m x) allowed (limits, many) = (limits, length-set a.mutexes (m - 1) x ∙ many)
change-holders by s a other allowed same = same

pub run-holders : (s : State) (events : List Event) → HasHoldersOf s (state_after s events)
run-holders s [] = (refl, refl)
run-holders s (e ∷ es) =
    let first = kept (HasHoldersOf s) (change-holders (by_event s e) s) (step-leads s e) (refl, refl) in
    let rest = run-holders (step s e).state es in (rest.0 ∙ first.0, rest.1 ∙ first.1)

pub counted : (limits : Sizes) (events : List Event)
    → length (state_after (opening limits) events).mutexes ≡ holders limits
counted limits events = (run-holders (opening limits) events).1
    ∙ length-replicate (holders limits) (record { owner = None; waiters = [] })

-- ---- without lending of queued calls

pub holders-off : (limits : Sizes) → limits.queued_lend ≡ false → holders limits ≡ limits.mutexes
holders-off limits off = ap (λ b. limits.mutexes + cond b limits.ports 0) off ∙ omega arith

pub lends-off : (limits : Sizes) (port : ℕ) → limits.queued_lend ≡ false → lend_of limits (Queued port) ≡ Nobody
lends-off limits port off = ap (λ b. cond limits.without_lending Nobody
    (cond (b && nat_le port limits.ports) (ToMutex (holder_of limits port)) Nobody)) off ∙ either limits.without_lending
  where
    either : (b : Bool) → cond b Nobody Nobody ≡ Nobody
    either true = refl
    either false = refl

server-off : (s : State) (port : ℕ) (server : Option ℕ) → s.limits.queued_lend ≡ false
    → with_server s.limits s.mutexes port server ≡ s.mutexes
server-off s port server off =
    ap (λ b. cond b (set_number s.mutexes (holder_of s.limits port) (held_by server)) s.mutexes) off

pub served-off : (s : State) (t port : ℕ) (o : Outcome) → s.limits.queued_lend ≡ false
    → served_at s t port o ≡ s.mutexes
served-off s t port (outcome.ServedBy server) off = server-off s port (Some server) off
served-off s t port outcome.Queued off = by (leads_back s t port)
  where
    by : (b : Bool) → cond b (with_server s.limits s.mutexes port None) s.mutexes ≡ s.mutexes
    by true = server-off s port None off
    by false = refl
served-off s t port (outcome.Received client number) off = server-off s port (Some t) off
served-off s t port (outcome.RepliedThenReceived to client number) off = server-off s port (Some t) off
served-off s t port other off = refl

none-off : (s : State) → s.limits.queued_lend ≡ false → port_holders s.limits ≡ []
none-off s off = rw off refl

pub left-off : (s : State) (t : ℕ) → s.limits.queued_lend ≡ false → left_by s t ≡ s.mutexes
left-off s t off = ap (unserved (λ server. server == t) s.mutexes) (none-off s off)

pub locks-off : (s : State) (t m : ℕ) → s.limits.queued_lend ≡ false → before_lock s t m ≡ s.mutexes
locks-off s t m off = by (option_any (λ owner. lends_on_to (funding_of s) owner t) (mutex_at s.mutexes m).owner)
  where
    by : (b : Bool)
        → cond b (unserved (λ server. lends_lead (funding_of s) server t) s.mutexes (port_holders s.limits)) s.mutexes
        ≡ s.mutexes
    by true = ap (unserved (λ server. lends_lead (funding_of s) server t) s.mutexes) (none-off s off)
    by false = refl

pub refused-off : (s : State) → s.limits.queued_lend ≡ false → without_servers s ≡ funding_of s
refused-off s off =
    ap (λ ns. record (funding_of s) { owners = map (λ (m : Mutex). m.owner) (unserved (λ server. true) s.mutexes ns) })
    (none-off s off)

pub mutexes-off : (limits : Sizes) (events : List Event) (m : ℕ) → limits.queued_lend ≡ false
    → is_no_mutex (state_after (opening limits) events) m
    ≡ is_none (at_number (state_after (opening limits) events).mutexes m)
mutexes-off limits events m off = by (at_number s.mutexes m) refl
  where
    s : State
    s = state_after (opening limits) events

    many : length s.mutexes ≡ s.limits.mutexes
    many = counted limits events ∙ holders-off limits off
        ∙ ap (λ (l : Sizes). l.mutexes) (sym (run-holders (opening limits) events).0)

    within : (x : Mutex) → at_number s.mutexes m ≡ Some x → m ≤ s.limits.mutexes
    within x is =
        let number : suc (m - 1) ≡ m = number-there s.mutexes m x is in
        let place : slice_get s.mutexes (m - 1) ≡ Some x = sym (at_number-suc s.mutexes (m - 1))
        ∙ ap (at_number s.mutexes) number ∙ is in
        let below : m - 1 < length s.mutexes = slice_get_within s.mutexes (m - 1) x place in
        omega (arith, number, below, many)

    by : (o : Option Mutex) → at_number s.mutexes m ≡ o
        → (is_none (at_number s.mutexes m) || nat_lt s.limits.mutexes m) ≡ is_none (at_number s.mutexes m)
    by None is = rw is refl
    by (Some x) is = rw is (le-ltb s.limits.mutexes m (within x is))
