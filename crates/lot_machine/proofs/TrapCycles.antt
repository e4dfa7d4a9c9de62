-- No trap makes a cycle.
use Rattle.lot_machine.proofs.Common.{After, Bool, Drawn, Funding, GoesOn, HasNoCycle, HasQueues, IsQueue, Leaves, Lend, LendsLead, List, Mutex, Nobody, None, Option, PortTrap, Queued, QueuedCall, Ready, Receiving, Record, Running, Served, Sizes, Some, State, Status, ToMutex, ToThread, Waiting, ap, at_number, borrower, call, change_record, cond, eq-eqb, false, first_client, funding_of, held_by, holder_of, if◌then◌else◌, inl, inr, leads_back, lend_of, lends_at, lends_lead, lends_on_to, lock, map, map-set, mutex_at, nat_le, option_and_then, option_any, option_flatten, option_map, owner_of, port_at, receive, refl, remove, reply, serve, served_at, set_number, slice_get-map, slice_index, status_of, subst, suc, sym, true, unlock, unserved, unserved_at, unwrap_or, winner, with_server, zero, ℕ, [], ◌&&◌, ◌++◌, ◌-◌, ◌==◌, ◌∙◌, ◌∷◌, ◌≡◌, ◌⊎◌}
use Rattle.lot_machine.proofs.Tickets.{at_number-suc, some-injective}
use Rattle.lot_machine.proofs.LendDepth.{lends_lead-exact}
use Rattle.lot_machine.proofs.LendsKept.{HasNoCycle-lends, HasNoCycle-freed, HasNoCycle-owned_any}
use Rattle.lot_machine.proofs.Changes.{number-kept, number-set}
use Rattle.lot_machine.proofs.Queues.{status-now, status-set, number-set_same}

-- ---- what threads lend, and who owns mutexes, in a state

pub at_number-map : {A B : Type 0} (v : A → B) (xs : List A) (n : ℕ)
    → at_number (map v xs) n ≡ option_map v (at_number xs n)
at_number-map v xs zero = refl
at_number-map v xs (suc i) = at_number-suc (map v xs) i ∙ slice_get-map v xs i
    ∙ ap (option_map v) (sym (at_number-suc xs i))

-- what a thread lends to, from its status
pub lend-at : (without : Sizes) (records : List Record) (t : ℕ) (now : Status) → status_of records t ≡ Some now
    → at_number (map (λ (r : Record). lend_of without r.status) records) t ≡ Some (lend_of without now)
lend-at without records t now e = at_number-map (λ (r : Record). lend_of without r.status) records t
    ∙ from (at_number records t) e
  where
    from : (o : Option Record) → option_map (λ (r : Record). r.status) o ≡ Some now
        → option_map (λ (r : Record). lend_of without r.status) o ≡ Some (lend_of without now)
    from None h = cc
    from (Some r) h = ap (λ s. Some (lend_of without s)) (some-injective r.status now h)

-- a lend that isn't left out has its borrower
pub lent-to : (f : Funding) (without : Bool) (lend : Lend) (b : ℕ)
    → borrower f (if without then Nobody else lend) ≡ Some b → borrower f lend ≡ Some b
lent-to f true lend b e = cc
lent-to f false lend b e = e

pub lent-if : (f : Funding) (lends : Bool) (lend : Lend) (b : ℕ) → borrower f (if lends then lend else Nobody) ≡ Some b
    → borrower f lend ≡ Some b
lent-if f true lend b e = e
lent-if f false lend b e = cc

-- who lends to nobody leads to itself alone
alone : (f : Funding) (t u : ℕ) → at_number f.lends t ≡ Some Nobody → LendsLead f t u → t ≡ u
alone f t u nobody ([], same) = same
alone f t u nobody (s ∷ rest, (first, others)) = let none : None ≡ Some s =
    sym (ap (option_and_then (borrower f)) nobody) ∙ first in absurd (differs s none)
  where
    differs : (s : ℕ) → None ≡ Some s → ⊥
    differs s e = cc

-- one record changes
module _ (s : State) (change : Record → Record) (u : ℕ) where
  abbrev changed : State
  changed = record s { records = change_record change s.records u }

  changed-lends : (r : Record) → at_number s.records u ≡ Some r
      → map (λ (x : Record). lend_of s.limits x.status) (change_record change s.records u)
      ≡ set_number (map (λ (x : Record). lend_of s.limits x.status) s.records) u (lend_of s.limits (change r).status)
  changed-lends r there =
      let set : change_record change s.records u ≡ set_number s.records u (change r) = rw there refl in
      ap (map (λ (x : Record). lend_of s.limits x.status)) set
      ∙ map-set (λ (x : Record). lend_of s.limits x.status) s.records (u - 1) (change r)

  -- to one that lends so
  pub cycle-changed : (lend : Lend) → ((r : Record) → lend_of s.limits (change r).status ≡ lend)
      → ((b : ℕ) → borrower (funding_of s) lend ≡ Some b → ¬ LendsLead (funding_of s) b u) → HasNoCycle (funding_of s)
      → HasNoCycle (funding_of changed)
  cycle-changed lend lends apart no_cycle = at (at_number s.records u) refl
    where
      at : (o : Option Record) → at_number s.records u ≡ o → HasNoCycle (funding_of changed)
      at None is = rw is no_cycle
      at (Some r) is =
          let before : at_number (map (λ (x : Record). lend_of s.limits x.status) s.records) u ≡ Some (lend_of s.limits
          r.status) = lend-at s.limits s.records u r.status (ap (option_map (λ (x : Record). x.status)) is) in
          let same : map (λ (x : Record). lend_of s.limits x.status) (change_record change s.records u)
          ≡ set_number (map (λ (x : Record). lend_of s.limits x.status) s.records) u lend =
          changed-lends r is
          ∙ ap (set_number (map (λ (x : Record). lend_of s.limits x.status) s.records) u) (lends r) in
          subst (λ xs. HasNoCycle (record (funding_of s) { lends = xs })) (sym same)
          (HasNoCycle-lends (funding_of s) u lend (lend_of s.limits r.status) before apart no_cycle)

  -- to one that lends to nobody
  pub cycle-nobody : ((r : Record) → lend_of s.limits (change r).status ≡ Nobody) → HasNoCycle (funding_of s)
      → HasNoCycle (funding_of changed)
  cycle-nobody nobody = cycle-changed Nobody nobody none
    where
      none : (b : ℕ) → None ≡ Some b → ¬ LendsLead (funding_of s) b u
      none b e = cc

  -- which it does then, if it is there
  pub lends-then : ((r : Record) → lend_of s.limits (change r).status ≡ Nobody) → (lend : Lend)
      → at_number (funding_of changed).lends u ≡ Some lend → lend ≡ Nobody
  lends-then nobody lend e = at (at_number s.records u) refl
    where
      at : (o : Option Record) → at_number s.records u ≡ o → lend ≡ Nobody
      at None is =
          let same : change_record change s.records u ≡ s.records = rw is refl in
          let none : at_number (funding_of changed).lends u ≡ None =
          ap (λ rs. at_number (map (λ (x : Record). lend_of s.limits x.status) rs) u) same
          ∙ at_number-map (λ (x : Record). lend_of s.limits x.status) s.records u
          ∙ ap (option_map (λ (x : Record). lend_of s.limits x.status)) is in
          let never : None ≡ Some lend = sym none ∙ e in cc
      at (Some r) is =
          let now : status_of (change_record change s.records u) u ≡ Some (change r).status =
          status-set change s.records u r is in
          some-injective lend Nobody
          (sym e ∙ lend-at s.limits (change_record change s.records u) u (change r).status now ∙ ap Some (nobody r))

-- one mutex changes
module _ (s : State) (m : ℕ) (new : Mutex) where
  abbrev with_mutex : State
  with_mutex = record s { mutexes = set_number s.mutexes m new }

  pub owners-set : map (λ (x : Mutex). x.owner)
      (set_number s.mutexes m new) ≡ set_number (map (λ (x : Mutex). x.owner) s.mutexes) m new.owner
  owners-set = map-set (λ (x : Mutex). x.owner) s.mutexes (m - 1) new

  pub cycle-freed : new.owner ≡ None → HasNoCycle (funding_of s) → HasNoCycle (funding_of with_mutex)
  cycle-freed free no_cycle =
      subst (λ xs. HasNoCycle (record (funding_of s) { owners = xs })) (sym (owners-set
      ∙ ap (set_number (map (λ (x : Mutex). x.owner) s.mutexes) m) free)) (HasNoCycle-freed (funding_of s) m no_cycle)

  pub cycle-owned : (w : ℕ) → new.owner ≡ Some w
      → ((lend : Lend) → at_number (funding_of s).lends w ≡ Some lend → lend ≡ Nobody) → HasNoCycle (funding_of s)
      → HasNoCycle (funding_of with_mutex)
  cycle-owned w owner nobody no_cycle =
      subst (λ xs. HasNoCycle (record (funding_of s) { owners = xs }))
      (sym (owners-set ∙ ap (set_number (map (λ (x : Mutex). x.owner) s.mutexes) m) owner))
      (HasNoCycle-owned_any (funding_of s) m w nobody no_cycle)

  -- with the owner that it had
  pub cycle-kept : (old : Mutex) → at_number s.mutexes m ≡ Some old → new.owner ≡ old.owner → HasNoCycle (funding_of s)
      → HasNoCycle (funding_of with_mutex)
  cycle-kept old there same no_cycle =
      subst (λ xs. HasNoCycle (record (funding_of s) { owners = xs })) (sym (owners-set ∙ kept)) no_cycle
    where
      kept : set_number (map (λ (x : Mutex). x.owner) s.mutexes) m new.owner ≡ map (λ (x : Mutex). x.owner) s.mutexes
      kept =
          number-kept (map (λ (x : Mutex). x.owner) s.mutexes) m new.owner
          (at_number-map (λ (x : Mutex). x.owner) s.mutexes m ∙ ap (option_map (λ (x : Mutex). x.owner)) there
          ∙ ap Some (sym same))

-- ---- the servers of ports

-- a holder that loses its owner has none
pub owner-gone : (owners : List (Option ℕ)) (n : ℕ) → option_flatten (at_number (set_number owners n None) n) ≡ None
owner-gone owners n = by (at_number owners n) refl
  where
    from : at_number owners n ≡ None → (at_number (set_number owners n None) n ≡ at_number owners n)
        ⊎ ((n ≡ suc (n - 1)) × (at_number (set_number owners n None) n ≡ Some None))
        → option_flatten (at_number (set_number owners n None) n) ≡ None
    from there (inl same) = ap option_flatten (same ∙ there)
    from there (inr (at, is)) = ap option_flatten is

    by : (o : Option (Option ℕ)) → at_number owners n ≡ o
        → option_flatten (at_number (set_number owners n None) n) ≡ None
    by (Some old) there = ap option_flatten (number-set_same owners n None old there)
    by None there = from there (number-set owners n None n)

-- a port gets a server that lends to nobody
pub cycle-served : (s : State) (port w : ℕ)
    → ((lend : Lend) → at_number (funding_of s).lends w ≡ Some lend → lend ≡ Nobody) → HasNoCycle (funding_of s)
    → HasNoCycle (funding_of (record s { mutexes = with_server s.limits s.mutexes port (Some w) }))
cycle-served s port w nobody no_cycle = by s.limits.queued_lend
  where
    by : (b : Bool) → HasNoCycle (funding_of
        (record s { mutexes = cond b (set_number s.mutexes (holder_of s.limits port) (held_by (Some w))) s.mutexes }))
    by true = cycle-owned s (holder_of s.limits port) (held_by (Some w)) w refl nobody no_cycle
    by false = no_cycle

-- it loses its server
pub cycle-unserved : (s : State) (port : ℕ) → HasNoCycle (funding_of s)
    → HasNoCycle (funding_of (record s { mutexes = with_server s.limits s.mutexes port None }))
cycle-unserved s port no_cycle = by s.limits.queued_lend
  where
    by : (b : Bool) → HasNoCycle (funding_of
        (record s { mutexes = cond b (set_number s.mutexes (holder_of s.limits port) (held_by None)) s.mutexes }))
    by true = cycle-freed s (holder_of s.limits port) (held_by None) refl no_cycle
    by false = no_cycle

-- who calls it then lends to nobody that gets anything
unserved-nobody : (s : State) (port b : ℕ)
    → ¬ (borrower (funding_of (record s { mutexes = with_server s.limits s.mutexes port None }))
    (lend_of s.limits (Queued port)) ≡ Some b)
unserved-nobody s port b to =
    by s.limits.queued_lend (nat_le port s.limits.ports) (lent-to (funding_of after) s.limits.without_lending
    (if lends_at s.limits port then ToMutex (holder_of s.limits port) else Nobody) b to)
  where
    after : State
    after = record s { mutexes = with_server s.limits s.mutexes port None }

    never : None ≡ Some b → ⊥
    never e = cc

    by : (lends small : Bool) → borrower (funding_of
        (record s { mutexes = cond lends (set_number s.mutexes (holder_of s.limits port) (held_by None)) s.mutexes }))
        (cond (lends && small) (ToMutex (holder_of s.limits port)) Nobody) ≡ Some b → ⊥
    by false small e = never e
    by true false e = never e
    by true true e = never (sym (ap (λ owners. option_flatten (at_number owners (holder_of s.limits port)))
        (owners-set s (holder_of s.limits port) (held_by None))
        ∙ owner-gone (map (λ (x : Mutex). x.owner) s.mutexes) (holder_of s.limits port)) ∙ e)

-- holders lose their owners that pass a test
pub cycle-unserved_each : (test : ℕ → Bool) (s : State) (ns : List ℕ) → HasNoCycle (funding_of s)
    → HasNoCycle (funding_of (record s { mutexes = unserved test s.mutexes ns }))
cycle-unserved_each test s [] no_cycle = no_cycle
cycle-unserved_each test s (n ∷ ns) no_cycle = cycle-unserved_each test
    (record s { mutexes = unserved_at test s.mutexes n }) ns (by (option_any test (mutex_at s.mutexes n).owner))
  where
    by : (b : Bool)
        → HasNoCycle (funding_of (record s { mutexes = cond b (set_number s.mutexes n (held_by None)) s.mutexes }))
    by true = cycle-freed s n (held_by None) refl no_cycle
    by false = no_cycle

-- a serving gives the port the server that its receipt gives it
pub serve-server : (s : State) (t port number : ℕ) →
    let replied = reply s.records s.clients s.ports t number in
    let middle : State = record s { records = replied.records; clients = replied.clients; ports = replied.ports } in
    served_at s t port (serve s.records s.clients s.ports t port number).outcome
    ≡ served_at middle t port (receive middle.records middle.clients middle.ports t port).outcome
serve-server s t port number = by (port_at s.ports port).calls refl
  where
    replied : PortTrap
    replied = reply s.records s.clients s.ports t number

    middle : State
    middle = record s { records = replied.records; clients = replied.clients; ports = replied.ports }

    by : (o : List QueuedCall) → (port_at s.ports port).calls ≡ o
        → served_at s t port (serve s.records s.clients s.ports t port number).outcome
        ≡ served_at middle t port (receive middle.records middle.clients middle.ports t port).outcome
    by [] is = rw is refl
    by (first ∷ others) is = rw is refl

-- ---- traps

-- The thread that makes a trap runs. How it leaves its processor says its new status; if it goes on it lends to nobody.
module _ (finish : After → Record → Record)
    (leaves : (status : Status) (r : Record) → (finish (Leaves status) r).status ≡ status)
    (s : State) (stays : (r : Record) → lend_of s.limits (finish GoesOn r).status ≡ Nobody)
    (no_cycle : HasNoCycle (funding_of s))
    (queues : HasQueues s.records s.clients s.ports s.mutexes) (t p used : ℕ)
    (runs : status_of s.records t ≡ Some (Running p used)) where
  pub leaves-nobody : (status : Status) → lend_of s.limits status ≡ Nobody → (r : Record)
      → lend_of s.limits (finish (Leaves status) r).status ≡ Nobody
  leaves-nobody status nobody r = ap (lend_of s.limits) (leaves status r) ∙ nobody

  differs : (u : ℕ) (now : Status) → status_of s.records u ≡ Some now → ¬ (Running p used ≡ now) → ¬ (t ≡ u)
  differs u now is other same =
      other (some-injective (Running p used) now (sym runs ∙ ap (status_of s.records) same ∙ is))

  pub call-cycle : (port number : ℕ) → at_number s.ports port ≡ Some (port_at s.ports port)
      → HasNoCycle (funding_of (record s { records = change_record (finish (call s.records s.clients s.ports t port number).after) (call s.records s.clients s.ports t port number).records t; mutexes = served_at s t port (call s.records s.clients s.ports t port number).outcome }))
  call-cycle port number there = at (port_at s.ports port).receivers refl
    where
      served : (server : ℕ) (others : List ℕ) → (port_at s.ports port).receivers ≡ server ∷ others
          → HasNoCycle (funding_of (record s { records = change_record (finish (Leaves (Served server))) (change_record (λ r. record r { status = Ready; delivered = Some number }) s.records server) t; mutexes = with_server s.limits s.mutexes port (Some server) }))
      served server others is =
          let change : Record → Record = λ r. record r { status = Ready; delivered = Some number } in
          let queue : IsQueue s.records (Receiving port) (server ∷ others) =
          subst (λ ts. IsQueue s.records (Receiving port) ts) is (queues.receivers port (port_at s.ports port) there) in
          let receives = queue.each 0 server refl in
          let woken : State = record s { records = change_record change s.records server } in
          let serves : State = record woken { mutexes = with_server s.limits s.mutexes port (Some server) } in
          let ready = lend-at s.limits woken.records server Ready
          (status-now change s.records server (Receiving port) Ready receives (λ r. refl)) in
          cycle-changed serves (finish (Leaves (Served server))) t (lend_of s.limits (Served server))
          (λ r. ap (lend_of s.limits) (leaves (Served server) r))
          (λ b to lead. let same : server ≡ b =
          some-injective server b (lent-to (funding_of serves) s.limits.without_lending (ToThread server) b to) in
          differs server (Receiving port) receives (running-not port) (sym
          (alone (funding_of serves) server t ready (subst (λ x. LendsLead (funding_of serves) x t) (sym same) lead))))
          (cycle-served woken port server (lends-then s change server (λ r. refl))
          (cycle-nobody s change server (λ r. refl) no_cycle))
        where
          running-not : (q : ℕ) → ¬ (Running p used ≡ Receiving q)
          running-not q e = cc

      -- a queued caller lends to the port's server if its lends don't lead back, and otherwise to nobody
      queued : HasNoCycle (funding_of (record s { records = change_record (finish (Leaves (Queued port))) s.records t; mutexes = if leads_back s t port then with_server s.limits s.mutexes port None else s.mutexes }))
      queued = by (leads_back s t port) refl
        where
          apart : leads_back s t port ≡ false → (b : ℕ)
              → borrower (funding_of s) (lend_of s.limits (Queued port)) ≡ Some b → ¬ LendsLead (funding_of s) b t
          apart off b to lead =
              let here : owner_of (funding_of s) (holder_of s.limits port) ≡ Some b =
              lent-if (funding_of s) (lends_at s.limits port) (ToMutex (holder_of s.limits port)) b
              (lent-to (funding_of s) s.limits.without_lending
              (if lends_at s.limits port then ToMutex (holder_of s.limits port) else Nobody) b to) in
              let fails : lends_lead (funding_of s) b t ≡ false =
              sym (ap (option_any (λ x. lends_lead (funding_of s) x t)) here) ∙ off in
              let passes : lends_lead (funding_of s) b t ≡ true =
              (lends_lead-exact (funding_of s) no_cycle.lends b t).1 lead in cc

          by : (b : Bool) → leads_back s t port ≡ b
              → HasNoCycle (funding_of (record s { records = change_record (finish (Leaves (Queued port))) s.records t; mutexes = cond b (with_server s.limits s.mutexes port None) s.mutexes }))
          by false off = cycle-changed s (finish (Leaves (Queued port))) t (lend_of s.limits (Queued port))
              (λ r. ap (lend_of s.limits) (leaves (Queued port) r)) (apart off) no_cycle
          by true on =
              cycle-changed (record s { mutexes = with_server s.limits s.mutexes port None }) (finish (Leaves
              (Queued port))) t (lend_of s.limits (Queued port)) (λ r. ap (lend_of s.limits) (leaves (Queued port) r))
              (λ b to lead. unserved-nobody s port b to) (cycle-unserved s port no_cycle)

      at : (o : List ℕ) → (port_at s.ports port).receivers ≡ o
          → HasNoCycle (funding_of (record s { records = change_record (finish (call s.records s.clients s.ports t port number).after) (call s.records s.clients s.ports t port number).records t; mutexes = served_at s t port (call s.records s.clients s.ports t port number).outcome }))
      at [] is = rw is queued
      at (server ∷ others) is = rw is (served server others is)

  pub receive-cycle : (port : ℕ) → at_number s.ports port ≡ Some (port_at s.ports port)
      → HasNoCycle (funding_of (record s { records = change_record (finish (receive s.records s.clients s.ports t port).after) (receive s.records s.clients s.ports t port).records t; mutexes = served_at s t port (receive s.records s.clients s.ports t port).outcome }))
  receive-cycle port there = at (port_at s.ports port).calls refl
    where
      taken : (first : QueuedCall) (others : List QueuedCall) → (port_at s.ports port).calls ≡ first ∷ others
          → HasNoCycle (funding_of (record s { records = change_record (finish GoesOn) (change_record (λ r. record r { status = Served t }) s.records first.caller) t; mutexes = with_server s.limits s.mutexes port (Some t) }))
      taken first others is =
          let change : Record → Record = λ r. record r { status = Served t } in
          let queue : IsQueue s.records (Queued port) (map (λ (call : QueuedCall). call.caller) (first ∷ others)) =
          subst (λ cs. IsQueue s.records (Queued port) (map (λ (call : QueuedCall). call.caller) cs)) is
          (queues.callers port (port_at s.ports port) there) in
          let calls = queue.each 0 first.caller refl in
          let moved : State = record s { records = change_record change s.records first.caller } in
          let runs_alone = lend-at s.limits s.records t (Running p used) runs in
          cycle-served (record s { records = change_record (finish GoesOn) moved.records t }) port t
          (lends-then moved (finish GoesOn) t stays)
          (cycle-nobody moved (finish GoesOn) t stays
          (cycle-changed s change first.caller (lend_of s.limits (Served t)) (λ r. refl)
          (λ b to lead. let same : t ≡ b =
          some-injective t b (lent-to (funding_of s) s.limits.without_lending (ToThread t) b to) in
          differs first.caller (Queued port) calls (running-not port) (alone (funding_of s) t first.caller runs_alone
          (subst (λ x. LendsLead (funding_of s) x first.caller) (sym same) lead)))
          no_cycle))
        where
          running-not : (q : ℕ) → ¬ (Running p used ≡ Queued q)
          running-not q e = cc

      at : (o : List QueuedCall) → (port_at s.ports port).calls ≡ o
          → HasNoCycle (funding_of (record s { records = change_record (finish (receive s.records s.clients s.ports t port).after) (receive s.records s.clients s.ports t port).records t; mutexes = served_at s t port (receive s.records s.clients s.ports t port).outcome }))
      at [] is =
          rw is (cycle-nobody s (finish (Leaves (Receiving port))) t (leaves-nobody (Receiving port) refl) no_cycle)
      at (first ∷ others) is = rw is (taken first others is)

  -- a reply, before the server goes on
  pub replied-cycle : (number : ℕ)
      → HasNoCycle (funding_of (record s { records = (reply s.records s.clients s.ports t number).records }))
  replied-cycle number = cycle-nobody s (λ r. record r { status = Ready; delivered = Some number })
      (unwrap_or (first_client s.clients t) 0) (λ r. refl) no_cycle

  pub reply-cycle : (number : ℕ)
      → HasNoCycle (funding_of (record s { records = change_record (finish (reply s.records s.clients s.ports t number).after) (reply s.records s.clients s.ports t number).records t }))
  reply-cycle number =
      let client = unwrap_or (first_client s.clients t) 0 in
      let woken : State =
      record s { records = change_record (λ r. record r { status = Ready; delivered = Some number }) s.records client } in
      cycle-nobody woken (finish GoesOn) t stays (replied-cycle number)

  pub lock-cycle : (m : ℕ) → at_number s.mutexes m ≡ Some (mutex_at s.mutexes m)
      → option_any (λ owner. owner == t) (mutex_at s.mutexes m).owner ≡ false
      → option_any (λ owner. lends_on_to (funding_of s) owner t) (mutex_at s.mutexes m).owner ≡ false
      → HasNoCycle (funding_of (record s { records = change_record (finish (lock s.records s.mutexes t m).after) (lock s.records s.mutexes t m).records t; mutexes = (lock s.records s.mutexes t m).mutexes }))
  lock-cycle m there other apart = at (mutex_at s.mutexes m).owner refl
    where
      free : HasNoCycle (funding_of (record s { records = change_record (finish GoesOn) s.records t; mutexes = set_number s.mutexes m (record { owner = Some t; waiters = (mutex_at s.mutexes m).waiters }) }))
      free =
          let new : Mutex = record { owner = Some t; waiters = (mutex_at s.mutexes m).waiters } in
          cycle-nobody (with_mutex s m new) (finish GoesOn) t stays
          (cycle-owned s m new t refl (λ lend is.
          some-injective lend Nobody (sym is ∙ lend-at s.limits s.records t (Running p used) runs)) no_cycle)

      waits : (owner : ℕ) → (mutex_at s.mutexes m).owner ≡ Some owner
          → HasNoCycle (funding_of (record s { records = change_record (finish (Leaves (Waiting m))) s.records t; mutexes = set_number s.mutexes m (record { owner = Some owner; waiters = (mutex_at s.mutexes m).waiters ++ t ∷ [] }) }))
      waits owner owned =
          let new : Mutex = record { owner = Some owner; waiters = (mutex_at s.mutexes m).waiters ++ t ∷ [] } in
          let then_waits : State = record s { records = change_record (finish (Leaves (Waiting m))) s.records t } in
          cycle-kept then_waits m new (mutex_at s.mutexes m) there (sym owned)
          (cycle-changed s (finish (Leaves (Waiting m))) t (lend_of s.limits (Waiting m))
          (λ r. ap (lend_of s.limits) (leaves (Waiting m) r)) leads no_cycle)
        where
          owner-is : owner_of (funding_of s) m ≡ Some owner
          owner-is = ap option_flatten (at_number-map (λ (x : Mutex). x.owner) s.mutexes m
              ∙ ap (option_map (λ (x : Mutex). x.owner)) there) ∙ owned

          from-owner : LendsLead (funding_of s) owner t → ⊥
          from-owner ([], same) =
              let is : (owner == t) ≡ true = eq-eqb owner t same in
              let is_not : (owner == t) ≡ false = sym (ap (option_any (λ o. o == t)) owned) ∙ other in cc
          from-owner (b ∷ rest, (first, others)) =
              let on : lends_on_to (funding_of s) owner t ≡ true =
              ap (option_any (λ x. lends_lead (funding_of s) x t)) first
              ∙ (lends_lead-exact (funding_of s) no_cycle.lends b t).1 (rest, others) in
              let off : lends_on_to (funding_of s) owner t ≡ false =
              sym (ap (option_any (λ o. lends_on_to (funding_of s) o t)) owned) ∙ apart in cc

          leads : (b : ℕ) → borrower (funding_of s) (lend_of s.limits (Waiting m)) ≡ Some b
              → ¬ LendsLead (funding_of s) b t
          leads b to lead = from-owner (subst (λ x. LendsLead (funding_of s) x t) (some-injective b owner
              (sym (lent-to (funding_of s) s.limits.without_lending (ToMutex m) b to) ∙ owner-is)) lead)

      at : (o : Option ℕ) → (mutex_at s.mutexes m).owner ≡ o
          → HasNoCycle (funding_of (record s { records = change_record (finish (lock s.records s.mutexes t m).after) (lock s.records s.mutexes t m).records t; mutexes = (lock s.records s.mutexes t m).mutexes }))
      at None is = rw is free
      at (Some owner) is = rw is (waits owner is)

  pub unlock-cycle : (value : ℕ → ℕ) (m d : ℕ)
      → HasNoCycle (funding_of (record s { records = change_record (finish (unlock s.records s.mutexes value m d).after) (unlock s.records s.mutexes value m d).records t; mutexes = (unlock s.records s.mutexes value m d).mutexes }))
  unlock-cycle value m d = at (mutex_at s.mutexes m).waiters refl
    where
      freed : HasNoCycle (funding_of (record s { records = change_record (finish GoesOn) s.records t; mutexes = set_number s.mutexes m (record { owner = None; waiters = [] }) }))
      freed = cycle-nobody (with_mutex s m (record { owner = None; waiters = [] })) (finish GoesOn) t stays
          (cycle-freed s m (record { owner = None; waiters = [] }) refl no_cycle)

      passed : (w : ℕ) (waiters : List ℕ)
          → HasNoCycle (funding_of (record s { records = change_record (finish (Leaves Ready)) (change_record (λ r. record r { status = Ready }) s.records w) t; mutexes = set_number s.mutexes m (record { owner = Some w; waiters = waiters }) }))
      passed w waiters =
          let new : Mutex = record { owner = Some w; waiters = waiters } in
          let change : Record → Record = λ r. record r { status = Ready } in
          let woken : State = record s { records = change_record change s.records w } in
          cycle-nobody (with_mutex woken m new) (finish (Leaves Ready)) t (leaves-nobody Ready refl)
          (cycle-owned woken m new w refl (lends-then s change w (λ r. refl))
          (cycle-nobody s change w (λ r. refl) no_cycle))

      at : (o : List ℕ) → (mutex_at s.mutexes m).waiters ≡ o
          → HasNoCycle (funding_of (record s { records = change_record (finish (unlock s.records s.mutexes value m d).after) (unlock s.records s.mutexes value m d).records t; mutexes = (unlock s.records s.mutexes value m d).mutexes }))
      at [] is = rw is freed
      at (w ∷ ws) is =
          let place = unwrap_or (option_map (λ (drawn : Drawn). drawn.place) (winner (map value (w ∷ ws)) d)) 0 in
          rw is (passed (slice_index (w ∷ ws) place) (remove (w ∷ ws) place))
