-- A trap's checks, and the tables after it.
use Rattle.lot_kernel.proofs.Common.{AlreadyOwner, Bool, Freed, Funding, GoesOn, HasNoCycle, IsInOrder, IsNowhere, IsRunning, IsThere, IsTrue, Lend, LendsLead, List, LockCycle, Meter, Mutex, MutexTrap, NoMutex, None, NothingToReply, Option, Port, PortTrap, QueueLists, QueuedCall, Reaches, Record, Refused, Running, Sizes, Some, State, Status, Threaded, ap, arith, at_number, at_number-suc, at_port, before_lock, borrower, borrower_of, call, change_record, effect_of, eq-eqb, false, first_client, first_failing, held, if◌then◌else◌, is_no_mutex, is_none, le-ltb, lends_lead, lends_lead-exact, lends_on_to, length, length-set, lock, ltb-false, mutex_at, nat_lt, ne_eqb, nowhere-running, of_mutexes, of_ports, option_and_then, option_any, owns, port_at, reaches-leads, receive, record-of, refl, reply, serve, slice_get, status_of, subst, suc, sym, trap_refusal, true, unlock, unwrap_or, value_of, with_mutexes, with_ports, with_records, without_servers, worth_in, zero, ℕ, [], ◌-◌, ◌<◌, ◌||◌, ◌↔◌, ◌∙◌, ◌∷◌, ◌≡◌, ◌≢◌, ◌≤◌}
use Rattle.lot_machine.specs.declared.trap.Trap.TheVariants as action
use Rattle.lot_machine.specs.declared.funding.Node.TheVariants as node
use Rattle.lot_kernel.proofs.Holding.{IsHeld, held-records}

-- ---- numbers

place-there : {A : Type 0} (xs : List A) (i : ℕ) → i < length xs → is_none (slice_get xs i) ≡ false
place-there [] i below = absurd (omega (arith, below))
place-there (x ∷ xs) zero below = refl
place-there (x ∷ xs) (suc i) below = place-there xs i (omega (arith, below))

place-within : {A : Type 0} (xs : List A) (i : ℕ) → is_none (slice_get xs i) ≡ false → suc i ≤ length xs
place-within [] i some = cc
place-within (x ∷ xs) zero some = omega arith
place-within (x ∷ xs) (suc i) some = omega (arith, place-within xs i some)

-- a number that is within has its element
pub number-there : {A : Type 0} (xs : List A) (n : ℕ) → IsThere xs n → is_none (at_number xs n) ≡ false
number-there xs zero there = absurd (omega (arith, there.0))
number-there xs (suc i) there = ap is_none (at_number-suc xs i) ∙ place-there xs i (omega (arith, there.1))

-- and one that has its element is within
pub number-within : {A : Type 0} (xs : List A) (n : ℕ) → is_none (at_number xs n) ≡ false → IsThere xs n
number-within xs zero is = cc
number-within xs (suc i) is = (omega arith, place-within xs i (sym (ap is_none (at_number-suc xs i)) ∙ is))

-- a thread with a status is there
pub status-there : (records : List Record) (t : ℕ) (now : Status) → status_of records t ≡ Some now → IsThere records t
status-there records t now is = let r = record-of records t now is in number-within records t (ap is_none r.1)

-- one that runs is there, and waits nowhere
pub running-there : (records : List Record) (t : ℕ) → IsRunning records t → IsThere records t
running-there records t (processor, (used, runs)) = status-there records t (Running processor used) runs

pub running-nowhere : (sizes : Sizes) (freed : Freed) (names : List (Option (List ℕ))) (v : Threaded) (q : QueueLists)
    (t : ℕ) → IsInOrder (held sizes freed names v q) → IsRunning v.records t → IsNowhere q t
running-nowhere sizes freed names v q t order (processor, (used, runs)) =
    nowhere-running v.records q t processor used order.queues runs

-- ---- what isn't refused

module _ (s : State) (t : ℕ) where
  pub call-done : (p number : ℕ) → IsThere s.ports p
      → effect_of s t (action.Call p number) ≡ at_port s t p (call s.records s.clients s.ports t p number)
  call-done p number there = rw (number-there s.ports p there) refl

  pub receive-done : (p : ℕ) → IsThere s.ports p
      → effect_of s t (action.Receive p) ≡ at_port s t p (receive s.records s.clients s.ports t p)
  receive-done p there = rw (number-there s.ports p there) refl

  pub reply-done : (client number : ℕ) → first_client s.clients t ≡ Some client
      → effect_of s t (action.Reply number) ≡ of_ports s (reply s.records s.clients s.ports t number)
  reply-done client number some = rw some refl

  pub serve-done : (p client number : ℕ) → IsThere s.ports p → first_client s.clients t ≡ Some client
      → effect_of s t (action.Serve p number) ≡ at_port s t p (serve s.records s.clients s.ports t p number)
  serve-done p client number there some = rw (number-there s.ports p there, some) refl

  -- a port that is there, but no client
  pub serve-refused : (p number : ℕ) → IsThere s.ports p → first_client s.clients t ≡ None
      → effect_of s t (action.Serve p number) ≡ record { state = s; outcome = Refused NothingToReply; after = GoesOn }
  serve-refused p number there none = rw (number-there s.ports p there, none) refl

  pub lock-done : (m : ℕ) → trap_refusal s t (action.Lock m) ≡ None
      → effect_of s t (action.Lock m) ≡ of_mutexes s (lock s.records (before_lock s t m) t m)
  lock-done m none = rw none refl

  -- a mutex that is there
  mutex-there : (m : ℕ) → IsThere s.mutexes m → m ≤ s.limits.mutexes → is_no_mutex s m ≡ false
  mutex-there m there low = rw (number-there s.mutexes m there, le-ltb s.limits.mutexes m low) refl

  pub unlock-done : (m d : ℕ) → IsThere s.mutexes m → m ≤ s.limits.mutexes → (mutex_at s.mutexes m).owner ≡ Some t
      → effect_of s t (action.Unlock m d) ≡ of_mutexes s (unlock s.records s.mutexes (value_of s) m d)
  unlock-done m d there low owned = rw (mutex-there m there low, owned, eq-eqb t t refl) refl

  -- nothing is refused only if the mutex is there
  pub lock-there : (m : ℕ) → trap_refusal s t (action.Lock m) ≡ None → IsThere s.mutexes m × (m ≤ s.limits.mutexes)
  lock-there m none = at (is_none (at_number s.mutexes m)) (nat_lt s.limits.mutexes m) refl refl none
    where
      at : (a b : Bool) → is_none (at_number s.mutexes m) ≡ a → nat_lt s.limits.mutexes m ≡ b
          → (if a || b then Some NoMutex else first_failing ((owns s t m, AlreadyOwner)
          ∷ (option_any (λ owner. lends_on_to (without_servers s) owner t) (mutex_at s.mutexes m).owner, LockCycle)
          ∷ [])) ≡ None
          → IsThere s.mutexes m × (m ≤ s.limits.mutexes)
      at true b is high e = cc
      at false true is high e = cc
      at false false is low e = (number-within s.mutexes m is, omega (arith, ltb-false s.limits.mutexes m low))

  -- nor does the thread own it then
  pub lock-unowned : (m : ℕ) → trap_refusal s t (action.Lock m) ≡ None → (mutex_at s.mutexes m).owner ≢ Some t
  lock-unowned m none owned =
      let there = lock-there m none in
      let again : trap_refusal s t (action.Lock m) ≡ Some AlreadyOwner =
      rw (mutex-there m there.0 there.1, owned, eq-eqb t t refl) refl in
      let never : None ≡ Some AlreadyOwner = sym none ∙ again in cc

  -- an owned mutex is refused if its owner's lends lead on to the thread and pass no port
  pub lock-checked : (m owner : ℕ) (cycle : Bool) → IsThere s.mutexes m → m ≤ s.limits.mutexes
      → (mutex_at s.mutexes m).owner ≡ Some owner → (owner ≡ t → ⊥) → lends_on_to (without_servers s) owner t ≡ cycle
      → trap_refusal s t (action.Lock m) ≡ (if cycle then Some LockCycle else None)
  lock-checked m owner cycle there low owned other is =
      rw (mutex-there m there low, owned, ne_eqb owner t other, is) refl

-- ---- what traps leave in the tables

-- a change of a record leaves how many there are
pub change-count : (change : Record → Record) (records : List Record) (t : ℕ)
    → length (change_record change records t) ≡ length records
change-count change records t = by (at_number records t) refl
  where
    by : (o : Option Record) → at_number records t ≡ o → length (change_record change records t) ≡ length records
    by None is = rw is refl
    by (Some r) is = rw is (length-set records (t - 1) (change r))

-- the trap leaves how many records, clients and ports there are
pub record Keeps (rs : List Record) (cs : List (List ℕ)) (ps : List Port) (trap : PortTrap) : Type 0 where
  pub records : length trap.records ≡ length rs
  pub clients : length trap.clients ≡ length cs
  pub ports : length trap.ports ≡ length ps

module _ (rs : List Record) (cs : List (List ℕ)) (ports : List Port) (t : ℕ) where
  pub call-keeps : (p number : ℕ) → Keeps rs cs ports (call rs cs ports t p number)
  call-keeps p number = by (port_at ports p).receivers refl
    where
      by : (o : List ℕ) → (port_at ports p).receivers ≡ o → Keeps rs cs ports (call rs cs ports t p number)
      by [] is = rw is (record { records = refl; clients = refl; ports = length-set ports (p - 1) _ })
      by (server ∷ others) is = rw is
          (record { records = change-count _ rs server; clients = length-set cs (server - 1) _; ports = length-set ports (p - 1) _ })

  pub receive-keeps : (p : ℕ) → Keeps rs cs ports (receive rs cs ports t p)
  receive-keeps p = by (port_at ports p).calls refl
    where
      by : (o : List QueuedCall) → (port_at ports p).calls ≡ o → Keeps rs cs ports (receive rs cs ports t p)
      by [] is = rw is (record { records = refl; clients = refl; ports = length-set ports (p - 1) _ })
      by (first ∷ others) is = rw is
          (record { records = change-count _ rs first.caller; clients = length-set cs (t - 1) _; ports = length-set ports (p - 1) _ })

  pub reply-keeps : (number : ℕ) → Keeps rs cs ports (reply rs cs ports t number)
  reply-keeps number = record { records = change-count _ rs (unwrap_or (first_client cs t) 0); clients = length-set cs (t - 1) _; ports = refl }

-- a reply, and then a receipt
pub serve-keeps : (rs : List Record) (cs : List (List ℕ)) (ports : List Port) (t p number : ℕ)
    → Keeps rs cs ports (serve rs cs ports t p number)
serve-keeps rs cs ports t p number =
    let first = reply rs cs ports t number in
    let one = reply-keeps rs cs ports t number in
    let two = receive-keeps first.records first.clients first.ports t p in
    record { records = two.records ∙ one.records; clients = two.clients ∙ one.clients; ports = two.ports ∙ one.ports }

-- locks and unlocks leave how many records there are
pub lock-count : (records : List Record) (mutexes : List Mutex) (t m : ℕ)
    → length (lock records mutexes t m).records ≡ length records
lock-count records mutexes t m = by (mutex_at mutexes m).owner refl
  where
    by : (o : Option ℕ) → (mutex_at mutexes m).owner ≡ o → length (lock records mutexes t m).records ≡ length records
    by None is = rw is refl
    by (Some owner) is = rw is refl

pub unlock-count : (records : List Record) (mutexes : List Mutex) (value : ℕ → ℕ) (m d : ℕ)
    → length (unlock records mutexes value m d).records ≡ length records
unlock-count records mutexes value m d = by (mutex_at mutexes m).waiters refl
  where
    by : (o : List ℕ) → (mutex_at mutexes m).waiters ≡ o
        → length (unlock records mutexes value m d).records ≡ length records
    by [] is = rw is refl
    by (w ∷ ws) is = rw is (change-count _ records _)

module _ (sizes : Sizes) (freed : Freed) (names : List (Option (List ℕ))) (v new : Threaded) (q left : QueueLists)
    (was : IsHeld sizes freed names v q) where
  pub ports-held : (trap : PortTrap) → new ≡ with_records v trap.records new.stale → left ≡ with_ports q trap
      → IsHeld sizes freed names new left
  ports-held trap is left_is = subst (λ (l : QueueLists). IsHeld sizes freed names new l) (sym left_is)
      (held-records sizes freed names v new q was trap.records is)

  pub ports-state : (trap : PortTrap) → new ≡ with_records v trap.records new.stale → left ≡ with_ports q trap
      → held sizes freed names new left ≡ (of_ports (held sizes freed names v q) trap).state
  ports-state trap is left_is =
      subst (λ n. held sizes freed names n left ≡ (of_ports (held sizes freed names v q) trap).state) (sym is)
      (ap (λ (l : QueueLists). held sizes freed names (with_records v trap.records new.stale) l) left_is)

  pub mutexes-state : (trap : MutexTrap) (meter : Meter)
      → new ≡ record (with_mutexes v trap new.stale) { meter = meter } → left ≡ record q { mutexes = trap.mutexes }
      → held sizes freed names new left ≡ (of_mutexes (held sizes freed names v q) trap).state
  mutexes-state trap meter is left_is =
      subst (λ n. held sizes freed names n left ≡ (of_mutexes (held sizes freed names v q) trap).state) (sym is) (ap
      (λ (l : QueueLists). held sizes freed names (record (with_mutexes v trap new.stale) { meter = meter }) l) left_is)

-- ---- locks and unlocks

-- an unlock by what waiters are worth is one by what they are worth in the state
pub unlock-same : (sizes : Sizes) (freed : Freed) (names : List (Option (List ℕ))) (v : Threaded) (q : QueueLists)
    → IsHeld sizes freed names v q → (m d : ℕ) → unlock v.records q.mutexes (worth_in v) m d
    ≡ unlock v.records q.mutexes (value_of (held sizes freed names v q)) m d
unlock-same sizes freed names v q was m d = ap (λ (w : Threaded). unlock v.records q.mutexes (worth_in w) m d) was

-- whether a thread's lends lead to another is whether it reaches it
module _ (f : Funding) (no_cycle : HasNoCycle f) (t u : ℕ) where
  pub reaches-lead : (found : Bool) → (IsTrue found ↔ Reaches f (node.Thread t) (node.Thread u))
      → found ≡ lends_lead f t u
  reaches-lead true is = sym ((lends_lead-exact f no_cycle.lends t u).1 ((reaches-leads f t u).0 (is.0 refl)))
  reaches-lead false is = by (lends_lead f t u) refl
    where
      by : (b : Bool) → lends_lead f t u ≡ b → false ≡ b
      by true on = let never : false ≡ true =
          is.1 ((reaches-leads f t u).1 ((lends_lead-exact f no_cycle.lends t u).0 on)) in cc
      by false off = refl

  module _ (other : t ≢ u) where
    on-from : LendsLead f t u → lends_on_to f t u ≡ true
    on-from ([], same) = absurd (other same)
    on-from (s ∷ rest, (lends, leads)) = ap (option_any (λ v. lends_lead f v u)) lends
        ∙ (lends_lead-exact f no_cycle.lends s u).1 (rest, leads)

    on-to : (o : Option ℕ) → borrower_of f t ≡ o → option_any (λ v. lends_lead f v u) o ≡ true → LendsLead f t u
    on-to None is e = cc
    on-to (Some s) is e = let (chain, leads) = (lends_lead-exact f no_cycle.lends s u).0 e in (s ∷ chain, (is, leads))

    -- those of another thread lead on to it
    pub lead-on : lends_lead f t u ≡ lends_on_to f t u
    lead-on = by (lends_lead f t u) (lends_on_to f t u) refl refl
      where
        by : (a b : Bool) → lends_lead f t u ≡ a → lends_on_to f t u ≡ b → a ≡ b
        by true b on is = sym (on-from ((lends_lead-exact f no_cycle.lends t u).0 on)) ∙ is
        by false true off is = sym off ∙ (lends_lead-exact f no_cycle.lends t u).1 (on-to (borrower_of f t) refl is)
        by false false off is = refl

    -- who isn't there lends to nobody
    pub lead-nobody : at_number f.lends t ≡ None → lends_lead f t u ≡ false
    lead-nobody none = lead-on
        ∙ ap (λ (o : Option Lend). option_any (λ v. lends_lead f v u) (option_and_then (borrower f) o)) none
