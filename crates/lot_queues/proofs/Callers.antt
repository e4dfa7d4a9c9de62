-- The facts that a caller of `Queues` needs: lemmas over variables.
use Rattle.lot_queues.proofs.Common.{Contains, HasQueues, IsNowhere, IsQueue, IsThere, IsTrue, IsWaiter, List, Mutex, None, Option, Port, QueueLists, Queued, QueuedCall, Receiving, Record, Running, Served, Some, Status, Waiting, ap, arith, at_number, at_number-suc, drop, false, get_or, get_or-set_same, get_or_from_slice_get, is_dead, is_live_status, length, map, mutex_at, refl, set, set_number, slice_get, slice_get_read, slice_get_within, some-injective, status_of, suc, sym, true, unwrap_or, unwrap_or-slice_get, with_owner, with_waiters, zero, ℕ, [], ◌-◌, ◌||◌, ◌∙◌, ◌∷◌, ◌≡◌}
use Rattle.lot_queues.proofs.Elements.{contains-nothing}

-- ---- the first of a list

pub first-none : {A : Type 0} (xs : List A) → slice_get xs 0 ≡ None → xs ≡ []
first-none [] e = refl
first-none (x ∷ xs) e = cc

pub first-some : {A : Type 0} (xs : List A) (x : A) → slice_get xs 0 ≡ Some x → xs ≡ x ∷ drop 1 xs
first-some [] x e = cc
first-some (y ∷ xs) x e = ap (λ z. z ∷ xs) (some-injective y x e)

-- ---- elements with numbers

-- what was set there stands there
pub number-set : {A : Type 0} (xs : List A) (n : ℕ) (x d : A) → IsThere xs n
    → unwrap_or (at_number (set_number xs n x) n) d ≡ x
number-set xs zero x d there = absurd (omega (arith, there.0))
number-set xs (suc i) x d there =
    let place : suc i - 1 ≡ i = omega arith in
    ap (λ o. unwrap_or o d) (at_number-suc (set_number xs (suc i) x) i)
    ∙ unwrap_or-slice_get (set_number xs (suc i) x) i d
    ∙ ap (λ k. get_or (set xs k x) i d) place ∙ get_or-set_same xs i x d (omega (arith, there.1))

-- only what is set last stays
pub number-again : {A : Type 0} (xs : List A) (n : ℕ) (x y : A) → set_number (set_number xs n x) n y ≡ set_number xs n y
number-again xs n x y = again xs (n - 1)
  where
    again : (ys : List _) (i : ℕ) → set (set ys i x) i y ≡ set ys i y
    again [] i = refl
    again (z ∷ ys) zero = refl
    again (z ∷ ys) (suc i) = ap (λ zs. z ∷ zs) (again ys i)

-- a mutex that is passed on: one waiter less, and then another owner
pub mutex-passed : (mutexes : List Mutex) (m : ℕ) (waiters : List ℕ) (owner : Option ℕ) → IsThere mutexes m → with_owner
    (with_waiters mutexes m waiters) m owner ≡ set_number mutexes m (record { owner = owner; waiters = waiters })
mutex-passed mutexes m waiters owner there =
    let less : Mutex = record { owner = (mutex_at mutexes m).owner; waiters = waiters } in
    ap (λ (x : Mutex). set_number (set_number mutexes m less) m (record { owner = owner; waiters = x.waiters }))
    (number-set mutexes m less (record { owner = None; waiters = [] }) there)
    ∙ number-again mutexes m less (record { owner = owner; waiters = waiters })

pub waiter-at : (mutexes : List Mutex) (m place t : ℕ) → slice_get (mutex_at mutexes m).waiters place ≡ Some t
    → IsWaiter mutexes t
waiter-at mutexes m place t at = record {
  mutex = m;
  waits = (place, slice_get_within (mutex_at mutexes m).waiters place t at, get_or_from_slice_get (mutex_at mutexes m).waiters place t t at);
}

-- ---- who stands nowhere

-- a queue has only threads with its status
in-queue : (records : List Record) (status now : Status) (threads : List ℕ) (t : ℕ) → IsQueue records status threads
    → status_of records t ≡ Some now → ¬ (now ≡ status) → ¬ Contains threads t
in-queue records status now threads t queue is other w =
    other (some-injective now status
    (sym is ∙ queue.each w.0 t (slice_get_read threads (length threads) w.0 t refl w.1 (sym w.2))))

pub nowhere-else : (records : List Record) (q : QueueLists) (t : ℕ) (status : Status)
    → HasQueues records q.clients q.ports q.mutexes → status_of records t ≡ Some status
    → IsTrue (is_live_status status || is_dead status) → IsNowhere q t
nowhere-else records q t status queues is apart = record {
  calls = λ p w. call p (at_number q.ports p) refl w;
  receivers = λ p w. receiver p (at_number q.ports p) refl w;
  waiters = λ m w. waiter m (at_number q.mutexes m) refl w;
  clients = λ server w. client server (at_number q.clients server) refl w;
}
  where
    others : (other : Status) → is_live_status other || is_dead other ≡ false → ¬ (status ≡ other)
    others other waits same = let e : true ≡ false = sym apart ∙ ap (λ s. is_live_status s || is_dead s) same ∙ waits in
        cc

    call : (p : ℕ) (o : Option Port) → at_number q.ports p ≡ o
        → Contains (map (λ (c : QueuedCall). c.caller) (unwrap_or o (record { calls = []; receivers = [] })).calls) t
        → ⊥
    call p None there w = contains-nothing t w
    call p (Some port) there w = in-queue records (Queued p) status (map (λ (c : QueuedCall). c.caller) port.calls) t
        (queues.callers p port there) is (others (Queued p) refl) w

    receiver : (p : ℕ) (o : Option Port) → at_number q.ports p ≡ o
        → Contains (unwrap_or o (record { calls = []; receivers = [] })).receivers t → ⊥
    receiver p None there w = contains-nothing t w
    receiver p (Some port) there w = in-queue records (Receiving p) status port.receivers t
        (queues.receivers p port there) is (others (Receiving p) refl) w

    waiter : (m : ℕ) (o : Option Mutex) → at_number q.mutexes m ≡ o
        → Contains (unwrap_or o (record { owner = None; waiters = [] })).waiters t → ⊥
    waiter m None there w = contains-nothing t w
    waiter m (Some mutex) there w = in-queue records (Waiting m) status mutex.waiters t
        (queues.waiters m mutex there) is (others (Waiting m) refl) w

    client : (server : ℕ) (o : Option (List ℕ)) → at_number q.clients server ≡ o → Contains (unwrap_or o []) t → ⊥
    client server None there w = contains-nothing t w
    client server (Some threads) there w = in-queue records (Served server) status threads t
        (queues.served server threads there) is (others (Served server) refl) w

-- a thread that runs
pub nowhere-running : (records : List Record) (q : QueueLists) (t p used : ℕ)
    → HasQueues records q.clients q.ports q.mutexes → status_of records t ≡ Some (Running p used) → IsNowhere q t
nowhere-running records q t p used queues is = nowhere-else records q t (Running p used) queues is refl
