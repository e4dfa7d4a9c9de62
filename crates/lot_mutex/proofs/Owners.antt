-- The owner of each mutex, in the queues and in the threads.
use Rattle.lot_mutex.proofs.Common.{Drawn, IfSome, IsThere, IsTrue, Leaves, List, Mutex, MutexTrap, None, Option, Passed, Record, Some, Threaded, ap, arith, at_number, at_number-map, at_number-suc, change_record, is_some, length, length-map, lock, map, map-set, mutex_at, number-kept, number-some, option_flatten, option_map, owners_of, refl, remove, set_number, slice_get, slice_get-get_or, slice_index, some-injective, suc, sym, unlock, unwrap_or, winner, with_mutexes, ℕ, [], ◌++◌, ◌-◌, ◌<◌, ◌∙◌, ◌∷◌, ◌≡◌, ◌≢◌, ◌≤◌}
use Rattle.lot_machine.specs.declared.record.Status.TheVariants as status

-- a mutex's owner is the one with its number
pub owner-at : (mutexes : List Mutex) (m : ℕ) → IsThere mutexes m
    → at_number (owners_of mutexes) m ≡ Some (mutex_at mutexes m).owner
owner-at mutexes m there =
    let (mutex, is) = number-some mutexes m there.0 there.1 in
    at_number-map (λ (x : Mutex). x.owner) mutexes m ∙ ap (option_map (λ (x : Mutex). x.owner)) is
    ∙ ap (λ (o : Option Mutex). Some (unwrap_or {T = Mutex} o (record { owner = None; waiters = [] })).owner) (sym is)

-- a mutex that is there has a place among the owners
pub owned-there : (mutexes : List Mutex) (owners : List (Option ℕ)) (m : ℕ) → IsThere mutexes m
    → owners_of mutexes ≡ owners → (0 < m) × (m ≤ length owners)
owned-there mutexes owners m there same =
    (there.0, omega (arith, there.1, ap (λ (os : List (Option ℕ)). length os) same, length-map mutexes (λ (x : Mutex). x.owner)))

-- one without an owner is free
pub free-owner : (mutexes : List Mutex) (m : ℕ) (owner : Option ℕ) → owner ≡ (mutex_at mutexes m).owner
    → ¬ IsTrue (is_some owner) → (mutex_at mutexes m).owner ≡ None
free-owner mutexes m None is none = sym is
free-owner mutexes m (Some t) is none = absurd (none refl)

-- after a change of one mutex its owner alone changes
pub owners-after : (mutexes : List Mutex) (owners : List (Option ℕ)) (m : ℕ) (mutex : Mutex)
    → owners_of mutexes ≡ owners → set_number owners m mutex.owner ≡ owners_of (set_number mutexes m mutex)
owners-after mutexes owners m mutex same = ap (λ xs. set_number xs m mutex.owner) (sym same)
    ∙ sym (map-set (λ (x : Mutex). x.owner) mutexes (m - 1) mutex)

-- and none changes if its owner stays
pub owners-kept : (mutexes : List Mutex) (owners : List (Option ℕ)) (m : ℕ) (mutex : Mutex) → IsThere mutexes m
    → owners_of mutexes ≡ owners → mutex.owner ≡ (mutex_at mutexes m).owner
    → owners ≡ owners_of (set_number mutexes m mutex)
owners-kept mutexes owners m mutex there same stays =
    sym (number-kept owners m mutex.owner (ap (λ xs. at_number xs m) (sym same) ∙ owner-at mutexes m there
    ∙ ap Some (sym stays))) ∙ owners-after mutexes owners m mutex same

-- ---- a lock

module _ (v : Threaded) (mutexes : List Mutex) (t m : ℕ) (there : IsThere mutexes m)
    (same : owners_of mutexes ≡ v.owners) where
  -- a thread that waits leaves the owners
  pub lock-waits : (owner : Option ℕ) → (mutex_at mutexes m).owner ≡ owner → IsTrue (is_some owner)
      → v ≡ with_mutexes v (lock v.records mutexes t m) v.stale
  lock-waits None is some = cc
  lock-waits (Some owner) is some =
      rw is (ap (λ xs. record v { owners = xs }) (owners-kept mutexes v.owners m
      (record { owner = Some owner; waiters = (mutex_at mutexes m).waiters ++ t ∷ [] }) there same (sym is)))

  -- a free mutex has a new owner
  pub lock-takes : (new : Threaded) → (mutex_at mutexes m).owner ≡ None
      → new ≡ record v { owners = set_number v.owners m (Some t); stale = new.stale }
      → new ≡ with_mutexes v (lock v.records mutexes t m) new.stale
  lock-takes new free taken =
      rw free (taken ∙ ap (λ xs. record v { owners = xs; stale = new.stale })
      (owners-after mutexes v.owners m (record { owner = Some t; waiters = (mutex_at mutexes m).waiters }) same))

-- ---- an unlock

-- the place of who was drawn, or the first
abbrev pub place_of : Option Drawn → ℕ
place_of drawn = unwrap_or (option_map (λ (w : Drawn). w.place) drawn) 0

-- the waiter at that place owns the mutex, is Ready and waits no more
abbrev pub passing : List Record → List Mutex → ℕ → List ℕ → Option Drawn → MutexTrap
passing records mutexes m waiters drawn = record {
  records =
      change_record (λ (r : Record). record r { status = status.Ready }) records (slice_index waiters (place_of drawn));
  mutexes = set_number mutexes m
      (record { owner = Some (slice_index waiters (place_of drawn)); waiters = remove waiters (place_of drawn) });
  outcome = Passed (slice_index waiters (place_of drawn)) (option_map (λ w. (w.number, w.total)) drawn);
  after = Leaves status.Ready;
}

-- with waiters the mutex passes to the one that the lottery picks
pub unlock-passes : (records : List Record) (mutexes : List Mutex) (value : ℕ → ℕ) (m d : ℕ) (waiters : List ℕ)
    → (mutex_at mutexes m).waiters ≡ waiters → waiters ≢ []
    → (drawn : Option Drawn) → drawn ≡ winner (map value waiters) d
    → unlock records mutexes value m d ≡ passing records mutexes m waiters drawn
unlock-passes records mutexes value m d [] is some drawn won = absurd (some refl)
unlock-passes records mutexes value m d (w ∷ ws) is some drawn won = rw (is, won) refl

-- the place of who is picked is one of the list
pub place-below : (waiters : List ℕ) (drawn : Option Drawn) → waiters ≢ []
    → IfSome drawn (λ w. w.place < length waiters) → place_of drawn < length waiters
place-below [] drawn some within = absurd (some refl)
place-below (w ∷ ws) None some within = omega arith
place-below (w ∷ ws) (Some drawn) some within = within

-- ---- the same owners, one by one

-- lists of one length that agree at each place are the same
same-lists : {A : Type 0} (xs ys : List A) → length xs ≡ length ys
    → ((i : ℕ) → i < length xs → slice_get xs i ≡ slice_get ys i) → xs ≡ ys
same-lists [] [] count each = refl
same-lists [] (y ∷ ys) count each = absurd (omega (arith, count))
same-lists (x ∷ xs) [] count each = absurd (omega (arith, count))
same-lists (x ∷ xs) (y ∷ ys) count each =
    ap (λ z. z ∷ xs) (some-injective x y (each 0 (omega arith)))
    ∙ ap (λ zs. y ∷ zs) (same-lists xs ys (omega (arith, count)) (λ i low. each (suc i) (omega (arith, low))))

pub owners-same : (mutexes : List Mutex) (owners : List (Option ℕ)) (n : ℕ) → n ≡ length mutexes → length owners ≡ n
    → ((k : ℕ) → k < n → option_flatten (at_number owners (suc k)) ≡ (mutex_at mutexes (suc k)).owner)
    → owners_of mutexes ≡ owners
owners-same mutexes owners n all count each =
    same-lists (owners_of mutexes) owners (omega (arith, length-map mutexes (λ (m : Mutex). m.owner), all, count)) at
  where
    flat : (o : Option ℕ) (i : ℕ) → i < length owners → option_flatten (at_number owners (suc i)) ≡ o
        → slice_get owners i ≡ Some o
    flat o i low is =
        let there = slice_get-get_or owners i None low in
        there ∙ ap Some (sym (ap option_flatten (at_number-suc owners i ∙ there)) ∙ is)

    at : (i : ℕ) → i < length (owners_of mutexes) → slice_get (owners_of mutexes) i ≡ slice_get owners i
    at i low =
        let within : i < n = omega (arith, low, length-map mutexes (λ (m : Mutex). m.owner), all) in
        sym (at_number-suc (owners_of mutexes) i) ∙ owner-at mutexes (suc i) (omega arith, omega (arith, within, all))
        ∙ sym (flat (mutex_at mutexes (suc i)).owner i (omega (arith, within, count)) (each i within))
