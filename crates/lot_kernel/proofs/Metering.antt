-- The counts, through the parts of an event.
use Rattle.lot_kernel.proofs.Common.{Action, Call, Contains, CountsNothing, CountsTrap, Drawn, Exit, HasNoneTwice, KeepsStale, List, Lock, Mutex, Option, Outcome, Receive, Record, Reply, Serve, Sleep, Snapshot, Some, Unlock, Yield, map, mutex_at, option_map, refl, settled_meter, slice_index, some-injective, subst, sym, unlock, unwrap_or, winner, ℕ, [], ◌∙◌, ◌∷◌, ◌≡◌, ◌≢◌}
use Rattle.lot_machine.specs.declared.funding.Node.TheVariants.{Thread}
use Rattle.lot_machine.specs.declared.reply.Outcome.TheVariants as outcome

-- two parts count nothing
nothing-twice : (old mid new : Snapshot) → CountsNothing old mid → KeepsStale mid new → new.meter ≡ mid.meter
    → CountsNothing old new
nothing-twice old mid new first kept meter =
    record { kept = λ x is. kept x (first.kept x is); meter = meter ∙ first.meter }

module _ (old mid new : Snapshot) (kept : KeepsStale mid new) (meter : new.meter ≡ mid.meter) where
  -- what follows a trap counts nothing
  pub trap-then : (action : Action) (o : Outcome) → CountsTrap action o old mid → CountsTrap action o old new
  trap-then (Unlock m d) (outcome.Passed to draw) first = record {
    once = first.once;
    meter = meter ∙ first.meter;
    owner = λ owner owns. kept (Thread owner) (first.owner owner owns);
    next = kept (Thread to) first.next;
  }
  trap-then action o first = nothing-twice old mid new first kept meter

somebody : (waiters : List ℕ) (w : ℕ) (ws : List ℕ) → waiters ≡ w ∷ ws → waiters ≢ []
somebody waiters w ws some none = let no = sym some ∙ none in cc

-- an unlock that passes its mutex on counts what it settles, and one that frees it nothing
pub unlock-counts : (records : List Record) (mutexes : List Mutex) (value : ℕ → ℕ) (m d : ℕ) (old new : Snapshot)
    (o : Outcome) → o ≡ (unlock records mutexes value m d).outcome
    → ((mutex_at mutexes m).waiters ≡ [] → KeepsStale old new)
    → ((mutex_at mutexes m).waiters ≡ [] → new.meter ≡ old.meter)
    → ((mutex_at mutexes m).waiters ≢ [] → new.meter ≡ settled_meter old)
    → ((mutex_at mutexes m).waiters ≢ [] → HasNoneTwice old.stale)
    → (owner : ℕ) → (mutex_at old.state.mutexes m).owner ≡ Some owner → ((to : ℕ) (draw : Option (ℕ × ℕ))
    → o ≡ outcome.Passed to draw → Contains new.stale (Thread owner) × Contains new.stale (Thread to))
    → CountsTrap (Unlock m d) o old new
unlock-counts records mutexes value m d old new o is kept uncounted counted once owner owns stale =
    by (mutex_at mutexes m).waiters refl
  where
    by : (waiters : List ℕ) → (mutex_at mutexes m).waiters ≡ waiters → CountsTrap (Unlock m d) o old new
    by [] none =
        let freed : o ≡ outcome.Freed = rw none at is in
        subst (λ x. CountsTrap (Unlock m d) x old new) (sym freed) (record { kept = kept none; meter = uncounted none })
    by (w ∷ ws) some =
        let drawn : Option Drawn = winner (map value (w ∷ ws)) d in
        let place = unwrap_or (option_map (λ (x : Drawn). x.place) drawn) 0 in
        let to = slice_index (w ∷ ws) place in
        let numbers = option_map (λ (x : Drawn). (x.number, x.total)) drawn in
        let passed : o ≡ outcome.Passed to numbers = rw some at is in
        let both = stale to numbers passed in
        let waits = somebody (mutex_at mutexes m).waiters w ws some in
        subst (λ x. CountsTrap (Unlock m d) x old new) (sym passed)
        (record { once = once waits; meter = counted waits; owner = λ other owns'. subst (λ t. Contains new.stale (Thread t)) (some-injective owner other (sym owns ∙ owns')) both.0; next = both.1 })
