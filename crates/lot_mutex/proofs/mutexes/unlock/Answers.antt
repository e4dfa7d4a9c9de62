use Rattle.lot_mutex.proofs.Lemmas.{Drawn, Freed, IfSome, IsLiveIn, IsMutexTrap, IsStaleIn, Listed, MakesStaleIn, Meter, Passed, Some, Thread, Threaded, ap, length, map, mutex_at, next-owner, owners-after, pass-threads, passing, place-below, place_of, refl, remove, rules, set_number, settled-makes, slice_get, slice_get-get_or, slice_index, status_of, subst, sym, unlock, unlock-passes, winner, worth_in, [], ◌<◌, ◌∙◌, ◌≡◌, ◌≢◌}
use Rattle.lot_mutex.proofs.mutexes.unlock.Goals as goal
use Rattle.lot_mutex.proofs.mutexes.unlock.Goals.{After-picked-next}

-- the lottery has the mutex's waiters
listed : (c : After-picked-next)
    → c.list.new.self.waiters ≡ (mutex_at c.args.queues.now.mutexes c.args.mutex.number).waiters
listed c = ap (λ (l : Listed). l.waiters) c.list.ensures

-- somebody waits
some : (c : After-picked-next) → (mutex_at c.args.queues.now.mutexes c.args.mutex.number).waiters ≢ []
some c none = let empty = c.if-is_empty.ensures.1 (listed c ∙ none) in cc

-- the mutex passes to who was drawn
step : (c : After-picked-next)
    → unlock c.args.threads.now.records c.args.queues.now.mutexes (worth_in c.args.threads.now) c.args.mutex.number
    c.args.d ≡ passing c.args.threads.now.records c.args.queues.now.mutexes c.args.mutex.number
    (mutex_at c.args.queues.now.mutexes c.args.mutex.number).waiters c.hold-drawn.result
step c =
    let v = c.args.threads.now in
    let ws = (mutex_at c.args.queues.now.mutexes c.args.mutex.number).waiters in
    let drawn : c.hold-drawn.result ≡ winner (map (worth_in v) ws) c.args.d =
    c.hold-drawn.ensures.drawn ∙ ap (λ (x : Threaded). winner (map (worth_in x) c.list.new.self.waiters) c.args.d)
    c.settle.ensures.settled ∙ ap (λ xs. winner (map (worth_in v) xs) c.args.d) (listed c) in
    unlock-passes v.records c.args.queues.now.mutexes (worth_in v) c.args.mutex.number c.args.d ws refl
    (some c) c.hold-drawn.result drawn

-- who is picked is the waiter at that place
next : (c : After-picked-next) → c.picked-next.result
    ≡ slice_index (mutex_at c.args.queues.now.mutexes c.args.mutex.number).waiters (place_of c.hold-drawn.result)
next c =
    let place = place_of c.hold-drawn.result in
    c.picked-next.ensures ∙ ap (λ (l : Listed). slice_index l.waiters place) c.hold-drawn.ensures.same
    ∙ ap (λ xs. slice_index xs place) (listed c)

-- and waits there
next-at : (c : After-picked-next) → slice_get (mutex_at c.args.queues.now.mutexes c.args.mutex.number).waiters
    (place_of c.hold-drawn.result) ≡ Some c.picked-next.result
next-at c =
    let ws = (mutex_at c.args.queues.now.mutexes c.args.mutex.number).waiters in
    let below = place-below ws c.hold-drawn.result (some c) (subst
    (λ xs. IfSome c.hold-drawn.result (λ (w : Drawn). w.place < length xs)) (listed c) c.hold-drawn.ensures.within) in
    slice_get-get_or ws (place_of c.hold-drawn.result) 0 below ∙ ap Some (sym (next c))

pub returns-then-is_empty-clause-trap : goal.returns-then-is_empty-clause-trap
returns-then-is_empty-clause-trap c =
    let frees = c.free.ensures.frees (worth_in c.args.threads.now) c.args.d in
    subst
    (λ (v : Threaded). IsMutexTrap v c.args.queues.now (unlock c.args.threads.now.records c.args.queues.now.mutexes
    (worth_in c.args.threads.now) c.args.mutex.number c.args.d) c.free.result c.free.new.threads c.free.new.queues)
    (ap (λ (counts : Meter). record c.args.threads.now { meter = counts })
    (sym (ap (λ (x : Threaded). x.meter) frees.threads))) frees

pub returns-then-is_empty-clause-settles : goal.returns-then-is_empty-clause-settles
returns-then-is_empty-clause-settles c =
    let none : (mutex_at c.args.queues.now.mutexes c.args.mutex.number).waiters ≡ [] = search rules in
    record {
      kept = λ nobody. c.free.ensures.kept;
      uncounted = λ nobody.
          ap (λ (x : Threaded). x.meter) (c.free.ensures.frees (worth_in c.args.threads.now) c.args.d).threads;
      counted = λ some. absurd (some none);
      once = λ some. absurd (some none);
    }

pub returns-clause-trap : goal.returns-clause-trap
returns-clause-trap c =
    let done = (goal.at.returns-clause-trap c).After-picked-next in
    let v = c.args.threads.now in
    let mutexes = c.args.queues.now.mutexes in
    let ws = (mutex_at mutexes c.args.mutex.number).waiters in
    let place = place_of c.hold-drawn.result in
    let after = owners-after mutexes v.owners c.args.mutex.number
    (record { owner = Some (slice_index ws place); waiters = remove ws place }) c.requires.owners in
    rw (step done) (record {
      outcome = ap (λ t. Passed t c.drawn_numbers.result) (next done)
          ∙ ap (Passed (slice_index ws place)) c.drawn_numbers.ensures;
      after = refl;
      threads = pass-threads v c.settle.new.self c.pass.new.threads c.picked-next.result (slice_index ws place)
          c.args.mutex.number _ c.settle.ensures.settled (next done) after c.pass.ensures.threads;
      queues = c.pass.ensures.queues place (next-at done)
          ∙ ap (λ t. record c.args.queues.now { mutexes = set_number mutexes c.args.mutex.number (record { owner = Some t; waiters = remove ws place }) }) (next done);
    })

pub returns-clause-settles : goal.returns-clause-settles
returns-clause-settles c =
    let waits = some (goal.at.returns-clause-settles c).After-picked-next in
    record {
      kept = λ none. absurd (waits none);
      uncounted = λ none. absurd (waits none);
      counted = λ somebody. ap (λ (x : Threaded). x.meter) c.pass.ensures.threads
          ∙ ap (λ (x : Threaded). x.meter) c.settle.ensures.settled;
      once = λ somebody. c.settle.ensures.once;
    }

pub returns-clause-stale : goal.returns-clause-stale
returns-clause-stale c = settled-makes c.args.threads.now c.pass.new.threads
    (subst (λ (x : Threaded). MakesStaleIn x c.pass.new.threads) c.settle.ensures.settled c.pass.ensures.stale)

pub returns-then-is_empty-clause-owners : goal.returns-then-is_empty-clause-owners
returns-then-is_empty-clause-owners c next draw passed = let never : Freed ≡ Passed next draw = sym c.free.ensures.freed
    ∙ passed in cc

pub returns-clause-owners : goal.returns-clause-owners
returns-clause-owners c next draw passed =
    (c.pass.ensures.owners.0, subst (λ t. IsStaleIn c.pass.new.threads (Thread t)) (ap next-owner passed) c.pass.ensures.owners.1)

pub pass-requires-clause-live : goal.pass-requires-clause-live
pass-requires-clause-live c =
    subst (λ (x : Threaded). IsLiveIn x c.args.owner.number) (sym c.settle.ensures.settled) c.requires.live

pub pass-requires-clause-same : goal.pass-requires-clause-same
pass-requires-clause-same c = ap (λ (x : Threaded). length x.records) c.settle.ensures.settled ∙ c.requires.same

pub pass-requires-clause-owners : goal.pass-requires-clause-owners
pass-requires-clause-owners c = c.requires.owners ∙ sym (ap (λ (x : Threaded). x.owners) c.settle.ensures.settled)

pub pass-requires-clause-waits : goal.pass-requires-clause-waits
pass-requires-clause-waits c =
    ap (λ (x : Threaded). status_of x.records c.picked-next.result) c.settle.ensures.settled
    ∙ c.requires.waiters.each (place_of c.hold-drawn.result) c.picked-next.result
    (next-at (goal.at.pass-requires-clause-waits c).After-picked-next)
