use Rattle.lot_mutex.proofs.Lemmas.{List, Option, Record, Some, Threaded, ap, at_number, change_record, live-apart, live-other, live-same, live-status, live-there, mutex-passed, mutex_at, option_flatten, owned-there, owner-at, passed, passes-stale, refl, remove, status-now, status-other, status_of, sym, ℕ, ◌∙◌}
use Rattle.lot_machine.specs.declared.record.Status.TheVariants as status
use Rattle.lot_mutex.proofs.mutexes.pass.Goals as goal

-- the record of the thread that wakes
abbrev awake : Record → Record
awake r = record r { status = status.Ready }

pub apply-requires-clause-allowed : goal.apply-requires-clause-allowed
apply-requires-clause-allowed c =
    let v = c.args.threads.now in
    let mutexes = c.args.queues.now.mutexes in
    let set = c.set_status.ensures.set in
    let records = ap (λ (x : Threaded). x.records) set in
    let owners = c.requires.owners ∙ sym (ap (λ (x : Threaded). x.owners) set) in
    let other = live-other v c.args.owner c.args.next c.args.mutex c.requires.live c.requires.waits in
    let live = live-same v.records c.set_status.new.self.records c.args.owner (ap (λ (rs : List Record).
    status_of rs c.args.owner) records ∙ status-other awake v.records c.args.next c.args.owner other) c.requires.live in
    let woken =
    live-status c.set_status.new.self.records c.args.next status.Ready
    (ap (λ (rs : List Record). status_of rs c.args.next) records ∙ status-now awake v.records c.args.next
    (status.Waiting c.args.mutex) status.Ready c.requires.waits (λ r. refl)) refl in
    let owner = ap option_flatten (ap (λ (xs : List (Option ℕ)). at_number xs c.args.mutex) (sym owners)
    ∙ owner-at mutexes c.args.mutex c.requires.mutex ∙ ap Some c.requires.owner) in
    ((owned-there mutexes c.set_status.new.self.owners c.args.mutex c.requires.mutex owners, live-there c.set_status.new.self c.args.next woken, live-apart c.set_status.new.self c.args.next c.args.mutex woken), owner, other, live, woken)

pub returns-clause-threads : goal.returns-clause-threads
returns-clause-threads c =
    passed c.args.threads.now c.set_status.new.self c.apply.new.self c.args.mutex c.args.next
    (change_record awake c.args.threads.now.records c.args.next) c.set_status.ensures.set c.apply.ensures.applied

pub returns-clause-queues : goal.returns-clause-queues
returns-clause-queues c place at =
    let mutexes = c.args.queues.now.mutexes in
    rw (c.set_owner.ensures, c.take_waiter.ensures.taken c.args.mutex place at, mutex-passed mutexes c.args.mutex (remove (mutex_at mutexes c.args.mutex).waiters place) (Some c.args.next) c.requires.mutex)
    refl

pub returns-clause-kept : goal.returns-clause-kept
returns-clause-kept c node stale = c.apply.ensures.stale.kept node (c.set_status.ensures.kept node stale)

pub returns-clause-stale : goal.returns-clause-stale
returns-clause-stale c =
    passes-stale c.args.threads.now c.set_status.new.self c.apply.new.self c.args.mutex c.args.next (change_record awake
    c.args.threads.now.records c.args.next) c.set_status.ensures.set c.apply.ensures.applied c.set_status.ensures.stale
    c.apply.ensures.stale.reached

pub returns-clause-owners : goal.returns-clause-owners
returns-clause-owners c = c.apply.ensures.stale.owners
