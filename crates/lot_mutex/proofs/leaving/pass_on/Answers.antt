use Rattle.lot_mutex.proofs.Lemmas.{List, Mutex, QueueLists, Some, ap, first-passed, sym, with_owner, ◌∙◌}
use Rattle.lot_mutex.proofs.leaving.pass_on.Goals as goal

pub returns-clause-queues : goal.returns-clause-queues
returns-clause-queues c =
    let q : QueueLists = c.args.queues.now in
    let first = sym c.in-Some.ensures.first in
    c.set_owner-2.ensures ∙ ap (λ (x : QueueLists). let next : QueueLists =
    record x { mutexes = with_owner x.mutexes c.args.mutex (Some c.in-Some.next) } in next)
    (c.take_waiter.ensures.taken c.args.mutex 0 first)
    ∙ ap (λ (ms : List Mutex). let next : QueueLists = record q { mutexes = ms } in next)
    (first-passed q.mutexes c.args.mutex c.in-Some.next c.requires.mutex first)
