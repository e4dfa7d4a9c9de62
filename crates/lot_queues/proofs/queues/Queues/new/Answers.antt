use Rattle.lot_queues.proofs.Lemmas.{None, ap, empty_lists, replicate, start, ◌∙◌, ◌≡◌}
use Rattle.lot_queues.proofs.queues.Queues.new.Goals as goal

pub invariant_of-result : goal.invariant_of-result
invariant_of-result c =
    let lists_are = c.in_ok-new.ensures.empty ∙ ap (λ count. empty_lists count c.args.threads) c.list_count.ensures in
    let sent_is : c.in_ok-filled.field-0.items ≡ replicate c.args.threads 0 = c.in_ok-filled.ensures in
    let owners_are : c.in_ok-filled-2.field-0.items ≡ replicate c.args.mutexes None = c.in_ok-filled-2.ensures in
    let made = start (record { room = c.args.threads; ports = c.args.ports; mutexes = c.args.mutexes })
    c.in_ok-new.field-0 c.in_ok-filled.field-0.items c.in_ok-filled-2.field-0.items lists_are
    c.in_ok-new.ensures.consistent sent_is owners_are in
    made.laid

pub returns : goal.returns
returns c =
    let lists_are = c.in_ok-new.ensures.empty ∙ ap (λ count. empty_lists count c.args.threads) c.list_count.ensures in
    let sent_is : c.in_ok-filled.field-0.items ≡ replicate c.args.threads 0 = c.in_ok-filled.ensures in
    let owners_are : c.in_ok-filled-2.field-0.items ≡ replicate c.args.mutexes None = c.in_ok-filled-2.ensures in
    let made = start (record { room = c.args.threads; ports = c.args.ports; mutexes = c.args.mutexes })
    c.in_ok-new.field-0 c.in_ok-filled.field-0.items c.in_ok-filled-2.field-0.items lists_are
    c.in_ok-new.ensures.consistent sent_is owners_are in
    made.is
