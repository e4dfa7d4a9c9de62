use Rattle.lot_kernel.proofs.Lemmas.{HasNoCycle, MakesStale, None, Outcome, Snapshot, Threaded, ap, freed_in, funding_in, held, held_by, served-back, served-kept, served_at, set_number, sizes_of, snapshot_of, subst, sym, ◌+◌, ◌∙◌}
use Rattle.lot_machine.specs.declared.reply.Outcome.TheVariants as outcomes
use Rattle.lot_kernel.proofs.tables.Tables.move_server.Goals as goal

pub does_lead-requires-clause-no_cycle : goal.does_lead-requires-clause-no_cycle
does_lead-requires-clause-no_cycle c =
    let untied = rw (← c.self.view_is) at (c.requires.no_cycle c.in-Queued.is) in
    subst HasNoCycle (sym (ap funding_in c.self.invariant.threads)) untied

pub returns-then-does_lead-clause-state : goal.returns-then-does_lead-clause-state
returns-then-does_lead-clause-state c =
    let i = c.self.inside in
    let t = c.args.thread.number in
    let port = c.args.port.number in
    let on = rw (← c.self.view_is) at c.requires.lends in
    c.set_server-then-does_lead.ensures.state
    ∙ ap (λ (w : Threaded). record (held (sizes_of i.limits) (freed_in i.freed) i.currencies.items w
    i.queues) { mutexes = set_number i.queues.mutexes (i.limits.mutexes + port) (held_by None) })
    c.does_lead.ensures.unchanged
    ∙ served-back (sizes_of i.limits)
    (freed_in i.freed) i.currencies.items i.threads i.queues c.self.invariant.threads t port c.does_lead.result
    c.owner-server.result c.owner-server.ensures c.does_lead.ensures.leads on c.if-does_lead.true
    ∙ ap (λ (x : Snapshot). record x.state { mutexes = served_at x.state t port outcomes.Queued }) c.self.view_is
    ∙ ap (λ (o : Outcome). record c.args.self.now.state { mutexes = served_at c.args.self.now.state t port o })
    (sym c.in-Queued.is)

pub returns-then-does_lead-clause-stale : goal.returns-then-does_lead-clause-stale
returns-then-does_lead-clause-stale c =
    let i = c.self.inside in
    let seen = ap (snapshot_of (sizes_of i.limits) (freed_in i.freed) i.currencies.items i.queues)
    c.does_lead.ensures.unchanged ∙ c.self.view_is in
    subst
    (λ (x : Snapshot). MakesStale x c.set_server-then-does_lead.new.self) seen c.set_server-then-does_lead.ensures.stale

pub returns-else-does_lead-clause-state : goal.returns-else-does_lead-clause-state
returns-else-does_lead-clause-state c =
    let i = c.self.inside in
    let t = c.args.thread.number in
    let port = c.args.port.number in
    ap (λ (w : Threaded). held (sizes_of i.limits) (freed_in i.freed) i.currencies.items w i.queues)
    c.does_lead.ensures.unchanged
    ∙ served-kept (sizes_of i.limits)
    (freed_in i.freed) i.currencies.items i.threads i.queues c.self.invariant.threads t port c.does_lead.result
    c.owner-server.result c.owner-server.ensures c.does_lead.ensures.leads c.if-does_lead.false
    ∙ ap (λ (x : Snapshot). record x.state { mutexes = served_at x.state t port outcomes.Queued }) c.self.view_is
    ∙ ap (λ (o : Outcome). record c.args.self.now.state { mutexes = served_at c.args.self.now.state t port o })
    (sym c.in-Queued.is)
