use Rattle.lot_kernel.proofs.Lemmas.{Funding, HasNoCycle, Snapshot, Threaded, ap, arith, cycle-none, cycle-off, cycle-past, false, freed_in, funding_in, funding_of, lends_lead, not, running-there, sizes_of, snapshot_of, subst, sym, without_servers, ◌∙◌, ◌≡◌}
use Rattle.lot_kernel.proofs.tables.Tables.is_lock_cycle.Goals as goal

pub lends_lead-requires-clause-thread : goal.lends_lead-requires-clause-thread
lends_lead-requires-clause-thread c =
    running-there c.self.inside.threads.records c.args.thread.number (rw (← c.self.view_is) at c.requires.runs)

pub lends_lead-requires-clause-few : goal.lends_lead-requires-clause-few
lends_lead-requires-clause-few c =
    omega (arith, c.self.invariant.few, ap (λ (v : Threaded). v.thread_limit) c.self.invariant.threads)

pub lends_lead-requires-clause-no_cycle : goal.lends_lead-requires-clause-no_cycle
lends_lead-requires-clause-no_cycle c =
    let order = rw (← c.self.view_is) at c.requires.order in
    subst HasNoCycle (sym (ap funding_in c.self.invariant.threads)) order.no_cycle

pub returns-then-not-lends_lead : goal.returns-then-not-lends_lead
returns-then-not-lends_lead c =
    let now = c.args.self.now in
    let leads = c.lends_lead.ensures.leads ∙ ap (λ (f : Funding). lends_lead f c.args.owner.number c.args.thread.number)
    (ap funding_in c.self.invariant.threads ∙ ap (λ (x : Snapshot). funding_of x.state) c.self.view_is) in
    record {
      leads = cycle-none now.state c.requires.order.no_cycle c.args.owner.number c.args.thread.number c.requires.other
          (sym leads ∙ c.if-not-lends_lead.true);
      unchanged = rw c.lends_lead.ensures.unchanged c.self.view_is;
    }

pub returns-then-not-self-clause-leads : goal.returns-then-not-self-clause-leads
returns-then-not-self-clause-leads c =
    let now = c.args.self.now in
    let off : now.state.limits.queued_lend ≡ false =
    ap (λ (x : Snapshot). x.state.limits.queued_lend) (sym c.self.view_is) ∙ c.if-not-self.true in
    let leads = c.lends_lead.ensures.leads ∙ ap (λ (f : Funding). lends_lead f c.args.owner.number c.args.thread.number)
    (ap funding_in c.self.invariant.threads ∙ ap (λ (x : Snapshot). funding_of x.state) c.self.view_is) in
    ap not c.if-not-self.true ∙ cycle-off now.state c.requires.order.no_cycle c.args.owner.number c.args.thread.number
    c.requires.other off (sym leads ∙ c.if-not-lends_lead.false)

pub returns-else-not-self-clause-leads : goal.returns-else-not-self-clause-leads
returns-else-not-self-clause-leads c =
    let i = c.self.inside in
    let now = c.args.self.now in
    let seen = ap (snapshot_of (sizes_of i.limits) (freed_in i.freed) i.currencies.items i.queues)
    c.lends_lead.ensures.unchanged ∙ c.self.view_is in
    c.leads_past_ports.ensures
    ∙ ap (λ (x : Snapshot). lends_lead (without_servers x.state) c.args.owner.number c.args.thread.number) seen
    ∙ cycle-past now.state c.requires.order.no_cycle c.args.owner.number c.args.thread.number c.requires.other
