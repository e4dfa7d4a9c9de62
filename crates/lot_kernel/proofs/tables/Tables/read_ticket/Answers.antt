use Rattle.lot_kernel.proofs.Lemmas.{Bool, IsFunding, LimitedFunding, Snapshot, Some, Threaded, Ticket, ap, counted_up, false, freed_in, funding_in, held-stale, if◌then◌else◌, is_funding, live_in, option_any, refl, rules, settled_in, settles-held, sizes_of, snapshot_of, sym, ticket_at, ticket_in, ticket_value, true, with_ticket_read, ℕ, [], ◌∙◌, ◌≡◌}
use Rattle.lot_kernel.proofs.tables.Tables.read_ticket.Goals as goal

-- what is counted
read-meter : (n : ℕ) (t : Ticket) (v new : Threaded) → ticket_in v.tickets n ≡ Some t → (IsFunding (funding_in v) n
    → new ≡ record v { meter = record v.meter { ticket_reads = counted_up v.meter.ticket_reads 1 } })
    → (¬ IsFunding (funding_in v) n → new ≡ v)
    → new ≡ record v { meter = with_ticket_read v.meter t }
read-meter n t v new here counted uncounted = by (is_funding t) refl
  where
    test : option_any is_funding (ticket_in v.tickets n) ≡ is_funding t
    test = ap (option_any is_funding) here

    by : (b : Bool) → is_funding t ≡ b → new
        ≡ record v { meter = if b then record v.meter { ticket_reads = counted_up v.meter.ticket_reads 1 } else v.meter }
    by true is = counted (test ∙ is)
    by false is = uncounted (λ funds. let never : true ≡ false = sym funds ∙ test ∙ is in cc)

-- the ticket is there before and after settling
module _ (c : goal.After-ticket_value-value) where
  found : ticket_in c.self.inside.threads.tickets c.args.ticket.number ≡ Some c.in_ok-found.found
  found = sym (c.in_ok-found.ensures.ticket
      ∙ ap (λ (w : LimitedFunding). ticket_at w.funding c.args.ticket.number) c.graph.ensures)

  here : ticket_in c.settle.new.self.tickets c.args.ticket.number ≡ Some c.in_ok-found.found
  here = ap (λ (v : Threaded). ticket_in v.tickets c.args.ticket.number) c.settle.ensures.settled ∙ found

  read : c.ticket_value-value.new.self
      ≡ record c.settle.new.self { meter = with_ticket_read c.settle.new.self.meter c.in_ok-found.found }
  read = read-meter c.args.ticket.number c.in_ok-found.found c.settle.new.self c.ticket_value-value.new.self here
      c.ticket_value-value.ensures.counted c.ticket_value-value.ensures.uncounted

pub returns-clause-value : goal.returns-clause-value
returns-clause-value c =
    let value = c.ticket_value-value.ensures.worth c.in_ok-found.found (here c)
    ∙ ap (λ (v : Threaded). ticket_value v.unit (funding_in v) (live_in v.records) c.in_ok-found.found)
    (c.settle.ensures.settled ∙ ap settled_in c.self.invariant.threads) in
    rw (← c.self.view_is) value

pub returns-clause-settled : goal.returns-clause-settled
returns-clause-settled c =
    let i = c.self.inside in
    let after = settles-held (sizes_of i.limits) (freed_in i.freed) i.currencies.items i.threads c.settle.new.self
    i.queues c.self.invariant.threads c.settle.ensures.settled in
    rw (← c.self.view_is)
    (ap (snapshot_of (sizes_of i.limits) (freed_in i.freed) i.currencies.items i.queues) (read c)
    ∙ ap (λ (x : Snapshot). record x { meter = with_ticket_read x.meter c.in_ok-found.found }) after)

pub invariant_of-self : goal.invariant_of-self
invariant_of-self c =
    let i = c.self.inside in
    let t = c.in_ok-found.found in
    let whole = read c
    ∙ ap (λ (v : Threaded). record v { meter = with_ticket_read v.meter t }) c.settle.ensures.settled in
    let threads = held-stale (sizes_of i.limits)
    (freed_in i.freed) i.currencies.items i.threads c.ticket_value-value.new.self i.queues c.self.invariant.threads []
    (with_ticket_read (settled_in i.threads).meter t) whole in
    search (rules, threads, whole)
