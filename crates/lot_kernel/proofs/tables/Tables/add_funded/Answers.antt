use Rattle.lot_kernel.proofs.Lemmas.{Contains, Funded, HasIdlePlace, IsInOrder, List, Snapshot, Some, State, Ticket, ap, are_threads_full, arith, free_tickets, funded-placed, funding_of, length, makes-funded, next-there, next-within, next_thread, next_ticket, option_flatten, placed, refl, retargeted, subst, sym, target-funded, thread-no-cycle, ticket-gap, ticket_at, with_target, with_thread, with_ticket, ℕ, ◌∙◌, ◌≡◌}
use Rattle.lot_machine.specs.declared.ticket.Target.TheVariants.{Thread}
use Rattle.lot_kernel.proofs.tables.Tables.add_funded.Goals as goal

-- the state after a ticket was issued, a thread made, and the one made to fund the other
made-state : (s issued added funded : State) (new : Ticket) (script n t : ℕ) (name : List ℕ) → IsInOrder s
    → issued ≡ with_ticket s new → added ≡ with_thread issued name script
    → funded ≡ record added { tickets = with_target added.tickets n (Thread t) } → n ≡ next_ticket s → t ≡ next_thread s
    → funded ≡ with_ticket (with_thread s name script) (retargeted (Thread (next_thread s)) new)
made-state s issued added funded new script n t name order first second third number thread =
    let both = with_thread (with_ticket s new) name script in
    let tickets = placed s.tickets (free_tickets s) (Some new) in
    third ∙ ap (λ (x : State). record x { tickets = with_target x.tickets n (Thread t) })
    (second ∙ ap (λ (x : State). with_thread x name script) first)
    ∙ ap (λ u. record both { tickets = with_target tickets n (Thread u) }) thread
    ∙ ap (λ m. record both { tickets = with_target tickets m (Thread (next_thread s)) }) number
    ∙ ap (λ ts. record both { tickets = ts })
    (funded-placed s.tickets (free_tickets s) new (Thread (next_thread s)) (ticket-gap s order))

pub add_thread-thread-requires-clause-room : goal.add_thread-thread-requires-clause-room
add_thread-thread-requires-clause-room c = ap (λ (x : Snapshot). are_threads_full x.state) c.issue-number.ensures.issued
    ∙ c.requires.ready.1

pub add_thread-thread-requires-clause-idle : goal.add_thread-thread-requires-clause-idle
add_thread-thread-requires-clause-idle c =
    subst (λ (x : Snapshot). HasIdlePlace x.state) (sym c.issue-number.ensures.issued) c.requires.ready.2

pub put_target-requires-clause-found : goal.put_target-requires-clause-found
put_target-requires-clause-found c =
    let old = c.args.self.now in
    let new = c.args.ticket in
    ap (λ (x : State). ticket_at (funding_of x) c.issue-number.result) (c.add_thread-thread.ensures.state
    ∙ ap (λ (x : Snapshot). with_thread x.state c.args.name.now c.args.script) c.issue-number.ensures.issued)
    ∙ ap (λ n. ticket_at (funding_of (with_thread (with_ticket old.state new) c.args.name.now c.args.script)) n)
    c.issue-number.ensures.number
    ∙ ap option_flatten
    (next-there old.state.tickets (free_tickets old.state) new (ticket-gap old.state c.requires.order))

pub put_target-requires-clause-target : goal.put_target-requires-clause-target
put_target-requires-clause-target c =
    let old = c.args.self.now in
    let issued = c.issue-number.ensures.issued in
    let thread : c.add_thread-thread.result.number ≡ next_thread old.state = c.add_thread-thread.ensures.number
    ∙ ap (λ (x : Snapshot). next_thread x.state) issued in
    let after = c.add_thread-thread.new.self.state in
    let size = ap (λ (x : State). length x.records) c.add_thread-thread.ensures.state
    ∙ ap (λ (x : Snapshot). length (with_thread x.state c.args.name.now c.args.script).records) issued in
    let within = next-within old.state c.requires.order c.requires.ready.3 in
    let there = target-funded after (Thread c.add_thread-thread.result.number)
    (omega (arith, thread), omega (arith, thread, size, within)) refl in
    (c.requires.ready.0.unfunded, there, thread-no-cycle (funding_of after) c.issue-number.result c.add_thread-thread.result.number)

pub returns : goal.returns
returns c =
    let old = c.args.self.now in
    let new = c.args.ticket in
    let issued = c.issue-number.ensures.issued in
    let number = c.issue-number.ensures.number in
    let thread : c.add_thread-thread.result.number ≡ next_thread old.state = c.add_thread-thread.ensures.number
    ∙ ap (λ (x : Snapshot). next_thread x.state) issued in
    record {
      reply = ap (λ n. Funded n c.add_thread-thread.result.number) number
          ∙ ap (λ t. Funded (next_ticket old.state) t) thread;
      state = made-state old.state c.issue-number.new.self.state c.add_thread-thread.new.self.state
          c.put_target.new.self.state new c.args.script c.issue-number.result c.add_thread-thread.result.number
          c.args.name.now c.requires.order
          (ap (λ (x : Snapshot). x.state) issued) c.add_thread-thread.ensures.state c.put_target.ensures.state number
          thread;
      stale = makes-funded old c.issue-number.new.self c.add_thread-thread.new.self c.put_target.new.self new
          c.args.script c.issue-number.result c.add_thread-thread.result.number c.args.name.now
          c.requires.ready.0.unfunded c.requires.order
          issued c.add_thread-thread.ensures.state c.put_target.ensures.state c.add_thread-thread.ensures.stale
          c.put_target.ensures.stale;
      kept = λ x stale. c.put_target.ensures.kept x
          (c.add_thread-thread.ensures.kept x (subst (λ (y : Snapshot). Contains y.stale x) (sym issued) stale));
      meter = c.put_target.ensures.meter ∙ c.add_thread-thread.ensures.meter ∙ ap (λ (x : Snapshot). x.meter) issued;
    }
