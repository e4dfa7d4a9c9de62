use Rattle.lot_kernel.proofs.Lemmas.{Contains, List, Node, Snapshot, ap, makes-none, refl, subst, sym}
use Rattle.lot_machine.specs.declared.reply.Reply.TheVariants as reply
use Rattle.lot_kernel.proofs.tables.Tables.done.Goals as goal

pub returns-in-NewTicket : goal.returns-in-NewTicket
returns-in-NewTicket c =
    let issued = c.issue.ensures.issued in
    let stale = ap (λ (x : Snapshot). x.stale) issued in
    rw c.in-NewTicket.is (record { reply = ap reply.Ticket c.issue.ensures.number; state = ap (λ (x : Snapshot). x.state) issued; stale = makes-none c.args.self.now c.issue.new.self stale; kept = λ x old. subst (λ (nodes : List Node). Contains nodes x) (sym stale) old; meter = ap (λ (x : Snapshot). x.meter) issued })

pub returns-in-DropTicket : goal.returns-in-DropTicket
returns-in-DropTicket c =
    let stale = c.drop_ticket.ensures.stale in
    rw c.in-DropTicket.is
    (record { reply = refl; state = c.drop_ticket.ensures.state; stale = makes-none c.args.self.now c.drop_ticket.new.self stale; kept = λ x old. subst (λ (nodes : List Node). Contains nodes x) (sym stale) old; meter = c.drop_ticket.ensures.meter })

pub returns-in-NewCurrency : goal.returns-in-NewCurrency
returns-in-NewCurrency c =
    let made = c.add_currency.ensures.made in
    let stale = ap (λ (x : Snapshot). x.stale) made in
    rw c.in-NewCurrency.is
    (record { reply = ap reply.Currency c.add_currency.ensures.number; state = ap (λ (x : Snapshot). x.state) made; stale = makes-none c.args.self.now c.add_currency.new.self stale; kept = λ x old. subst (λ (nodes : List Node). Contains nodes x) (sym stale) old; meter = ap (λ (x : Snapshot). x.meter) made })

pub returns-in-DropCurrency : goal.returns-in-DropCurrency
returns-in-DropCurrency c =
    let stale = c.drop_currency.ensures.stale in
    rw c.in-DropCurrency.is
    (record { reply = refl; state = c.drop_currency.ensures.state; stale = makes-none c.args.self.now c.drop_currency.new.self stale; kept = λ x old. subst (λ (nodes : List Node). Contains nodes x) (sym stale) old; meter = c.drop_currency.ensures.meter })

pub returns-in-DropThread : goal.returns-in-DropThread
returns-in-DropThread c =
    let stale = c.drop_thread.ensures.stale in
    rw c.in-DropThread.is
    (record { reply = refl; state = c.drop_thread.ensures.state; stale = makes-none c.args.self.now c.drop_thread.new.self stale; kept = λ x old. subst (λ (nodes : List Node). Contains nodes x) (sym stale) old; meter = c.drop_thread.ensures.meter })
