use Rattle.lot_engine.proofs.Common.{Command, List, None, Option, RemoveTicket, Some, ap, refl, sym, tickets_after, ℕ, ◌∙◌, ◌≡◌}
use Rattle.lot_machine.specs.declared.reply.Reply.TheVariants.{Done}
use Rattle.lot_engine.proofs.tickets.NamedTickets.follow.Goals.{in_default-Done-via-in-Some+in-Done, in_default-Done-via-in_default+in-Done}
use Rattle.lot_engine.proofs.tickets.NamedTickets.follow.Goals as goal

-- a command that makes no ticket gives no name
done-unnamed : (tickets : List ℕ) (name : Option ℕ) (c : Command)
    → tickets_after tickets None c Done ≡ tickets_after tickets name c Done
done-unnamed tickets None c = refl
done-unnamed tickets (Some name) (RemoveTicket ticket) = refl
done-unnamed tickets (Some name) other = refl

pub returns-in_default-Done : goal.returns-in_default-Done
returns-in_default-Done c command is =
    let done : c.args.reply ≡ Done =
    elim c.in_default-Done.branch [ in_default-Done-via-in-Some+in-Done w ↦ w.in_default-Done.is-1 | in_default-Done-via-in_default+in-Done w ↦ w.in_default-Done.is-1 ] in
    c.forget_removed.ensures command is ∙ done-unnamed c.args.self.now c.args.name command
    ∙ ap (tickets_after c.args.self.now c.args.name command) (sym done)
