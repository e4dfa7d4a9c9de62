use Rattle.lot_kernel_tests.proofs.Common.{Ticket, ap, option_map, sym, ◌∙◌}
use Rattle.lot_kernel_tests.proofs.tests.funding.active.Kept.is_active.Goals as goal

pub is_active-requires : goal.is_active-requires
is_active-requires c =
    let w = c.self.inside.graph in
    let (live, (size, kept)) = c.self.invariant in
    let at = ap (option_map (λ (t : Ticket). t.target)) (sym c.ticket.ensures.ticket ∙ c.in-Some.is) in
    record { target = (w, live, c.args.ticket, kept, at) }
