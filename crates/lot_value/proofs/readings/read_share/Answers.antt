use Rattle.lot_value.proofs.Common.{ap, kept_worth, layout_of, share, sym, ◌∙◌}
use Rattle.lot_value.proofs.readings.read_share.Goals as goal

pub returns-in-OfTicket-clause-value : goal.returns-in-OfTicket-clause-value
returns-in-OfTicket-clause-value c live are =
    let s = c.args.sources in
    let w = s.graph.now in
    c.ticket_share.ensures live are
    ∙ ap (share s.unit w.funding live (kept_worth (layout_of w) s.values.now)) (sym c.in-OfTicket.is)
