use Rattle.lot_value.proofs.Lemmas.{AreSources, Bool, List, OfTicket, active-is, ap, ap₂, arith, kept_worth, layout_of, share, share-amount, share-base, share-off, share-user, slice_index_or, sym, ticket-here, ticket-target, ℕ, ◌*◌, ◌/◌, ◌∙◌, ◌≡◌}
use Rattle.lot_value.proofs.readings.ticket_share.Goals as goal

pub is_active-requires : goal.is_active-requires
is_active-requires c =
    let w = c.args.sources.graph.now in
    let (live, are, small) = c.requires.sources in
    record { target = (w, live, c.args.number, are.kept, ticket-target w.funding c.args.number c.in-Some.ticket (sym c.ticket.ensures.ticket ∙ c.in-Some.is)) }

pub returns-then-not-is_active : goal.returns-then-not-is_active
returns-then-not-is_active c live are =
    let s = c.args.sources in
    let w = s.graph.now in
    let t = c.in-Some.ticket in
    let at = sym c.ticket.ensures.ticket ∙ c.in-Some.is in
    let is = active-is s.active.now w live c.args.number t c.is_active.result are.kept at
    (c.is_active.ensures.active w live c.args.number are.kept (ticket-target w.funding c.args.number t at)) in
    share-off s.unit w.funding live (kept_worth (layout_of w) s.values.now) c.args.number t at
    (is ∙ c.if-not-is_active.true)

pub returns-then-ticket-eq0 : goal.returns-then-ticket-eq0
returns-then-ticket-eq0 c live are =
    let s = c.args.sources in
    let w = s.graph.now in
    let t = c.in-Some.ticket in
    let at = sym c.ticket.ensures.ticket ∙ c.in-Some.is in
    let is = active-is s.active.now w live c.args.number t c.is_active.result are.kept at
    (c.is_active.ensures.active w live c.args.number are.kept (ticket-target w.funding c.args.number t at)) in
    ap₂ (λ (a b : ℕ). a * b) c.from.ensures c.from-then-ticket-eq0.ensures
    ∙ share-base s.unit w.funding live (kept_worth (layout_of w) s.values.now) c.args.number t at
    (is ∙ c.if-not-is_active.false) c.if-ticket-eq0.true

pub bounds-sources-ticket : goal.bounds-sources-ticket
bounds-sources-ticket c =
    let s = c.args.sources in
    let (live, are, small) = c.requires.sources in
    let low = ticket-here s.graph.now c.args.number c.in-Some.ticket c.ticket.ensures.fits c.requires.edge
    (sym c.ticket.ensures.ticket ∙ c.in-Some.is) in
    omega (arith, low, are.places)

pub active_amount-active-requires : goal.active_amount-active-requires
active_amount-active-requires c =
    let s = c.args.sources in
    let (live, are, small) = c.requires.sources in
    let low = ticket-here s.graph.now c.args.number c.in-Some.ticket c.ticket.ensures.fits c.requires.edge
    (sym c.ticket.ensures.ticket ∙ c.in-Some.is) in
    record { currency = (s.graph.now, live, are.kept, low) }

pub share_of-requires-clause-active : goal.share_of-requires-clause-active
share_of-requires-clause-active c =
    let s = c.args.sources in
    let w = s.graph.now in
    let t = c.in-Some.ticket in
    let (live, are, small) = c.requires.sources in
    let at = sym c.ticket.ensures.ticket ∙ c.in-Some.is in
    let low = ticket-here w c.args.number t c.ticket.ensures.fits c.requires.edge at in
    let is = active-is s.active.now w live c.args.number t c.is_active.result are.kept at
    (c.is_active.ensures.active w live c.args.number are.kept (ticket-target w.funding c.args.number t at)) in
    let most = share-amount s.unit w.funding live (kept_worth (layout_of w) s.values.now) c.args.number t at
    (is ∙ c.if-not-is_active.false) in
    omega (arith, most, (c.ticket.ensures.fits.amounts c.args.number t at).0, c.active_amount-active.ensures.amount w live are.kept low)

quotient : (c : goal.After-active_amount-active) (live : List Bool) → AreSources c.args.sources live
    → slice_index_or c.args.sources.values.now c.in-Some.ticket.issuer 0 * c.in-Some.ticket.amount
    / c.active_amount-active.result
    ≡ share c.args.sources.unit c.args.sources.graph.now.funding live
    (kept_worth (layout_of c.args.sources.graph.now) c.args.sources.values.now) (OfTicket c.args.number)
quotient c live are =
    let s = c.args.sources in
    let w = s.graph.now in
    let t = c.in-Some.ticket in
    let at = sym c.ticket.ensures.ticket ∙ c.in-Some.is in
    let low = ticket-here w c.args.number t c.ticket.ensures.fits c.requires.edge at in
    let is = active-is s.active.now w live c.args.number t c.is_active.result are.kept at
    (c.is_active.ensures.active w live c.args.number are.kept (ticket-target w.funding c.args.number t at)) in
    let worth = kept_worth (layout_of w) s.values.now in
    rw (c.active_amount-active.ensures.amount w live are.kept low)
    (share-user s.unit w.funding live worth c.args.number t at (is ∙ c.if-not-is_active.false) c.if-ticket-eq0.false)

pub share_of-requires-clause-fits : goal.share_of-requires-clause-fits
share_of-requires-clause-fits c =
    let (live, are, small) = c.requires.sources in
    omega (arith, quotient c live are, small)

pub returns : goal.returns
returns c live are =
    let s = c.args.sources in
    let w = s.graph.now in
    let t = c.in-Some.ticket in
    let at = sym c.ticket.ensures.ticket ∙ c.in-Some.is in
    let low = ticket-here w c.args.number t c.ticket.ensures.fits c.requires.edge at in
    let is = active-is s.active.now w live c.args.number t c.is_active.result are.kept at
    (c.is_active.ensures.active w live c.args.number are.kept (ticket-target w.funding c.args.number t at)) in
    c.share_of.ensures ∙ ap (λ n. slice_index_or s.values.now t.issuer 0 * t.amount / n)
    (c.active_amount-active.ensures.amount w live are.kept low)
    ∙ share-user s.unit w.funding live (kept_worth (layout_of w) s.values.now) c.args.number t at
    (is ∙ c.if-not-is_active.false) c.if-ticket-eq0.false
