use Rattle.lot_value.proofs.Lemmas.{Contains, Currency, IsFunding, IsStale, Known, List, Node, OfTicket, ap, arith, contains-nothing, ends-ticket, funding-ticket, kept-share, layout_of, length, node_count, share-at, subst, sym, ticket-small, true≢false, unfunded-nothing, ℕ, [], ◌∙◌, ◌≡◌}
use Rattle.lot_value.proofs.values.Values.settled_ticket_value.Goals as goal

none-stale : (k : Known) (c : ℕ) → k.stale ≡ [] → ¬ IsStale k (Currency c)
none-stale k c settled stale =
    contains-nothing (Currency c) (subst (λ (nodes : List Node). Contains nodes (Currency c)) settled stale)

pub ticket_share-requires-clause-edge : goal.ticket_share-requires-clause-edge
ticket_share-requires-clause-edge c =
    let f = c.args.graph.now.funding in
    let (t, to, at, leads) = funding-ticket f c.args.ticket (c.is_funding.ensures.0 c.if-not-is_funding.false) in
    (to, (Currency t.issuer, ends-ticket f c.args.ticket t to at leads))

pub ticket_share-requires-clause-sources : goal.ticket_share-requires-clause-sources
ticket_share-requires-clause-sources c =
    let w = c.args.graph.now in
    let k = c.args.self.now in
    let (live, kept, small, right) = c.requires.right in
    let (t, to, at, leads) =
    funding-ticket w.funding c.args.ticket (c.is_funding.ensures.0 c.if-not-is_funding.false) in
    let same = share-at c.self.inside.unit k.unit w.funding live (layout_of w) k.layout c.deref.result.now k.values
    (OfTicket c.args.ticket) (ap (λ (x : Known). x.unit) c.self.view_is) (sym right.layout)
    (c.deref.ensures.value ∙ ap (λ (x : Known). x.values) c.self.view_is) in
    let worth = kept-share w live k kept.sound kept.fits right c.args.ticket t at
    (c.is_funding.ensures.0 c.if-not-is_funding.false) (none-stale k t.issuer c.requires.settled) in
    let low = ticket-small w live k kept.sound kept.fits right c.args.ticket t at
    (c.is_funding.ensures.0 c.if-not-is_funding.false) small in
    (live, record { kept = kept; places = ap length (c.deref.ensures.value ∙ ap (λ (x : Known). x.values) c.self.view_is) ∙ right.places ∙ ap node_count right.layout }, omega (arith, same, worth, low))

pub returns : goal.returns
returns c live kept right t at =
    let w = c.args.graph.now in
    let k = c.args.self.now in
    let same = share-at c.self.inside.unit k.unit w.funding live (layout_of w) k.layout c.deref.result.now k.values
    (OfTicket c.args.ticket) (ap (λ (x : Known). x.unit) c.self.view_is) (sym right.layout)
    (c.deref.ensures.value ∙ ap (λ (x : Known). x.values) c.self.view_is) in
    c.ticket_share.ensures live
    (record { kept = kept; places = ap length (c.deref.ensures.value ∙ ap (λ (x : Known). x.values) c.self.view_is) ∙ right.places ∙ ap node_count right.layout })
    ∙ same ∙ kept-share w live k kept.sound kept.fits right c.args.ticket t at
    (c.is_funding.ensures.0 c.if-not-is_funding.false) (none-stale k t.issuer c.requires.settled)

pub returns-then-not-is_funding : goal.returns-then-not-is_funding
returns-then-not-is_funding c live kept right t at =
    let f = c.args.graph.now.funding in
    let off : ¬ IsFunding f c.args.ticket =
    λ is. true≢false (sym (c.is_funding.ensures.1 is) ∙ c.if-not-is_funding.true) in
    unfunded-nothing c.args.self.now.unit f live c.args.ticket t at off
