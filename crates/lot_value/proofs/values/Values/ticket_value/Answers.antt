use Rattle.lot_value.proofs.Lemmas.{Currency, IsFunding, IsRight, Known, OfTicket, ap, arith, counted_up, ends-ticket, funding-ticket, kept-share, layout_of, length, node_count, reads-right, refl, share-at, subst, sym, the_view, ticket-small, true≢false, unfunded-nothing, ◌∙◌}
use Rattle.lot_value.proofs.values.Values.ticket_value.Goals as goal

pub read_share-requires-clause-edge : goal.read_share-requires-clause-edge
read_share-requires-clause-edge c =
    let f = c.args.graph.now.funding in
    let (t, to, at, leads) = funding-ticket f c.args.ticket (c.is_funding.ensures.0 c.if-not-is_funding.false) in
    (to, (Currency t.issuer, ends-ticket f c.args.ticket t to at leads))

pub read_share-requires-clause-sources : goal.read_share-requires-clause-sources
read_share-requires-clause-sources c =
    let w = c.args.graph.now in
    let k = c.args.self.now in
    let (live, kept, small, right) = c.requires.right in
    let (t, to, at, leads) =
    funding-ticket w.funding c.args.ticket (c.is_funding.ensures.0 c.if-not-is_funding.false) in
    let same = share-at c.self.inside.unit k.unit w.funding live (layout_of w) k.layout c.deref.result.now k.values
    (OfTicket c.args.ticket) (ap (λ (x : Known). x.unit) c.self.view_is) (sym right.layout)
    (c.deref.ensures.value ∙ ap (λ (x : Known). x.values) c.self.view_is) in
    let worth = kept-share w live k kept.sound kept.fits right c.args.ticket t at
    (c.is_funding.ensures.0 c.if-not-is_funding.false) (c.requires.fresh t at) in
    let low = ticket-small w live k kept.sound kept.fits right c.args.ticket t at
    (c.is_funding.ensures.0 c.if-not-is_funding.false) small in
    (live, record { kept = kept; places = ap length (c.deref.ensures.value ∙ ap (λ (x : Known). x.values) c.self.view_is) ∙ right.places ∙ ap node_count right.layout }, omega (arith, same, worth, low))

pub returns-clause-worth : goal.returns-clause-worth
returns-clause-worth c live kept right t at =
    let w = c.args.graph.now in
    let k = c.args.self.now in
    let same = share-at c.self.inside.unit k.unit w.funding live (layout_of w) k.layout c.deref.result.now k.values
    (OfTicket c.args.ticket) (ap (λ (x : Known). x.unit) c.self.view_is) (sym right.layout)
    (c.deref.ensures.value ∙ ap (λ (x : Known). x.values) c.self.view_is) in
    c.read_share.ensures.value live
    (record { kept = kept; places = ap length (c.deref.ensures.value ∙ ap (λ (x : Known). x.values) c.self.view_is) ∙ right.places ∙ ap node_count right.layout })
    ∙ same ∙ kept-share w live k kept.sound kept.fits right c.args.ticket t at
    (c.is_funding.ensures.0 c.if-not-is_funding.false) (c.requires.fresh t at)

pub returns-clause-right : goal.returns-clause-right
returns-clause-right c live right = reads-right c.args.graph.now live (the_view c.self.inside) c.read_share.new.reads
    (subst (IsRight c.args.graph.now live) (sym c.self.view_is) right)

pub returns-then-not-is_funding : goal.returns-then-not-is_funding
returns-then-not-is_funding c =
    let f = c.args.graph.now.funding in
    let off : ¬ IsFunding f c.args.ticket =
    λ is. true≢false (sym (c.is_funding.ensures.1 is) ∙ c.if-not-is_funding.true) in
    record {
      worth = λ live kept right t at. unfunded-nothing c.args.self.now.unit f live c.args.ticket t at off;
      counted = λ is. absurd (off is);
      uncounted = λ none. refl;
      unit = refl;
      right = λ live right. right;
    }

pub returns-clause-counted : goal.returns-clause-counted
returns-clause-counted c funds =
    ap (λ reads. record (the_view c.self.inside) { reads = reads }) c.read_share.ensures.counted
    ∙ ap (λ (x : Known). record x { reads = counted_up x.reads 1 }) c.self.view_is

pub returns-clause-uncounted : goal.returns-clause-uncounted
returns-clause-uncounted c none = absurd (none (c.is_funding.ensures.0 c.if-not-is_funding.false))

pub returns-clause-unit : goal.returns-clause-unit
returns-clause-unit c = ap (λ (x : Known). x.unit) c.self.view_is
