use Rattle.lot_graph.proofs.Lemmas.{all-rest, ap, arith, false, first-low, funding_edges, funds_at, is_funding, length, option_any, passed-over, refl, sym, ℕ, ◌+◌, ◌<◌, ◌^◌, ◌∙◌, ◌≡◌}
use Rattle.lot_graph.proofs.walks.next_funding.Goals as goal

pub returns-then-is_funding-clause-low : goal.returns-then-is_funding-clause-low
returns-then-is_funding-clause-low c = all-rest (λ place. place + 1 < 2 ^ 32) c.loop-place.places c.in-Some.place
    c.next.new.self c.in-Some.ensures.steps c.loop-place.invariant.2

pub loop-place-preserved : goal.loop-place-preserved
loop-place-preserved c =
    let tickets = c.args.tickets.now.tickets in
    let off : funds_at tickets c.in-Some.place ≡ false = ap (option_any is_funding) (sym c.get.ensures)
    ∙ sym c.is_funding.ensures ∙ c.if-is_funding.false in (
      tt,
      tt,
      all-rest (λ place. place + 1 < 2 ^ 32) c.loop-place.places c.in-Some.place c.next.new.self c.in-Some.ensures.steps
          c.loop-place.invariant.2,
      sym (passed-over tickets c.in-Some.place c.next.new.self off)
          ∙ ap (funding_edges tickets) (sym c.in-Some.ensures.steps) ∙ c.loop-place.invariant.3,
    )

pub overflow_cast-ticket : goal.overflow_cast-ticket
overflow_cast-ticket c = let low = first-low c.loop-place.places c.in-Some.place c.next.new.self
    (2 ^ 32) c.in-Some.ensures.steps c.loop-place.invariant.2 in omega (arith, low)

pub overflow_add-ticket : goal.overflow_add-ticket
overflow_add-ticket c = let low = first-low c.loop-place.places c.in-Some.place c.next.new.self
    (2 ^ 32) c.in-Some.ensures.steps c.loop-place.invariant.2 in omega (arith, low)
