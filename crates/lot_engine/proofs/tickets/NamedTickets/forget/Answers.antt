-- Only an item with the ticket's number is written.
use Rattle.lot_engine.proofs.Common.{arith, drop, eq-eqb, false, get_or, get_or_from_slice_get, if◌then◌else◌, length, map_over_more, ne_eqb, refl, set, slice_get-get_or, sym, take, without_ticket, ℕ, ◌++◌, ◌+◌, ◌==◌, ◌∙◌, ◌≡◌}
use Rattle.lot_engine.proofs.tickets.NamedTickets.forget.Goals.{then-from-ticket, else-from-ticket}
use Rattle.lot_engine.proofs.tickets.NamedTickets.forget.Goals as goal

pub loop-number-preserved : goal.loop-number-preserved
loop-number-preserved c =
    let numbers = c.deref_mut-number-items.result.now in
    let now = c.loop-number.number-items in
    let i = c.loop-number.number-index in
    let ticket = c.args.ticket in
    let number : ℕ = get_or now i 0 in
    let long : length now ≡ length numbers = c.loop-number.auto.number-items in
    let there = get_or_from_slice_get now i number number
    (slice_get-get_or now i 0 (omega (arith, c.loop-number-test.true, long))) in
    let passed : set now i (if number == ticket then 0 else number) ≡ without_ticket ticket (take (i + 1) numbers)
    ++ drop (i + 1) numbers =
    map_over_more (λ t. if t == ticket then 0 else t) numbers now i number c.loop-number-test.true
    c.loop-number.invariant (sym there) in
    elim c.if-from-ticket.branch [
      | then-from-ticket w ↦
          let its : number ≡ ticket = sym c.from.ensures ∙ w.if-from-ticket.true in
          let written : set now i 0 ≡ set now i (if number == ticket then 0 else number) =
          rw (eq-eqb number ticket its) refl in
          w.number-items-is ∙ written ∙ passed
      | else-from-ticket w ↦
          let other : (number == ticket) ≡ false =
          ne_eqb number ticket (λ e. w.if-from-ticket.false (c.from.ensures ∙ e)) in
          let kept : set now i number ≡ set now i (if number == ticket then 0 else number) = rw other refl in
          w.number-items-is ∙ kept ∙ passed
    ]
