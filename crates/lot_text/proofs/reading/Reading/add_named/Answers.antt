use Rattle.lot_text.proofs.Lemmas.{Gives-memory, Gives-refusal, arith, length, reading_of, ticket-named, ticket-refused, ◌≡◌}
use Rattle.lot_text.proofs.reading.Reading.add_named.Goals as goal

pub returns-in_err-push : goal.returns-in_err-push
returns-in_err-push c = Gives-memory _ c.from_residual-in_err-push.result _ c.from_residual-in_err-push.ensures

pub returns-in_err-name : goal.returns-in_err-name
returns-in_err-name c =
    let refused =
    ticket-refused (reading_of c.self.inside) c.args.self.now c.args.token.now c.as_slice.result.now
    c.in_err-name.field-0.0 c.args.command c.self.view_is
    c.as_slice.ensures.value c.in_err-name.ensures in
    Gives-refusal _ c.from_residual.result c.in_err-name.field-0.0 _ c.from_residual.ensures refused

pub returns : goal.returns
returns c =
    let named =
    ticket-named (reading_of c.self.inside) c.args.self.now c.args.token.now c.as_slice.result.now c.in_ok-name.name
    c.args.command c.self.view_is
    c.in_ok-name.ensures c.as_slice.ensures.value (omega (arith, c.if-len-ge-MOST_TICKET_NAMES.false, c.len.ensures)) in
    let number : length c.push.new.self.items ≡ c.len-number.result = omega (arith, c.len-number.ensures) in
    rw (named, ← c.in_ok-push.ensures.items, number) c.add_naming.ensures
