use Rattle.lot_text.proofs.Lemmas.{Gives-refusal, alone-refused, header_line, limits-read, reading_of, refl, ◌∷◌}
use Rattle.lot_simulation.specs.declared.input.HeaderWord.TheVariants as header
use Rattle.lot_text.proofs.header.read_limits.Goals as goal

pub returns-in_err-tickets : goal.returns-in_err-tickets
returns-in_err-tickets c =
    Gives-refusal _ c.from_residual.result c.in_err-tickets.field-0.0 _ c.from_residual.ensures
    (rw (
      c.in_err-tickets.ensures.1,
      c.in_err-tickets.ensures.0,
    ) refl)

pub returns-in_err-currencies : goal.returns-in_err-currencies
returns-in_err-currencies c =
    Gives-refusal _ c.from_residual-in_err-currencies.result c.in_err-currencies.field-0.0 _
    c.from_residual-in_err-currencies.ensures
    (rw (
      c.in_ok-tickets.ensures,
      c.in_err-currencies.ensures.1,
      c.in_err-currencies.ensures.0,
    ) refl)

pub returns-in_err-threads : goal.returns-in_err-threads
returns-in_err-threads c =
    let other =
    alone-refused (λ tokens. header_line c.args.reading.now header.Limits
    (c.in_ok-tickets.tickets.now ∷ c.in_ok-currencies.currencies.now ∷ tokens))
    c.expected-2.new.self c.in_err-threads.field-0.0 refl (λ a b others. refl) c.in_err-threads.ensures in
    Gives-refusal _ c.from_residual-in_err-threads.result c.in_err-threads.field-0.0 _
    c.from_residual-in_err-threads.ensures (rw (c.in_ok-tickets.ensures, c.in_ok-currencies.ensures) other)

pub returns-in_err-tickets-2 : goal.returns-in_err-tickets-2
returns-in_err-tickets-2 c =
    Gives-refusal _ c.from_residual-in_err-tickets-2.result c.in_err-tickets-2.field-0.0 _
    c.from_residual-in_err-tickets-2.ensures
    (rw (
      c.in_ok-tickets.ensures,
      c.in_ok-currencies.ensures,
      c.in_ok-threads.ensures,
      ← c.in_err-tickets-2.ensures.read,
    ) refl)

pub returns-in_err-currencies-2 : goal.returns-in_err-currencies-2
returns-in_err-currencies-2 c =
    Gives-refusal _ c.from_residual-in_err-currencies-2.result c.in_err-currencies-2.field-0.0 _
    c.from_residual-in_err-currencies-2.ensures
    (rw (
      c.in_ok-tickets.ensures,
      c.in_ok-currencies.ensures,
      c.in_ok-threads.ensures,
      ← c.in_ok-tickets-2.ensures.read,
      ← c.in_err-currencies-2.ensures.read,
    ) refl)

pub returns-in_err-threads-2 : goal.returns-in_err-threads-2
returns-in_err-threads-2 c =
    Gives-refusal _ c.from_residual-in_err-threads-2.result c.in_err-threads-2.field-0.0 _
    c.from_residual-in_err-threads-2.ensures
    (rw (
      c.in_ok-tickets.ensures,
      c.in_ok-currencies.ensures,
      c.in_ok-threads.ensures,
      ← c.in_ok-tickets-2.ensures.read,
      ← c.in_ok-currencies-2.ensures.read,
      ← c.in_err-threads-2.ensures.read,
    ) refl)

pub returns : goal.returns
returns c =
    rw (c.in_ok-tickets.ensures, c.in_ok-currencies.ensures, c.in_ok-threads.ensures)
    (limits-read (reading_of c.reading.inside) c.args.reading.now c.in_ok-tickets.tickets.now
    c.in_ok-currencies.currencies.now c.in_ok-threads.threads.now
    c.in_ok-tickets-2.tickets c.in_ok-currencies-2.currencies c.in_ok-threads-2.threads c.reading.view_is
    c.in_ok-tickets-2.ensures.read
    c.in_ok-currencies-2.ensures.read c.in_ok-threads-2.ensures.read)
