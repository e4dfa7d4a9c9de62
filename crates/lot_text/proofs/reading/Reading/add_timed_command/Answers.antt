-- A reservation and a refusal leave the state unchanged.
use Rattle.lot_text.proofs.Lemmas.{Gives-memory, IsTrue, Reading, length, reading_of, refl, subst, sym, timed-read, with_timed, ◌<◌}
use Rattle.lot_text.proofs.reading.Reading.add_timed_command.Goals as goal

pub returns-in_err-reserve : goal.returns-in_err-reserve
returns-in_err-reserve c = Gives-memory _ c.from_residual.result _ c.from_residual.ensures

pub returns-in_err-reserve-2 : goal.returns-in_err-reserve-2
returns-in_err-reserve-2 c =
    Gives-memory _ c.from_residual-in_err-reserve-2.result _ c.from_residual-in_err-reserve-2.ensures

pub returns-in_err-push : goal.returns-in_err-push
returns-in_err-push c = Gives-memory _ c.from_residual-in_err-push.result _ c.from_residual-in_err-push.ensures

pub invariant_of-self-2 : goal.invariant_of-self-2
invariant_of-self-2 c =
    let room = subst (λ (r : Reading). length r.commands < 100000) (sym c.self.view_is) c.requires.room in
    let timed = subst (λ (r : Reading). IsTrue r.is_timed) (sym c.self.view_is) c.requires.timed in
    with_timed (reading_of c.self.inside) c.push.new.self c.push_reserved.new.self.items
    c.push_reserved-2.new.self.items c.args.command c.self.invariant room
    timed
    c.in_ok-push.ensures.added (rw c.push_reserved.ensures.items (rw c.reserve.ensures.items refl))

pub returns : goal.returns
returns c =
    rw (c.in_ok-push.ensures.added, c.push_reserved.ensures.items, c.reserve.ensures.items, c.push_reserved-2.ensures.items, c.reserve-2.ensures.items)
    (timed-read (reading_of c.self.inside) c.args.self.now c.args.name c.args.command c.self.view_is c.requires.timed
    c.requires.room)
