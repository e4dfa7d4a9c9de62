use Rattle.lot_text.proofs.Lemmas.{Gives-memory, arith, length, naming-full, naming-read, reading_of, sym, ◌<◌}
use Rattle.lot_text.proofs.reading.Reading.add_naming.Goals as goal

pub returns-then-len-ge100000 : goal.returns-then-len-ge100000
returns-then-len-ge100000 c =
    naming-full (reading_of c.self.inside) c.args.self.now c.args.name c.args.command c.self.view_is
    (omega (arith, c.if-len-ge100000.true, c.len.ensures))

pub returns-in_err-push : goal.returns-in_err-push
returns-in_err-push c = Gives-memory _ c.from_residual.result _ c.from_residual.ensures

pub returns : goal.returns
returns c =
    let room : length c.self.inside.commands < 100000 = omega (arith, c.if-len-ge100000.false, c.len.ensures) in
    rw c.in_ok-push.ensures.added
    (naming-read (reading_of c.self.inside) c.args.self.now c.args.name c.args.command c.self.view_is
    (sym c.if-is_timed.ensures) room)
