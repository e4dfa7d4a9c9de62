-- What comes to the pool for the command is read again.
use Rattle.lot_program.proofs.PackedLemmas.{command-added, extends-begun}
use Rattle.lot_program.proofs.packed.pack.Goals as goal

pub returns-in_err-verb-clause-grows : goal.returns-in_err-verb-clause-grows
returns-in_err-verb-clause-grows c =
    extends-begun c.args.pool.now.bytes c.begin.new.self c.give_parts.new.sink c.in_ok-start.ensures.start
    c.begin.ensures.same c.give_parts.ensures.kept

pub returns : goal.returns
returns c =
    let added =
    command-added c.args.command.now c.args.pool.now.bytes c.begin.new.self c.give_parts.new.sink
    (record { verb = c.in_ok-verb.verb; start = c.in_ok-start.start })
    c.begin.ensures.same c.in_ok-start.ensures.place c.in_ok-verb.ensures.verb c.in_ok-verb.ensures.put
    c.in_ok-verb.ensures.fact c.give_parts.ensures.back in
    record {
      grows = extends-begun c.args.pool.now.bytes c.begin.new.self c.give_parts.new.sink c.in_ok-start.ensures.start
          c.begin.ensures.same c.give_parts.ensures.kept;
      within = added.0;
      same = added.1;
    }
