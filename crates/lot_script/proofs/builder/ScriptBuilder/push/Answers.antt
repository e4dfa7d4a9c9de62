use Rattle.lot_script.proofs.Lemmas.{Draft, IsDraft-pushed}
use Rattle.lot_script.proofs.builder.ScriptBuilder.push.Goals as goal

pub invariant_of-self-2 : goal.invariant_of-self-2
invariant_of-self-2 c =
    let draft : Draft = record { lines = c.self.inside.lines.items; loops = c.self.inside.open_loops } in
    rw (c.in_ok-push.ensures.items, c.loops_after-open_loops.ensures) (IsDraft-pushed draft c.args.line c.self.invariant
    c.requires.number (rw (← c.self.view_is) at c.requires.nesting) (rw (← c.self.view_is) at c.requires.room))
