use Rattle.lot_script.proofs.Lemmas.{MakesTrap, Passes-then, arith, slice-trap}
use Rattle.lot_script.proofs.script.Script.pass_slice.Goals as goal

pub loop-ticks-preserved : goal.loop-ticks-preserved
loop-ticks-preserved c = record {
  within = let advances = c.in-Marks.ensures in omega (arith, advances.1, c.loop-ticks-test.true);
  passes = Passes-then _ _ _ _ _ _ c.loop-ticks.invariant.passes c.in-Marks.ensures.2;
}

pub returns-in-Trap : goal.returns-in-Trap
returns-in-Trap c =
    let makes : MakesTrap c.args.self.now c.loop-ticks.place c.advance.new.place c.in-Trap.trap = c.in-Trap.ensures in
    record {
      start_fits = c.requires.fits;
      budget_fits = c.requires.budget;
      sliced = slice-trap _ _ _ _ _ _ _ c.loop-ticks.invariant.passes c.loop-ticks-test.true makes;
      end_fits = makes.fits;
    }
