use Rattle.lot_kernel.proofs.Common.{IsSound, Snapshot, order-sound, refl, subst}
use Rattle.lot_kernel.proofs.kernel.Kernel.run.Goals as goal

pub loop-i-init : goal.loop-i-init
loop-i-init c = record {
  told = refl;
  state = refl;
  lengths = c.requires;
  sound = subst (λ (k : Snapshot). IsSound k.state) c.self.view_is
      (order-sound c.self.inside.tables.state c.self.invariant);
  done = λ rest end done. done;
}
