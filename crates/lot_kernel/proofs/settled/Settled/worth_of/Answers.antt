use Rattle.lot_kernel.proofs.Lemmas.{Threaded, ap, threads-shown, worth_in, ◌∙◌}
use Rattle.lot_kernel.proofs.settled.Settled.worth_of.Goals as goal

pub returns : goal.returns
returns c =
    let held = threads-shown c.kernel-inside.inside.0.0 c.kernel.inside c.args.self.now.kernel.now
    c.kernel-inside.view_is c.kernel.view_is c.kernel-inside.invariant in
    c.worth_of.ensures ∙ ap (λ (v : Threaded). worth_in v c.args.thread.number) held
