use Rattle.lot_kernel.proofs.Lemmas.{Currency, Funding, HasFound, LimitedFunding, Reaches, ap, funding_in, subst, threads-shown, ◌↔◌, ◌∙◌}
use Rattle.lot_machine.specs.declared.funding.Node.TheVariants.{Thread}
use Rattle.lot_kernel.proofs.kernel.Kernel.find_above.Goals as goal

pub returns-clause-above : goal.returns-clause-above
returns-clause-above c number =
    let same = ap (λ (w : LimitedFunding). w.funding) c.graph.ensures
    ∙ ap funding_in (threads-shown c.self-inside.inside.0.0 c.self.inside c.args.self.now c.self-inside.view_is
    c.self.view_is c.self-inside.invariant) in
    subst (λ (f : Funding). HasFound c.find.new.self number ↔ Reaches f (Currency number) (Thread c.args.thread.number))
    same (c.find.ensures.above (Currency number))
