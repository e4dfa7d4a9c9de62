use Rattle.lot_kernel.proofs.Lemmas.{Sizes, ap, thread-row-of, weight, ◌∙◌}
use Rattle.lot_kernel.proofs.settled.Settled.row_of_thread.Goals as goal

pub returns : goal.returns
returns c =
    let weighs = c.weight.ensures.weight
    ∙ ap (λ (sizes : Sizes). weight c.worth_of-value.result c.args.found.compensation sizes.quantum) c.limits.ensures in
    thread-row-of c.args.self.now.kernel.now.state c.args.thread.number c.args.found c.args.name c.worth_of-value.result
    c.weight.result c.requires.found c.requires.name c.worth_of-value.ensures weighs
