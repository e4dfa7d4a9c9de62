use Rattle.lot_kernel.proofs.Common.{Snapshot, ap, if◌then◌else◌, sym, value_of, ◌∙◌}
use Rattle.lot_kernel.proofs.kernel.Kernel.live_value.Goals as goal

pub returns-then-is_live-clause-value : goal.returns-then-is_live-clause-value
returns-then-is_live-clause-value c =
    let s = c.args.self.now.state in
    let t = c.args.thread.number in
    c.worth_of.ensures ∙ ap (λ (k : Snapshot). value_of k.state t) c.settle.ensures.settled
    ∙ ap (λ b. if b then value_of s t else 0) (sym c.if-is_live.true ∙ c.is_live.ensures.live)
