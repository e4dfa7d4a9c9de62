use Rattle.lot_kernel.proofs.Common.{ap, rules, thread_meant, thread_named, ◌∙◌, ◌≡◌}
use Rattle.lot_machine.specs.declared.reference.ThreadRef.TheVariants.{Named}
use Rattle.lot_kernel.proofs.tables.Tables.thread_meant.Goals as goal

pub returns-in-Named : goal.returns-in-Named
returns-in-Named c =
    let s = c.args.self.now.state in
    let meant : c.thread_named.result ≡ thread_meant s (Named c.in-Named.name) = c.thread_named.ensures.named
    ∙ ap (thread_named s) c.new.ensures in
    search (rules, meant)
