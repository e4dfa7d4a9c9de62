use Rattle.lot_kernel.proofs.Common.{ap, rules, target_meant, target_named, ◌∙◌, ◌≡◌}
use Rattle.lot_machine.specs.declared.reference.TargetRef.TheVariants.{Named}
use Rattle.lot_kernel.proofs.tables.Tables.target_meant.Goals as goal

pub returns-in-Named-clause-meant : goal.returns-in-Named-clause-meant
returns-in-Named-clause-meant c =
    let s = c.args.self.now.state in
    let meant : c.target_named.result ≡ target_meant s (Named c.in-Named.name) = c.target_named.ensures.named
    ∙ ap (target_named s) c.new.ensures in
    search (rules, meant)
