use Rattle.lot_kernel.proofs.Common.{Named, ap, currency_meant, currency_named, rules, ◌∙◌, ◌≡◌}
use Rattle.lot_kernel.proofs.tables.Tables.currency_meant.Goals as goal

pub returns-in-Named-clause-meant : goal.returns-in-Named-clause-meant
returns-in-Named-clause-meant c =
    let s = c.args.self.now.state in
    let meant : c.currency_named.result ≡ currency_meant s (Named c.in-Named.name) = c.currency_named.ensures.named
    ∙ ap (currency_named s) c.new.ensures in
    search (rules, meant)
