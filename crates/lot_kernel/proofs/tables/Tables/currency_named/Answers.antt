use Rattle.lot_kernel.proofs.Common.{named-there, rules}
use Rattle.lot_kernel.proofs.tables.Tables.currency_named.Goals as goal

pub returns-in-Some-clause-there : goal.returns-in-Some-clause-there
returns-in-Some-clause-there c =
    let i = c.self.inside in
    rw (← c.self.view_is) (named-there c.args.name.now i.currencies.items c.in-Some.place (search rules))
