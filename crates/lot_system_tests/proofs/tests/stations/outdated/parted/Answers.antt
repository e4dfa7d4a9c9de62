use Rattle.std.proofs.Common.{rules}
use Rattle.lot_system_tests.proofs.Seats.{removed}
use Rattle.lot_system_tests.proofs.tests.stations.outdated.parted.Goals as goal

pub returns : goal.returns
returns c = removed _ _ c.remove-console.new.self.items _ c.requires
    (search rules) c.remove-console.ensures.value c.remove-console.ensures.items
