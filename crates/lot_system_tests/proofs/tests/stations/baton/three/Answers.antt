use Rattle.std.proofs.Common.{rules}
use Rattle.lot_system_tests.proofs.Seats.{removed}
use Rattle.lot_system_tests.proofs.tests.stations.baton.three.Goals as goal

pub returns : goal.returns
returns c =
    let a = removed _ _ c.remove-zero.new.self.items _ c.requires
    (search rules) c.remove-zero.ensures.value c.remove-zero.ensures.items in
    let b = removed _ _ c.remove-one.new.self.items _ a.1
    (search rules) c.remove-one.ensures.value c.remove-one.ensures.items in
    let d = removed _ _ c.remove-two.new.self.items _ b.1
    (search rules) c.remove-two.ensures.value c.remove-two.ensures.items in
    (a.0, b.0, d.0)
