use Rattle.lot_kernel_tests.proofs.tests.funding.active.Kept.is_backed.Goals as goal

pub is_backed-requires : goal.is_backed-requires
is_backed-requires g c =
    let (live, (size, kept)) = c.self.invariant in
    record { thread = (c.self.inside.graph, live, kept, c.check_thread.ensures.there) }
