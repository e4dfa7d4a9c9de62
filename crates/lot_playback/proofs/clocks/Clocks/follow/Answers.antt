use Rattle.lot_playback.proofs.Lemmas.{Clock, HaveIdled, all-set, ap, arith, clock-idled, clock_of, idled-longer, subst, sym, ◌+◌, ◌≡◌}
use Rattle.lot_playback.proofs.clocks.Clocks.follow.Goals as goal
use Rattle.lot_playback.proofs.clocks.Clocks.follow.Goals.{then-not-waits-2, else-not-waits-2}

pub returns-clause-idled : goal.returns-clause-idled
returns-clause-idled c n idled =
    let xs = c.args.self.now.processors.items in
    let own = clock-idled n c.args.actor xs (omega arith) (omega (arith, c.args.self.now.processors.ok.0)) idled in
    let same : c.clock-idle.result.idle ≡ (clock_of xs c.args.actor).idle =
    ap (λ (k : Clock). k.idle) c.clock-idle.ensures in
    let others : HaveIdled (n + 1) c.if-not-waits-2.self.processors.items =
    elim c.if-not-waits-2.branch [
      | then-not-waits-2 w ↦ subst (λ s. HaveIdled (n + 1) s.processors.items) (sym w.self-is)
          (w.wake-then-not-waits-2.ensures.idled n idled)
      | else-not-waits-2 w ↦ subst (λ s. HaveIdled (n + 1) s.processors.items) (sym w.self-is) (idled-longer n xs idled)
    ] in
    all-set (n + 1) _ _ c.if-not-waits-2.self.processors.items (omega (arith, own, same)) others
