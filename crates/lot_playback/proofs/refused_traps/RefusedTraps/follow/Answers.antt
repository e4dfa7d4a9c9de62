use Rattle.lot_playback.proofs.Common.{Answered, HaveCounted, subst, sym}
use Rattle.lot_playback.proofs.refused_traps.RefusedTraps.follow.Goals as goal

pub returns-in-Trapped : goal.returns-in-Trapped
returns-in-Trapped c = record {
  counted = λ e. subst (λ r. HaveCounted
      (Answered e r) c.args.self.now.threads.items c.follow_trap.new.self.threads.items) (sym c.in-Trapped.is)
      (c.follow_trap.ensures.counted e c.in-Trapped.ticks c.in-Trapped.ends);
}
