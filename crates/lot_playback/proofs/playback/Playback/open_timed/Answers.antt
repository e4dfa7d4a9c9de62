use Rattle.lot_playback.proofs.Lemmas.{IsFollowed, IsSome, Seen, ap, opened-followed, subst, sym}
use Rattle.lot_playback.proofs.playback.Playback.open_timed.Goals as goal

pub invariant_of-result : goal.invariant_of-result
invariant_of-result c =
    let program = c.args.program.now in
    let timekeeper = c.in_ok-timekeeper.timekeeper in
    let opened = c.in_ok-timekeeper.ensures in
    let system = sym c.in_ok-system.ensures in
    record {
      timed = subst (λ (s : Seen). IsSome s.setting.program.duration) system c.requires;
      followed = subst (λ (s : Seen). IsFollowed s.setting.program s timekeeper) system
          (opened-followed program c.in_ok-system.system timekeeper opened.legal.limits (opened.legal.time_count
          c.requires) (ap (λ (s : Seen). s.setting.program) c.in_ok-system.ensures) opened.opened);
    }
