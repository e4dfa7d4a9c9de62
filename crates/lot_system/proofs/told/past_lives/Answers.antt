use Rattle.lot_system.proofs.Lemmas.{arith, length, life_change, lives-are, lives-more, timed_turns, world_of, ◌∙◌}
use Rattle.lot_system.proofs.told.past_lives.Goals as goal

pub loop-place-preserved : goal.loop-place-preserved
loop-place-preserved c =
    let i = c.loop-place.invariant in
    let s = c.args.system.now in
    let turns = timed_turns s.setting.program in
    let own =
    c.of.ensures.spans life_change turns (length s.history) (lives-are s c.args.timekeeper.now c.requires.end) in
    let more = c.with_lives-lives.ensures in
    record {
      lives = more.added
          ∙ lives-more (world_of s).state turns c.loop-place.place c.loop-place.lives c.of.result i.lives own;
      count = omega (arith, i.count, more.count);
      total = omega (arith, i.total, more.total);
    }
