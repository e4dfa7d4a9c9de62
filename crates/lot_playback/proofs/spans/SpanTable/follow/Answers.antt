use Rattle.lot_playback.proofs.Common.{Anew, HaveFollowed, arith, common_steps}
use Rattle.lot_playback.proofs.spans.SpanTable.follow.Goals as goal

pub returns-in-Anew-clause-exact : goal.returns-in-Anew-clause-exact
returns-in-Anew-clause-exact c =
    let followed : HaveFollowed c.args.time (Anew c.in-Anew.thread) c.args.self.now.threads.items
    c.forget.new.self.threads.items = c.forget.ensures c.args.time in
    grind (arith, common_steps, followed.count, followed.each)

pub returns-in-Anew-clause-count : goal.returns-in-Anew-clause-count
returns-in-Anew-clause-count c =
    let followed : HaveFollowed c.args.time (Anew c.in-Anew.thread) c.args.self.now.threads.items
    c.forget.new.self.threads.items = c.forget.ensures c.args.time in
    grind (arith, common_steps, followed.count)
