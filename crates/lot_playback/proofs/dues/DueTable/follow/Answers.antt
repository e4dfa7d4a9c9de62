use Rattle.lot_playback.proofs.Lemmas.{Answered, AreOwed, DueTable, HasPassed, HaveValues, List, Owing, Sharers, World, ap, arith, dues-changed, dues-kept, few-values, length, owed-then, parts_before, rate_in, run-sound, subst, sym, then_due, value_in, whole_in, world_of, ℕ, ◌+◌, ◌-◌, ◌<◌, ◌^◌, ◌∙◌, ◌≡◌}
use Rattle.lot_playback.proofs.dues.DueTable.follow.Goals as goal

pub pass-requires : goal.pass-requires
pass-requires c = record { few = let (sharers, first, s, done, n, room, was, answers) = c.requires.few in (sharers, first, s, done, n, room, was) }

pub returns-then-is_dispatch-clause-due : goal.returns-then-is_dispatch-clause-due
returns-then-is_dispatch-clause-due c sharers first s done n turn room at answered world answers was =
    let seen = c.args.system.now in
    let old = c.args.self.now in
    let new = c.pass.new.self in
    let rest = c.pass.ensures.rest in
    let ticks = c.args.time - old.time in
    let passed : HasPassed ticks old turn.time new = record {
      sharers_are = ap (λ (d : DueTable). d.sharers) rest;
      time = ap (λ (d : DueTable). d.time) rest ∙ sym at;
      rate = c.pass.ensures.rate;
      shared = c.pass.ensures.shared;
      count = ap (λ (d : DueTable). length d.places.items) rest;
    } in
    dues-kept sharers first s done n ticks old room (omega (arith, c.ranges.time.fits)) was (world_of seen).state turn
    c.args.event.now c.args.reply new (ap (λ k. k - old.time) at) answered (ap (λ (w : World). w.state) world)
    (run-sound seen.setting.program seen.history c.requires.bounds) passed (c.is_dispatch.ensures.0
    c.if-is_dispatch.true) answers (ap (λ (d : DueTable). d.places.items) rest) (ap (λ (d : DueTable). d.whole) rest)

-- what is due once time has passed
passed-owed : (old new : DueTable) (ticks : ℕ) (parts : ℕ → ℕ) → new.rate ≡ old.rate + rate_in old.whole ticks
    → new.places.items ≡ old.places.items → AreOwed (old.rate + rate_in old.whole ticks) parts old.places.items
    → AreOwed new.rate parts new.places.items
passed-owed old new ticks parts rate places owed =
    subst (λ (ds : List Owing). AreOwed new.rate parts ds) (sym places)
    (subst (λ k. AreOwed k parts old.places.items) (sym rate) owed)

pub revalue-requires-clause-owed : goal.revalue-requires-clause-owed
revalue-requires-clause-owed c =
    let (sharers, first, s, done, n, room, was, answers) = c.requires.few in
    let old = c.args.self.now in
    let ticks = c.args.time - old.time in
    let short : ticks < 2 ^ 32 = omega (arith, c.ranges.time.fits) in
    let parts = then_due sharers first s done n ticks old room short was in
    (parts, passed-owed old c.pass.new.self ticks parts c.pass.ensures.rate (ap (λ (d : DueTable). d.places.items) c.pass.ensures.rest) (owed-then sharers first s done n ticks old room short was))

pub revalue-requires-clause-few : goal.revalue-requires-clause-few
revalue-requires-clause-few c =
    let (sharers, first, s, done, n, room, was, answers) = c.requires.few in
    let seen = c.args.system.now in
    let rest = c.pass.ensures.rest in
    few-values sharers first s (world_of seen).state done n c.args.event.now c.args.reply c.args.self.now
    c.pass.new.self was answers (run-sound seen.setting.program seen.history c.requires.bounds)
    (ap (λ (d : DueTable). d.sharers) rest) (ap (λ (d : DueTable). d.places.items) rest)

pub returns-clause-due : goal.returns-clause-due
returns-clause-due c sharers first s done n turn room at answered world answers was =
    let seen = c.args.system.now in
    let next = (world_of seen).state in
    let old = c.args.self.now in
    let new = c.forget_new.new.self in
    let one = c.pass.ensures.rest in
    let two = c.revalue.ensures.rest in
    let three = c.forget_new.ensures.rest in
    let answer = Answered c.args.event.now c.args.reply in
    let ticks = c.args.time - old.time in
    let short : ticks < 2 ^ 32 = omega (arith, c.ranges.time.fits) in
    let parts = then_due sharers first s done n ticks old room short was in
    let before : c.pass.new.self.sharers ≡ sharers = ap (λ (d : DueTable). d.sharers) one ∙ was.sharers_are in
    let mid : c.revalue.new.self.sharers ≡ sharers = ap (λ (d : DueTable). d.sharers) two ∙ before in
    let owed = passed-owed old c.pass.new.self ticks parts c.pass.ensures.rate
    (ap (λ (d : DueTable). d.places.items) one) (owed-then sharers first s done n ticks old room short was) in
    let taken = subst (λ k. AreOwed k parts c.revalue.new.self.places.items) (sym (ap (λ (d : DueTable). d.rate) two))
    (c.revalue.ensures.owed parts owed) in
    let forgotten = subst (λ (x : Sharers). AreOwed c.revalue.new.self.rate
    (parts_before x answer parts) new.places.items) mid (c.forget_new.ensures.owed c.args.event.now parts taken) in
    let values = subst
    (λ (x : Sharers). HaveValues (value_in x next) c.revalue.new.self.places.items) before c.revalue.ensures.values in
    let threads : length c.pass.new.self.places.items ≡ length old.places.items =
    ap (λ (d : DueTable). length d.places.items) one in
    let passed : HasPassed ticks old turn.time new = record {
      sharers_are = ap (λ (d : DueTable). d.sharers) three ∙ ap (λ (d : DueTable). d.sharers) two
          ∙ ap (λ (d : DueTable). d.sharers) one;
      time = ap (λ (d : DueTable). d.time) three ∙ ap (λ (d : DueTable). d.time) two ∙ ap (λ (d : DueTable). d.time) one
          ∙ sym at;
      rate = ap (λ (d : DueTable). d.rate) three ∙ ap (λ (d : DueTable). d.rate) two ∙ c.pass.ensures.rate;
      shared = ap (λ (d : DueTable). d.shared_time) three ∙ ap (λ (d : DueTable). d.shared_time) two
          ∙ c.pass.ensures.shared;
      count = omega (arith, c.forget_new.ensures.count, c.revalue.ensures.count, threads, c.pass.new.self.places.ok.0, c.revalue.new.self.places.ok.0, new.places.ok.0);
    } in
    dues-changed sharers first s done n ticks old room short was next turn c.args.event.now c.args.reply new
    (ap (λ k. k - old.time) at) answered (ap (λ (w : World). w.state) world)
    (run-sound seen.setting.program seen.history c.requires.bounds) passed
    (ap (λ (d : DueTable). d.whole) three ∙ c.revalue.ensures.whole ∙ ap (λ (x : Sharers). whole_in x next) before)
    (c.forget_new.ensures.values (value_in sharers next) values)
    (subst (λ k. AreOwed k (parts_before sharers answer parts) new.places.items)
    (sym (ap (λ (d : DueTable). d.rate) three)) forgotten)
