use Rattle.lot_engine.proofs.Lemmas.{IsPlayed, IsWorkOf, None, ap, option_and_then, played-after, sleeper_by, slice_on, subst, sym, world_of}
use Rattle.lot_engine.proofs.system.System.next_turn.Goals as goal

pub returns-in_default-clause-played : goal.returns-in_default-clause-played
returns-in_default-clause-played c =
    let old = c.args.self.now in
    let told = c.make_turn.ensures in
    subst (IsPlayed old c.args.actor) (sym told.seen)
    (played-after old c.args.actor c.make_turn.new.event c.make_turn.new.reply told.answer)

pub returns-clause-played : goal.returns-clause-played
returns-clause-played c =
    let old = c.args.self.now in
    let told = c.run_turn.ensures in
    subst (IsPlayed old c.args.actor) (sym told.seen)
    (played-after old c.args.actor c.run_turn.new.event c.run_turn.new.reply told.answer)

pub returns-in_default-clause-sleeper : goal.returns-in_default-clause-sleeper
returns-in_default-clause-sleeper c made some =
    let none : IsWorkOf c.args.self.now c.args.actor None =
    subst (IsWorkOf c.args.self.now c.args.actor) c.in_default.is c.kept_work.ensures in
    let nobody = none some in
    sym (ap (option_and_then (λ t. sleeper_by t (slice_on (world_of c.args.self.now) c.args.actor t).trap)) nobody)
