use Rattle.lot_playback.proofs.Lemmas.{HasFound, IsTrue, runner-there, some-injective, stands_below, subst, sym, world_of, ◌↔◌, ◌∙◌}
use Rattle.lot_playback.proofs.currencies.CurrencyTable.look.Goals as goal

pub find_above-requires-clause-thread : goal.find_above-requires-clause-thread
find_above-requires-clause-thread c = runner-there
    (world_of c.args.system.now).state.records c.args.processor c.in-Some.work.thread c.in-Some.ensures.work.1.runs

pub returns-in-Some-clause-found : goal.returns-in-Some-clause-found
returns-in-Some-clause-found c t low on k some below =
    subst (λ u. HasFound c.find_above.new.above k ↔ IsTrue (stands_below (world_of c.args.system.now).state k u))
    (some-injective c.in-Some.work.thread t (sym c.in-Some.ensures.work.1.runs ∙ on))
    (c.find_above.ensures.above k below)
