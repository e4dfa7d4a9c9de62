use Rattle.lot_chart.proofs.Lemmas.{HasFound, IsTrue, some-injective, stands_below, subst, sym, world_of, ◌↔◌, ◌∙◌}
use Rattle.lot_playback.proofs.TickFacts.{runner-there}
use Rattle.lot_chart.proofs.gathering.search.Goals as goal

pub find_above-requires-clause-thread : goal.find_above-requires-clause-thread
find_above-requires-clause-thread c = runner-there
    (world_of c.args.system.now).state.records c.args.actor c.in-Some.work.thread c.in-Some.ensures.work.1.runs

pub returns-in-Some-clause-found : goal.returns-in-Some-clause-found
returns-in-Some-clause-found c t low on k below =
    subst (λ u. HasFound c.find_above.new.above k ↔ IsTrue (stands_below (world_of c.args.system.now).state k u))
    (some-injective c.in-Some.work.thread t (sym c.in-Some.ensures.work.1.runs ∙ on))
    (c.find_above.ensures.above k below)
