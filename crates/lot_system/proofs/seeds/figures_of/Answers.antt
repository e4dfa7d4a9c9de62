use Rattle.lot_system.proofs.seeds.figures_of.Goals as goal

pub play_each-requires : goal.play_each-requires
play_each-requires c = c.in_ok-all.ensures

pub returns-clause-figures : goal.returns-clause-figures
returns-clause-figures c = c.in_ok-play_each.ensures.figures

pub returns-clause-stopped : goal.returns-clause-stopped
returns-clause-stopped c = c.in_ok-play_each.ensures.stopped
