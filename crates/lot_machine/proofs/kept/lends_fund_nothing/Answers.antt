use Rattle.lot_machine.proofs.kept.lends_fund_nothing.Goals as goal

pub returns : goal.returns
returns c f lends owners there = there
