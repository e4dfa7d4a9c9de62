use Rattle.lot_laws.proofs.Killed.{kill-record, kill-lists, kill-serves, kill-owns, kill-lends}
use Rattle.lot_laws.proofs.kills.killed_threads_are_nowhere.Goals as goal

pub returns-clause-record : goal.returns-clause-record
returns-clause-record c = kill-record

pub returns-clause-lists : goal.returns-clause-lists
returns-clause-lists c = kill-lists

pub returns-clause-serves : goal.returns-clause-serves
returns-clause-serves c = kill-serves

pub returns-clause-owns : goal.returns-clause-owns
returns-clause-owns c = kill-owns

pub returns-clause-lends : goal.returns-clause-lends
returns-clause-lends c = kill-lends
