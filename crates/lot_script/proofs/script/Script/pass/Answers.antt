use Rattle.lot_script.proofs.Passed.{stands-within, stands-done, stands-good, stands-nests, Passes-compute, Passes-set, Passes-add, Passes-loop, Passes-end}
use Rattle.lot_script.proofs.script.Script.pass.Goals as goal

pub work-requires-clause-line : goal.work-requires-clause-line
work-requires-clause-line c = stands-within _ _ _ c.requires.stands

pub work-requires-clause-left : goal.work-requires-clause-left
work-requires-clause-left c = stands-done _ _ _ (rw c.in-Compute.is at c.requires.stands)

pub set-requires : goal.set-requires
set-requires c = stands-within _ _ _ c.requires.stands

pub add-requires : goal.add-requires
add-requires c = stands-within _ _ _ c.requires.stands

pub enter-requires-clause-line : goal.enter-requires-clause-line
enter-requires-clause-line c = stands-within _ _ _ c.requires.stands

pub enter-requires-clause-times : goal.enter-requires-clause-times
enter-requires-clause-times c = stands-good _ _ _ (rw c.in-Loop.is at c.requires.stands)

pub enter-requires-clause-room : goal.enter-requires-clause-room
enter-requires-clause-room c = stands-nests _ _ _ (rw c.in-Loop.is at c.requires.stands)

pub end_copy-requires-clause-line : goal.end_copy-requires-clause-line
end_copy-requires-clause-line c = stands-within _ _ _ c.requires.stands

pub end_copy-requires-clause-open : goal.end_copy-requires-clause-open
end_copy-requires-clause-open c = stands-nests _ _ _ (rw c.in-End.is at c.requires.stands)

pub returns-in-Compute-clause-passes : goal.returns-in-Compute-clause-passes
returns-in-Compute-clause-passes c = Passes-compute _ _ _ _ _ _
    (rw c.in-Compute.is at c.requires.stands) c.work.ensures.count c.work.ensures.some c.work.ensures.all

pub returns-in-Set-clause-passes : goal.returns-in-Set-clause-passes
returns-in-Set-clause-passes c = rw c.set.ensures (Passes-set _ _ _ (rw c.in-Set.is at c.requires.stands))

pub returns-in-Add-clause-passes : goal.returns-in-Add-clause-passes
returns-in-Add-clause-passes c = rw c.add.ensures (Passes-add _ _ _ (rw c.in-Add.is at c.requires.stands))

pub returns-in-Loop-clause-passes : goal.returns-in-Loop-clause-passes
returns-in-Loop-clause-passes c = rw c.enter.ensures (Passes-loop _ _ _ (rw c.in-Loop.is at c.requires.stands))

pub returns-in-End-clause-passes : goal.returns-in-End-clause-passes
returns-in-End-clause-passes c =
    Passes-end _ _ _ (rw c.in-End.is at c.requires.stands) c.end_copy.ensures.again c.end_copy.ensures.following
