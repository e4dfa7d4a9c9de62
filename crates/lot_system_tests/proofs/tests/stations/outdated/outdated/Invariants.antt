use Rattle.lot_system_tests.proofs.tests.stations.outdated.outdated.Given as goal

abbrev pub ghosts-outdated_in-T-Ledger : goal.ghosts-outdated_in-T-Ledger
ghosts-outdated_in-T-Ledger g a = record { name = a.turns.name; parts = a.turns.parts }

abbrev pub ghosts-outdated_in-T-TurnLedger : goal.ghosts-outdated_in-T-TurnLedger
ghosts-outdated_in-T-TurnLedger g a = record { setting = a.system.setting }

abbrev pub ghosts-outdated_in-Q-Ledger : goal.ghosts-outdated_in-Q-Ledger
ghosts-outdated_in-Q-Ledger g a = record { name = a.quanta.name; parts = a.quanta.parts }

abbrev pub ghosts-outdated_in-K-Ledger : goal.ghosts-outdated_in-K-Ledger
ghosts-outdated_in-K-Ledger g a = record { name = a.ticks.name; parts = a.ticks.parts }
