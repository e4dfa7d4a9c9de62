use Rattle.lot_system_tests.proofs.tests.stations.refusing.misplaced.Given as goal

abbrev pub ghosts-misplace-T-Ledger : goal.ghosts-misplace-T-Ledger
ghosts-misplace-T-Ledger g a = record { name = a.turns.name; parts = a.turns.parts }

abbrev pub ghosts-misplace-T-TurnLedger : goal.ghosts-misplace-T-TurnLedger
ghosts-misplace-T-TurnLedger g a = record { setting = a.system.setting }

abbrev pub ghosts-misplace-Q-Ledger : goal.ghosts-misplace-Q-Ledger
ghosts-misplace-Q-Ledger g a = record { name = a.quanta.name; parts = a.quanta.parts }

abbrev pub ghosts-misplace-K-Ledger : goal.ghosts-misplace-K-Ledger
ghosts-misplace-K-Ledger g a = record { name = a.ticks.name; parts = a.ticks.parts }
