use Rattle.lot_system_tests.proofs.tests.stations.full.worked.Given as goal

abbrev pub ghosts-work-T-Ledger : goal.ghosts-work-T-Ledger
ghosts-work-T-Ledger g a = record { name = a.turns.name; parts = a.turns.parts }

abbrev pub ghosts-work-T-TurnLedger : goal.ghosts-work-T-TurnLedger
ghosts-work-T-TurnLedger g a = record { setting = a.system.setting }

abbrev pub ghosts-work-Q-Ledger : goal.ghosts-work-Q-Ledger
ghosts-work-Q-Ledger g a = record { name = a.quanta.name; parts = a.quanta.parts }

abbrev pub ghosts-work-K-Ledger : goal.ghosts-work-K-Ledger
ghosts-work-K-Ledger g a = record { name = a.ticks.name; parts = a.ticks.parts }
