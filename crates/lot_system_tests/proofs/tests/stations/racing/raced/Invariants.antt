use Rattle.lot_system_tests.proofs.tests.stations.racing.raced.Given as goal

abbrev pub ghosts-race_in-T-Ledger : goal.ghosts-race_in-T-Ledger
ghosts-race_in-T-Ledger g a = record { name = a.turns.name; parts = a.turns.parts }

abbrev pub ghosts-race_in-T-TurnLedger : goal.ghosts-race_in-T-TurnLedger
ghosts-race_in-T-TurnLedger g a = record { setting = a.system.setting }

abbrev pub ghosts-race_in-Q-Ledger : goal.ghosts-race_in-Q-Ledger
ghosts-race_in-Q-Ledger g a = record { name = a.quanta.name; parts = a.quanta.parts }

abbrev pub ghosts-race_in-K-Ledger : goal.ghosts-race_in-K-Ledger
ghosts-race_in-K-Ledger g a = record { name = a.ticks.name; parts = a.ticks.parts }
