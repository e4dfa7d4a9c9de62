use Rattle.lot_system_tests.proofs.tests.stations.scene.played_in.Given as goal

abbrev pub ghosts-play_in-T-Ledger : goal.ghosts-play_in-T-Ledger
ghosts-play_in-T-Ledger g a = record { name = a.turns.name; parts = a.turns.parts }

abbrev pub ghosts-play_in-T-TurnLedger : goal.ghosts-play_in-T-TurnLedger
ghosts-play_in-T-TurnLedger g a = record { setting = a.system.setting }

abbrev pub ghosts-play_in-Q-Ledger : goal.ghosts-play_in-Q-Ledger
ghosts-play_in-Q-Ledger g a = record { name = a.quanta.name; parts = a.quanta.parts }

abbrev pub ghosts-play_in-K-Ledger : goal.ghosts-play_in-K-Ledger
ghosts-play_in-K-Ledger g a = record { name = a.ticks.name; parts = a.ticks.parts }
