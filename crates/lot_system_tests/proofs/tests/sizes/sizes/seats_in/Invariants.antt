use Rattle.lot_system_tests.proofs.tests.sizes.sizes.seats_in.Given as goal

abbrev pub ghosts-seats_of-T-Ledger : goal.ghosts-seats_of-T-Ledger
ghosts-seats_of-T-Ledger a = record { name = a.turns.name; parts = a.turns.parts }

abbrev pub ghosts-seats_of-T-TurnLedger : goal.ghosts-seats_of-T-TurnLedger
ghosts-seats_of-T-TurnLedger a = record { setting = a.system.setting }

abbrev pub ghosts-seats_of-Q-Ledger : goal.ghosts-seats_of-Q-Ledger
ghosts-seats_of-Q-Ledger a = record { name = a.quanta.name; parts = a.quanta.parts }

abbrev pub ghosts-seats_of-K-Ledger : goal.ghosts-seats_of-K-Ledger
ghosts-seats_of-K-Ledger a = record { name = a.ticks.name; parts = a.ticks.parts }
