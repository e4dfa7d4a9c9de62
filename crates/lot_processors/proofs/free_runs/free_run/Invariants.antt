-- The ledgers are those of the blanks, and of the system.
use Rattle.lot_processors.proofs.free_runs.free_run.Given as goal

abbrev pub ghosts-run_system-T-Ledger : goal.ghosts-run_system-T-Ledger
ghosts-run_system-T-Ledger g a = record { name = a.turns.name; parts = a.turns.parts }

abbrev pub ghosts-run_system-T-TurnLedger : goal.ghosts-run_system-T-TurnLedger
ghosts-run_system-T-TurnLedger g a = record { setting = a.system.setting }

abbrev pub ghosts-run_system-Q-Ledger : goal.ghosts-run_system-Q-Ledger
ghosts-run_system-Q-Ledger g a = record { name = a.quanta.name; parts = a.quanta.parts }

abbrev pub ghosts-run_system-K-Ledger : goal.ghosts-run_system-K-Ledger
ghosts-run_system-K-Ledger g a = record { name = a.ticks.name; parts = a.ticks.parts }
