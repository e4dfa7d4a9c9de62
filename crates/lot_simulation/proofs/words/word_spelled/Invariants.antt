-- the rest of the table has the same row for the token as the whole
use Rattle.lot_simulation.proofs.Common.{length, map, word_in, ◌≡◌}
use Rattle.lot_simulation.specs.Words.{words_for}
use Rattle.lot_simulation.proofs.words.word_spelled.Given as goal

abbrev pub invariant-loop-table : goal.invariant-loop-table
invariant-loop-table g l =
    word_in (words_for l.is_timed (map (λ row. (row.0.now, row.1, row.2)) l.table)) l.token
    ≡ word_in (words_for l.is_timed (map (λ row. (row.0.now, row.1, row.2)) l.initial.table)) l.token

abbrev pub decreases-loop-table : goal.decreases-loop-table
decreases-loop-table g l = length l.table
