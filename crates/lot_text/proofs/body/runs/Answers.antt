use Rattle.lot_text.proofs.Lemmas.{reading_of, runs_line-none, runs_line-odd, runs_line-pairs, runs_line-without}
use Rattle.lot_text.proofs.body.runs.Goals as goal
use Rattle.lot_text.proofs.body.runs.Goals.{then-has_len-via-then-has_len, then-has_len-via-else-has_len+then-not-has_runs, then-has_len-via-else-has_len+else-not-has_runs+then-not-are_pairs}

pub returns : goal.returns
returns c n =
    rw
    (runs_line-pairs n _ c.args.reading.now c.args.tokens c.has_len.result c.has_runs.result c.are_pairs.result
    c.reading.view_is c.has_len.ensures c.if-has_len.false c.has_runs.ensures c.if-not-has_runs.false
    c.are_pairs.ensures c.if-not-are_pairs.false) c.add_pairs.ensures

pub returns-then-has_len : goal.returns-then-has_len
returns-then-has_len c n =
    elim c.then-has_len.branch [
      | then-has_len-via-then-has_len w ↦
          runs_line-none n c.args.reading.now c.args.tokens c.has_len.result c.has_len.ensures w.if-has_len.true
      | then-has_len-via-else-has_len+then-not-has_runs w ↦
          runs_line-without n (reading_of c.reading.inside) c.args.reading.now c.args.tokens w.has_runs.result
          c.reading.view_is w.has_runs.ensures
          w.if-not-has_runs.true
      | then-has_len-via-else-has_len+else-not-has_runs+then-not-are_pairs w ↦
          runs_line-odd n c.args.reading.now c.args.tokens w.are_pairs.result w.are_pairs.ensures
          w.if-not-are_pairs.true
    ]
