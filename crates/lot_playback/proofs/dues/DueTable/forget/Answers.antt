use Rattle.lot_playback.proofs.Lemmas.{arith, forget-none, forget-one, forget-value, ◌-◌}
use Rattle.lot_playback.proofs.dues.DueTable.forget.Goals as goal
use Rattle.lot_playback.proofs.dues.DueTable.forget.Goals.{then-number-eq0-via-then-number-eq0, then-number-eq0-via-else-number-eq0+then-len-number}

pub returns-then-number-eq0-clause-owed : goal.returns-then-number-eq0-clause-owed
returns-then-number-eq0-clause-owed c parts owed =
    forget-none c.args.self.now.rate c.args.number parts c.args.self.now.places.items owed (λ place below same.
    elim c.then-number-eq0.branch [
      | then-number-eq0-via-then-number-eq0 w ↦ omega (arith, w.if-number-eq0.true, same)
      | then-number-eq0-via-else-number-eq0+then-len-number w ↦
          omega (arith, w.if-len-number.true, w.len.ensures, same, below)
    ])

pub returns-clause-owed : goal.returns-clause-owed
returns-clause-owed c parts owed = forget-one c.args.self.now.rate c.args.number parts c.args.self.now.places.items owed
    c.index.result.now.value (omega (arith, c.if-number-eq0.false))

pub returns-clause-values : goal.returns-clause-values
returns-clause-values c values have =
    forget-value (c.args.number - 1) c.args.self.now.rate values c.args.self.now.places.items c.index.result.now
    (omega (arith, c.if-number-eq0.false, c.if-len-number.false, c.len.ensures)) c.index.ensures have
