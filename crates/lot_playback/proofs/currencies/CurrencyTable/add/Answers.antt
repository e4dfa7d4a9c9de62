use Rattle.lot_playback.proofs.Lemmas.{FoundNodes, HasFound, HaveAdded, arith, false, get_or_default, length, one-added, set, slice_index, subst, sym, true, ◌+◌, ◌<◌, ◌∙◌, ◌≡◌}
use Rattle.lot_playback.proofs.TickFacts.{one-passed}
use Rattle.lot_playback.proofs.currencies.CurrencyTable.add.Goals as goal
use Rattle.lot_playback.proofs.currencies.CurrencyTable.add.Goals.{then-has, else-has}

pub loop-place-preserved : goal.loop-place-preserved
loop-place-preserved c =
    let i = c.loop-place.invariant in
    let above = c.args.self.now.above in
    let ticks = c.args.ticks in
    let place = c.loop-place.place in
    let old = c.args.self.now.ticks.items in
    let mid = c.loop-place.self.ticks.items in
    let below : place < length mid =
    omega (arith, c.loop-place-test.true, c.min-place-end.ensures, c.len.ensures, i.added.count) in
    elim c.if-has.branch [
      | then-has w ↦
          let has : HasFound above (place + 1) =
          subst (λ (a : FoundNodes). HasFound a (place + 1)) i.above (c.has.ensures.0 w.if-has.true) in
          let sum : w.index_mut.result.now + w.from.result ≡ slice_index mid place + ticks =
          omega (arith, w.index_mut.ensures.value ∙ get_or_default mid place w.index_mut.result.now 0 below, w.from.ensures) in
          rw w.self-is (record { above = i.above; dues = i.dues; added = subst (λ k. HaveAdded above ticks (place + 1) old (set mid place k)) (sym sum) (one-added above ticks old place mid i.added below has) })
      | else-has w ↦
          let lacks : ¬ HasFound above (place + 1) = λ has.
          let e : false ≡ true = sym w.if-has.false
          ∙ c.has.ensures.1 (subst (λ (a : FoundNodes). HasFound a (place + 1)) (sym i.above) has) in cc in
          rw w.self-is
          (record { above = i.above; dues = i.dues; added = one-passed above ticks old place mid i.added below lacks })
    ]
