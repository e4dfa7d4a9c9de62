use Rattle.lot_system.proofs.Lemmas.{Figures, IsChangedAt, Seen, ap, figures_after, rows-left, rows-more, told_at_end, ℕ, ◌+◌, ◌∙◌, ◌≡◌}
use Rattle.lot_system.proofs.figures.add_subjects.Goals as goal

pub loop-place-preserved : goal.loop-place-preserved
loop-place-preserved c =
    let i = c.loop-place.invariant in
    let s = c.args.system.now in
    let order = c.args.order.now in
    let at = c.loop-place.place in
    let after = λ (n : ℕ) (figures : Figures). figures_after (told_at_end s order c.args.subject n) figures in
    let told : c.told_at-told.result ≡ told_at_end s order c.args.subject (at + 1) = c.told_at-told.ensures.told
    ∙ ap (λ (x : Seen). told_at_end x order c.args.subject (at + 1)) i.same in
    let added : IsChangedAt at (after (at + 1)) c.loop-place.figures.items c.add_told.new.figures.items =
    rw (← told) c.add_told.ensures in
    record {
      same = c.told_at-told.ensures.same ∙ i.same;
      count = added.count ∙ i.count;
      done = rows-more after at c.args.figures.now.items c.loop-place.figures.items c.add_told.new.figures.items added
          i.done i.others;
      others = rows-left after at c.args.figures.now.items c.loop-place.figures.items c.add_told.new.figures.items added
          i.others;
    }
