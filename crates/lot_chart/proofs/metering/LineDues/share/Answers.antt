use Rattle.lot_chart.proofs.Lemmas.{AreDues, Curves, Dues, Gauge, LineDues, List, Standing, ap, arith, cond, due_share, eq-eqb, get_or, grown_at, grown_in, last_end, length, line_parts, ne_eqb, sample_count, sample_tick, subst, sum_by, sums-same, sym, tick_parts, ℕ, ◌*◌, ◌-◌, ◌<◌, ◌∙◌, ◌≡◌, ◌≤◌}
use Rattle.lot_chart.proofs.metering.LineDues.share.Goals.{then-thread-eq0, else-thread-eq0}
use Rattle.lot_chart.proofs.metering.LineDues.share.Goals as goal

none : Standing
none = record { thread = 0; ticks = 0 }

module _ (curves : Curves) (dues : Dues) (shown : List Standing) (read : LineDues)
    (are : AreDues curves dues shown read) (sample : ℕ)
    (within : sample ≤ sample_count (last_end curves.stretches)) where
  there : (place : ℕ) (d : Gauge) → place < length read.threads.items
      → (sample < length (get_or read.threads.items place d).starts.items)
      × (sample < length (get_or read.threads.items place d).ends.items)
  there place d below =
      let is = are.each place d none (omega (arith, below, are.count)) in
      (omega (arith, within, is.starts), omega (arith, within, is.ends))

  -- what the others are due
  left-is : (parts : ℕ)
      → parts ≡ grown_in read.live sample * tick_parts - sum_by (λ gauge. grown_in gauge sample) read.threads.items
      → parts ≡ grown_at curves dues.live (sample_tick (last_end curves.stretches) sample) * tick_parts
      - sum_by (λ s. grown_at curves (dues.parts s.thread) (sample_tick (last_end curves.stretches) sample)) shown
  left-is parts is =
      let all = sums-same (λ gauge. grown_in gauge sample)
      (λ s. grown_at curves (dues.parts s.thread) (sample_tick (last_end curves.stretches) sample)) read.threads.items
      shown are.count (λ place d e below. (are.each place d e below).exact sample within) in
      is ∙ (λ i. are.live.exact sample within i * tick_parts - all i)

pub left_in-parts-requires-clause-each : goal.left_in-parts-requires-clause-each
left_in-parts-requires-clause-each c =
    let (curves, dues, shown, are, line, within) = c.requires.due in
    there curves dues shown c.args.self.now are c.args.sample within

pub grown_in-parts-requires-clause-starts : goal.grown_in-parts-requires-clause-starts
grown_in-parts-requires-clause-starts c =
    let (curves, dues, shown, are, line, within) = c.requires.due in
    subst (λ (g : Gauge). c.args.sample < length g.starts.items) (sym c.index.ensures) (there curves dues shown
    c.args.self.now are c.args.sample within c.args.place c.index.result.now (omega (arith, line.there, are.count))).0

pub grown_in-parts-requires-clause-ends : goal.grown_in-parts-requires-clause-ends
grown_in-parts-requires-clause-ends c =
    let (curves, dues, shown, are, line, within) = c.requires.due in
    subst (λ (g : Gauge). c.args.sample < length g.ends.items) (sym c.index.ensures) (there curves dues shown
    c.args.self.now are c.args.sample within c.args.place c.index.result.now (omega (arith, line.there, are.count))).1

pub returns-clause-share : goal.returns-clause-share
returns-clause-share c curves dues shown are line within =
    let sample = c.args.sample in
    let tick = sample_tick (last_end curves.stretches) sample in
    let live : c.grown_in-live.result ≡ grown_at curves dues.live tick = c.grown_in-live.ensures
    ∙ are.live.exact sample within in
    let others =
    grown_at curves dues.live tick * tick_parts - sum_by (λ s. grown_at curves (dues.parts s.thread) tick) shown in
    let own = grown_at curves (dues.parts c.args.thread) tick in
    let parts : c.if-thread-eq0.parts ≡ line_parts curves dues shown c.args.thread tick =
    elim c.if-thread-eq0.branch [
      | then-thread-eq0 w ↦ w.parts-is ∙ left-is curves dues shown c.args.self.now are sample within
          w.left_in-parts.result w.left_in-parts.ensures.left
          ∙ sym (ap (λ b. cond b others own) (eq-eqb c.args.thread 0 w.if-thread-eq0.true))
      | else-thread-eq0 w ↦ w.parts-is ∙ w.grown_in-parts.ensures
          ∙ ap (λ (g : Gauge). grown_in g sample) w.index.ensures
          ∙ (are.each c.args.place w.index.result.now none line.there).exact sample within
          ∙ ap (λ t. grown_at curves (dues.parts t) tick) (sym (line.same none))
          ∙ sym (ap (λ b. cond b others own) (ne_eqb c.args.thread 0 w.if-thread-eq0.false))
    ] in
    c.due_share.ensures.exact ∙ (λ i. due_share (live i) (parts i))
