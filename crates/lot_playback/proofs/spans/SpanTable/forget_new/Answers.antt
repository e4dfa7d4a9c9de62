use Rattle.lot_playback.proofs.Common.{ap, if◌then◌else◌, is_number, no_spans, slice_index_or, sym, ◌+◌, ◌∙◌}
use Rattle.lot_playback.proofs.spans.SpanTable.forget_new.Goals as goal

pub returns-in-Some-clause-count : goal.returns-in-Some-clause-count
returns-in-Some-clause-count c = (c.forget.ensures 0).count

pub returns-in-Some-clause-forgets : goal.returns-in-Some-clause-forgets
returns-in-Some-clause-forgets c e place d below =
    let waits = slice_index_or c.args.self.now.threads.items place d in
    (c.forget.ensures 0).each place d below ∙ ap (λ b. if b then no_spans else waits)
    (sym (c.new_thread.ensures e (place + 1) ∙ ap (is_number (place + 1)) c.in-Some.is))
