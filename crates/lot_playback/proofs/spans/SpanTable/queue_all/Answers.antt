use Rattle.lot_playback.proofs.Lemmas.{arith, beyond-stays, cases_lt, inl, inr, length, none-passed, one-passed, queued, slice_index_or, status_of, sym, world_of, ◌+◌, ◌<◌, ◌∙◌, ◌≡◌, ◌≤◌, ◌⊎◌}
use Rattle.lot_playback.proofs.spans.SpanTable.queue_all.Goals as goal

pub loop-place-init : goal.loop-place-init
loop-place-init c =
    record { waits = none-passed c.args.time (world_of c.args.system.now).state c.args.self.now.threads.items }

pub loop-place-preserved : goal.loop-place-preserved
loop-place-preserved c = record {
  waits = one-passed c.args.time (world_of c.args.system.now).state c.loop-place.place c.args.self.now.threads.items
      c.loop-place.self.threads.items c.queue_thread.new.self.threads.items
      c.loop-place.invariant.waits c.queue_thread.ensures.queued;
}

pub returns-clause-count : goal.returns-clause-count
returns-clause-count c = c.loop-place.invariant.waits.count

pub returns-clause-queued : goal.returns-clause-queued
returns-clause-queued c place d below =
    let records = (world_of c.args.system.now).state.records in
    let old = c.args.self.now.threads.items in
    let waits = c.loop-place.invariant.waits in
    elim (cases_lt place c.loop-place.place) [
      | inl passed ↦ waits.passed place d passed below
      | inr left ↦
          let past : length records ≤ place =
          omega (arith, left, below, c.loop-place-test.false, c.thread_count.ensures.count) in
          waits.left place d left below ∙ sym (beyond-stays c.args.time records place (slice_index_or old place d) past
          (c.requires.beyond place d past below))
    ]
