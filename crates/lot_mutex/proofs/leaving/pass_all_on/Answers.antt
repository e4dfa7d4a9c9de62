use Rattle.lot_mutex.proofs.Lemmas.{arith, length, owner-differs, owner-same, still-counted, sym, turn-apart, turn-mine, turn-other, ◌<◌, ◌∙◌}
use Rattle.lot_mutex.proofs.leaving.pass_all_on.Goals as goal
use Rattle.lot_mutex.proofs.leaving.pass_all_on.Goals.{then-eq, else-eq}

pub pass_on-requires-clause-same : goal.pass_on-requires-clause-same
pass_on-requires-clause-same c = still-counted c.args.threads.now c.args.queues.now c.args.owner.number
    c.loop-place.place c.requires.owners c.loop-place.threads c.loop-place.queues c.loop-place.invariant c.requires.same

pub pass_on-requires-clause-apart : goal.pass_on-requires-clause-apart
pass_on-requires-clause-apart c =
    let below : c.loop-place.place < length c.args.queues.now.mutexes =
    omega (arith, c.loop-place-test.true, c.mutexes-place-end.ensures) in
    let mine = sym c.owner.ensures
    ∙ owner-same c.owner.result c.args.owner.number c.eq.result c.eq.ensures c.if-eq.true in
    turn-apart c.args.threads.now c.args.queues.now c.args.owner.number c.loop-place.place c.requires.owners
    c.loop-place.threads c.loop-place.queues c.loop-place.invariant below c.requires.nowhere mine

pub loop-place-preserved : goal.loop-place-preserved
loop-place-preserved c =
    let below : c.loop-place.place < length c.args.queues.now.mutexes =
    omega (arith, c.loop-place-test.true, c.mutexes-place-end.ensures) in
    elim c.if-eq.branch [
      | then-eq w ↦
          let mine = sym c.owner.ensures
          ∙ owner-same c.owner.result c.args.owner.number c.eq.result c.eq.ensures w.if-eq.true in
          rw (w.threads-is, w.queues-is)
          (turn-mine c.args.threads.now c.args.queues.now c.args.owner.number c.loop-place.place c.requires.owners
          c.loop-place.threads c.loop-place.queues c.loop-place.invariant below mine
          w.pass_on.new.threads w.pass_on.new.queues w.pass_on.ensures.threads w.pass_on.ensures.queues
          w.pass_on.ensures.kept w.pass_on.ensures.stale)
      | else-eq w ↦
          rw (w.threads-is, w.queues-is)
          (turn-other c.args.threads.now c.args.queues.now c.args.owner.number c.loop-place.place c.requires.owners
          c.loop-place.threads c.loop-place.queues c.loop-place.invariant below
          (λ e. owner-differs c.owner.result c.args.owner.number c.eq.result c.eq.ensures w.if-eq.false
          (c.owner.ensures ∙ e)))
    ]
