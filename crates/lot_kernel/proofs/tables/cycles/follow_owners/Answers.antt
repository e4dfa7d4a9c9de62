use Rattle.lot_kernel.proofs.Lemmas.{DoFollow, None, ap, arith, false, follow-freed, follow-other, follow-start, followed, is_some, length, mutex_at, no-record, refl, subst, suc, sym, true, ◌+◌, ◌<◌, ◌∙◌, ◌≡◌, ◌≢◌}
use Rattle.lot_kernel.proofs.tables.cycles.follow_owners.Goals as goal
use Rattle.lot_kernel.proofs.tables.cycles.follow_owners.Goals.{then-is_none, else-is_none}

pub loop-place-init : goal.loop-place-init
loop-place-init c = follow-start c.args.threads.now c.args.queues.now.mutexes

pub apply-requires-clause-allowed : goal.apply-requires-clause-allowed
apply-requires-clause-allowed c =
    let below : c.loop-place.place < length c.args.queues.now.mutexes =
    omega (arith, c.loop-place-test.true, c.mutexes-place-end.ensures) in
    (omega arith, omega (arith, below, c.loop-place.invariant.count, c.requires.count))

pub loop-place-preserved : goal.loop-place-preserved
loop-place-preserved c =
    let start = c.args.threads.now in
    let mutexes = c.args.queues.now.mutexes in
    let place = c.loop-place.place in
    let below : place < length start.owners =
    omega (arith, c.loop-place-test.true, c.mutexes-place-end.ensures, c.requires.count) in
    let number : place + 1 ≡ suc place = omega arith in
    let owned = c.owner.ensures ∙ ap (λ n. (mutex_at mutexes n).owner) number in
    elim c.if-is_none.branch [
      | then-is_none w ↦
          let free : (mutex_at mutexes (suc place)).owner ≡ None = sym owned
          ∙ no-record c.owner.result c.owner.result refl w.if-is_none.ensures in
          rw (w.threads-is)
          (follow-freed start c.loop-place.threads mutexes place c.loop-place.invariant w.apply.new.self below free
          w.apply.ensures.applied w.apply.ensures.stale.kept w.apply.ensures.stale.reached)
      | else-is_none w ↦
          let some : (mutex_at mutexes (suc place)).owner ≢ None = λ e. let never : false ≡ true =
          sym (ap is_some (owned ∙ e)) ∙ w.if-is_none.ensures in cc in
          rw (w.threads-is) (follow-other start c.loop-place.threads mutexes place c.loop-place.invariant
          (c.requires.left (suc place) some))
    ]

pub returns-clause-threads : goal.returns-clause-threads
returns-clause-threads c =
    let start = c.args.threads.now in
    let mutexes = c.args.queues.now.mutexes in
    let all : c.loop-place.place ≡ length mutexes =
    omega (arith, c.loop-place-test.false, c.loop-place.auto.place-end, c.mutexes-place-end.ensures) in
    followed start c.loop-place.threads mutexes c.requires.count
    (subst (DoFollow start c.loop-place.threads mutexes) all c.loop-place.invariant)
