use Rattle.lot_kernel.proofs.Lemmas.{AreFreed, Bool, Threaded, ap, arith, freed-mine, freed-other, funding_in, holders-next, holders_from, lends_lead, length, mutex_at, option_any, range_with_len, subst, sym, unserved, ℕ, ◌+◌, ◌-◌, ◌<◌, ◌∙◌, ◌≡◌}
use Rattle.lot_kernel.proofs.tables.cycles.free_leading.Goals as goal
use Rattle.lot_kernel.proofs.tables.cycles.free_leading.Goals.{then-does_lead, else-does_lead}

pub loop-place-preserved : goal.loop-place-preserved
loop-place-preserved c =
    let start = c.args.queues.now in
    let now = c.loop-place.queues in
    let first = c.args.first in
    let place = c.loop-place.place in
    let count = length start.mutexes in
    let test : ℕ → Bool = λ u. lends_lead (funding_in c.args.threads.now) u c.args.thread.number in
    let end = unserved test start.mutexes (range_with_len (first + 1) (count - first)) in
    let below : place < count = omega (arith, c.loop-place-test.true, c.mutexes-place-end.ensures) in
    let above : first < place + 1 = omega (arith, c.loop-place.invariant.from) in
    let so_far =
    subst (λ ns. AreFreed test start now first end ns) (holders-next count place below) c.loop-place.invariant.freed in
    let tested : option_any test (mutex_at now.mutexes (place + 1)).owner ≡ c.does_lead.result =
    ap (option_any test) (sym c.owner-owner.ensures) ∙ sym (c.does_lead.ensures.leads ∙ ap (λ (v : Threaded). option_any
    (λ u. lends_lead (funding_in v) u c.args.thread.number) c.owner-owner.result) c.loop-place.invariant.threads) in
    elim c.if-does_lead.branch [
      | then-does_lead w ↦
          rw (w.queues-is)
          (record {
            freed = freed-mine test start now first end (place + 1) (holders_from count (place + 1)) so_far
                w.set_owner.new.self above (tested ∙ w.if-does_lead.true) w.set_owner.ensures;
            threads = c.does_lead.ensures.unchanged ∙ c.loop-place.invariant.threads;
            from = omega (arith, above);
          })
      | else-does_lead w ↦
          rw (w.queues-is)
          (record {
            freed = freed-other test start now first end (place + 1) (holders_from count (place + 1)) so_far
                (tested ∙ w.if-does_lead.false);
            threads = c.does_lead.ensures.unchanged ∙ c.loop-place.invariant.threads;
            from = omega (arith, above);
          })
    ]
