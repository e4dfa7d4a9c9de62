use Rattle.lot_explain.proofs.Lemmas.{Seen, ap, arith, each-more, flat_map, length, lot_if_ready, numbers, range_with_len, ready-lots, world_of, ◌∙◌, ◌≡◌}
use Rattle.lot_explain.proofs.gathering.push_all_ready.Goals as goal

pub loop-place-preserved : goal.loop-place-preserved
loop-place-preserved c =
    let i = c.loop-place.invariant in
    let told = c.push_if_ready.ensures in
    let s = (world_of c.args.system.now).state in
    let same = ap (λ (x : Seen). (world_of x).state) i.system in
    record {
      system = told.same ∙ i.system;
      capacity = told.room ∙ i.capacity;
      few = omega (arith, told.few, i.few);
      lots = each-more lot_if_ready s (world_of c.loop-place.system).state c.loop-place.place c.loop-place.lots.items
          c.push_if_ready.new.lots.items same i.lots told.lots;
    }

pub returns-clause-lots : goal.returns-clause-lots
returns-clause-lots c =
    let s = (world_of c.args.system.now).state in
    let all : c.loop-place.place ≡ length s.records =
    omega (arith, c.loop-place-test.false, c.loop-place.auto.place-end, c.thread_count-place-end.ensures.count) in
    c.loop-place.invariant.lots ∙ ap (λ n. flat_map (lot_if_ready s) (range_with_len 1 n)) all
    ∙ ready-lots s (numbers s.records)
