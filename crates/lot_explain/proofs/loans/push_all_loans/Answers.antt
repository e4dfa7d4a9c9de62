use Rattle.lot_explain.proofs.Lemmas.{ap, arith, each-more, flat_map, length, loan_of, range_with_len, refl, world_of, ◌∙◌, ◌≡◌}
use Rattle.lot_explain.proofs.loans.push_all_loans.Goals as goal

pub loop-place-preserved : goal.loop-place-preserved
loop-place-preserved c =
    let i = c.loop-place.invariant in
    let told = c.push_if_lends.ensures in
    let s = c.settle-settled.result.kernel.now.state in
    record {
      capacity = told.room ∙ i.capacity;
      few = omega (arith, told.few, i.few);
      loans = each-more loan_of s s c.loop-place.place c.loop-place.loans.items c.push_if_lends.new.loans.items refl
          i.loans told.loans;
    }

pub returns-clause-loans : goal.returns-clause-loans
returns-clause-loans c =
    let s = (world_of c.args.system.now).state in
    let all : c.loop-place.place ≡ length s.records =
    omega (arith, c.loop-place-test.false, c.loop-place.auto.place-end, c.thread_count-threads.ensures.count) in
    (rw c.settle-settled.ensures.state at c.loop-place.invariant.loans)
    ∙ ap (λ n. flat_map (loan_of s) (range_with_len 1 n)) all
