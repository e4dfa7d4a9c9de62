-- The turns of each worker, and then the first fault.
use Rattle.lot_processors.proofs.Lemmas.{EachSeat, HasWorked, Seat, all_made, arith, first_stops, refl, subst}
use Rattle.lot_processors.proofs.baton_workers.run_all_baton.Goals as goal

pub returns-in-None-clause-ok : goal.returns-in-None-clause-ok
returns-in-None-clause-ok g c =
    let each : EachSeat c.args.seats.now c.for_each_mut.new.s (λ k s t. HasWorked c.args.program.now s t) = λ k d low.
    let x = (c.for_each_mut.ensures k d low).1 in
    subst (λ (y : Seat × Seat). HasWorked c.args.program.now y.0 y.1) (λ i. (x.argument_is i, x.left i)) x.call in
    let none = c.in-None.ensures.none refl in
    all_made c.args.program.now c.args.seats.now c.for_each_mut.new.s c.first_fault.new.seats each none.0
    (λ k d low. none.1 k d (omega (arith, low, c.for_each_mut.auto.s)))

pub returns-in-Some-clause-err : goal.returns-in-Some-clause-err
returns-in-Some-clause-err g c =
    let each : EachSeat c.args.seats.now c.for_each_mut.new.s (λ k s t. HasWorked c.args.program.now s t) = λ k d low.
    let x = (c.for_each_mut.ensures k d low).1 in
    subst (λ (y : Seat × Seat). HasWorked c.args.program.now y.0 y.1) (λ i. (x.argument_is i, x.left i)) x.call in
    first_stops c.args.program.now c.args.seats.now c.for_each_mut.new.s c.first_fault.new.seats each c.in-Some.fault
    c.in-Some.ensures.some c.for_each_mut.auto.s
