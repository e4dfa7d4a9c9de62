-- Runs of turns of one actor.
use Rattle.lot_simulation.proofs.Common.{ActorRun, List, actors_of, arith, length, length-append, length-replicate, refl, replicate, sum_by, sum_by-cons, [], ◌++◌, ◌+◌, ◌∷◌, ◌≡◌}

-- as many actors as the runs have turns
pub length-actors_of : (runs : List ActorRun) → length (actors_of runs) ≡ sum_by (λ (run : ActorRun). run.count) runs
length-actors_of [] = refl
length-actors_of (run ∷ runs) =
    let turns : sum_by (λ (r : ActorRun). r.count) (run ∷ runs) ≡ run.count + sum_by (λ (r : ActorRun). r.count) runs =
    sum_by-cons (λ (r : ActorRun). r.count) run runs in
    let actors : length (actors_of (run ∷ runs)) ≡ length (replicate run.count run.actor ++ actors_of runs) = refl in
    omega (arith, turns, actors, length-append (replicate run.count run.actor) (actors_of runs), length-replicate run.count run.actor, length-actors_of runs)
