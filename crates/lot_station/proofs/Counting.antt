-- The number of an actor's turns in a history.
use Rattle.lot_station.proofs.Common.{ActorTurn, List, Program, Seen, World, ap, beside, cond, count_by, length, length-filter, opening_world, refl, sum_by-cons, sym, system_answers, system_turn, times_in, turns_in, turns_of, ℕ, [], ◌+◌, ◌==◌, ◌∙◌, ◌∷◌, ◌≡◌}

-- an actor has as many turns as it stands among the actors
count-beside : (program : Program) (actor : ℕ) (w : World) (actors : List ℕ) → count_by (λ turn. turn.actor == actor)
    (beside actors (system_answers program w actors)) ≡ count_by (λ a. a == actor) actors
count-beside program actor w [] = refl
count-beside program actor w (a ∷ actors) =
    let made : ActorTurn = record { actor = a; answer = (system_turn program w a).answer } in
    let following = beside actors (system_answers program (system_turn program w a).world actors) in
    sum_by-cons (λ (turn : ActorTurn). cond (turn.actor == actor) 1 0) made following
    ∙ ap (λ n. cond (a == actor) 1 0 + n) (count-beside program actor (system_turn program w a).world actors)
    ∙ sym (sum_by-cons (λ x. cond (x == actor) 1 0) a actors)

pub length-turns_of : (x : Seen) (actor : ℕ) → length (turns_of actor (turns_in x)) ≡ times_in x actor
length-turns_of x actor =
    length-filter (λ (turn : ActorTurn). turn.actor == actor) (turns_in x)
    ∙ count-beside x.setting.program actor (opening_world x.setting.program) x.history
