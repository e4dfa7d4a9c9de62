-- The counts with one turn more.
use Rattle.lot_engine.proofs.Common.{ActorTurn, Answered, AreCounts, Bool, Counts, Event, IsCount, IsSmall, List, Program, Reply, TurnAnswer, World, ap, arith, beside, cond, count_in, counted, counted_with, eq-eqb, false, idles_in, length, length-append, ne_eqb, opening_world, quanta_in, refl, subst, sum_by_push, sym, system_after, system_answers, system_run, system_turn, ticks_in, true, turns_made, turns_of, ℕ, [], ◌++◌, ◌+◌, ◌==◌, ◌∙◌, ◌∷◌, ◌≡◌, ◌≢◌, ◌≤◌}

-- ---- turns made

turns-one_more : (program : Program) (w : World) (actors : List ℕ) (actor : ℕ)
    → beside (actors ++ actor ∷ []) (system_answers program w (actors ++ actor ∷ []))
    ≡ beside actors (system_answers program w actors)
    ++ record { actor = actor; answer = (system_turn program (system_after program w actors) actor).answer } ∷ []
turns-one_more program w [] actor = refl
turns-one_more program w (a ∷ actors) actor = ap (λ ts. record { actor = a; answer = (system_turn program w a).answer }
    ∷ ts) (turns-one_more program (system_turn program w a).world actors actor)

pub turns_made-one_more : (program : Program) (history : List ℕ) (actor : ℕ)
    → turns_made program (history ++ actor ∷ []) ≡ turns_made program history
    ++ record { actor = actor; answer = (system_turn program (system_run program history) actor).answer } ∷ []
turns_made-one_more program history actor = turns-one_more program (opening_world program) history actor

-- ---- the turns of one actor

pub turns_of-own : (actor : ℕ) (turns : List ActorTurn) (turn : ActorTurn) → turn.actor ≡ actor
    → turns_of actor (turns ++ turn ∷ []) ≡ turns_of actor turns ++ turn ∷ []
turns_of-own actor [] turn same = rw (eq-eqb turn.actor actor same) refl
turns_of-own actor (t ∷ ts) turn same = at (t.actor == actor) (turns_of-own actor ts turn same)
  where
    at : (b : Bool) → turns_of actor (ts ++ turn ∷ []) ≡ turns_of actor ts ++ turn ∷ []
        → cond b (t ∷ turns_of actor (ts ++ turn ∷ []))
        (turns_of actor (ts ++ turn ∷ [])) ≡ cond b (t ∷ turns_of actor ts) (turns_of actor ts) ++ turn ∷ []
    at true more = ap (λ us. t ∷ us) more
    at false more = more

pub turns_of-other : (actor : ℕ) (turns : List ActorTurn) (turn : ActorTurn) → turn.actor ≢ actor
    → turns_of actor (turns ++ turn ∷ []) ≡ turns_of actor turns
turns_of-other actor [] turn differs = rw (ne_eqb turn.actor actor differs) refl
turns_of-other actor (t ∷ ts) turn differs = at (t.actor == actor) (turns_of-other actor ts turn differs)
  where
    at : (b : Bool) → turns_of actor (ts ++ turn ∷ []) ≡ turns_of actor ts
        → cond b (t ∷ turns_of actor (ts ++ turn ∷ []))
        (turns_of actor (ts ++ turn ∷ [])) ≡ cond b (t ∷ turns_of actor ts) (turns_of actor ts)
    at true more = ap (λ us. t ∷ us) more
    at false more = more

-- ---- what is counted in them

module _ (turns : List ActorTurn) (actor : ℕ) (e : Event) (r : Reply) where
  pub counted-push : (c : Counts) → c ≡ counted turns
      → counted_with c r ≡ counted (turns ++ record { actor = actor; answer = Answered e r } ∷ [])
  counted-push c is =
      let longer = length-append turns (record { actor = actor; answer = Answered e r } ∷ []) in
      let quanta =
      sum_by_push (λ t. count_in quanta_in t.answer) turns (record { actor = actor; answer = Answered e r }) in
      let idles =
      sum_by_push (λ t. count_in idles_in t.answer) turns (record { actor = actor; answer = Answered e r }) in
      let ticks =
      sum_by_push (λ t. count_in ticks_in t.answer) turns (record { actor = actor; answer = Answered e r }) in
      rw is (λ i. record { turns = sym longer i; quanta = sym quanta i; idles = sym idles i; ticks = sym ticks i })

-- a turn of an actor without counters leaves those of the others
pub each-other : (turns : List ActorTurn) (n : ℕ) (counts : List Counts) (turn : ActorTurn) → length counts ≤ turn.actor
    → AreCounts turns n counts → AreCounts (turns ++ turn ∷ []) (n + 1) counts
each-other turns n counts turn past are actor d below =
    let now = are actor d below in
    let apart : turn.actor ≢ actor = λ same. omega (arith, past, below, same) in
    record {
      exact = now.exact ∙ ap counted (sym (turns_of-other actor turns turn apart));
      small = record { turns = omega (arith, now.small.turns); quanta = omega (arith, now.small.quanta); idles = omega (arith, now.small.idles); ticks = omega (arith, now.small.ticks) };
    }

-- ---- one turn more, as callers of `turn` know it: the sums of all turns, and those of each actor

module _ (program : Program) (history : List ℕ) (actor : ℕ) (e : Event) (r : Reply)
    (is : (system_turn program (system_run program history) actor).answer ≡ Answered e r) where
  pub turns_made-answered : turns_made program (history ++ actor ∷ []) ≡ turns_made program history
      ++ record { actor = actor; answer = Answered e r } ∷ []
  turns_made-answered =
      turns_made-one_more program history actor
      ∙ ap (λ (a : TurnAnswer). turns_made program history ++ record { actor = actor; answer = a } ∷ []) is

  -- all turns
  pub counted-one_more : counted (turns_made program (history ++ actor ∷ []))
      ≡ counted_with (counted (turns_made program history)) r
  counted-one_more = ap counted turns_made-answered
      ∙ sym (counted-push (turns_made program history) actor e r (counted (turns_made program history)) refl)

  -- those of the actor that had the turn
  pub counted-own_more : counted (turns_of actor (turns_made program (history ++ actor ∷ [])))
      ≡ counted_with (counted (turns_of actor (turns_made program history))) r
  counted-own_more =
      ap (λ ts. counted (turns_of actor ts)) turns_made-answered ∙ ap counted
      (turns_of-own actor (turns_made program history) (record { actor = actor; answer = Answered e r }) refl)
      ∙ sym (counted-push (turns_of actor (turns_made program history)) actor e r
      (counted (turns_of actor (turns_made program history))) refl)

  -- those of another actor stay
  pub counted-other : (other : ℕ) → actor ≢ other
      → counted (turns_of other (turns_made program (history ++ actor ∷ [])))
      ≡ counted (turns_of other (turns_made program history))
  counted-other other differs =
      ap (λ ts. counted (turns_of other ts)) turns_made-answered ∙ ap counted
      (turns_of-other other (turns_made program history) (record { actor = actor; answer = Answered e r }) differs)

-- ---- after a turn

module _ (program : Program) (history : List ℕ) (actor : ℕ) (e : Event) (r : Reply)
    (is : (system_turn program (system_run program history) actor).answer ≡ Answered e r) where
  turns-now : turns_made program (history ++ actor ∷ []) ≡ turns_made program history
      ++ record { actor = actor; answer = Answered e r } ∷ []
  turns-now = turns_made-answered program history actor e r is

  longer : length (history ++ actor ∷ []) ≡ length history + 1
  longer = length-append history (actor ∷ [])

  pub each-after : (counts : List Counts)
      → AreCounts (turns_made program history ++ record { actor = actor; answer = Answered e r } ∷ [])
      (length history + 1) counts
      → AreCounts (turns_made program (history ++ actor ∷ [])) (length (history ++ actor ∷ [])) counts
  each-after counts are =
      subst (λ ts. AreCounts ts (length (history ++ actor ∷ [])) counts) (sym turns-now) (subst (λ n. AreCounts
      (turns_made program history ++ record { actor = actor; answer = Answered e r } ∷ []) n counts) (sym longer) are)

  pub total-after : (c now : Counts) → IsCount (turns_made program history) (length history) c → now ≡ counted_with c r
      → IsSmall (length history + 1) now
      → IsCount (turns_made program (history ++ actor ∷ [])) (length (history ++ actor ∷ [])) now
  total-after c now before same small =
      let exact : now ≡ counted (turns_made program history ++ record { actor = actor; answer = Answered e r } ∷ []) =
      same ∙ counted-push (turns_made program history) actor e r c before.exact in
      record { exact = exact ∙ ap counted (sym turns-now); small = subst (λ n. IsSmall n now) (sym longer) small }
