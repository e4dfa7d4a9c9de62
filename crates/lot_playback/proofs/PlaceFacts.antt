-- A system at an index of its schedule.
use Rattle.lot_playback.proofs.Common.{All, All-head, All-tail, HasPlayed, IsAtPlace, IsNext, IsPlayed, IsProgram, List, MadeTurn, MakesTurn, NextTurn, None, Option, Program, Reports, Seen, Setting, Stage, World, ap, arith, counted_turn, drop, get_or, length, length-take, opening_world, played-more, refl, scheduled_turn, scheduled_turns, subst, suc, sym, take, turn_in, turns_by, turns_left, turns_made, world_of, zero, ℕ, [], ◌++◌, ◌+◌, ◌<◌, ◌∙◌, ◌∷◌, ◌≡◌, ◌≤◌}
use Rattle.lot_playback.specs.declared.turn.Turn.{Turn as ATurn}
use Rattle.lot_playback.proofs.MadeFacts.{made-more}
use Rattle.lot_playback.proofs.TurnFacts.{drop-scheduled, none-scheduled}

-- ---- the actor at a place

drop-none : (xs : List ℕ) (n : ℕ) → length xs ≤ n → drop n xs ≡ []
drop-none [] zero all = refl
drop-none [] (suc n) all = refl
drop-none (x ∷ xs) zero all = absurd (omega (arith, all))
drop-none (x ∷ xs) (suc n) all = drop-none xs n (omega (arith, all))

drop-next : (xs : List ℕ) (n d : ℕ) → n < length xs → drop n xs ≡ get_or xs n d ∷ drop (suc n) xs
drop-next [] n d below = absurd (omega (arith, below))
drop-next (x ∷ xs) zero d below = refl
drop-next (x ∷ xs) (suc n) d below = drop-next xs n d (omega (arith, below))

-- one more of a list that goes on so
take-next : (xs : List ℕ) (n a : ℕ) (rest : List ℕ) → drop n xs ≡ a ∷ rest → take (n + 1) xs ≡ take n xs ++ a ∷ []
take-next xs n a rest is = let e : n + 1 ≡ suc n = omega arith in ap (λ k. take k xs) e ∙ from xs n is
  where
    from : (xs : List ℕ) (n : ℕ) → drop n xs ≡ a ∷ rest → take (suc n) xs ≡ take n xs ++ a ∷ []
    from [] zero wrong = absurd (let e : [] ≡ a ∷ rest = wrong in cc)
    from [] (suc n) wrong = absurd (let e : [] ≡ a ∷ rest = wrong in cc)
    from (x ∷ xs) zero is = let e : x ≡ a = cc in ap (λ y. y ∷ []) e
    from (x ∷ xs) (suc n) is = ap (λ ys. x ∷ ys) (from xs n is)

drop-after : (xs : List ℕ) (n a : ℕ) (rest : List ℕ) → drop n xs ≡ a ∷ rest → drop (n + 1) xs ≡ rest
drop-after xs n a rest is = let e : n + 1 ≡ suc n = omega arith in ap (λ k. drop k xs) e ∙ from xs n is
  where
    from : (xs : List ℕ) (n : ℕ) → drop n xs ≡ a ∷ rest → drop (suc n) xs ≡ rest
    from [] zero wrong = absurd (let e : [] ≡ a ∷ rest = wrong in cc)
    from [] (suc n) wrong = absurd (let e : [] ≡ a ∷ rest = wrong in cc)
    from (x ∷ xs) zero is = cc
    from (x ∷ xs) (suc n) is = from xs n is

drop-below : (xs : List ℕ) (n a : ℕ) (rest : List ℕ) → drop n xs ≡ a ∷ rest → n < length xs
drop-below [] zero a rest wrong = absurd (let e : [] ≡ a ∷ rest = wrong in cc)
drop-below [] (suc n) a rest wrong = absurd (let e : [] ≡ a ∷ rest = wrong in cc)
drop-below (x ∷ xs) zero a rest is = omega arith
drop-below (x ∷ xs) (suc n) a rest is = let below = drop-below xs n a rest is in omega (arith, below)

-- what is so of all is so of what comes at a place
drop-all : (P : ℕ → Type 0) (xs : List ℕ) (n a : ℕ) (rest : List ℕ) → All P xs → drop n xs ≡ a ∷ rest → P a
drop-all P [] zero a rest all wrong = absurd (let e : [] ≡ a ∷ rest = wrong in cc)
drop-all P [] (suc n) a rest all wrong = absurd (let e : [] ≡ a ∷ rest = wrong in cc)
drop-all P (x ∷ xs) zero a rest all is = let e : x ≡ a = cc in subst P e (All-head P x xs all)
drop-all P (x ∷ xs) (suc n) a rest all is = drop-all P xs n a rest (All-tail P x xs all) is

-- ---- the turns that are left

abbrev stage : Seen → ℕ → Stage
stage seen place = record { seen = seen; made = place }

-- they are those of the actors from the place on
pub place-left : (seen : Seen) (place : ℕ) → IsAtPlace seen place → turns_left (stage seen place)
    ≡ scheduled_turns seen.setting.program (world_of seen) (drop place seen.setting.program.schedule)
place-left seen place is =
    let program = seen.setting.program in
    ap (λ (d : Option ℕ). drop place (turns_by program d)) is.untimed
    ∙ drop-scheduled program (opening_world program) program.schedule place
    ∙ ap (λ (w : World). scheduled_turns program w (drop place program.schedule)) (sym is.played.world)

module _ (seen : Seen) (place : ℕ) (is : IsAtPlace seen place) where
  abbrev program : Program
  program = seen.setting.program

  left : turns_left (stage seen place) ≡ scheduled_turns program (world_of seen) (drop place program.schedule)
  left = place-left seen place is

  pub place-none : length program.schedule ≤ place → turns_left (stage seen place) ≡ []
  place-none all = left ∙ ap (scheduled_turns program (world_of seen)) (drop-none program.schedule place all)

  pub place-next : (next : NextTurn) → place < length program.schedule → next.time ≡ None
      → next.actor ≡ get_or program.schedule place 0 → IsNext (stage seen place) next
  place-next next below time actor =
      let a = get_or program.schedule place 0 in
      let made = scheduled_turn program (world_of seen) a in (
        made,
        scheduled_turns program made.turn.world (drop (suc place) program.schedule),
        left ∙ ap (scheduled_turns program (world_of seen)) (drop-next program.schedule place 0 below),
        record { time = time; actor = actor },
      )

  -- if none is left, the schedule is played
  pub place-end : turns_left (stage seen place) ≡ [] → HasPlayed program program.schedule seen
  place-end none =
      let all : drop place program.schedule ≡ [] =
      none-scheduled program (world_of seen) (drop place program.schedule) (sym left ∙ none) in
      subst (λ xs. HasPlayed program xs seen) (from program.schedule place all) is.played
    where
      from : (xs : List ℕ) (n : ℕ) → drop n xs ≡ [] → take n xs ≡ xs
      from [] zero e = refl
      from [] (suc n) e = refl
      from (x ∷ xs) zero e = absurd (let wrong : x ∷ xs ≡ [] = e in cc)
      from (x ∷ xs) (suc n) e = ap (λ ys. x ∷ ys) (from xs n e)

  -- ---- the turn at the place

  module _ (next : NextTurn) (its : IsNext (stage seen place) next) where
    -- the schedule goes on with the actor of the next turn
    pub place-goes : (rest : List ℕ) × (drop place program.schedule ≡ next.actor ∷ rest)
    place-goes = from (drop place program.schedule) refl (sym left ∙ its.2)
      where
        from : (xs : List ℕ) → drop place program.schedule ≡ xs → scheduled_turns program (world_of seen) xs ≡ its.0
            ∷ its.1 → (rest : List ℕ) × (drop place program.schedule ≡ next.actor ∷ rest)
        from [] at wrong = absurd (let e : [] ≡ its.0 ∷ its.1 = wrong in cc)
        from (x ∷ xs) at same =
            let first : scheduled_turn program (world_of seen) x ≡ its.0 = cc in
            let actor : x ≡ next.actor = ap (λ (m : MadeTurn). m.actor) first ∙ sym its.3.actor in
            (xs, at ∙ ap (λ a. a ∷ xs) actor)

    pub place-below : place < length program.schedule
    place-below = drop-below program.schedule place next.actor place-goes.0 place-goes.1

    pub place-actor : next.actor ≤ program.limits.processors
    place-actor = drop-all (λ actor. actor ≤ program.limits.processors) program.schedule place next.actor place-goes.0
        is.legal.actors place-goes.1

    pub place-room : length seen.history < seen.setting.room
    place-room = omega (arith, is.played.bounded, length-take place program.schedule, place-below, is.room)

    module _ (now : Seen) (played : IsPlayed seen next.actor now) where
      -- then the system is at the next place
      pub place-more : IsAtPlace now (place + 1)
      place-more =
          let same = sym played.setting in
          let more = subst (λ xs. HasPlayed program xs now)
          (sym (take-next program.schedule place next.actor place-goes.0 place-goes.1))
          (played-more program (take place program.schedule) seen is.played next.actor now played) in
          record {
            legal = subst (λ (s : Setting). IsProgram s.program) same is.legal;
            untimed = ap (λ (s : Setting). s.program.duration) played.setting ∙ is.untimed;
            room = subst (λ (s : Setting). length s.program.schedule ≤ s.room) same is.room;
            played = subst (λ (s : Setting). HasPlayed s.program (take (place + 1) s.program.schedule) now) same more;
          }

      left-next : turns_left (stage seen place) ≡ scheduled_turn program (world_of seen) next.actor
          ∷ turns_left (stage now (place + 1))
      left-next =
          let goes = place-goes in
          let turn = turn_in seen next.actor in
          let rest : scheduled_turns program turn.world goes.0 ≡ turns_left (stage now (place + 1)) =
          ap (λ xs. scheduled_turns program turn.world xs)
          (sym (drop-after program.schedule place next.actor goes.0 goes.1))
          ∙ ap (λ (w : World). scheduled_turns program w (drop (place + 1) program.schedule)) (sym played.world)
          ∙ ap (λ (s : Setting). scheduled_turns s.program (world_of now) (drop (place + 1) s.program.schedule))
          (sym played.setting)
          ∙ sym (place-left now (place + 1) place-more) in
          left ∙ ap (scheduled_turns program (world_of seen)) goes.1
          ∙ ap (λ ts. scheduled_turn program (world_of seen) next.actor ∷ ts) rest

      -- and the turn is made
      pub place-made : (turn : ATurn) → Reports turn (scheduled_turn program (world_of seen) next.actor)
          → turns_made program now.history ≡ turns_made program seen.history
          ++ counted_turn next.actor (turn_in seen next.actor).answer
          → (made : MadeTurn) × MakesTurn (stage seen place) (stage now (place + 1)) turn made
      place-made turn reports counted =
          let made = scheduled_turn program (world_of seen) next.actor in (
            made,
            record {
              setting = played.setting;
              left = left-next;
              before = refl;
              just = λ turns has. record { turn_is = refl; actor = λ none. place-actor; ended = λ none. refl; reports = reports; has = made-more seen now next.actor played.setting played.world made refl refl counted program turns has };
            },
          )
