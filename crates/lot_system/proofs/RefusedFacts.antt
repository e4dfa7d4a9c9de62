-- Whether a refusal ended the play of a system that has made all of its program's turns.
use Rattle.lot_system.proofs.Common.{Bool, InTime, IsInOrder, List, Order, Program, Scheduled, Seen, Some, Stage, any_ends_refused, ap, ends_refused, false, is_some, is_stopped, last_moment, list_any, made_in, moment_after_all, moment_in, opening_moment, refl, stopped_in, sym, time-end, true, turns_left, with_seed, ℕ, [], ◌&&◌, ◌++◌, ◌||◌, ◌∙◌, ◌∷◌, ◌≡◌}

refused-at-end : (program : Program) (seen : Seen) (order : Order) → seen.setting.program ≡ program
    → IsInOrder seen order
    → turns_left (record { seen = seen; made = made_in seen order }) ≡ []
    → stopped_in program seen order ≡ ends_refused program
refused-at-end program seen (Scheduled place) is there none =
    let untimed : false ≡ is_some program.duration =
    sym (ap (λ (p : Program). is_some p.duration) (sym is) ∙ ap is_some there.untimed) in
    ap (λ b. b && is_stopped program (last_moment program)) untimed
refused-at-end program seen (InTime timekeeper) is there none =
    let end = time-end seen timekeeper there none in
    let moment : moment_in seen timekeeper ≡ last_moment program =
    end.followed.moment ∙ ap (moment_after_all (opening_moment seen.setting.program)) end.all ∙ ap last_moment is in
    let timed : true ≡ is_some program.duration =
    sym (ap (λ (p : Program). is_some p.duration) (sym is) ∙ there.timed) in
    ap (is_stopped program) moment ∙ ap (λ b. b && is_stopped program (last_moment program)) timed

-- the same of the parts of a playback without further turns
pub stopped-at-end : (program : Program) (playback : Stage) (seen : Seen) (order : Order)
    → playback.seen.setting.program ≡ program → seen ≡ playback.seen
    → made_in seen order ≡ playback.made → IsInOrder seen order → turns_left playback ≡ []
    → stopped_in program seen order ≡ ends_refused program
stopped-at-end program playback seen order is system made there ended =
    refused-at-end program seen order (ap (λ (s : Seen). s.setting.program) system ∙ is) there
    (ap (λ n. turns_left (record { seen = seen; made = n })) made
    ∙ ap (λ (s : Seen). turns_left (record { seen = s; made = playback.made })) system ∙ ended)

-- ---- several seeds

or-either : (a b c : Bool) → (a || (b || c)) ≡ ((a || b) || c)
or-either true b c = refl
or-either false b c = refl

any-more : {A : Type 0} (test : A → Bool) (xs : List A) (x : A)
    → (list_any test xs || test x) ≡ list_any test (xs ++ x ∷ [])
any-more test [] x = by (test x)
  where
    by : (b : Bool) → (false || b) ≡ (b || false)
    by true = refl
    by false = refl
any-more test (y ∷ xs) x = sym (or-either (test y) (list_any test xs) (test x))
    ∙ ap (λ b. test y || b) (any-more test xs x)

-- after one more play the later plays' refusals, beside the first one's, are those of all seeds so far
pub any-seed : (program : Program) (seeds : List ℕ) (seed : ℕ) (first before after : Bool)
    → (first || before) ≡ any_ends_refused program seeds
    → after ≡ (before || ends_refused (with_seed (Some seed) program))
    → (first || after) ≡ any_ends_refused program (seeds ++ seed ∷ [])
any-seed program seeds seed first before after so is =
    ap (λ b. first || b) is ∙ or-either first before (ends_refused (with_seed (Some seed) program))
    ∙ ap (λ b. b || ends_refused (with_seed (Some seed) program)) so
    ∙ any-more (λ n. ends_refused (with_seed (Some n) program)) seeds seed

-- the first play alone
pub first-seed : (program : Program) (seed : ℕ)
    → (ends_refused (with_seed (Some seed) program) || false) ≡ any_ends_refused program (seed ∷ [])
first-seed program seed = refl

-- what the first play and the later ones said, together
pub all-seeds : (old first later all : Bool) → (first || later) ≡ all → ((old || first) || later) ≡ (old || all)
all-seeds old first later all is = sym (or-either old first later) ∙ ap (λ b. old || b) is
