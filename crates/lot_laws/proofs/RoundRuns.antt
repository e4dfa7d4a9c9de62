-- Runs of rounds: their replies tell a thread's wins and ticks, and the lottery stays.
use Rattle.lot_laws.proofs.Common.{Action, Bool, Drawn, Event, List, Leaves, NotRunning, None, Ready, Reply, Some, State, Step, Yield, ap, arith, checked_effect, cond, count_by, draw, eqb-true, expire, false, finish_trap, if◌then◌else◌, is_bad_processor, is_won_by, le-ltb, nat_lt, refl, step, subst, sum_by, sum_by-cons, sum-same, sym, thread_on, thread_wins, ticks_by, ticks_of, trap_effect, trap_refusal, true, used_there, win_count, wins_of, ℕ, [], ◌*◌, ◌+◌, ◌==◌, ◌∙◌, ◌∷◌, ◌≡◌, ◌≤◌}
use Rattle.lot_machine.specs.declared.event.Event.TheVariants as event
use Rattle.lot_machine.specs.declared.reply.Reply.TheVariants as answer
use Rattle.lot_machine.specs.declared.reply.Outcome.TheVariants as outcome
use Rattle.lot_laws.proofs.RoundKept.{SameDraws, nothing-drawn, same-itself, same-later, same-wins, won}

-- ---- the two events of a round

module _ (s : State) (p : ℕ) (exists : is_bad_processor s p ≡ false) where
  pub draws-as : (d : ℕ) → thread_on s.records p ≡ None → step s (event.Draw p d) ≡ draw s p d
  draws-as d free = rw exists (rw free refl)

  pub expires-nobody : thread_on s.records p ≡ None
      → step s (event.Expire p) ≡ record { state = s; reply = answer.Refused NotRunning }
  expires-nobody free = rw exists (rw free refl)

  pub expires-as : (t : ℕ) → thread_on s.records p ≡ Some t → step s (event.Expire p) ≡ expire s t (used_there s p)
  expires-as t found = rw exists (rw found refl)

  pub yields-nobody : (ran : ℕ) → thread_on s.records p ≡ None
      → step s (event.Trap p ran Yield) ≡ record { state = s; reply = answer.Refused NotRunning }
  yields-nobody ran free = rw exists (rw free refl)

  pub traps-as : (t ran used : ℕ) (action : Action) → thread_on s.records p ≡ Some t
      → used_there s p + ran + 1 ≡ used → used ≤ s.limits.quantum → step s (event.Trap p ran action)
      ≡ finish_trap s p t (ran + 1) used (checked_effect s (trap_refusal s t action) (trap_effect s t action))
  traps-as t ran used action found whole within =
      let time : nat_lt s.limits.quantum (used_there s p + ran + 1) ≡ false =
      ap (nat_lt s.limits.quantum) whole ∙ le-ltb s.limits.quantum used within in
      let effect = checked_effect s (trap_refusal s t action) (trap_effect s t action) in
      let step_is : step s (event.Trap p ran action) ≡ finish_trap s p t (ran + 1) (used_there s p + ran + 1) effect =
      rw exists (rw time (rw found refl)) in
      step_is ∙ ap (λ n. finish_trap s p t (ran + 1) n effect) whole

  pub yields-as : (t ran used : ℕ) → thread_on s.records p ≡ Some t → used_there s p + ran + 1 ≡ used
      → used ≤ s.limits.quantum → step s (event.Trap p ran Yield)
      ≡ finish_trap s p t (ran + 1) used (record { state = s; outcome = outcome.Yielded; after = Leaves Ready })
  yields-as t ran used found whole within = traps-as t ran used Yield found whole within

-- ---- one round

-- the replies to the two events of a round tell who won, and how long it ran
pub record TellsRound (s : State) (p d : ℕ) (ticks : ℕ → ℕ) (first second : Reply) : Type 0 where
  pub wins : (t : ℕ) → is_won_by t first ≡ thread_wins s p t d
  pub no_more : (t : ℕ) → is_won_by t second ≡ false
  pub nothing : (t : ℕ) → ticks_by t first ≡ 0
  pub runs : (t : ℕ) → ticks_by t second ≡ cond (thread_wins s p t d) (ticks t) 0

-- and the lottery stays
pub record IsRound (s : State) (p d : ℕ) (ticks : ℕ → ℕ) (first second : Step) : Type 0 where
  pub tells : TellsRound s p d ticks first.reply second.reply
  pub same : SameDraws s second.state
  pub free : thread_on second.state.records p ≡ None

-- the ticks of the thread that a reply names
pub named-ticks : (ticks : ℕ → ℕ) (u t ran : ℕ) → ran ≡ ticks u
    → (if u == t then ran else 0) ≡ cond (u == t) (ticks t) 0
named-ticks ticks u t ran is = by (u == t) refl
  where
    by : (b : Bool) → (u == t) ≡ b → (if b then ran else 0) ≡ cond b (ticks t) 0
    by true same = is ∙ ap ticks (eqb-true u t same)
    by false other = refl

module _ (s : State) (p d : ℕ) (ticks : ℕ → ℕ) where
  pub unwon-tells : draw s p d ≡ nothing-drawn s
      → TellsRound s p d ticks (nothing-drawn s).reply (answer.Refused NotRunning)
  unwon-tells is = record {
    wins = lost;
    no_more = λ t. refl;
    nothing = λ t. refl;
    runs = λ t. ap (λ b. cond b (ticks t) 0) (lost t);
  }
    where
      lost : (t : ℕ) → false ≡ thread_wins s p t d
      lost t = ap (λ (x : Step). is_won_by t x.reply) (sym is)

  pub won-tells : (u : ℕ) (w : Drawn) (second : Reply) → draw s p d ≡ won s p u w
      → ((t : ℕ) → is_won_by t second ≡ false) → ((t : ℕ) → ticks_by t second ≡ cond (u == t) (ticks t) 0)
      → TellsRound s p d ticks (won s p u w).reply second
  won-tells u w second is silent tells = record {
    wins = named;
    no_more = silent;
    nothing = λ t. refl;
    runs = λ t. tells t ∙ ap (λ b. cond b (ticks t) 0) (named t);
  }
    where
      named : (t : ℕ) → (u == t) ≡ thread_wins s p t d
      named t = ap (λ (x : Step). is_won_by t x.reply) (sym is)

  -- a round is what its events come to
  pub round-by : (ends : State → Event) (first second : Step) → step s (event.Draw p d) ≡ first
      → step first.state (ends first.state) ≡ second → IsRound s p d ticks first second
      → IsRound s p d ticks (step s (event.Draw p d))
      (step (step s (event.Draw p d)).state (ends (step s (event.Draw p d)).state))
  round-by ends first second one two is =
      subst (λ (x : Step). IsRound s p d ticks x (step x.state (ends x.state))) (sym one)
      (subst (IsRound s p d ticks first) (sym two) is)

-- ---- many rounds

-- the steps of a draw, and of the event by which the winner leaves the processor
abbrev pub first-of : ℕ → State → ℕ → Step
first-of p s d = step s (event.Draw p d)

abbrev pub second-of : (State → Event) → ℕ → State → ℕ → Step
second-of ends p s d = step (first-of p s d).state (ends (first-of p s d).state)

-- the replies to the events of rounds, and the state after them
abbrev pub told : (State → Event) → ℕ → State → List ℕ → List Reply
told ends p s [] = []
told ends p s (d ∷ draws) =
    (first-of p s d).reply ∷ (second-of ends p s d).reply ∷ told ends p (second-of ends p s d).state draws

abbrev pub after-all : (State → Event) → ℕ → State → List ℕ → State
after-all ends p s [] = s
after-all ends p s (d ∷ draws) = after-all ends p (second-of ends p s d).state draws

none-more : (n : ℕ) → 0 + n ≡ n
none-more n = omega arith

times-more : (b : Bool) (m k : ℕ) → cond b k 0 + m * k ≡ (cond b 1 0 + m) * k
times-more true m k = omega arith
times-more false m k = omega arith

count-two : {A : Type 0} (test : A → Bool) (x y : A) (rest : List A) (b : Bool) → test x ≡ b → test y ≡ false
    → count_by test (x ∷ y ∷ rest) ≡ cond b 1 0 + count_by test rest
count-two {A = A} test x y rest b one two =
    sum_by-cons (λ (z : A). cond (test z) 1 0) x (y ∷ rest)
    ∙ ap (λ c. cond c 1 0 + count_by test (y ∷ rest)) one
    ∙ ap (λ n. cond b 1 0 + n) (sum_by-cons (λ (z : A). cond (test z) 1 0) y rest
    ∙ ap (λ c. cond c 1 0 + count_by test rest) two ∙ none-more (count_by test rest))

sum-two : {A : Type 0} (g : A → ℕ) (x y : A) (rest : List A) (n : ℕ) → g x ≡ 0 → g y ≡ n
    → sum_by g (x ∷ y ∷ rest) ≡ n + sum_by g rest
sum-two g x y rest n one two =
    sum_by-cons g x (y ∷ rest) ∙ ap (λ k. k + sum_by g (y ∷ rest)) one ∙ none-more (sum_by g (y ∷ rest))
    ∙ sum_by-cons g y rest ∙ ap (λ k. k + sum_by g rest) two

-- two replies
pub two-tell : (t ticks : ℕ) (first second : Reply) (b : Bool) → ticks_by t first ≡ 0
    → ticks_by t second ≡ cond b ticks 0 → ticks_of t (first ∷ second ∷ []) ≡ cond b ticks 0
two-tell t ticks first second b one two =
    sum-two (ticks_by t) first second [] (cond b ticks 0) one two ∙ at b
  where
    at : (c : Bool) → cond c ticks 0 + sum_by (ticks_by t) [] ≡ cond c ticks 0
    at true = omega arith
    at false = omega arith

-- rounds from states with a property that each round keeps
module _ (ends : State → Event) (p : ℕ) (ticks : ℕ → ℕ) (IsSo : State → Type 0)
    (are : (s : State) → IsSo s → (d : ℕ) → IsRound s p d ticks (first-of p s d) (second-of ends p s d))
    (stays : (s after : State) → IsSo s → SameDraws s after → thread_on after.records p ≡ None → IsSo after) where
  -- the property, and the lottery, stay
  pub run-keeps : (s : State) → IsSo s → (draws : List ℕ)
      → SameDraws s (after-all ends p s draws) × IsSo (after-all ends p s draws)
  run-keeps s so [] = (same-itself s, so)
  run-keeps s so (d ∷ draws) =
      let round = are s so d in
      let next = (second-of ends p s d).state in
      let more = run-keeps next (stays s next so round.same round.free) draws in
      (same-later s next (after-all ends p next draws) round.same more.0, more.1)

  -- wins are those of the lottery before the run
  pub run-wins : (s : State) → IsSo s → (t : ℕ) (draws : List ℕ)
      → wins_of t (told ends p s draws) ≡ win_count (thread_wins s p t) draws
  run-wins s so t [] = refl
  run-wins s so t (d ∷ draws) =
      let round = are s so d in
      let next = (second-of ends p s d).state in
      let more = run-wins next (stays s next so round.same round.free) t draws in
      count-two (is_won_by t) (first-of p s d).reply (second-of ends p s d).reply (told ends p next draws)
      (thread_wins s p t d) (round.tells.wins t) (round.tells.no_more t)
      ∙ ap (λ n. cond (thread_wins s p t d) 1 0 + n) (more ∙ same-count s next round.same t draws)
      ∙ sym (sum_by-cons (λ x. cond (thread_wins s p t x) 1 0) d draws)
    where
      same-count : (s next : State) → SameDraws s next → (t : ℕ) (draws : List ℕ)
          → win_count (thread_wins next p t) draws ≡ win_count (thread_wins s p t) draws
      same-count s next same t draws =
          sum-same (λ d. cond (thread_wins next p t d) 1 0) (λ d. cond (thread_wins s p t d) 1 0) draws
          (λ d. ap (λ b. cond b 1 0) (same-wins s next same p t d))

  -- and with each the thread runs as many ticks
  pub run-ticks : (s : State) → IsSo s → (t : ℕ) (draws : List ℕ)
      → ticks_of t (told ends p s draws) ≡ wins_of t (told ends p s draws) * ticks t
  run-ticks s so t [] = omega arith
  run-ticks s so t (d ∷ draws) =
      let round = are s so d in
      let next = (second-of ends p s d).state in
      let more = run-ticks next (stays s next so round.same round.free) t draws in
      sum-two (ticks_by t) (first-of p s d).reply (second-of ends p s d).reply (told ends p next draws)
      (cond (thread_wins s p t d) (ticks t) 0) (round.tells.nothing t) (round.tells.runs t)
      ∙ ap (λ n. cond (thread_wins s p t d) (ticks t) 0 + n) more
      ∙ times-more (thread_wins s p t d) (wins_of t (told ends p next draws)) (ticks t)
      ∙ ap (λ n. n * ticks t) (sym (count-two (is_won_by t) (first-of p s d).reply (second-of ends p s d).reply
      (told ends p next draws) (thread_wins s p t d) (round.tells.wins t) (round.tells.no_more t)))
