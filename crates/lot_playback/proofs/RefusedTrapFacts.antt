-- Refused traps, turn by turn.
use Rattle.lot_playback.proofs.Common.{Answered, AreRefusedTraps, Bool, HaveCounted, List, TimedTurn, TurnAnswer, ap, arith, false, fold_push, if◌then◌else◌, length, refusals_after, refused_traps_in, slice_index, sym, true, ℕ, [], ◌++◌, ◌+◌, ◌<◌, ◌==◌, ◌∙◌, ◌∷◌, ◌≡◌, ◌≤◌}
use Rattle.lot_machine.specs.declared.reply.Reply.TheVariants as reply
use Rattle.lot_machine.specs.declared.reply.Outcome.TheVariants as outcome

-- one turn more
refused-more : (done : List TimedTurn) (turn : TimedTurn) (t : ℕ) (a : TurnAnswer) → turn.turn.answer ≡ a
    → refused_traps_in (done ++ turn ∷ []) t ≡ refusals_after t (refused_traps_in done t) a
refused-more done turn t a answered =
    fold_push (λ (n : ℕ) (d : TimedTurn). refusals_after t n d.turn.answer) 0 done turn
    ∙ ap (refusals_after t (refused_traps_in done t)) answered

-- it adds at most one
if-few : (b : Bool) (m n : ℕ) → m ≤ n + 1 → (if b then m else n) ≤ n + 1
if-few true m n few = few
if-few false m n few = omega arith

after-few : (t n : ℕ) (a : TurnAnswer) → refusals_after t n a ≤ n + 1
after-few t n (Answered e (reply.Thread thread)) = if-few (thread == t) 0 n (omega arith)
after-few t n (Answered e (reply.Funded ticket thread)) = if-few (thread == t) 0 n (omega arith)
after-few t n (Answered e (reply.Trapped thread ticks (outcome.Refused why) ends)) =
    if-few (thread == t) (n + 1) n (omega arith)
after-few t n other = omega arith

-- so the counts are those of one turn more
pub traps-more : (done : List TimedTurn) (n : ℕ) (turn : TimedTurn) (a : TurnAnswer) (old new : List ℕ)
    → turn.turn.answer ≡ a → HaveCounted a old new → AreRefusedTraps done n old
    → AreRefusedTraps (done ++ turn ∷ []) (n + 1) new
traps-more done n turn a old new answered counted were place below =
    let there : place < length old = omega (arith, below, counted.count) in
    let was = were place there in
    let now : slice_index new place ≡ refusals_after (place + 1) (slice_index old place) a = counted.each place there in
    let few : refusals_after (place + 1) (slice_index old place) a ≤ slice_index old place + 1 =
    after-few (place + 1) (slice_index old place) a in
    record {
      exact = now ∙ ap (λ k. refusals_after (place + 1) k a) was.exact
          ∙ sym (refused-more done turn (place + 1) a answered);
      few = omega (arith, now, few, was.few);
    }
