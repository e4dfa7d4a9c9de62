-- A draw of the threads is a draw of the state.
use Rattle.lot_kernel.proofs.Common.{Drawn, Lend, List, MakesStaleIn, Meter, Node, None, Option, Ready, Record, Some, State, Step, Threaded, Winner, ap, at_number, change_record, draw, drawn_in, false, funding_in, is_bad_processor, is_live_status, is_some, lend_of, live_in, map, option_and_then, ready_threads, record-of, refl, slice_index, some-injective, started, status_of, step, sym, thread_on, threads_of, weight_of, winner, with_records, ℕ, [], ◌∙◌, ◌≡◌}
use Rattle.lot_machine.specs.declared.event.Event.TheVariants as event
use Rattle.lot_machine.specs.declared.reply.Reply.TheVariants as answer
use Rattle.lot_kernel.proofs.Untouched.{same-seen, stays-fresh}

some-none : (w : Winner) → ¬ (Some w ≡ None)
some-none w e = cc

none-some : (w : Winner) → ¬ (None ≡ Some w)
none-some w e = cc

module _ (s : State) (p d : ℕ) (good : is_bad_processor s p ≡ false)
    (free : is_some (thread_on s.records p) ≡ false) where
  -- nobody wins
  pub step-idle : (stale : List Node) (meter : Meter) → drawn_in (threads_of s stale meter) d ≡ None
      → step s (event.Draw p d) ≡ record { state = s; reply = answer.Idle }
  step-idle stale meter none = rw (good, free) (by (winner (map (weight_of s) (ready_threads s.records)) d) refl none)
    where
      by : (o : Option Drawn) → winner (map (weight_of s) (ready_threads s.records)) d ≡ o
          → drawn_in (threads_of s stale meter) d ≡ None → draw s p d ≡ record { state = s; reply = answer.Idle }
      by None is e = rw is refl
      by (Some w) is e = let never : Some
          (record { thread = slice_index (ready_threads s.records) w.place; number = w.number; total = w.total })
          ≡ None = rw is at e in absurd (some-none _ never)

  -- the winner runs
  pub step-won : (stale : List Node) (meter : Meter) (w : Winner) → drawn_in (threads_of s stale meter) d ≡ Some w
      → step s (event.Draw p d)
      ≡ record { state = record s { records = change_record (started p) s.records w.thread }; reply = answer.Winner w.thread w.number w.total (option_and_then (λ r. r.delivered) (at_number s.records w.thread)) }
  step-won stale meter w some = rw (good, free) (by (winner (map (weight_of s) (ready_threads s.records)) d) refl some)
    where
      seen : Winner → Step
      seen x = record { state = record s { records = change_record (started p) s.records x.thread }; reply = answer.Winner x.thread x.number x.total (option_and_then (λ r. r.delivered) (at_number s.records x.thread)) }

      by : (o : Option Drawn) → winner (map (weight_of s) (ready_threads s.records)) d ≡ o
          → drawn_in (threads_of s stale meter) d ≡ Some w → draw s p d ≡ seen w
      by None is e = let never : None ≡ Some w = rw is at e in absurd (none-some w never)
      by (Some x) is e =
          let same : Some
          (record { thread = slice_index (ready_threads s.records) x.place; number = x.number; total = x.total })
          ≡ Some w = rw is at e in
          rw is (ap seen (some-injective
          (record { thread = slice_index (ready_threads s.records) x.place; number = x.number; total = x.total }) w
          same))

-- a Ready thread that begins to run touches nothing, so nothing is stale after a draw
pub start-fresh : (v new : Threaded) (p t : ℕ) → v.stale ≡ [] → status_of v.records t ≡ Some Ready
    → new ≡ with_records v (change_record (started p) v.records t) new.stale → MakesStaleIn v new → new.stale ≡ []
start-fresh v new p t settled ready is makes =
    let (r, there, now) = record-of v.records t Ready ready in
    let lends = same-seen (λ (x : Record). lend_of v.lending x.status) (started p) v.records t r there
    (sym (ap (lend_of v.lending) now)) in
    let lives =
    same-seen (λ (x : Record). is_live_status x.status) (started p) v.records t r there (sym (ap is_live_status now)) in
    stays-fresh v new settled (ap funding_in is ∙ ap (λ (ls : List Lend). record (funding_in v) { lends = ls }) lends)
    (ap (λ (x : Threaded). live_in x.records) is ∙ lives) makes
