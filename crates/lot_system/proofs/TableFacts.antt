-- The table of a system that has made all of its program's turns is the program's.
use Rattle.lot_system.proofs.Common.{HasMade, IsAtEnd, IsSome, Moment, None, Option, Program, ReportForm, Seen, Some, Timekeeper, World, ap, ended_at, false, is_some, last_moment, last_table, moment_in, program_turns, refl, scheduled_table, sym, table_in, timed_table, timed_turns, true, world_of, ℕ, ◌∙◌, ◌≡◌}
use Rattle.lot_system.proofs.TimedReportFacts.{last-is}

table-of : (form : ReportForm) (program : Program) (d : Option ℕ) → IsSome d → timed_table (table_in form)
    (last_moment program) (ended_at program (last_moment program)) (timed_turns program) ≡ last_table form program d
table-of form program None wrong = absurd (let e : false ≡ true = wrong in cc)
table-of form program (Some duration) is = refl

module _ (form : ReportForm) (program : Program) (seen : Seen)
    (has : HasMade program (program_turns program) seen) where
  -- with a schedule
  pub scheduled-is : seen.setting.program.duration ≡ None
      → scheduled_table (world_of seen).state ≡ last_table form program program.duration
  scheduled-is untimed =
      ap (λ (w : World). scheduled_table w.state) has.world
      ∙ ap (last_table form program) (sym untimed ∙ ap (λ (p : Program). p.duration) has.program_is)

  -- or timed
  pub timed-is : (timekeeper : Timekeeper) → IsAtEnd seen timekeeper → IsSome seen.setting.program.duration
      → timed_table (table_in form) (moment_in seen timekeeper) (ended_at program (moment_in seen timekeeper))
      (timed_turns seen.setting.program) ≡ last_table form program program.duration
  timed-is timekeeper end timed =
      ap (λ (m : Moment). timed_table (table_in form) m (ended_at program m) (timed_turns seen.setting.program))
      (last-is seen timekeeper end ∙ ap last_moment has.program_is)
      ∙ ap (λ (p : Program). timed_table (table_in form) (last_moment program) (ended_at program (last_moment program))
      (timed_turns p)) has.program_is
      ∙ table-of form program program.duration (ap (λ (p : Program). is_some p.duration) (sym has.program_is) ∙ timed)
