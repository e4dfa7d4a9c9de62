use Rattle.lot_chart.proofs.Common.{Err, InputFault, List, MatchResult, OnOk, Plays, Program, Result, came_of, curves_of, ends_refused, on_ok_weaker, program_in, refl, shown_of, subst, sym, table, ℕ, ◌||◌, ◌≡◌}
use Rattle.lot_chart.proofs.showing.shares_bytes.Goals as goal

pub returns-in-Ok-clause-shown : goal.returns-in-Ok-clause-shown
returns-in-Ok-clause-shown g c =
    let text : Program → List ℕ = λ program. table c.args.measure (curves_of program) in
    subst (λ (given : Result Program InputFault). Plays g.W.Write.contents c.args.writer.now c.shares_program.new.writer
    c.shares_program.result (came_of given) (shown_of text given))
    (sym c.in-Ok.ensures.program) c.shares_program.ensures.shown

pub returns-in-Ok-clause-stopped : goal.returns-in-Ok-clause-stopped
returns-in-Ok-clause-stopped g c =
    let old = c.args.warnings.now.stopped in
    let new = c.shares_program.new.warnings.stopped in
    subst (λ (given : Result Program InputFault). OnOk c.shares_program.result
    (MatchResult given (λ program. new ≡ (old || ends_refused program)) (λ fault. new ≡ old)))
    (sym c.in-Ok.ensures.program) c.shares_program.ensures.stopped

pub returns-in-Err-Input-clause-shown : goal.returns-in-Err-Input-clause-shown
returns-in-Err-Input-clause-shown g c =
    let is : program_in c.args.bytes.now ≡ Err c.in-Err-Input.fault =
    rw c.in-Err-Input.field-0-is at c.in-Err-Input.ensures.fault in
    let text : Program → List ℕ = λ program. table c.args.measure (curves_of program) in
    subst (λ (given : Result Program InputFault). Plays g.W.Write.contents c.args.writer.now c.refuse.new.writer
    c.refuse.result (came_of given) (shown_of text given)) (sym is)
    (rw c.in-Err-Input.field-0-is at c.refuse.ensures.played)

pub returns-in-Err-Input-clause-stopped : goal.returns-in-Err-Input-clause-stopped
returns-in-Err-Input-clause-stopped g c =
    let is : program_in c.args.bytes.now ≡ Err c.in-Err-Input.fault =
    rw c.in-Err-Input.field-0-is at c.in-Err-Input.ensures.fault in
    let old = c.args.warnings.now.stopped in
    on_ok_weaker c.refuse.result
    (λ done. subst (λ (given : Result Program InputFault).
    MatchResult given (λ program. old ≡ (old || ends_refused program)) (λ fault. old ≡ old)) (sym is) refl)
    c.refuse.ensures.flushed
