use Rattle.lot_kernel.proofs.Lemmas.{Some, ap, false, is_dead_in, is_thread_in_use, meant-place, not, refl, sym, thread_meant, ◌-◌, ◌∙◌, ◌≡◌}
use Rattle.lot_kernel.proofs.Common.{at_number, at_number-suc}
use Rattle.lot_kernel.proofs.tables.Tables.checked_drop_thread.Goals as goal

pub returns : goal.returns
returns c =
    let s = c.args.self.now.state in
    let number = c.in_ok-number.number in
    let meant : Some number ≡ thread_meant s c.args.thread.now = sym c.in_ok-number.ensures.ok_part
    ∙ c.thread_meant.ensures in
    let (t, is, at) = meant-place s c.args.thread.now number (number - 1) meant refl in
    let dead : not (is_dead_in s number) ≡ false = ap not (sym c.is_dead.ensures) ∙ c.in_ok-refused_if.ensures.passed in
    let unused : is_thread_in_use s number ≡ false = sym c.is_thread_in_use.ensures
    ∙ c.in_ok-refused_if-2.ensures.passed in
    (rw (← meant, dead, unused) refl, rw (← meant) refl, (t, ap (at_number s.threads) is ∙ at_number-suc s.threads (number - 1) ∙ at))
