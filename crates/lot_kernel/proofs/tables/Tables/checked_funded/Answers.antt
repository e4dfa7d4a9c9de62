use Rattle.lot_kernel.proofs.Lemmas.{BadName, Full, MakeFunded, NameTaken, NoScript, None, Some, State, ap, are_threads_full, are_tickets_full, command_refusal, currency_meant, false, first_failing, good-amount, idle-place, is_no_script, is_taken, is_thread_name, not, refl, rules, second-full, sym, three-fail, three-pass, true, ℕ, List, [], ◌||◌, ◌∙◌, ◌∷◌, ◌≡◌}
use Rattle.std.specs.Prelude.{Err}
use Rattle.lot_machine.specs.Commands.{is_bad_amount}
use Rattle.lot_machine.specs.declared.reference.CurrencyRef.{CurrencyRef}
use Rattle.lot_kernel.proofs.tables.Tables.checked_funded.Goals as goal

-- the checks after those of the amount and the currency
later : (s : State) (amount issuer script : ℕ) (currency : CurrencyRef) (name : List ℕ) → is_bad_amount amount ≡ false
    → currency_meant s currency ≡ Some issuer
    → command_refusal s (MakeFunded amount currency name script)
    ≡ first_failing ((not (is_thread_name s.limits name), BadName) ∷ (is_taken s name, NameTaken)
    ∷ (is_no_script s script, NoScript) ∷ (are_tickets_full s || are_threads_full s, Full) ∷ [])
later s amount issuer script currency name good meant = rw (good, meant) refl

-- the last one
last : (s : State) (amount issuer script : ℕ) (currency : CurrencyRef) (name : List ℕ) → is_bad_amount amount ≡ false
    → currency_meant s currency ≡ Some issuer
    → None ≡ first_failing ((not (is_thread_name s.limits name), BadName) ∷ (is_taken s name, NameTaken)
    ∷ (is_no_script s script, NoScript) ∷ [])
    → command_refusal s (MakeFunded amount currency name script)
    ≡ first_failing ((are_tickets_full s || are_threads_full s, Full) ∷ [])
last s amount issuer script currency name good meant passed =
    later s amount issuer script currency name good meant
    ∙ three-pass (not (is_thread_name s.limits name)) (is_taken s name)
    (is_no_script s script) BadName NameTaken NoScript ((are_tickets_full s || are_threads_full s, Full) ∷ []) passed

pub returns-in_err-checked_thread : goal.returns-in_err-checked_thread
returns-in_err-checked_thread c =
    let s = c.args.self.now.state in
    let name = c.new-name.result in
    let refusal = c.in_err-checked_thread.field-0.0 in
    let is : c.from_residual-in_err-checked_thread.result ≡ Err refusal = search rules in
    rw (is, ← c.new-name.ensures)
    (later s c.args.amount c.in_ok-issuer.issuer c.args.script c.args.currency.now name (sym c.is_bad_amount.ensures
    ∙ c.in_ok-refused_if.ensures.passed) (sym c.currency_meant.ensures.meant ∙ c.in_ok-issuer.ensures.ok_part)
    ∙ three-fail (not (is_thread_name s.limits name)) (is_taken s name) (is_no_script s c.args.script) BadName NameTaken
    NoScript ((are_tickets_full s || are_threads_full s, Full) ∷ []) refusal c.in_err-checked_thread.ensures.refusal)

pub returns-in_err-refused_if-2 : goal.returns-in_err-refused_if-2
returns-in_err-refused_if-2 c =
    let s = c.args.self.now.state in
    let is : c.from_residual-in_err-refused_if-2.result ≡ Err Full = search rules in
    let full : are_threads_full s ≡ true = sym c.are_threads_full.ensures ∙ c.in_err-refused_if-2.ensures.refused.1 in
    rw (is, ← c.new-name.ensures) (last s c.args.amount c.in_ok-issuer.issuer c.args.script c.args.currency.now
    c.new-name.result (sym c.is_bad_amount.ensures ∙ c.in_ok-refused_if.ensures.passed)
    (sym c.currency_meant.ensures.meant ∙ c.in_ok-issuer.ensures.ok_part) c.in_ok-checked_thread.ensures.refusal
    ∙ second-full (are_tickets_full s) (are_threads_full s) Full (sym full))

pub returns-in_err-refused_if-3 : goal.returns-in_err-refused_if-3
returns-in_err-refused_if-3 c =
    let s = c.args.self.now.state in
    let is : c.from_residual-in_err-refused_if-3.result ≡ Err Full = search rules in
    let full : are_tickets_full s ≡ true = sym c.are_tickets_full.ensures ∙ c.in_err-refused_if-3.ensures.refused.1 in
    rw (is, ← c.new-name.ensures) (last s c.args.amount c.in_ok-issuer.issuer c.args.script c.args.currency.now
    c.new-name.result (sym c.is_bad_amount.ensures ∙ c.in_ok-refused_if.ensures.passed)
    (sym c.currency_meant.ensures.meant ∙ c.in_ok-issuer.ensures.ok_part) c.in_ok-checked_thread.ensures.refusal
    ∙ ap (λ b. first_failing ((b || are_threads_full s, Full) ∷ [])) full)

pub returns : goal.returns
returns c =
    let s = c.args.self.now.state in
    let good = sym c.is_bad_amount.ensures ∙ c.in_ok-refused_if.ensures.passed in
    let meant : currency_meant s c.args.currency.now ≡ Some c.in_ok-issuer.issuer = sym c.currency_meant.ensures.meant
    ∙ c.in_ok-issuer.ensures.ok_part in
    let there = rw c.in_ok-issuer.ensures.ok_part at c.currency_meant.ensures.there in
    let threads : are_threads_full s ≡ false = sym c.are_threads_full.ensures ∙ c.in_ok-refused_if-2.ensures.passed in
    let tickets : are_tickets_full s ≡ false = sym c.are_tickets_full.ensures ∙ c.in_ok-refused_if-3.ensures.passed in
    let passed : command_refusal s (MakeFunded c.args.amount c.args.currency.now c.new-name.result c.args.script)
    ≡ None =
    last s c.args.amount c.in_ok-issuer.issuer c.args.script c.args.currency.now c.new-name.result good meant
    c.in_ok-checked_thread.ensures.refusal ∙ rw (tickets, threads) refl in
    rw (← c.new-name.ensures, c.unfunded.ensures)
    (passed, rw meant refl, (record { room = tickets; issuer = there; amount = good-amount c.args.amount good; unfunded = refl }, threads, idle-place s c.requires c.checked_thread.ensures.clients, c.checked_thread.ensures.records))
