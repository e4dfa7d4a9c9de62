use Rattle.lot_kernel.proofs.Lemmas.{BadName, Full, MakeThread, NameTaken, NoScript, None, ap, are_threads_full, command_refusal, false, first_failing, idle-place, is_no_script, is_taken, is_thread_name, not, refl, rules, sym, three-fail, three-pass, true, [], ◌∙◌, ◌∷◌, ◌≡◌}
use Rattle.std.specs.Prelude.{Err}
use Rattle.lot_kernel.proofs.tables.Tables.checked_new_thread.Goals as goal

pub returns-in_err-checked_thread : goal.returns-in_err-checked_thread
returns-in_err-checked_thread c =
    let s = c.args.self.now.state in
    let name = c.new-name.result in
    let refusal = c.in_err-checked_thread.field-0.0 in
    let is : c.from_residual.result ≡ Err refusal = search rules in
    rw (is, ← c.new-name.ensures)
    (three-fail (not (is_thread_name s.limits name)) (is_taken s name) (is_no_script s c.args.script) BadName NameTaken
    NoScript ((are_threads_full s, Full) ∷ []) refusal c.in_err-checked_thread.ensures.refusal)

pub returns-in_err-refused_if : goal.returns-in_err-refused_if
returns-in_err-refused_if c =
    let s = c.args.self.now.state in
    let name = c.new-name.result in
    let is : c.from_residual-in_err-refused_if.result ≡ Err Full = search rules in
    let full : are_threads_full s ≡ true = sym c.are_threads_full.ensures ∙ c.in_err-refused_if.ensures.refused.1 in
    rw (is, ← c.new-name.ensures) (three-pass (not (is_thread_name s.limits name)) (is_taken s name)
    (is_no_script s c.args.script) BadName NameTaken NoScript ((are_threads_full s, Full) ∷ [])
    c.in_ok-checked_thread.ensures.refusal ∙ ap (λ b. first_failing ((b, Full) ∷ [])) full)

pub returns : goal.returns
returns c =
    let s = c.args.self.now.state in
    let name = c.new-name.result in
    let full : are_threads_full s ≡ false = sym c.are_threads_full.ensures ∙ c.in_ok-refused_if.ensures.passed in
    let passed : command_refusal s (MakeThread name c.args.script) ≡ None =
    three-pass (not (is_thread_name s.limits name)) (is_taken s name) (is_no_script s c.args.script) BadName NameTaken
    NoScript ((are_threads_full s, Full) ∷ []) c.in_ok-checked_thread.ensures.refusal
    ∙ ap (λ b. first_failing ((b, Full) ∷ [])) full in
    rw (← c.new-name.ensures) (passed, refl, (full, idle-place s c.requires c.checked_thread.ensures.clients))
