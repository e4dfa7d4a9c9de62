use Rattle.lot_kernel.proofs.Lemmas.{BadName, Full, NameTaken, Sizes, Snapshot, ap, are_currencies_full, false, first_failing, is_name, is_taken, not, rules, sizes_of, sym, true, [], ◌∙◌, ◌∷◌, ◌≡◌}
use Rattle.std.specs.Prelude.{Err}
use Rattle.lot_kernel.proofs.tables.Tables.checked_new_currency.Goals as goal

pub returns-in_err-refused_if-2 : goal.returns-in_err-refused_if-2
returns-in_err-refused_if-2 c =
    let s = c.args.self.now.state in
    let name = c.new-name.result in
    let is : c.from_residual-in_err-refused_if-2.result ≡ Err NameTaken = search rules in
    let limits : sizes_of c.self.inside.limits ≡ s.limits = ap (λ (x : Snapshot). x.state.limits) c.self.view_is in
    let good : not (is_name s.limits name) ≡ false = ap not (sym (ap (λ (l : Sizes). is_name l name) limits)
    ∙ ap (is_name (sizes_of c.self.inside.limits)) (sym c.as_bytes.ensures) ∙ sym c.allow_name.ensures)
    ∙ c.in_ok-refused_if.ensures.passed in
    let taken : is_taken s name ≡ true = sym c.is_taken.ensures ∙ c.in_err-refused_if-2.ensures.refused.1 in
    rw (is, ← c.new-name.ensures)
    (ap (λ b. first_failing ((b, BadName) ∷ (is_taken s name, NameTaken) ∷ (are_currencies_full s, Full) ∷ [])) good
    ∙ ap (λ b. first_failing ((b, NameTaken) ∷ (are_currencies_full s, Full) ∷ [])) taken)

pub returns-in_err-refused_if-3 : goal.returns-in_err-refused_if-3
returns-in_err-refused_if-3 c =
    let s = c.args.self.now.state in
    let name = c.new-name.result in
    let is : c.from_residual-in_err-refused_if-3.result ≡ Err Full = search rules in
    let limits : sizes_of c.self.inside.limits ≡ s.limits = ap (λ (x : Snapshot). x.state.limits) c.self.view_is in
    let good : not (is_name s.limits name) ≡ false = ap not (sym (ap (λ (l : Sizes). is_name l name) limits)
    ∙ ap (is_name (sizes_of c.self.inside.limits)) (sym c.as_bytes.ensures) ∙ sym c.allow_name.ensures)
    ∙ c.in_ok-refused_if.ensures.passed in
    let free : is_taken s name ≡ false = sym c.is_taken.ensures ∙ c.in_ok-refused_if-2.ensures.passed in
    let full : are_currencies_full s ≡ true = sym c.are_currencies_full.ensures
    ∙ c.in_err-refused_if-3.ensures.refused.1 in
    rw (is, ← c.new-name.ensures)
    (ap (λ b. first_failing ((b, BadName) ∷ (is_taken s name, NameTaken) ∷ (are_currencies_full s, Full) ∷ [])) good
    ∙ ap (λ b. first_failing ((b, NameTaken) ∷ (are_currencies_full s, Full) ∷ [])) free
    ∙ ap (λ b. first_failing ((b, Full) ∷ [])) full)
