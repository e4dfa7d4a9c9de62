use Rattle.lot_kernel.proofs.Lemmas.{None, Snapshot, Some, ap, entry-missing, entry-of, option_flatten, sym, tables-shown, ◌∙◌}
use Rattle.lot_kernel.proofs.kernel.Kernel.currency_name.Goals as goal

pub returns-in-Some : goal.returns-in-Some
returns-in-Some c =
    let all = c.deref.ensures.value ∙ ap (λ (x : Snapshot). x.state.currencies)
    (tables-shown c.self-inside.inside.0.0 c.self.inside c.args.self.now c.self-inside.view_is c.self.view_is) in
    let read = c.in_ok-name.ensures.lookup in
    let found = entry-of c.deref.result.now c.args.self.now.state.currencies c.args.currency.number
    c.in_ok-name.field-0.now (Some c.in-Some.name) all read.0 read.1 c.in-Some.is in
    ap Some c.copied.ensures ∙ sym (ap option_flatten found)

pub returns-in-None : goal.returns-in-None
returns-in-None c =
    let all = c.deref.ensures.value ∙ ap (λ (x : Snapshot). x.state.currencies)
    (tables-shown c.self-inside.inside.0.0 c.self.inside c.args.self.now c.self-inside.view_is c.self.view_is) in
    let read = c.in_ok-name.ensures.lookup in
    let found = entry-of c.deref.result.now c.args.self.now.state.currencies c.args.currency.number
    c.in_ok-name.field-0.now None all read.0 read.1 c.in-None.is in
    sym (ap option_flatten found)

pub returns-in_err-name : goal.returns-in_err-name
returns-in_err-name c =
    let all = c.deref.ensures.value ∙ ap (λ (x : Snapshot). x.state.currencies)
    (tables-shown c.self-inside.inside.0.0 c.self.inside c.args.self.now c.self-inside.view_is c.self.view_is) in
    c.from_residual.ensures ∙ sym (ap option_flatten (entry-missing c.deref.result.now c.args.self.now.state.currencies
    c.args.currency.number all c.in_err-name.ensures.lookup.0))
