use Rattle.lot_kernel.proofs.Lemmas.{List, None, Option, Snapshot, Some, ap, entry-missing, entry-of, option_flatten, option_map, sym, ℕ, ◌∙◌}
use Rattle.lot_kernel.proofs.tables.Tables.currency_numbered.Goals as goal

pub returns-in-Some-clause-meant : goal.returns-in-Some-clause-meant
returns-in-Some-clause-meant c =
    let s = c.args.self.now.state in
    let all = c.deref.ensures.value ∙ ap (λ (x : Snapshot). x.state.currencies) c.self.view_is in
    let read = c.in_ok-get.ensures.lookup in
    let found = entry-of c.deref.result.now s.currencies c.args.number c.in_ok-get.field-0.now
    (Some c.in-Some.field-0) all read.0 read.1 c.in-Some.is in
    sym (ap (λ (o : Option (Option (List ℕ))). option_map (λ name. c.args.number) (option_flatten o)) found)

pub returns-in-None-clause-meant : goal.returns-in-None-clause-meant
returns-in-None-clause-meant c =
    let s = c.args.self.now.state in
    let all = c.deref.ensures.value ∙ ap (λ (x : Snapshot). x.state.currencies) c.self.view_is in
    let read = c.in_ok-get.ensures.lookup in
    let found = entry-of c.deref.result.now s.currencies c.args.number c.in_ok-get.field-0.now None all read.0 read.1
    c.in-None.is in
    sym (ap (λ (o : Option (Option (List ℕ))). option_map (λ name. c.args.number) (option_flatten o)) found)

pub returns-in-None-clause-there : goal.returns-in-None-clause-there
returns-in-None-clause-there c = tt

pub returns-in_err-get-clause-meant : goal.returns-in_err-get-clause-meant
returns-in_err-get-clause-meant c =
    let s = c.args.self.now.state in
    let all = c.deref.ensures.value ∙ ap (λ (x : Snapshot). x.state.currencies) c.self.view_is in
    c.from_residual.ensures ∙ sym (ap (λ (o : Option (Option (List ℕ))). option_map (λ name. c.args.number)
    (option_flatten o)) (entry-missing c.deref.result.now s.currencies c.args.number all c.in_err-get.ensures.lookup.0))

pub returns-in_err-get-clause-there : goal.returns-in_err-get-clause-there
returns-in_err-get-clause-there c = rw c.from_residual.ensures tt
