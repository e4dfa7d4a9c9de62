use Rattle.lot_machine.specs.declared.record.Thread.{Thread as AThread}
use Rattle.lot_kernel.proofs.Lemmas.{None, Option, Snapshot, Some, ap, entry-missing, entry-of, numbered, option_flatten, option_map, refl, sym, ◌∙◌}
use Rattle.lot_kernel.proofs.tables.Tables.thread_numbered.Goals as goal

pub returns-then-number-eq0-clause-meant : goal.returns-then-number-eq0-clause-meant
returns-then-number-eq0-clause-meant c = rw c.if-number-eq0.true refl

pub returns-then-number-eq0-clause-there : goal.returns-then-number-eq0-clause-there
returns-then-number-eq0-clause-there c = tt

pub returns-in-Some-clause-meant : goal.returns-in-Some-clause-meant
returns-in-Some-clause-meant c =
    let s = c.args.self.now.state in
    let all = c.threads.ensures ∙ ap (λ (x : Snapshot). x.state.threads) c.self.view_is in
    let read = c.in_ok-get.ensures.lookup in
    let found = numbered s.threads c.args.number c.index_of.result (Some (Some c.in-Some.field-0)) c.if-number-eq0.false
    c.index_of.ensures (entry-of c.threads.result.now s.threads c.index_of.result c.in_ok-get.field-0.now
    (Some c.in-Some.field-0) all read.0 read.1 c.in-Some.is) in
    sym (ap (λ (o : Option (Option AThread)). option_map (λ thread. c.args.number) (option_flatten o)) found)

pub returns-in-None-clause-meant : goal.returns-in-None-clause-meant
returns-in-None-clause-meant c =
    let s = c.args.self.now.state in
    let all = c.threads.ensures ∙ ap (λ (x : Snapshot). x.state.threads) c.self.view_is in
    let read = c.in_ok-get.ensures.lookup in
    let found =
    numbered s.threads c.args.number c.index_of.result (Some None) c.if-number-eq0.false c.index_of.ensures (entry-of
    c.threads.result.now s.threads c.index_of.result c.in_ok-get.field-0.now None all read.0 read.1 c.in-None.is) in
    sym (ap (λ (o : Option (Option AThread)). option_map (λ thread. c.args.number) (option_flatten o)) found)

pub returns-in-None-clause-there : goal.returns-in-None-clause-there
returns-in-None-clause-there c = tt

pub returns-in_err-get-clause-meant : goal.returns-in_err-get-clause-meant
returns-in_err-get-clause-meant c =
    let s = c.args.self.now.state in
    let all = c.threads.ensures ∙ ap (λ (x : Snapshot). x.state.threads) c.self.view_is in
    let found = numbered s.threads c.args.number c.index_of.result None c.if-number-eq0.false c.index_of.ensures
    (entry-missing c.threads.result.now s.threads c.index_of.result all c.in_err-get.ensures.lookup.0) in
    c.from_residual.ensures
    ∙ sym (ap (λ (o : Option (Option AThread)). option_map (λ thread. c.args.number) (option_flatten o)) found)

pub returns-in_err-get-clause-there : goal.returns-in_err-get-clause-there
returns-in_err-get-clause-there c = rw c.from_residual.ensures tt
