use Rattle.lot_machine.specs.declared.record.Thread.{Thread as AThread}
use Rattle.lot_kernel.proofs.Lemmas.{None, Option, Some, Threaded, ap, entry-missing, entry-of, numbered, option_flatten, option_map, refl, sym, threads-shown, ◌∙◌}
use Rattle.lot_kernel.proofs.kernel.Kernel.thread_name.Goals as goal

pub returns-then-thread-eq0 : goal.returns-then-thread-eq0
returns-then-thread-eq0 c = rw c.if-thread-eq0.true refl

pub returns-in-Some : goal.returns-in-Some
returns-in-Some c =
    let all = c.threads.ensures ∙ ap (λ (v : Threaded). v.threads) (threads-shown c.self-inside.inside.0.0 c.self.inside
    c.args.self.now c.self-inside.view_is c.self.view_is c.self-inside.invariant) in
    let read = c.in_ok-found.ensures.lookup in
    let found = numbered c.args.self.now.state.threads c.args.thread.number c.index_of.result
    (Some (Some c.in-Some.found)) c.if-thread-eq0.false c.index_of.ensures
    (entry-of c.threads.result.now c.args.self.now.state.threads c.index_of.result c.in_ok-found.field-0.now
    (Some c.in-Some.found) all read.0 read.1 c.in-Some.is) in
    ap Some c.copied.ensures
    ∙ sym (ap (λ (o : Option (Option AThread)). option_map (λ (t : AThread). t.name) (option_flatten o)) found)

pub returns-in-None : goal.returns-in-None
returns-in-None c =
    let all = c.threads.ensures ∙ ap (λ (v : Threaded). v.threads) (threads-shown c.self-inside.inside.0.0 c.self.inside
    c.args.self.now c.self-inside.view_is c.self.view_is c.self-inside.invariant) in
    let read = c.in_ok-found.ensures.lookup in
    let found = numbered c.args.self.now.state.threads c.args.thread.number c.index_of.result
    (Some None) c.if-thread-eq0.false c.index_of.ensures (entry-of c.threads.result.now c.args.self.now.state.threads
    c.index_of.result c.in_ok-found.field-0.now None all read.0 read.1 c.in-None.is) in
    sym (ap (λ (o : Option (Option AThread)). option_map (λ (t : AThread). t.name) (option_flatten o)) found)

pub returns-in_err-found : goal.returns-in_err-found
returns-in_err-found c =
    let all = c.threads.ensures ∙ ap (λ (v : Threaded). v.threads) (threads-shown c.self-inside.inside.0.0 c.self.inside
    c.args.self.now c.self-inside.view_is c.self.view_is c.self-inside.invariant) in
    let found = numbered c.args.self.now.state.threads c.args.thread.number c.index_of.result None c.if-thread-eq0.false
    c.index_of.ensures (entry-missing c.threads.result.now c.args.self.now.state.threads c.index_of.result all
    c.in_err-found.ensures.lookup.0) in
    c.from_residual.ensures
    ∙ sym (ap (λ (o : Option (Option AThread)). option_map (λ (t : AThread). t.name) (option_flatten o)) found)
