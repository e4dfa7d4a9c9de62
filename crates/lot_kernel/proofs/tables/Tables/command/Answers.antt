use Rattle.lot_kernel.proofs.Lemmas.{KeepsStale, MakesStale, Snapshot, Step, ap, inl, done, refl, refused-reply, refused-state, subst, sym, ◌∙◌}
use Rattle.lot_kernel.specs.Checked.{done_step}
use Rattle.lot_kernel.proofs.tables.Tables.command.Goals as goal

pub done-requires-clause-order : goal.done-requires-clause-order
done-requires-clause-order c = rw c.checked.ensures.unchanged c.requires

pub done-requires-clause-ready : goal.done-requires-clause-ready
done-requires-clause-ready c = rw c.checked.ensures.unchanged c.in-Ok.ensures.checked.2

pub returns-in-Ok : goal.returns-in-Ok
returns-in-Ok c =
    let old = c.args.self.now in
    let is = done old.state c.args.command.now c.in-Ok.ensures.checked.0 ∙ c.in-Ok.ensures.checked.1 in
    record {
      reply = c.done.ensures.reply ∙ ap (λ (x : Snapshot). (done_step x.state c.in-Ok.checked).reply)
          c.checked.ensures.unchanged ∙ sym (ap (λ (x : Step). x.reply) is);
      state = c.done.ensures.state ∙ ap (λ (x : Snapshot). (done_step x.state c.in-Ok.checked).state)
          c.checked.ensures.unchanged ∙ sym (ap (λ (x : Step). x.state) is);
      stale = subst (λ (x : Snapshot). MakesStale x c.done.new.self) c.checked.ensures.unchanged c.done.ensures.stale;
      kept = subst (λ (x : Snapshot). KeepsStale x c.done.new.self) c.checked.ensures.unchanged c.done.ensures.kept;
      meter = c.done.ensures.meter ∙ ap (λ (x : Snapshot). x.meter) c.checked.ensures.unchanged;
    }

pub returns-in-Err : goal.returns-in-Err
returns-in-Err c =
    let old = c.args.self.now in
    let is = c.in-Err.ensures.checked in
    rw c.checked.ensures.unchanged
    (record { reply = refused-reply old.state c.args.command.now c.in-Err.refusal is; state = refused-state old.state c.args.command.now c.in-Err.refusal is; stale = λ x stale. inl stale; kept = λ x stale. stale; meter = refl })
