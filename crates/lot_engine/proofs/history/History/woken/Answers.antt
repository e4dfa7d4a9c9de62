use Rattle.lot_engine.proofs.Lemmas.{KeptHistory, subst, sym, threads_are, woken_in, ◌∙◌, ◌≡◌}
use Rattle.lot_engine.proofs.history.History.woken.Goals as goal

pub returns : goal.returns
returns c =
    let s = c.self.inside in
    let i = c.self.invariant in
    subst (λ (h : KeptHistory). c.deref.result.now ≡ woken_in h.size.processors h.items) c.self.view_is
    (c.deref.ensures.value ∙ sym (threads_are s.processors s.actors.items s.woken.items i.threads i.wakes))
