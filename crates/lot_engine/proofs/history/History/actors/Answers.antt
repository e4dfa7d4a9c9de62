use Rattle.lot_engine.proofs.Lemmas.{KeptHistory, bytes_are, map, min, subst, sym, ◌+◌, ◌∙◌, ◌≡◌}
use Rattle.lot_engine.proofs.history.History.actors.Goals as goal

pub returns : goal.returns
returns c =
    let s = c.self.inside in
    let i = c.self.invariant in
    subst
    (λ (h : KeptHistory). c.deref.result.now ≡ map (λ actor. min actor (h.size.processors + 1)) h.items) c.self.view_is
    (c.deref.ensures.value ∙ sym (bytes_are s.processors s.actors.items s.woken.items i.each i.threads i.wakes))
