use Rattle.lot_kernel.proofs.Lemmas.{Funding, LimitedFunding, ap, arith, funding_in, holder-free, mutex-kept, owner_of, sym, the_view, ◌∙◌}
use Rattle.lot_kernel.proofs.tables.Tables.owner_past_ports.Goals as goal

pub returns-then-mutex-self : goal.returns-then-mutex-self
returns-then-mutex-self c = rw (← c.self.view_is) (sym
    (holder-free (the_view c.self.inside).state c.args.mutex c.self.invariant.holders.mutexes c.if-mutex-self.true))

pub returns : goal.returns
returns c =
    let kept = mutex-kept (the_view c.self.inside).state c.args.mutex (omega (arith, c.if-mutex-self.false)) in
    rw (← c.self.view_is)
    (c.owner.ensures ∙ ap (λ (w : LimitedFunding). owner_of w.funding c.args.mutex) c.graph.ensures
    ∙ ap (λ (f : Funding). owner_of f c.args.mutex) (ap funding_in c.self.invariant.threads) ∙ sym kept)
