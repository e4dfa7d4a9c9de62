use Rattle.lot_threads.proofs.Common.{Contains, MakesStaleIn, Threaded, subst, sym}
use Rattle.lot_threads.proofs.threads.Threads.reuse_thread.Goals as goal

pub returns-clause-kept : goal.returns-clause-kept
returns-clause-kept c = λ node stale.
    subst (λ (x : Threaded). Contains x.stale node) (sym c.self.view_is) (c.change.ensures.kept node stale)

pub returns-clause-stale : goal.returns-clause-stale
returns-clause-stale c =
    subst (λ (x : Threaded). MakesStaleIn c.args.self.now x) (sym c.self.view_is) c.change.ensures.stale
