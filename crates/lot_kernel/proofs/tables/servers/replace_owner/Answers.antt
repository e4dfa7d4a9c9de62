use Rattle.lot_kernel.proofs.Lemmas.{IfSome, IsLiveIn, Option, ap, may-own, replaced, replaced-stale, set_number, subst, sym, ℕ, ◌∙◌}
use Rattle.lot_kernel.proofs.tables.servers.replace_owner.Goals as goal

pub apply-requires-2-clause-allowed : goal.apply-requires-2-clause-allowed
apply-requires-2-clause-allowed c =
    let live = subst (λ (o : Option ℕ). IfSome o (IsLiveIn c.args.threads.now)) c.in-Some.is c.requires.live in
    may-own c.args.threads.now c.apply.new.self c.args.mutex c.requires.mutex c.apply.ensures.applied c.in-Some.next
    live

pub returns-clause-threads : goal.returns-clause-threads
returns-clause-threads c =
    replaced c.args.threads.now c.apply.new.self c.args.mutex c.requires.mutex c.apply.ensures.applied
    c.apply-2.new.self c.in-Some.next c.apply-2.ensures.applied
    ∙ ap (λ (o : Option ℕ). record c.args.threads.now { owners = set_number c.args.threads.now.owners c.args.mutex o; stale = c.apply-2.new.self.stale }) (sym c.in-Some.is)

pub returns-clause-kept : goal.returns-clause-kept
returns-clause-kept c node stale = c.apply-2.ensures.stale.kept node (c.apply.ensures.stale.kept node stale)

pub returns-clause-stale : goal.returns-clause-stale
returns-clause-stale c =
    replaced-stale c.args.threads.now c.apply.new.self c.args.mutex c.requires.mutex c.apply.ensures.applied
    c.apply-2.new.self c.in-Some.next c.apply-2.ensures.applied (λ e. c.requires.other (e ∙ sym c.in-Some.is))
    c.apply.ensures.stale.reached c.apply-2.ensures.stale.reached
