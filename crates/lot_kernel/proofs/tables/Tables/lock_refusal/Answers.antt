use Rattle.lot_kernel.proofs.Lemmas.{Snapshot, Some, ap, eq-eqb, false, lock-checked, mutex_at, not, refl, sym, true, ◌∙◌}
use Rattle.lot_kernel.proofs.tables.Tables.lock_refusal.Goals as goal

pub returns-then-not-has_mutex : goal.returns-then-not-has_mutex
returns-then-not-has_mutex c = let missing = c.has_mutex.ensures.missing ∙ ap not c.if-not-has_mutex.true in
    record { refusal = rw missing refl; unchanged = refl }

pub returns-in_err-owner : goal.returns-in_err-owner
returns-in_err-owner c =
    let s = c.args.self.now.state in
    let present = c.has_mutex.ensures.missing ∙ ap not c.if-not-has_mutex.false in
    let none = ap (λ (x : Snapshot). (mutex_at x.state.mutexes c.args.mutex.number).owner) (sym c.self.view_is)
    ∙ sym c.in_err-owner.ensures in
    record { refusal = c.from_residual.ensures ∙ rw (present, none) refl; unchanged = refl }

pub returns-then-owner-thread : goal.returns-then-owner-thread
returns-then-owner-thread c =
    let s = c.args.self.now.state in
    let present = c.has_mutex.ensures.missing ∙ ap not c.if-not-has_mutex.false in
    let owned = ap (λ (x : Snapshot). (mutex_at x.state.mutexes c.args.mutex.number).owner) (sym c.self.view_is)
    ∙ sym c.in_ok-owner.ensures in
    record { refusal = rw (present, owned ∙ ap Some c.if-owner-thread.true, eq-eqb c.args.thread.number c.args.thread.number refl) refl; unchanged = refl }

pub returns-then-is_lock_cycle : goal.returns-then-is_lock_cycle
returns-then-is_lock_cycle c =
    let s = c.args.self.now.state in
    let owned = ap (λ (x : Snapshot). (mutex_at x.state.mutexes c.args.mutex.number).owner) (sym c.self.view_is)
    ∙ sym c.in_ok-owner.ensures in
    record {
      refusal = sym (lock-checked s c.args.thread.number c.args.mutex.number c.in_ok-owner.owner true
          (c.has_mutex.ensures.there c.if-not-has_mutex.false)
          (c.has_mutex.ensures.within c.if-not-has_mutex.false) owned c.if-owner-thread.false
          (sym c.is_lock_cycle.ensures.leads ∙ c.if-is_lock_cycle.true));
      unchanged = c.is_lock_cycle.ensures.unchanged;
    }

pub returns : goal.returns
returns c =
    let s = c.args.self.now.state in
    let owned = ap (λ (x : Snapshot). (mutex_at x.state.mutexes c.args.mutex.number).owner) (sym c.self.view_is)
    ∙ sym c.in_ok-owner.ensures in
    record {
      refusal = sym (lock-checked s c.args.thread.number c.args.mutex.number c.in_ok-owner.owner false
          (c.has_mutex.ensures.there c.if-not-has_mutex.false)
          (c.has_mutex.ensures.within c.if-not-has_mutex.false) owned c.if-owner-thread.false
          (sym c.is_lock_cycle.ensures.leads ∙ c.if-is_lock_cycle.false));
      unchanged = c.is_lock_cycle.ensures.unchanged;
    }
