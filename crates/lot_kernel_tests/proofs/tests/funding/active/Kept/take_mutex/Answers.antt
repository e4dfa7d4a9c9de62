use Rattle.lot_kernel_tests.proofs.Common.{IsKeptFor, LimitedFunding, Mutex, Thread, ap, edge_between, length, own-edge, subst, sym, ◌∙◌}
use Rattle.lot_kernel_tests.proofs.tests.funding.active.Kept.take_mutex.Goals as goal

pub attach-requires : goal.attach-requires
attach-requires g c =
    let may = c.check_may_own.ensures in
    let w = c.check_may_own.new.graph in
    let (live, (size, kept)) = c.self.invariant in
    let same = subst (λ (x : LimitedFunding). IsKeptFor c.self.inside.active x live) (sym may.unchanged) kept in
    let adds =
    own-edge w c.take_mutex.new.self c.args.mutex c.args.owner may.mutex may.free c.take_mutex.ensures.owned in
    record { kept = (w, edge_between 1 (Mutex c.args.mutex) (Thread c.args.owner), live, adds, same) }

pub invariant_of-self : goal.invariant_of-self
invariant_of-self g c =
    let may = c.check_may_own.ensures in
    let w = c.check_may_own.new.graph in
    let (live, (size, kept)) = c.self.invariant in
    let same = subst (λ (x : LimitedFunding). IsKeptFor c.self.inside.active x live) (sym may.unchanged) kept in
    let adds =
    own-edge w c.take_mutex.new.self c.args.mutex c.args.owner may.mutex may.free c.take_mutex.ensures.owned in (
      live,
      (
        size ∙ sym (ap (λ (x : LimitedFunding). length x.funding.lends) may.unchanged)
            ∙ sym (ap (λ (x : LimitedFunding). length x.funding.lends) c.take_mutex.ensures.owned),
        c.attach.ensures.kept w (edge_between 1 (Mutex c.args.mutex) (Thread c.args.owner)) live adds same,
      ),
    )
