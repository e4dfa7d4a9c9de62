use Rattle.lot_engine.proofs.Lemmas.{IsInOrder, Seen, State, arith, base_value, currency-bounded, funding_of, live_of, order-sound, run-in-order, subst, sym, world_of, worth_of, ◌≡◌, ◌≤◌}
use Rattle.lot_engine.proofs.system.System.currency_value.Goals as goal

pub returns-clause-value : goal.returns-clause-value
returns-clause-value c =
    let n = c.args.currency in
    let value : c.currency_value.result ≡ worth_of c.self.inside.kernel.state n = c.currency_value.ensures.value in
    subst (λ (x : Seen). c.currency_value.result ≡ worth_of (world_of x).state n) c.self.view_is
    (subst (λ (x : State). c.currency_value.result ≡ worth_of x n) c.self.invariant.held.state value)

pub returns-clause-within : goal.returns-clause-within
returns-clause-within c =
    let s = c.self.inside in
    let i = c.self.invariant in
    let k = s.kernel.state in
    let order : IsInOrder k =
    subst IsInOrder (sym i.held.state) (run-in-order s.program s.history.items i.program.limits) in
    let bounded : worth_of k c.args.currency ≤ base_value k =
    currency-bounded (funding_of k) order.no_cycle order.funds_there k.limits.unit (live_of k) c.args.currency in
    let within : c.currency_value.result ≤ base_value k =
    subst (λ n. n ≤ base_value k) (sym c.currency_value.ensures.value) bounded in
    subst (λ (x : Seen). c.currency_value.result ≤ base_value (world_of x).state) c.self.view_is
    (subst (λ (x : State). c.currency_value.result ≤ base_value x) i.held.state within)

pub returns-clause-small : goal.returns-clause-small
returns-clause-small c =
    let s = c.self.inside in
    let i = c.self.invariant in
    let k = s.kernel.state in
    let order : IsInOrder k =
    subst IsInOrder (sym i.held.state) (run-in-order s.program s.history.items i.program.limits) in
    let bounded : worth_of k c.args.currency ≤ base_value k =
    currency-bounded (funding_of k) order.no_cycle order.funds_there k.limits.unit (live_of k) c.args.currency in
    let base = (order-sound k order).bounded.base in
    omega (arith, bounded, base, c.currency_value.ensures.value)
