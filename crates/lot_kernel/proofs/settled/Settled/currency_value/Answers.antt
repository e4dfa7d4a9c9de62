use Rattle.lot_kernel.proofs.Lemmas.{Contains, List, Node, Threaded, active_amount, ap, contains-nothing, eq-eqb, funding_in, live_in, node_value, subst, threads-shown, ◌∙◌}
use Rattle.lot_machine.specs.declared.funding.Node.TheVariants as node
use Rattle.lot_kernel.proofs.settled.Settled.currency_value.Goals as goal

pub returns-then-currency-eq0 : goal.returns-then-currency-eq0
returns-then-currency-eq0 c =
    let held = threads-shown c.kernel-inside.inside.0.0 c.kernel.inside c.args.self.now.kernel.now
    c.kernel-inside.view_is c.kernel.view_is c.kernel-inside.invariant in
    rw (eq-eqb c.args.currency.number 0 c.if-currency-eq0.true)
    (c.active_amount.ensures ∙ ap (λ (v : Threaded). active_amount (funding_in v) (live_in v.records) 0) held)

pub returns : goal.returns
returns c =
    let held = threads-shown c.kernel-inside.inside.0.0 c.kernel.inside c.args.self.now.kernel.now
    c.kernel-inside.view_is c.kernel.view_is c.kernel-inside.invariant in
    let n = node.Currency c.args.currency.number in
    let settled = ap (λ (v : Threaded). v.stale) held ∙ c.args.self.now.settled in
    let fresh : ¬ Contains c.kernel-inside.inside.0.0.threads.stale n =
    λ stale. contains-nothing n (subst (λ (xs : List Node). Contains xs n) settled stale) in
    c.value_of.ensures.worth fresh c.if-currency-eq0.false
    ∙ ap (λ (v : Threaded). node_value v.unit (funding_in v) (live_in v.records) n) held
