use Rattle.lot_mutex.proofs.Lemmas.{All, Drawn, IfSome, IsThreadOf, Listed, ap, arith, drawn-small, map, none-wins, settled-fresh, subst, sum, sym, waiters-there, worth_in, worths-little, ◌<◌, ◌^◌, ◌∙◌, ◌≡◌}
use Rattle.lot_machine.specs.declared.funding.Node.TheVariants.{Mutex}
use Rattle.lot_mutex.proofs.lottery.Lottery.hold.Goals as goal

pub returns-then-value_of-eq0-clause-drawn : goal.returns-then-value_of-eq0-clause-drawn
returns-then-value_of-eq0-clause-drawn c =
    let v = c.args.threads.now in
    let worth = c.value_of.ensures.worth (settled-fresh v (Mutex c.args.mutex) c.requires.settled) tt in
    sym (none-wins (map (worth_in v) c.args.self.now.waiters) c.args.d (omega
    (arith, worths-little v c.args.mutex c.args.self.now.waiters c.requires.waiters, worth, c.if-value_of-eq0.true)))

pub list_worths-requires-clause-there : goal.list_worths-requires-clause-there
list_worths-requires-clause-there c =
    let same : c.args.self.now.waiters ≡ c.deref.result.now = ap (λ (l : Listed). l.waiters) (sym c.self.view_is)
    ∙ sym c.deref.ensures.value in
    subst (All (IsThreadOf c.args.threads.now)) same
    (waiters-there c.args.threads.now c.args.mutex c.args.self.now.waiters c.requires.waiters)

pub winner-requires : goal.winner-requires
winner-requires c =
    let v = c.args.threads.now in
    let weighed : c.deref-2.result.now ≡ map (worth_in v) c.args.self.now.waiters = c.deref-2.ensures.value
    ∙ c.list_worths.ensures.worths
    ∙ ap (map (worth_in v)) (c.deref.ensures.value ∙ ap (λ (l : Listed). l.waiters) c.self.view_is) in
    let worth = c.value_of.ensures.worth (settled-fresh v (Mutex c.args.mutex) c.requires.settled) tt in
    omega (arith, ap sum weighed, worths-little v c.args.mutex c.args.self.now.waiters c.requires.waiters, worth, c.value_of.type_inv)

pub returns-clause-fits : goal.returns-clause-fits
returns-clause-fits c =
    let v = c.args.threads.now in
    let weighed : c.deref-2.result.now ≡ map (worth_in v) c.args.self.now.waiters = c.deref-2.ensures.value
    ∙ c.list_worths.ensures.worths
    ∙ ap (map (worth_in v)) (c.deref.ensures.value ∙ ap (λ (l : Listed). l.waiters) c.self.view_is) in
    let worth = c.value_of.ensures.worth (settled-fresh v (Mutex c.args.mutex) c.requires.settled) tt in
    let small : sum c.deref-2.result.now < 2 ^ 64 = omega
    (arith, ap sum weighed, worths-little v c.args.mutex c.args.self.now.waiters c.requires.waiters, worth, c.value_of.type_inv) in
    subst (λ o. IfSome o (λ (w : Drawn). (w.number < 2 ^ 64) × (w.total < 2 ^ 64))) (sym c.winner.ensures.drawn)
    (drawn-small c.deref-2.result.now c.args.d (2 ^ 64) small)
