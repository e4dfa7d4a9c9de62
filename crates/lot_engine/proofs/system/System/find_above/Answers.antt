use Rattle.lot_engine.proofs.Lemmas.{HasLayoutFor, HasThoseAbove, IsBetween, IsInOrder, Seen, State, above-those, layout-of, length, run-in-order, subst, sym, world_of}
use Rattle.lot_engine.proofs.system.System.find_above.Goals as goal

pub find_above-requires-clause-layout : goal.find_above-requires-clause-layout
find_above-requires-clause-layout c =
    let s = c.self.inside in
    let i = c.self.invariant in
    layout-of s.program s.history.items s.kernel.state i.held.state i.held.kept.limits c.args.above.now
    (subst (λ (x : Seen). HasLayoutFor x.setting.program c.args.above.now) (sym c.self.view_is) c.requires.layout)

pub returns-clause-above : goal.returns-clause-above
returns-clause-above c =
    let s = c.self.inside in
    let i = c.self.invariant in
    let t = c.args.thread in
    let order : IsInOrder s.kernel.state =
    subst IsInOrder (sym i.held.state) (run-in-order s.program s.history.items i.program.limits) in
    let there : IsBetween 1 (length s.kernel.state.records) t =
    subst (λ (x : State). IsBetween 1 (length x.records) t) (sym i.held.state)
    (subst (λ (x : Seen). IsBetween 1 (length (world_of x).state.records) t) (sym c.self.view_is) c.requires.thread) in
    let those = above-those s.kernel.state t c.find_above.new.above order there c.find_above.ensures.above in
    rw (← c.self.view_is) (subst (λ (x : State). HasThoseAbove x t c.find_above.new.above) i.held.state those)
