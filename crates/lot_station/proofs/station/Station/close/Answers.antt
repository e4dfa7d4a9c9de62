use Rattle.lot_station.proofs.Common.{CountsAgree, Holder, InOrder, List, Setting, ap, inl, inr, refl, subst, sym, ◌∙◌}
use Rattle.lot_station.proofs.station.Station.close.Goals as goal

pub returns-then-not-in_order-clause-err : goal.returns-then-not-in_order-clause-err
returns-then-not-in_order-clause-err g c =
    let processors = c.self.invariant ∙ ap (λ (s : Setting). s.program.limits.processors) c.self.view_is in
    inl (refl, λ order. c.if-not-in_order.ensures (subst (InOrder c.self.inside.processors) (sym c.as_slice.ensures.value) (subst (λ n. InOrder n c.args.seats.items) (sym processors) order)))

pub returns-then-not-counts_agree-clause-err : goal.returns-then-not-counts_agree-clause-err
returns-then-not-counts_agree-clause-err g c =
    let x = c.into_inner-system.result.system in
    let processors = c.self.invariant ∙ ap (λ (s : Setting). s.program.limits.processors) c.self.view_is in
    let order = subst (λ n. InOrder n c.args.seats.items) processors
    (subst (InOrder c.self.inside.processors) c.as_slice.ensures.value c.if-not-in_order.ensures) in
    inr (x, refl, c.into_inner-system.result.setting ∙ c.self.view_is, c.into_inner-system.result.legal, order, λ agree. c.if-not-counts_agree.ensures (subst (λ (l : List Holder). CountsAgree x l) (sym c.as_slice-2.ensures.value) agree))

pub returns-clause-counts : goal.returns-clause-counts
returns-clause-counts g c =
    subst (λ (l : List Holder). CountsAgree c.into_inner-system.result.system l) c.as_slice-2.ensures.value
    c.if-not-counts_agree.ensures
