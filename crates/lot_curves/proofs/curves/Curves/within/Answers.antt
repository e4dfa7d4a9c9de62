use Rattle.lot_curves.proofs.Common.{Curves, ap, curves_between, curves_within, last_end, min, rules, sym, unwrap_or, ◌∙◌, ◌≡◌}
use Rattle.lot_curves.proofs.curves.Curves.within.Goals as goal

pub returns-in-Some : goal.returns-in-Some
returns-in-Some c =
    let curves = c.args.self in
    let interval = c.in-Some.interval in
    let last : c.self.inside.last ≡ last_end curves.stretches = c.self.invariant.last
    ∙ ap (λ (v : Curves). last_end v.stretches) c.self.view_is in
    let from : c.min.result ≡ min interval.from c.self.inside.last = search rules in
    let to : c.unwrap_or.result ≡ unwrap_or interval.to c.self.inside.last = search rules in
    c.between.ensures
    ∙ ap (λ n. curves_between n c.unwrap_or.result curves) (from ∙ ap (min interval.from) last)
    ∙ ap (λ n. curves_between (min interval.from (last_end curves.stretches)) n curves)
    (to ∙ ap (unwrap_or interval.to) last)
    ∙ ap (λ o. curves_within o curves) (sym c.in-Some.is)
