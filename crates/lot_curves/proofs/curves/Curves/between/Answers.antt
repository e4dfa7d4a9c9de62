use Rattle.lot_curves.proofs.Lemmas.{Curves, ap, arith, drop, last_end, last_end-between, length, map, min, rules, stretch_between, sym, take, take_at, ◌++◌, ◌-◌, ◌∙◌, ◌≡◌, ◌≤◌}
use Rattle.lot_curves.proofs.curves.Curves.between.Goals as goal

pub invariant_of-result : goal.invariant_of-result
invariant_of-result c =
    let from = c.args.from in
    let to = c.args.to in
    let inside = c.self.inside in
    let items = inside.stretches.items in
    let made = c.cut.new.stretches in
    let whole : take inside.stretches.len (made ++ drop (length made) items) ≡ made =
    take_at made (drop (length made) items) inside.stretches.len (c.cut.auto.stretches ∙ c.as_mut_slice.ensures.len) in
    let cut : made ≡ map (stretch_between from to) items = c.cut.ensures
    ∙ ap (map (stretch_between from to)) c.as_mut_slice.ensures.value in
    let last : c.saturating_sub.result ≡ min inside.last to - from = search rules in
    let within : from ≤ inside.last =
    omega (arith, c.requires, ap (λ (v : Curves). last_end v.stretches) c.self.view_is, c.self.invariant.last) in
    record {
      last = last ∙ ap (λ n. min n to - from) c.self.invariant.last ∙ sym (last_end-between from to items)
          ∙ ap last_end (sym cut ∙ sym whole);
      early = omega (arith, last, within, c.self.invariant.early);
      threads = c.self.invariant.threads;
      turns = c.self.invariant.turns;
    }
