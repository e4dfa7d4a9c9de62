use Rattle.lot_station.proofs.Lemmas.{None, Seen, View, all_but_first, ap, arith, baton, claim, counts_in, deals, deals_one, dealt_of, first_actor, get_or_from_slice_get, length, opens, resting, rules, seat, seen_in, sym, [], ◌+◌, ◌<◌, ◌∙◌, ◌∷◌}
use Rattle.lot_station.proofs.baton.station.BatonStation.open.Goals as goal

pub try_push_as-requires-clause-rule : goal.try_push_as-requires-clause-rule
try_push_as-requires-clause-rule c = opens _ _ _ _ c.in_ok-queue.ensures.3

pub another-pass-requires-clause-rule : goal.another-pass-requires-clause-rule
another-pass-requires-clause-rule c = deals _ _ _ _ _ c.loop-k.invariant.1 (search rules)

pub loop-k-init : goal.loop-k-init
loop-k-init c = (search rules, search rules, search rules, search rules, search rules)

pub loop-k-preserved : goal.loop-k-preserved
loop-k-preserved c =
    let i = c.loop-k.invariant in
    let split = c.another-pass.ensures in
    let theirs = split.rule.1 ∙ ap first_actor i.1 in (
      search rules,
      split.rule.0 ∙ ap all_but_first i.1,
      deals_one _ _ c.loop-k.seats.items c.push_reserved.new.self.items c.loop-k.k _ i.2 (search rules)
          (λ j. seat (split.queue.1.0 j) c.loop-k.k (seen_in (theirs j).claims) None) c.push_reserved.ensures.items,
      search rules,
      search rules,
    )

pub returns-clause-own : goal.returns-clause-own
returns-clause-own c =
    dealt_of (baton c.in_ok-queue.queue.table.shared.table_id c.processors-processors.result) c.args.system
    c.loop-k.seats.items c.processors-processors.ensures.program c.loop-k.invariant.2

pub invariant_of-seat : goal.invariant_of-seat
invariant_of-seat c =
    let i = c.loop-k.invariant in
    let theirs = c.another-pass.ensures.rule.1 ∙ ap first_actor i.1 in
    let seen = ap (λ (v : View). seen_in v.claims) theirs in
    let low : c.loop-k.k < length c.in_ok-counts.counts.items =
    omega (arith, c.in_ok-counts.ensures.count, c.loop-k-test.true, c.processors-processors.ensures.program) in
    let own = get_or_from_slice_get c.in_ok-counts.counts.items c.loop-k.k
    (counts_in c.args.system c.loop-k.k) c.index.result.now (c.in_ok-counts.ensures.each c.loop-k.k low) in (
      search rules,
      theirs ∙ ap (λ (x : Seen). resting (claim c.loop-k.k (c.loop-k.k + 1) x ∷ [])) (sym seen),
      search rules,
      c.index.ensures ∙ own ∙ ap (λ (x : Seen). counts_in x c.loop-k.k) (sym seen),
      ap (λ (x : Seen). x.setting.timer) seen ∙ c.requires,
    )
