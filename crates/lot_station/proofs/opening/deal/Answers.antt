use Rattle.lot_station.proofs.Lemmas.{Counts, all-counted, all-turns, ap, dealt_one, left-enough, left-next, length-turns_of, quanta_in, rules, ticks_in, times_in, total_of, turns_in, turns_of, ◌+◌, ◌∙◌}
use Rattle.lot_station.proofs.Dealing.{deals_one}
use Rattle.lot_station.proofs.opening.deal.Goals as goal

pub loop-k-init : goal.loop-k-init
loop-k-init g c =
    let x = c.args.system.now in
    let r = c.requires in
    let actors = ap (λ n. n + 1) c.processors.ensures.program in (
      search rules,
      search rules,
      search rules,
      all-turns x r.legal _ _ _ actors r.turns.0 r.turns.1,
      all-counted x r.legal _ _ _ actors r.quanta.0 quanta_in r.quanta.1,
      all-counted x r.legal _ _ _ actors r.ticks.0 ticks_in r.ticks.1,
    )

pub split_off-requires : goal.split_off-requires
split_off-requires g c =
    let x = c.args.system.now in
    left-enough (times_in x) c.loop-k.k _ _ _ _ c.loop-k.invariant.3 c.loop-k-test.true
    (ap (λ (k : Counts). k.turns) c.counts-had.ensures ∙ length-turns_of x c.loop-k.k)

pub split_off-requires-in-loop-k : goal.split_off-requires-in-loop-k
split_off-requires-in-loop-k g c =
    let x = c.args.system.now in
    left-enough (λ actor. total_of quanta_in (turns_of actor (turns_in x))) c.loop-k.k _ _ _ _ c.loop-k.invariant.4
    c.loop-k-test.true (ap (λ (k : Counts). k.quanta) c.counts-had.ensures)

pub split_off-requires-in-loop-k-2 : goal.split_off-requires-in-loop-k-2
split_off-requires-in-loop-k-2 g c =
    let x = c.args.system.now in
    left-enough (λ actor. total_of ticks_in (turns_of actor (turns_in x))) c.loop-k.k _ _ _ _ c.loop-k.invariant.5
    c.loop-k-test.true (ap (λ (k : Counts). k.ticks) c.counts-had.ensures)

pub loop-k-preserved : goal.loop-k-preserved
loop-k-preserved g c =
    let x = c.args.system.now in
    let i = c.loop-k.invariant in
    let t = c.split_off.ensures in
    let q = c.split_off-in-loop-k.ensures in
    let k = c.split_off-in-loop-k-2.ensures in
    let turns = ap (λ (n : Counts). n.turns) c.counts-had.ensures ∙ length-turns_of x c.loop-k.k in
    let quanta = ap (λ (n : Counts). n.quanta) c.counts-had.ensures in
    let ticks = ap (λ (n : Counts). n.ticks) c.counts-had.ensures in
    let is = dealt_one x c.loop-k.k _ _ _ (t.amount ∙ turns) (q.amount ∙ quanta) (k.amount ∙ ticks) in (
      deals_one x c.loop-k.seats.items c.push_reserved.new.self.items c.loop-k.k _ i.0
          (search rules) is c.push_reserved.ensures.items,
      search rules,
      search rules,
      left-next (times_in x) c.loop-k.k _ _ _ _ _ _ i.3 turns t.parts_left t.amount_left,
      left-next (λ actor. total_of quanta_in (turns_of actor (turns_in x))) c.loop-k.k _ _ _ _ _ _ i.4 quanta
          q.parts_left q.amount_left,
      left-next (λ actor. total_of ticks_in (turns_of actor (turns_in x))) c.loop-k.k _ _ _ _ _ _ i.5 ticks k.parts_left
          k.amount_left,
    )
