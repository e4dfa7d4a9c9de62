use Rattle.lot_graph.proofs.Lemmas.{IsNext, IsNodeWithin, Spreads, arith, contains-at, followed-all, followed-end, followed-more, followed-start, found-low, list-back, nodes_of, subst, sym, ◌∙◌}
use Rattle.lot_graph.proofs.search.find.Goals as goal

pub loop-init : goal.loop-init
loop-init g c =
    let first = followed-start c.args.layout (g.S.Steps.leads c.args.steps.now) c.args.from c.requires.from _ _
    c.list_of-start.result c.list_of-start.ensures c.clear.ensures.empty c.add.ensures.spreads in record {
      found_list = (c.add.ensures.spreads.nodes ∙ c.clear.ensures.nodes ∙ c.requires.list.0, c.add.ensures.spreads.lists ∙ c.clear.ensures.lists ∙ c.requires.list.1);
      consistent = c.add.ensures.consistent;
      is_next = first.1;
      whole = first.0;
    }

pub node_of-requires : goal.node_of-requires
node_of-requires g c =
    found-low c.args.layout c.loop.found c.loop.invariant.found_list c.loop.invariant.consistent c.in-Some.place
    (contains-at (nodes_of c.loop.found 0) c.loop.counter c.in-Some.place (sym c.loop.invariant.is_next ∙ c.in-Some.is))

pub add_next-requires-clause-within : goal.add_next-requires-clause-within
add_next-requires-clause-within g c =
    let low = found-low c.args.layout c.loop.found c.loop.invariant.found_list c.loop.invariant.consistent
    c.in-Some.place (contains-at (nodes_of c.loop.found 0) c.loop.counter c.in-Some.place
    (sym c.loop.invariant.is_next ∙ c.in-Some.is)) in
    subst (IsNodeWithin c.args.layout) (sym c.node_of.ensures) (list-back c.args.layout c.in-Some.place low).1

pub next-next-requires : goal.next-next-requires
next-next-requires g c =
    let at = sym c.loop.invariant.is_next ∙ c.in-Some.is in
    record { listed = record { list = 0; contains = contains-at (nodes_of c.add_next.new.found 0) c.loop.counter c.in-Some.place (c.add_next.ensures.spreads.kept c.loop.counter c.in-Some.place at) } }

pub loop-preserved : goal.loop-preserved
loop-preserved g c =
    let leads = g.S.Steps.leads c.args.steps.now in
    let before = c.loop.invariant in
    let spreads = c.add_next.ensures.spreads in
    let at = sym before.is_next ∙ c.in-Some.is in record {
      found_list = (spreads.nodes ∙ before.found_list.0, spreads.lists ∙ before.found_list.1);
      consistent = spreads.consistent before.consistent;
      is_next = c.next-next.ensures.following 0 c.loop.counter (spreads.kept c.loop.counter c.in-Some.place at);
      whole =
          followed-more c.args.layout leads c.args.from c.requires.from c.requires.ahead c.loop.found
          c.add_next.new.found c.loop.counter c.in-Some.place before.whole at
          (subst (λ node. Spreads c.loop.found c.add_next.new.found (IsNext c.args.layout leads node)) c.node_of.ensures
          spreads);
    }

pub returns-in_default-clause-finds : goal.returns-in_default-clause-finds
returns-in_default-clause-finds g c =
    let all = followed-end c.loop.found c.loop.counter c.loop.next c.loop.invariant.is_next c.in_default.is in
    followed-all c.args.layout (g.S.Steps.leads c.args.steps.now) c.args.from c.requires.from c.requires.ahead
    c.loop.found c.loop.counter c.loop.invariant.whole all

pub returns-clause-finds : goal.returns-clause-finds
returns-clause-finds g c =
    let all = c.loop.invariant.consistent.bounded 0 in
    followed-all c.args.layout (g.S.Steps.leads c.args.steps.now) c.args.from c.requires.from c.requires.ahead
    c.loop.found c.loop.counter c.loop.invariant.whole
    (omega (arith, all, c.loop.invariant.found_list.0, c.loop-test.false, c.node_count-end.ensures))
