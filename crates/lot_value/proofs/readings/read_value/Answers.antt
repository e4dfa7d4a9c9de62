use Rattle.lot_value.proofs.Lemmas.{Edge, HasEachOnce, LeadsInto, List, all-count, all-sum, ap, arith, counted-more, counted_up, each-here, each-next, kept_worth, layout_of, length, length_push, next-sum, refl, share, subst, sum_by_push, sym, [], ◌++◌, ◌+◌, ◌∙◌, ◌∷◌, ◌≡◌}
use Rattle.lot_value.proofs.readings.read_value.Goals as goal

pub loop-edge-init : goal.loop-edge-init
loop-edge-init c = record {
  split = subst (λ (edges : List Edge). HasEachOnce edges (LeadsInto c.args.sources.graph.now.funding c.args.node))
      (sym c.into_iter-edge-iterator.ensures.into_iter_gives) c.edges_into-edge-items.ensures.edges;
  total = λ live are. refl;
  reads = refl;
}

pub read_share-total-requires-clause-edge : goal.read_share-total-requires-clause-edge
read_share-total-requires-clause-edge c =
    (c.args.node, each-here (LeadsInto c.args.sources.graph.now.funding c.args.node) c.loop-edge.yielded _ _ c.in-Some.edge c.in-Some.ensures.steps c.loop-edge.invariant.split)

pub read_share-total-requires-clause-sources : goal.read_share-total-requires-clause-sources
read_share-total-requires-clause-sources c =
    let s = c.args.sources in
    let (live, are, small) = c.requires.sources in
    let g = share s.unit s.graph.now.funding live (kept_worth (layout_of s.graph.now) s.values.now) in
    let part = next-sum s.graph.now.funding c.args.node c.loop-edge.yielded c.loop-edge.edge-iterator
    c.loop-edge.invariant.split g c.next.new.self c.in-Some.edge c.in-Some.ensures.steps in
    (live, are, omega (arith, part, small))

pub overflow_add-total : goal.overflow_add-total
overflow_add-total c =
    let s = c.args.sources in
    let (live, are, small) = c.requires.sources in
    let g = share s.unit s.graph.now.funding live (kept_worth (layout_of s.graph.now) s.values.now) in
    let part = next-sum s.graph.now.funding c.args.node c.loop-edge.yielded c.loop-edge.edge-iterator
    c.loop-edge.invariant.split g c.next.new.self c.in-Some.edge c.in-Some.ensures.steps in
    omega (arith, part, small, c.loop-edge.invariant.total live are, c.read_share-total.ensures.value live are)

pub loop-edge-preserved : goal.loop-edge-preserved
loop-edge-preserved c = record {
  split = each-next (LeadsInto c.args.sources.graph.now.funding c.args.node) c.loop-edge.yielded _ _ c.in-Some.edge
      c.in-Some.ensures.steps c.loop-edge.invariant.split;
  total = λ live are.
      let s = c.args.sources in
      let g = share s.unit s.graph.now.funding live (kept_worth (layout_of s.graph.now) s.values.now) in
      omega (arith, c.loop-edge.invariant.total live are, c.read_share-total.ensures.value live are, sum_by_push g c.loop-edge.yielded c.in-Some.edge);
  reads =
      let start = c.args.reads.now in
      let done = c.loop-edge.yielded in
      let one : length done + 1 ≡ length (done ++ c.in-Some.edge ∷ []) =
      omega (arith, length_push done c.in-Some.edge) in
      c.read_share-total.ensures.counted ∙ ap (λ n. counted_up n 1) c.loop-edge.invariant.reads
      ∙ counted-more start (length done) 1 ∙ ap (counted_up start) one;
}

pub returns-clause-value : goal.returns-clause-value
returns-clause-value c live are =
    let s = c.args.sources in
    let g = share s.unit s.graph.now.funding live (kept_worth (layout_of s.graph.now) s.values.now) in
    c.loop-edge.invariant.total live are ∙ all-sum s.graph.now.funding c.args.node c.loop-edge.yielded
    c.loop-edge.edge-iterator c.loop-edge.invariant.split g c.in-None.ensures.steps.0

pub returns-clause-counted : goal.returns-clause-counted
returns-clause-counted c =
    let s = c.args.sources in
    let count = all-count s.graph.now.funding c.args.node c.loop-edge.yielded c.loop-edge.edge-iterator
    c.loop-edge.invariant.split c.in-None.ensures.steps.0 in
    c.loop-edge.invariant.reads ∙ ap (counted_up c.args.reads.now) count
