use Rattle.lot_graph.proofs.Lemmas.{IsEdge, IsNext, OfLender, OfMutex, Spreads, funding_of, head-within, mutex-spread, subst, sym, thread-spread}
use Rattle.lot_graph.proofs.reach.EdgesSteps.add_next.Goals as goal

pub add_node-requires-clause-within : goal.add_node-requires-clause-within
add_node-requires-clause-within c = head-within c.args.layout (funding_of c.args.self.now)
    (OfLender c.in-Thread.thread) c.lend_head.result c.requires.fit.heads c.lend_head.ensures

pub add_node-requires-in-Mutex-clause-within : goal.add_node-requires-in-Mutex-clause-within
add_node-requires-in-Mutex-clause-within c = head-within c.args.layout (funding_of c.args.self.now)
    (OfMutex c.in-Mutex.mutex) c.owner_head.result c.requires.fit.heads c.owner_head.ensures

pub returns-in-Thread : goal.returns-in-Thread
returns-in-Thread c =
    let l = c.args.layout in
    let f = funding_of c.args.self.now in
    record { spreads = subst (λ node. Spreads c.args.found.now c.add_node.new.found (IsNext l (IsEdge f) node)) (sym c.in-Thread.is) (thread-spread l f c.in-Thread.thread _ _ c.lend_head.result c.lend_head.ensures c.add_node.ensures.spreads) }

pub returns-in-Mutex : goal.returns-in-Mutex
returns-in-Mutex c =
    let l = c.args.layout in
    let f = funding_of c.args.self.now in
    record { spreads = subst (λ node. Spreads c.args.found.now c.add_node-in-Mutex.new.found (IsNext l (IsEdge f) node)) (sym c.in-Mutex.is) (mutex-spread l f c.in-Mutex.mutex _ _ c.owner_head.result c.owner_head.ensures c.add_node-in-Mutex.ensures.spreads) }
