use Rattle.lot_graph.proofs.Common.{Edge, ap, arith, issued_edges, length, own_edges, sym, ◌++◌, ◌∙◌}
use Rattle.lot_graph.proofs.walks.EdgesOutOfIterator.next.Goals as goal

pub returns-in-Some-clause-steps : goal.returns-in-Some-clause-steps
returns-in-Some-clause-steps c =
    let s = c.self.inside in
    rw c.take.ensures.after (sym c.self.view_is ∙ ap
    (λ own. own_edges own ++ issued_edges s.tickets.now.tickets s.issued) (sym c.take.ensures.value ∙ c.in-Some.is))

pub returns-in-Some-clause-goes : goal.returns-in-Some-clause-goes
returns-in-Some-clause-goes c =
    let step = returns-in-Some-clause-steps c in record {
      on = λ finite. (tt, tt, omega (arith, ap (length {A = Edge}) step));
      keeps = tt;
      rests = λ finite. tt;
    }
