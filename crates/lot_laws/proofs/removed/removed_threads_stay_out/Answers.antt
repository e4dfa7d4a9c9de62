use Rattle.lot_laws.proofs.Lemmas.{ap, reachable-edges, reachable-order, record-stays, stands-nowhere, stays-removed, sym, unwrap_or, [], ◌∙◌}
use Rattle.lot_laws.proofs.removed.removed_threads_stay_out.Goals as goal

pub returns-clause-edges : goal.returns-clause-edges
returns-clause-edges c s t is gone = reachable-edges s is t gone

pub returns-clause-lists : goal.returns-clause-lists
returns-clause-lists c = stands-nowhere

pub returns-clause-serves : goal.returns-clause-serves
returns-clause-serves c s t clients is gone at = sym (ap (λ o. unwrap_or o []) at) ∙ (reachable-order s is).idle t gone

pub returns-clause-later : goal.returns-clause-later
returns-clause-later c = stays-removed

pub returns-clause-record_stays : goal.returns-clause-record_stays
returns-clause-record_stays c = record-stays
