use Rattle.lot_value.proofs.Lemmas.{Currency, IsStale, IsUnit, Some, Ticket, Valued, live_of, stays-small, subst, sym, ticket_at, ◌≡◌}
use Rattle.lot_value.proofs.valued_graph.ValuedGraph.ticket_value.Goals as goal

pub ticket_value-requires : goal.ticket_value-requires
ticket_value-requires c =
    let w = c.self.inside.graph in
    let inv = c.self.invariant in
    let live = live_of w c.self.inside.active in
    record {
      right =
          (live, inv.kept, stays-small c.self.inside.values.unit w live inv.kept.fits inv.tickets inv.unit, inv.right);
      fresh = subst (λ (x : Valued). (t : Ticket) → ticket_at x.now.funding c.args.ticket ≡ Some t
          → ¬ IsStale x.known (Currency t.issuer)) (sym c.self.view_is) c.requires.fresh;
    }

pub returns-clause-worth : goal.returns-clause-worth
returns-clause-worth c = rw (← c.self.view_is) (c.ticket_value.ensures.worth
    (live_of c.self.inside.graph c.self.inside.active) c.self.invariant.kept c.self.invariant.right)

pub invariant_of-self : goal.invariant_of-self
invariant_of-self c =
    let inv = c.self.invariant in record {
      kept = inv.kept;
      right = c.ticket_value.ensures.right (live_of c.self.inside.graph c.self.inside.active) inv.right;
      tickets = inv.tickets;
      unit = subst IsUnit (sym c.ticket_value.ensures.unit) inv.unit;
    }
