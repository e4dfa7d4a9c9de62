use Rattle.lot_value.proofs.Lemmas.{Valued, live_of, stays-small, subst, sym, [], ◌≡◌}
use Rattle.lot_value.proofs.valued_graph.ValuedGraph.settled_ticket_value.Goals as goal

pub settled_ticket_value-requires : goal.settled_ticket_value-requires
settled_ticket_value-requires c =
    let w = c.self.inside.graph in
    let inv = c.self.invariant in
    let live = live_of w c.self.inside.active in
    record {
      right =
          (live, inv.kept, stays-small c.self.inside.values.unit w live inv.kept.fits inv.tickets inv.unit, inv.right);
      settled = subst (λ (x : Valued). x.known.stale ≡ []) (sym c.self.view_is) c.requires.settled;
    }

pub returns : goal.returns
returns c = rw (← c.self.view_is) (c.settled_ticket_value.ensures
    (live_of c.self.inside.graph c.self.inside.active) c.self.invariant.kept c.self.invariant.right)
