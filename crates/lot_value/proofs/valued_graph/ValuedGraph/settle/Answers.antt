use Rattle.lot_value.proofs.Lemmas.{IsUnit, live_of, stays-small, subst, sym}
use Rattle.lot_value.proofs.valued_graph.ValuedGraph.settle.Goals as goal

pub settle-requires : goal.settle-requires
settle-requires c =
    let w = c.self.inside.graph in
    let inv = c.self.invariant in
    let live = live_of w c.self.inside.active in
    record { right = (live, inv.kept, stays-small c.self.inside.values.unit w live inv.kept.fits inv.tickets inv.unit, inv.right) }

pub invariant_of-self : goal.invariant_of-self
invariant_of-self c =
    let w = c.self.inside.graph in
    let inv = c.self.invariant in record {
      kept = inv.kept;
      right = c.settle.ensures.right (live_of w c.self.inside.active) inv.kept inv.right;
      tickets = inv.tickets;
      unit = subst IsUnit (sym c.settle.ensures.unit) inv.unit;
    }
