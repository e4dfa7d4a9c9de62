-- the lends left lead to the same threads as those of the lender
use Rattle.lot_kernel.proofs.Common.{lends_lead, lends_lead_within, length, without_servers, ◌-◌, ◌≡◌}
use Rattle.lot_kernel.proofs.tables.Tables.leads_past_ports.Given as goal

abbrev pub invariant-loop : goal.invariant-loop
invariant-loop l = record {
  leads : lends_lead_within (length (without_servers l.fn.self.state).lends - l.counter)
      (without_servers l.fn.self.state) l.current l.thread.number
      ≡ lends_lead (without_servers l.fn.self.state) l.fn.lender.number l.thread.number;
}
