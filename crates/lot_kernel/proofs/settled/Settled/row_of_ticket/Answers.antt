use Rattle.lot_kernel.proofs.Lemmas.{IsInOrder, Snapshot, active-is, currency_name, rules, subst, threads-shown, ticket-row-of, unwrap_or, [], ◌≡◌}
use Rattle.lot_kernel.proofs.settled.Settled.row_of_ticket.Goals as goal

pub returns : goal.returns
returns c =
    let x = c.args.self.now.kernel.now in
    let held = threads-shown c.kernel-inside.inside.0.0 c.kernel.inside c.args.self.now.kernel.now
    c.kernel-inside.view_is c.kernel.view_is c.kernel-inside.invariant in
    let order = subst (λ (k : Snapshot). IsInOrder k.state) c.kernel.view_is c.kernel.invariant in
    let named : unwrap_or (currency_name x.state c.args.found.issuer) [] ≡ c.in_ok-issuer.issuer = search rules in
    let active = active-is x.state order c.args.ticket.number c.args.found c.kernel-inside.inside.0.0.threads x.stale
    x.meter c.is_active.result held c.requires.found c.is_active.ensures in
    ticket-row-of x.state c.args.ticket.number c.args.found c.in_ok-issuer.issuer c.target_name.result
    c.is_active.result c.args.value c.requires.found named c.target_name.ensures active c.requires.value
