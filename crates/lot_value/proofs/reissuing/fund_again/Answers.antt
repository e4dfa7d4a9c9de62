use Rattle.lot_value.proofs.Lemmas.{Ticket, ap, changed-apart, changed-target, changed-there, free-target, is-funding, option_map, reissued-again}
use Rattle.lot_value.proofs.reissuing.fund_again.Goals as goal

pub unfund-requires : goal.unfund-requires
unfund-requires c = record { funding = is-funding c.args.graph.now.now.funding c.args.ticket c.args.before c.requires.ticket c.requires.funding }

pub reissue-requires-clause-unfunded : goal.reissue-requires-clause-unfunded
reissue-requires-clause-unfunded c = free-target c.args.graph.now c.unfund.new.self c.unfund.new.self c.args.ticket
    c.args.amount c.args.before c.requires.ticket c.unfund.ensures.follows

pub give-requires-clause-unfunded : goal.give-requires-clause-unfunded
give-requires-clause-unfunded c = changed-target c.args.graph.now c.unfund.new.self c.reissue.new.self c.args.ticket
    c.args.amount c.args.before c.requires.ticket c.unfund.ensures.follows c.reissue.ensures.follows

pub give-requires-clause-target : goal.give-requires-clause-target
give-requires-clause-target c =
    let there =
    c.unfund.ensures.there c.args.before.target (ap (option_map (λ (t : Ticket). t.target)) c.requires.ticket) in
    changed-there c.args.graph.now c.unfund.new.self c.reissue.new.self c.args.ticket c.args.amount c.args.before
    c.requires.ticket c.unfund.ensures.follows c.reissue.ensures.follows there

pub give-requires-clause-apart : goal.give-requires-clause-apart
give-requires-clause-apart c =
    changed-apart c.args.graph.now c.unfund.new.self c.reissue.new.self c.args.ticket c.args.amount c.args.before
    c.requires.ticket c.unfund.ensures.follows c.reissue.ensures.follows c.requires.sound.no_cycle

pub returns : goal.returns
returns c = record {
  follows = reissued-again c.args.graph.now c.unfund.new.self c.reissue.new.self c.args.ticket c.args.amount
      c.args.before c.requires.ticket c.unfund.ensures.follows c.reissue.ensures.follows c.give.new.self
      c.requires.other c.give.ensures.follows;
}
