use Rattle.lot_ports.proofs.Lemmas.{Contains, IsLive, IsNowhere, List, QueueLists, Ready, Record, Some, Threaded, ap, callers_at, client-other, first_client, live-kept, live_in, makes-serving, nowhere-replied, rules, subst, sym, unwrap_or, ◌∙◌, ◌≡◌}
use Rattle.lot_ports.proofs.ports.serve.Goals as goal

pub receive-receipt-requires-clause-server : goal.receive-receipt-requires-clause-server
receive-receipt-requires-clause-server c =
    let server = c.args.server.number in
    let client = unwrap_or (first_client c.args.queues.now.clients server) 0 in
    let is : client ≡ c.args.client.number = ap (λ o. unwrap_or o 0) c.requires.client in
    let wake : Record → Record = λ r. record r { status = Ready; delivered = Some c.args.number } in
    let other : ¬ (server ≡ client) = λ same.
    client-other c.args.queues.now server c.args.client.number c.requires.nowhere c.requires.client (same ∙ is) in
    subst (λ (rs : List Record). IsLive (live_in rs) server) (sym (ap (λ (v : Threaded). v.records)
    c.reply.ensures.done.threads)) (live-kept wake c.args.threads.now.records client server other c.requires.server)

pub receive-receipt-requires-clause-nowhere : goal.receive-receipt-requires-clause-nowhere
receive-receipt-requires-clause-nowhere c =
    subst (λ (q : QueueLists). IsNowhere q c.args.server.number) (sym c.reply.ensures.done.queues)
    (nowhere-replied c.args.queues.now c.args.threads.now.records c.args.server.number c.args.server.number
    c.args.number c.requires.nowhere)

pub returns : goal.returns
returns c =
    let client = unwrap_or (first_client c.args.queues.now.clients c.args.server.number) 0 in
    let is : client ≡ c.args.client.number = ap (λ o. unwrap_or o 0) c.requires.client in
    let left = c.reply.new.queues in
    let apart : ¬ Contains (callers_at left.ports c.args.port.number) client = subst (λ t. ¬ Contains
    (callers_at left.ports c.args.port.number) t) (sym is) (c.reply.ensures.nowhere.calls c.args.port.number) in
    record {
      outcome = search rules;
      after = search rules;
      threads = search rules;
      queues = search rules;
      kept = λ node stale. c.receive-receipt.ensures.kept node (c.reply.ensures.done.kept node stale);
      stale = makes-serving c.args.threads.now c.reply.new.threads c.receive-receipt.new.threads
          (ap (λ (v : Threaded). v.lending) c.reply.ensures.done.threads) left.clients left.ports c.args.server.number
          client c.args.port.number (λ r. record r { status = Ready; delivered = Some c.args.number })
          (ap (λ (v : Threaded). v.records) c.reply.ensures.done.threads) c.receive-receipt.ensures.threads apart
          c.reply.ensures.done.stale c.receive-receipt.ensures.stale;
    }
