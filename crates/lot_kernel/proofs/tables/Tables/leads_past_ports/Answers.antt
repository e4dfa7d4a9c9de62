use Rattle.lot_kernel.proofs.Lemmas.{Funding, LimitedFunding, Snapshot, ap, arith, funding_in, funding_of, lends_lead_within, length, suc, sym, walk-ends, walk-goes, walk-stops, without_servers, ◌+◌, ◌-◌, ◌<◌, ◌∙◌, ◌≡◌}
use Rattle.lot_kernel.proofs.tables.Tables.leads_past_ports.Goals as goal

pub loop-init : goal.loop-init
loop-init c =
    let f = without_servers c.args.self.now.state in
    let all : length f.lends - 0 ≡ length f.lends = omega arith in
    record { leads = ap (λ n. lends_lead_within n f c.args.lender.number c.args.thread.number) all }

pub returns-then-current-thread : goal.returns-then-current-thread
returns-then-current-thread c =
    let f = without_servers c.args.self.now.state in
    sym (walk-ends f (length f.lends - c.loop.counter) c.loop.current c.args.thread.number c.if-current-thread.true)
    ∙ c.loop.invariant.leads

pub loop-preserved : goal.loop-preserved
loop-preserved c =
    let f = without_servers c.args.self.now.state in
    let many : c.threads-end.result ≡ length f.lends =
    c.threads-end.ensures.count ∙ ap (λ (w : LimitedFunding). length w.funding.lends) c.graph.ensures
    ∙ ap (λ (g : Funding). length g.lends) (ap funding_in c.self.invariant.threads)
    ∙ ap (λ (x : Snapshot). length (funding_of x.state).lends) c.self.view_is in
    let below : c.loop.counter < length f.lends = omega (arith, c.loop-test.true, many) in
    let step : length f.lends - c.loop.counter ≡ suc (length f.lends - (c.loop.counter + 1)) = omega (arith, below) in
    record {
      leads = sym (walk-goes f (length f.lends - (c.loop.counter + 1)) c.loop.current c.args.thread.number
          c.in-Some.next c.if-current-thread.false (sym c.borrower_past_ports.ensures ∙ c.in-Some.is))
          ∙ ap (λ n. lends_lead_within n f c.loop.current c.args.thread.number) (sym step) ∙ c.loop.invariant.leads;
    }

pub returns-in_default : goal.returns-in_default
returns-in_default c =
    let f = without_servers c.args.self.now.state in
    sym (walk-stops f (length f.lends - c.loop.counter) c.loop.current c.args.thread.number c.if-current-thread.false
    (sym c.borrower_past_ports.ensures ∙ c.in_default.is)) ∙ c.loop.invariant.leads

pub returns : goal.returns
returns c =
    let f = without_servers c.args.self.now.state in
    let many : c.threads-end.result ≡ length f.lends =
    c.threads-end.ensures.count ∙ ap (λ (w : LimitedFunding). length w.funding.lends) c.graph.ensures
    ∙ ap (λ (g : Funding). length g.lends) (ap funding_in c.self.invariant.threads)
    ∙ ap (λ (x : Snapshot). length (funding_of x.state).lends) c.self.view_is in
    let none : length f.lends - c.loop.counter ≡ 0 = omega (arith, c.loop-test.false, many) in
    ap (λ n. lends_lead_within n f c.loop.current c.args.thread.number) (sym none) ∙ c.loop.invariant.leads
