use Rattle.lot_kernel.proofs.Lemmas.{IsThere, None, Record, ap, arith, at_number, at_number-map, false, funding_in, is_none, is_some, lead-nobody, lend_of, no-record, number-there, number-within, option_map, present, reaches-lead, sym, true, ◌∙◌, ◌≡◌, ◌≢◌}
use Rattle.lot_kernel.proofs.leads.lends_lead.Goals as goal

pub reaches-requires-clause-from : goal.reaches-requires-clause-from
reaches-requires-clause-from c =
    let v = c.args.threads.now in
    let there : IsThere v.records c.args.lender.number = number-within v.records c.args.lender.number (present
    (at_number v.records c.args.lender.number) (sym c.if-is_none.ensures ∙ ap is_some c.record.ensures.record)) in
    (there.0, omega (arith, there.1, c.requires.few))

pub reaches-requires-clause-to : goal.reaches-requires-clause-to
reaches-requires-clause-to c = (omega (arith, c.requires.thread.0), omega (arith, c.requires.thread.1, c.requires.few))

pub returns-clause-leads : goal.returns-clause-leads
returns-clause-leads c = reaches-lead (funding_in c.args.threads.now) c.requires.no_cycle c.args.lender.number
    c.args.thread.number c.reaches.result c.reaches.ensures.reaches

pub returns-then-is_none-clause-leads : goal.returns-then-is_none-clause-leads
returns-then-is_none-clause-leads c =
    let v = c.args.threads.now in
    let none : at_number v.records c.args.lender.number ≡ None =
    no-record c.record.result (at_number v.records c.args.lender.number) c.record.ensures.record c.if-is_none.ensures in
    let other : c.args.lender.number ≢ c.args.thread.number = λ same.
    let never : true ≡ false = sym (ap is_none (sym (ap (at_number v.records) same) ∙ none))
    ∙ number-there v.records c.args.thread.number (omega (arith, c.requires.thread.0), c.requires.thread.1) in cc in
    let lends = at_number-map (λ (r : Record). lend_of v.lending r.status) v.records c.args.lender.number
    ∙ ap (option_map (λ (r : Record). lend_of v.lending r.status)) none in
    sym (lead-nobody (funding_in v) c.requires.no_cycle c.args.lender.number c.args.thread.number other lends)
