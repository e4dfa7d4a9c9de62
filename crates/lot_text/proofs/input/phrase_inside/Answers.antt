use Rattle.lot_text.proofs.Lemmas.{Err, Ok, OnOk, Result, false, phrase-read, reading_of, refl, sym, true, ◌∙◌}
use Rattle.lot_text.proofs.input.phrase_inside.Goals as goal

-- what holds in any case holds on `Ok`
always : {A E : Type 0} (r : Result A E) (P : Type 0) → P → OnOk r P
always (Ok done) P holds = holds
always (Err fault) P holds = tt

pub returns-then-stands_alone-clause-read : goal.returns-then-stands_alone-clause-read
returns-then-stands_alone-clause-read c =
    let read =
    phrase-read (reading_of c.reading.inside) c.args.reading.now c.in-Some.script c.in-Some-of_token.word true
    c.args.word.now c.args.tokens.now
    c.reading.view_is (sym c.take.ensures.value ∙ c.in-Some.is) c.in-Some-of_token.ensures c.if-stands_alone.ensures in
    rw read (rw c.empty.ensures at c.script_line.ensures)

pub returns-clause-read : goal.returns-clause-read
returns-clause-read c =
    let read =
    phrase-read (reading_of c.reading.inside) c.args.reading.now c.in-Some.script c.in-Some-of_token.word false
    c.args.word.now c.args.tokens.now
    c.reading.view_is (sym c.take.ensures.value ∙ c.in-Some.is) c.in-Some-of_token.ensures c.if-stands_alone.ensures in
    rw read (rw c.next_alone.ensures.alone at c.script_line-2.ensures)

pub returns-then-stands_alone-clause-left : goal.returns-then-stands_alone-clause-left
returns-then-stands_alone-clause-left c =
    always c.script_line.result _ (rw (← c.in-Some-of_token.ensures, ← c.if-stands_alone.ensures) refl)

pub returns-clause-left : goal.returns-clause-left
returns-clause-left c =
    always c.script_line-2.result _
    (rw (← c.in-Some-of_token.ensures, ← c.if-stands_alone.ensures) c.next_alone.ensures.rest)
