-- A word of the body, which is none of the header, or a word of the header.
use Rattle.lot_text.proofs.Common.{None, Some, refl, sym, word_in, ◌≡◌}
use Rattle.lot_text.proofs.WordLemmas.{no-header}
use Rattle.lot_simulation.specs.Formats.{is_timed}
use Rattle.lot_simulation.specs.Grammar.{body_words_of, header_words_of}
use Rattle.lot_text.proofs.input.line_outside.Goals as goal

pub returns-in-Some : goal.returns-in-Some
returns-in-Some c =
    let timed : c.args.reading.now.is_timed ≡ is_timed c.reading.inside.format = rw (← c.reading.view_is) refl in
    let body : Some c.in-Some.field-0 ≡ word_in (body_words_of c.args.reading.now) c.args.word.now =
    rw timed c.in-Some.ensures in
    let header : word_in (header_words_of c.args.reading.now) c.args.word.now ≡ None =
    no-header c.args.reading.now.is_timed c.args.word.now c.in-Some.field-0 (sym body) in
    rw (header, ← body, ← c.lacks_duration.ensures, c.if-lacks_duration.true) refl

pub returns-in-Some-2 : goal.returns-in-Some-2
returns-in-Some-2 c =
    let timed : c.args.reading.now.is_timed ≡ is_timed c.reading.inside.format = rw (← c.reading.view_is) refl in
    let body : Some c.in-Some.field-0 ≡ word_in (body_words_of c.args.reading.now) c.args.word.now =
    rw timed c.in-Some.ensures in
    let header : word_in (header_words_of c.args.reading.now) c.args.word.now ≡ None =
    no-header c.args.reading.now.is_timed c.args.word.now c.in-Some.field-0 (sym body) in
    rw (header, ← body, ← c.lacks_duration.ensures, c.if-lacks_duration.false) c.body_line.ensures

pub returns-in-Some-of_token : goal.returns-in-Some-of_token
returns-in-Some-of_token c =
    let timed : c.args.reading.now.is_timed ≡ is_timed c.reading.inside.format = rw (← c.reading.view_is) refl in
    let header : Some c.in-Some-of_token.word ≡ word_in (header_words_of c.args.reading.now) c.args.word.now =
    rw timed c.in-Some-of_token.ensures in
    rw (← header) c.header_line.ensures

pub returns-in-None-of_token : goal.returns-in-None-of_token
returns-in-None-of_token c =
    let timed : c.args.reading.now.is_timed ≡ is_timed c.reading.inside.format = rw (← c.reading.view_is) refl in
    let body : None ≡ word_in (body_words_of c.args.reading.now) c.args.word.now = rw timed c.in-None.ensures in
    let header : None ≡ word_in (header_words_of c.args.reading.now) c.args.word.now =
    rw timed c.in-None-of_token.ensures in
    rw (← header, ← body) refl
