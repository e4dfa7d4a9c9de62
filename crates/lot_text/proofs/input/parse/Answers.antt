use Rattle.lot_text.proofs.Lemmas.{arith, drop, eqb-false, eqb-true, last-line, length, length-after, lines_of, lines_of-count, program_in-read, program_in-stops, read_lines-goes_on, refl, sym, take, take_rest, ◌+◌, ◌-◌, ◌<◌, ◌∙◌, ◌≡◌}
use Rattle.lot_text.proofs.input.parse.Goals as goal

pub loop-rest-preserved : goal.loop-rest-preserved
loop-rest-preserved c =
    let bs = c.loop-rest.rest.now in
    let k = c.line_len-len.result in
    let b = c.min-whole.result in
    let some : 0 < length bs = omega (arith, eqb-false _ 0 (sym c.is_empty.ensures ∙ c.loop-rest-test.true)) in
    record {
      all = length-after c.loop-rest.end (length c.args.bytes.now) k b bs c.min-whole.ensures c.loop-rest.invariant.all;
      number = omega (arith, some, c.min-whole.ensures);
      within = c.in-Ok.ensures.within;
      count = omega (arith, c.loop-rest.invariant.count, lines_of-count k b bs (take (length bs - b) (drop b bs)) some c.line_len-len.ensures.others c.min-whole.ensures (take_rest bs b));
      read = sym (read_lines-goes_on (c.loop-rest.number + 1) c.loop-rest.end k b c.loop-rest.reading
          c.read_line.new.reading bs _ (take (length bs - b) (drop b bs)) some c.line_len-len.ensures.others
          c.min-whole.ensures refl (take_rest bs b) c.in-Ok.ensures.read) ∙ c.loop-rest.invariant.read;
    }

pub returns-in-Err-clause-fault : goal.returns-in-Err-clause-fault
returns-in-Err-clause-fault c =
    let bs = c.loop-rest.rest.now in
    let some : 0 < length bs = omega (arith, eqb-false _ 0 (sym c.is_empty.ensures ∙ c.loop-rest-test.true)) in
    rw c.on_line.ensures (program_in-stops (c.loop-rest.number + 1) c.loop-rest.end c.line_len-len.result
    c.min-whole.result c.loop-rest.reading c.in-Err.fault c.args.bytes.now bs _ some c.line_len-len.ensures.others
    c.min-whole.ensures refl c.in-Err.ensures.read c.loop-rest.invariant.read)

pub loop-rest-init : goal.loop-rest-init
loop-rest-init c =
    record { all = omega arith; number = omega arith; within = omega arith; count = omega arith; read = refl }

pub returns-in-Some-clause-program : goal.returns-in-Some-clause-program
returns-in-Some-clause-program c =
    let bytes = c.args.bytes.now in
    let none : length c.loop-rest.rest.now ≡ 0 = eqb-true _ _ (sym c.is_empty.ensures ∙ c.loop-rest-test.false) in
    let read = program_in-read (c.loop-rest.number + 1) c.loop-rest.end c.loop-rest.reading bytes c.loop-rest.rest.now
    none c.loop-rest.invariant.read in
    rw (read, c.in-Some.is)
    (c.into_program.ensures.program (length (lines_of bytes)) (last-line c.loop-rest.number c.max.result bytes
    c.loop-rest.rest.now none c.loop-rest.invariant.count c.max.ensures))

pub returns-in-Some-clause-fault : goal.returns-in-Some-clause-fault
returns-in-Some-clause-fault c =
    let bytes = c.args.bytes.now in
    let none : length c.loop-rest.rest.now ≡ 0 = eqb-true _ _ (sym c.is_empty.ensures ∙ c.loop-rest-test.false) in
    let read = program_in-read (c.loop-rest.number + 1) c.loop-rest.end c.loop-rest.reading bytes c.loop-rest.rest.now
    none c.loop-rest.invariant.read in
    rw (read, c.in-Some.is)
    (c.into_program.ensures.fault (length (lines_of bytes)) (last-line c.loop-rest.number c.max.result bytes
    c.loop-rest.rest.now none c.loop-rest.invariant.count c.max.ensures))

pub returns-in-None-clause-fault : goal.returns-in-None-clause-fault
returns-in-None-clause-fault c =
    let bytes = c.args.bytes.now in
    let none : length c.loop-rest.rest.now ≡ 0 = eqb-true _ _ (sym c.is_empty.ensures ∙ c.loop-rest-test.false) in
    let read = program_in-read (c.loop-rest.number + 1) c.loop-rest.end c.loop-rest.reading bytes c.loop-rest.rest.now
    none c.loop-rest.invariant.read in
    let last = last-line c.loop-rest.number c.max-in-None.result bytes c.loop-rest.rest.now none
    c.loop-rest.invariant.count c.max-in-None.ensures in
    rw (read, c.in-None.is, last) refl
