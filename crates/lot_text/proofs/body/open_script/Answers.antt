use Rattle.lot_text.proofs.Lemmas.{Gives-refusal, Reading, alone-refused, ap, arith, body_after_header, length, reading_of, refl, script-full, script-named, script-refused, script_names, sym}
use Rattle.lot_simulation.specs.declared.input.BodyWord.TheVariants as body
use Rattle.lot_text.proofs.body.open_script.Goals as goal

pub returns-in_err-token : goal.returns-in_err-token
returns-in_err-token c =
    let other =
    alone-refused (body_after_header c.args.number c.args.reading.now body.Script) c.args.tokens
    c.in_err-token.field-0.0 refl (λ a b others. refl)
    c.in_err-token.ensures in
    Gives-refusal _ c.from_residual.result c.in_err-token.field-0.0 _ c.from_residual.ensures other

pub returns-in_err-name : goal.returns-in_err-name
returns-in_err-name c =
    let refused =
    script-refused c.args.number c.args.reading.now c.args.reading.now c.in_ok-token.token.now
    (script_names c.args.reading.now) c.in_err-name.field-0.0 refl
    refl c.in_err-name.ensures in
    Gives-refusal _ c.from_residual-in_err-name.result c.in_err-name.field-0.0 _ c.from_residual-in_err-name.ensures
    (rw c.in_ok-token.ensures refused)

pub returns-then-len : goal.returns-then-len
returns-then-len c =
    let count = ap (λ (read : Reading). length read.scripts) c.reading.view_is in
    rw c.in_ok-token.ensures
    (script-full c.args.number c.args.reading.now c.args.reading.now c.in_ok-token.token.now
    (script_names c.args.reading.now) c.in_ok-name.name refl refl c.in_ok-name.ensures
    (omega (arith, count, c.if-len.true, c.len.ensures)))

pub returns : goal.returns
returns c =
    let names = ap script_names (sym c.reading.view_is) in
    let read =
    script-named c.args.number (reading_of c.reading.inside) c.args.reading.now c.in_ok-token.token.now
    (script_names c.args.reading.now) c.in_ok-name.name
    c.reading.view_is names c.in_ok-name.ensures (omega (arith, c.if-len.false, c.len.ensures)) in
    rw (c.in_ok-token.ensures, c.new.ensures) read
