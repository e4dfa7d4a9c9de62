use Rattle.lot_text.proofs.Lemmas.{Gives-fault, Ok, ap, early-above, header-fails, header-read, sym, ◌∙◌}
use Rattle.lot_text.proofs.header.header_line.Goals as goal

pub returns-in_err-header_arguments : goal.returns-in_err-header_arguments
returns-in_err-header_arguments c =
    let early = sym c.is_late.ensures ∙ c.if-is_late.false in
    Gives-fault _ c.from_residual.result c.in_err-header_arguments.field-0.0 _ c.from_residual.ensures.1
    c.from_residual.ensures.0
    (header-fails c.in_err-header_arguments.field-0.0 c.args.reading.now c.args.word c.args.tokens early
    c.in_err-header_arguments.ensures)

pub add_header_word-requires : goal.add_header_word-requires
add_header_word-requires c = early-above c.args.reading.now c.args.word (sym c.is_late.ensures ∙ c.if-is_late.false)

pub returns : goal.returns
returns c =
    let early = sym c.is_late.ensures ∙ c.if-is_late.false in
    header-read c.args.reading.now c.header_arguments.new.reading c.args.word c.args.tokens early
    c.in_ok-header_arguments.ensures ∙ ap Ok (sym c.in_ok-add_header_word.ensures)
