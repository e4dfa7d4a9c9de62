use Rattle.lot_text.proofs.Lemmas.{sym, tokens_of-words, ◌∙◌}
use Rattle.lot_text.proofs.tokens.Tokens.of_line.Goals as goal

pub returns-then-is_printable : goal.returns-then-is_printable
returns-then-is_printable c =
    let printable = sym c.is_printable.ensures ∙ c.if-is_printable.true in
    (printable, sym (tokens_of-words c.args.separators c.args.line.now printable))
