-- One token is skipped after the other.
use Rattle.lot_text.proofs.Common.{refl, sym, ◌∙◌}
use Rattle.lot_text.proofs.TokenLemmas.{skipped, too-few}
use Rattle.lot_text.proofs.tokens.Tokens.after.Goals as goal

pub returns-in_default : goal.returns-in_default
returns-in_default c =
    (refl, too-few c.args.self c.loop.counter c.args.count (sym c.loop.invariant.rest ∙ c.in_default.ensures.next.0) c.loop-test.true)

pub loop-preserved : goal.loop-preserved
loop-preserved c =
    let later =
    skipped c.args.self c.loop.counter _ c.next_token.new.self (sym c.loop.invariant.rest ∙ c.in-Some.ensures.next) in
    record { rest = later.0; some = later.1 }
