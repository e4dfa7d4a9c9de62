use Rattle.lot_simulation.proofs.input.HeaderWord.of_token.Goals as goal

pub returns : goal.returns
returns c = rw (← c.is_timed.ensures) c.word_spelled.ensures
