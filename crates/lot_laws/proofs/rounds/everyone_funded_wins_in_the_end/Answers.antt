use Rattle.lot_laws.proofs.Lemmas.{loses-few, rounds-never}
use Rattle.lot_laws.proofs.rounds.everyone_funded_wins_in_the_end.Goals as goal

pub returns-clause-rounds : goal.returns-clause-rounds
returns-clause-rounds c s p t n between ready = rounds-never s p between t ready n

pub returns-clause-anywhere : goal.returns-clause-anywhere
returns-clause-anywhere c before p t least most n stays = loses-few n before p t least most stays
