use Rattle.lot_laws.proofs.UnlockMoves.{next-gets, owner-gives, rest-keep, together-keeps}
use Rattle.lot_laws.proofs.unlocks.unlocks_transfer_value.Goals as goal

pub returns-clause-owner : goal.returns-clause-owner
returns-clause-owner c = owner-gives

pub returns-clause-next : goal.returns-clause-next
returns-clause-next c = next-gets

pub returns-clause-others : goal.returns-clause-others
returns-clause-others c s e m t next other order lends passes = rest-keep s e m t next order lends passes other

pub returns-clause-together : goal.returns-clause-together
returns-clause-together c = together-keeps
