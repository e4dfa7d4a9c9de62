use Rattle.lot_draw.proofs.Lemmas.{AreWeights, Known, subst, sym, weights-stale}
use Rattle.lot_draw.proofs.laws.weights_stay_where_more_is_stale.Goals as goal

pub returns : goal.returns
returns c q old new same kept weights =
    subst (λ (k : Known). AreWeights q k) (sym same) (weights-stale q old new.stale kept weights)
