use Rattle.lot_laws.proofs.Enclosed.{outside-kept}
use Rattle.lot_laws.proofs.insulation.changes_stay_inside.Goals as goal

pub returns : goal.returns
returns c before after well well_now unit live now currency inside change active =
    outside-kept before after well.no_cycle well.funds_there well_now.no_cycle well_now.funds_there well.amounts
    well_now.amounts well.no_base well_now.no_base unit live now currency inside change active.0 active.1
