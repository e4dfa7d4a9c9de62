use Rattle.lot_explain.proofs.Lemmas.{append-nil, idle-other, sym, world_of}
use Rattle.lot_explain.proofs.gathering.push_if_ready.Goals as goal

pub returns-in_default-clause-lots : goal.returns-in_default-clause-lots
returns-in_default-clause-lots c =
    let s = (world_of c.args.system.now).state in
    let other = idle-other s c.args.thread (c.thread_row.ensures.gone c.in_default.is) in
    rw other (sym (append-nil c.args.lots.now.items))
