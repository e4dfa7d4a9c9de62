use Rattle.lot_system.proofs.Lemmas.{Some, Warnings, all-more, all-seeds, ap, ends_refused, many-are, with_seed, [], ◌||◌, ◌∙◌}
use Rattle.lot_system.proofs.seeds.play_each.Goals as goal

pub play_with-requires : goal.play_with-requires
play_with-requires c = record { many = many-are c.args.program.now [] c.args.all.now c.requires }

pub play_others-requires-clause-first : goal.play_others-requires-clause-first
play_others-requires-clause-first c =
    all-more c.args.program.now [] c.args.seeds.now.first c.args.all.now c.play_with.new.all c.requires
    c.in_ok-play_with.ensures.played

pub play_others-requires-clause-unsaid : goal.play_others-requires-clause-unsaid
play_others-requires-clause-unsaid c = ap (λ (w : Warnings). w.stopped) c.in_ok-unsaid.ensures

pub returns-clause-figures : goal.returns-clause-figures
returns-clause-figures c = c.in_ok-play_others.ensures.figures

pub returns-clause-stopped : goal.returns-clause-stopped
returns-clause-stopped c =
    let later = c.play_others.new.warnings.stopped in
    ap (λ b. b || later) c.in_ok-play_with.ensures.stopped
    ∙ all-seeds c.args.warnings.now.stopped (ends_refused (with_seed (Some c.args.seeds.now.first) c.args.program.now))
    later _ c.in_ok-play_others.ensures.stopped
