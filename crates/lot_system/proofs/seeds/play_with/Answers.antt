-- The play is one of the program with the seed.
use Rattle.lot_system.proofs.SeedFacts.{seeded-many}
use Rattle.lot_system.proofs.Common.{AreMany, AreOverOneMore, OnOk, Program, ends_refused, subst, sym, ◌||◌, ◌≡◌}
use Rattle.lot_system.proofs.seeds.play_with.Goals as goal

pub play_seeded-requires : goal.play_seeded-requires
play_seeded-requires c =
    record { many = subst (λ (p : Program). AreMany p c.args.all.now) (sym c.in_ok-program.ensures) (seeded-many c.args.program.now c.args.seed c.args.all.now c.requires.many) }

pub returns-clause-played : goal.returns-clause-played
returns-clause-played c =
    subst (λ (p : Program). OnOk c.play_seeded.result (AreOverOneMore p c.args.all.now c.play_seeded.new.all))
    c.in_ok-program.ensures c.play_seeded.ensures.played

pub returns-clause-stopped : goal.returns-clause-stopped
returns-clause-stopped c =
    subst (λ (p : Program).
    OnOk c.play_seeded.result (c.play_seeded.new.warnings.stopped ≡ (c.args.warnings.now.stopped || ends_refused p)))
    c.in_ok-program.ensures c.play_seeded.ensures.stopped
