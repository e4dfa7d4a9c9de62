use Rattle.lot_system.proofs.seeds.play_seeded.Goals as goal

pub returns-clause-played : goal.returns-clause-played
returns-clause-played c = c.add_playback.ensures.played

pub returns-clause-stopped : goal.returns-clause-stopped
returns-clause-stopped c = c.add_playback.ensures.stopped
