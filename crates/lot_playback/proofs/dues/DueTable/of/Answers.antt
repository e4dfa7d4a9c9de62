use Rattle.lot_playback.proofs.Lemmas.{arith, due_to, owed-at}
use Rattle.lot_playback.proofs.dues.DueTable.of.Goals as goal

pub returns-clause-due : goal.returns-clause-due
returns-clause-due c sharers first s done n are =
    c.parts_of.ensures (due_to sharers first done c.args.number)
    (owed-at sharers first s done n c.args.self.now c.args.number c.index.result.now are c.requires.there.0
    (omega (arith, c.requires.there.1, c.args.self.now.places.ok.0)) c.index.ensures).0

pub returns-clause-few : goal.returns-clause-few
returns-clause-few c =
    let (sharers, first, s, done, n, room, are) = c.requires.few in
    let at = owed-at sharers first s done n c.args.self.now c.args.number c.index.result.now are c.requires.there.0
    (omega (arith, c.requires.there.1, c.args.self.now.places.ok.0)) c.index.ensures in
    omega (arith, c.parts_of.ensures (due_to sharers first done c.args.number) at.0, at.1, room)
