use Rattle.lot_system.proofs.Lemmas.{MadeTurn, Reports, made_text, opening_world, put-err, put-ok, texts-more, texts-stop, world-one_more, world_of, ◌∙◌, ◌≡◌}
use Rattle.lot_system.proofs.lines.LinesObserver.after.Goals as goal

pub returns-clause-ok : goal.returns-clause-ok
returns-clause-ok g c =
    let contents = g.W.Write.contents in
    let mid = contents c.args.self.now.writer.now.inner in
    let new = contents c.put_made.new.writer.inner in
    let told = λ (made : MadeTurn) (is : Reports c.args.turn.now made × (world_of c.args.system.now ≡ made.turn.world)).
    c.put_made.ensures.text made is.0 is.1 in
    put-ok made_text mid new c.args.self.now.page c.put_made.new.page c.put_made.new.writer.failed
    (λ made. Reports c.args.turn.now made × (world_of c.args.system.now ≡ made.turn.world)) c.put_made.result told
    (λ here turns made first just awaits.
    let is = here made (just.reports, just.has.world ∙ world-one_more (opening_world c.args.program.now) turns made) in
    (awaits.0, is.0, texts-more made_text (contents first.writer.now.inner) mid new c.args.self.now.page turns made awaits.2 c.put_made.new.page is.1, awaits.3, c.put_made.ensures.stopped ∙ awaits.4))

pub returns-clause-err : goal.returns-clause-err
returns-clause-err g c =
    let contents = g.W.Write.contents in
    let mid = contents c.args.self.now.writer.now.inner in
    let new = contents c.put_made.new.writer.inner in
    let told = λ (made : MadeTurn) (is : Reports c.args.turn.now made × (world_of c.args.system.now ≡ made.turn.world)).
    c.put_made.ensures.text made is.0 is.1 in
    put-err made_text mid new c.args.self.now.page c.put_made.new.page c.put_made.new.writer.failed
    (λ made. Reports c.args.turn.now made × (world_of c.args.system.now ≡ made.turn.world)) c.put_made.result told
    (λ fault here turns made first just awaits.
    let is = here made (just.reports, just.has.world ∙ world-one_more (opening_world c.args.program.now) turns made) in
    (awaits.0, is.0, is.1, texts-stop made_text (contents first.writer.now.inner) mid new c.args.self.now.page turns made awaits.2 is.2))
