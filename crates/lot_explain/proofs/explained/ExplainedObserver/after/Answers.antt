use Rattle.lot_explain.proofs.Lemmas.{Begins, IsExplained, IsPut, explained_made, just-explained, put-err, put-ok, subst, ◌++◌, ◌∙◌}
use Rattle.lot_system.proofs.LineFacts.{texts-more, texts-stop}
use Rattle.lot_explain.proofs.explained.ExplainedObserver.after.Goals as goal

pub put_explained-requires-clause-made : goal.put_explained-requires-clause-made
put_explained-requires-clause-made g c =
    let a = c.requires.awaits in
    (a.1, just-explained c.args.program.now c.args.system.now c.args.turn.now c.args.self.now.lots.now a.0 a.1 a.3 a.4.4)

pub put_explained-requires-clause-working : goal.put_explained-requires-clause-working
put_explained-requires-clause-working g c = c.requires.awaits.4.2

pub returns-clause-ok : goal.returns-clause-ok
returns-clause-ok g c =
    let contents = g.W.Write.contents in
    let mid = contents c.args.self.now.writer.now.inner in
    let new = contents c.put_explained.new.writer.inner in
    let lots = c.args.self.now.lots.now in
    put-ok (explained_made c.args.self.now.detail) mid new c.args.self.now.page c.put_explained.new.page
    c.put_explained.new.writer.failed (λ made. IsExplained c.args.system.now c.args.turn.now lots made)
    c.put_explained.result c.put_explained.ensures.text
    (λ here turns made first just awaits.
    let is =
    here made (just-explained c.args.program.now c.args.system.now c.args.turn.now lots turns made just awaits.4) in
    let text =
    subst (λ d. IsPut mid new c.args.self.now.page c.put_explained.new.page (explained_made d made)) awaits.5 is.1 in
    (awaits.0, awaits.1, is.0, texts-more (explained_made first.detail) (contents first.writer.now.inner) mid new c.args.self.now.page turns made awaits.3 c.put_explained.new.page text, awaits.5, awaits.6, c.put_explained.ensures.stopped ∙ awaits.7))

pub returns-clause-err : goal.returns-clause-err
returns-clause-err g c =
    let contents = g.W.Write.contents in
    let mid = contents c.args.self.now.writer.now.inner in
    let new = contents c.put_explained.new.writer.inner in
    let lots = c.args.self.now.lots.now in
    put-err (explained_made c.args.self.now.detail) mid new c.args.self.now.page c.put_explained.new.page
    c.put_explained.new.writer.failed (λ made. IsExplained c.args.system.now c.args.turn.now lots made)
    c.put_explained.result c.put_explained.ensures.text
    (λ fault here turns made first just awaits.
    let is =
    here made (just-explained c.args.program.now c.args.system.now c.args.turn.now lots turns made just awaits.4) in
    let text = subst (λ d. Begins mid new (c.args.self.now.page ++ explained_made d made)) awaits.5 is.2 in
    (awaits.0, is.0, is.1, texts-stop (explained_made first.detail) (contents first.writer.now.inner) mid new c.args.self.now.page turns made awaits.3 text))
