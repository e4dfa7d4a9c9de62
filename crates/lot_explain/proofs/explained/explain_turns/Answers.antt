use Rattle.lot_explain.proofs.Common.{explained_turns, pages-out, program_turns, rules}
use Rattle.lot_explain.proofs.explained.explain_turns.Goals as goal

pub returns-clause-text : goal.returns-clause-text
returns-clause-text g c =
    let contents = g.W.Write.contents in
    let old = contents c.args.writer.now.inner in
    let mid = contents c.play_through.new.observer.writer.now.inner in
    let now = c.write_out.new.self.writer.now in
    let told = pages-out old mid (contents now.inner) c.play_through.new.observer.page
    (explained_turns c.args.detail (program_turns c.args.program.now)) now.failed c.write_out.result
    c.in_ok-play_through.ensures.observed.3 c.write_out.ensures.text in
    search (rules, told)

pub returns-clause-stopped : goal.returns-clause-stopped
returns-clause-stopped g c = search
    (rules, c.in_ok-play_through.ensures.observed.5, c.in_ok-play_through.ensures.observed.6, c.write_out.ensures.warnings)
