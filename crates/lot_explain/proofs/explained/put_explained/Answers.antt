use Rattle.lot_explain.proofs.Lemmas.{Put, Seen, answered-text, codes, decimal, ended-text, front, funding_in, reply_text, subst, total-is, won_in, won_lines, world_of, ◌++◌, ◌∙◌}
use Rattle.lot_explain.proofs.explained.put_explained.Goals as goal

pub put_turn-requires-clause-total : goal.put_turn-requires-clause-total
put_turn-requires-clause-total g c =
    let its = c.requires.made in
    total-is c.args.system.now c.args.turn.now c.args.lots.now its.0 its.1 c.if-turn.false

pub returns-clause-text : goal.returns-clause-text
returns-clause-text g c made is =
    let h = c.heading-heading.result in
    let its = c.heading-heading.ensures in
    let turn = c.args.turn.now in
    let puts = Put (g.W.Write.contents c.args.writer.now.inner) (g.W.Write.contents c.put_turn.new.writer.inner)
    c.args.page.now c.put_turn.new.page c.put_turn.new.writer.failed c.put_turn.result in
    let lots =
    won_lines h.style h.unit h.actor c.args.lots.now.lots c.args.lots.now.loans (won_in turn.event turn.reply) in
    let funding =
    λ (s : Seen). funding_in c.args.detail (won_in turn.event turn.reply) h.style h.unit h.actor (world_of s).state in
    let told = subst (λ (s : Seen). puts (funding s ++ (lots ++ (front h.style
    ++ (decimal h.actor ++ (codes " " ++ reply_text h.style (world_of s).state turn.event turn.reply))))))
    c.note_turn.ensures.same c.put_turn.ensures.text in
    let text = answered-text c.args.system.now turn c.args.lots.now made is c.if-turn.false c.args.detail h.style
    h.actor h.unit (its.style ∙ c.style_of.ensures) (its.actor ∙ c.printed_actor-actor.ensures) its.unit in
    subst puts text told

pub returns-then-turn-clause-text : goal.returns-then-turn-clause-text
returns-then-turn-clause-text g c made is =
    let h = c.heading-heading.result in
    let its = c.heading-heading.ensures in
    let text = ended-text c.args.system.now c.args.turn.now c.args.lots.now made is c.args.detail c.if-turn.true h.style
    h.actor (its.style ∙ c.style_of.ensures) (its.actor ∙ c.printed_actor-actor.ensures) in
    subst (Put (g.W.Write.contents c.args.writer.now.inner) (g.W.Write.contents c.write_ended.new.writer.inner)
    c.args.page.now c.write_ended.new.page c.write_ended.new.writer.failed c.write_ended.result) text
    c.write_ended.ensures
