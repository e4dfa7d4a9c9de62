use Rattle.lot_system.proofs.Lemmas.{Err, Event, LineStyle, Put, Reply, ap, begins-front, codes, decimal, front, listing_text, plain_text, put-written, refl, reply_text, rules, subst, sym, world_of, ℕ, ◌++◌, ◌∙◌, ◌≡◌}
use Rattle.lot_system.proofs.answers.put_answer.Goals as goal

-- the text of a line with this heading
headed : (style m : LineStyle) (actor a unit u : ℕ) (e : Event) (r : Reply) → m ≡ style → a ≡ actor → u ≡ unit
    → front m ++ (decimal a ++ (codes " " ++ plain_text m u e r)) ≡ front style
    ++ (decimal actor ++ (codes " " ++ plain_text style unit e r))
headed style m actor a unit u e r of_style of_actor of_unit = rw (of_style, of_actor, of_unit) refl

pub returns-in_err-write_out-in-List-clause-text : goal.returns-in_err-write_out-in-List-clause-text
returns-in_err-write_out-in-List-clause-text g c =
    let is : c.from_residual.result ≡ Err c.in_err-write_out-in-List.field-0.0 = search rules in
    let told = c.in_err-write_out-in-List.ensures.text in
    let text = front c.args.style ++ (decimal c.args.actor
    ++ (codes " " ++ reply_text c.args.style (world_of c.args.system.now).state c.args.event.now c.args.reply.now)) in
    rw is (told.0, told.1, begins-front (g.W.Write.contents c.args.writer.now.inner) (g.W.Write.contents c.write_out.new.writer.inner) c.args.page.now text told.2)

pub returns-in_ok-write_out-in-List-clause-text : goal.returns-in_ok-write_out-in-List-clause-text
returns-in_ok-write_out-in-List-clause-text g c =
    let told = c.in_ok-write_out-in-List.ensures in
    let state = (world_of c.args.system.now).state in
    let old = g.W.Write.contents c.args.writer.now.inner in
    let new = g.W.Write.contents c.write_listing.new.writer.inner in
    let style = c.args.style in
    let text : front style ++ (decimal c.args.actor ++ (codes " " ++ listing_text style state c.in-List.kind))
    ≡ front style ++ (decimal c.args.actor ++ (codes " " ++ reply_text style state c.args.event.now c.args.reply.now)) =
    ap (λ (r : Reply). front style
    ++ (decimal c.args.actor ++ (codes " " ++ reply_text style state c.args.event.now r))) (sym c.in-List.is) in
    let listed = rw c.settle.ensures.state at c.write_listing.ensures in
    subst
    (Put old new c.args.page.now c.write_out.new.self c.write_listing.new.writer.failed c.write_listing.result) text
    (put-written old (g.W.Write.contents c.write_out.new.writer.inner) new c.args.page.now c.write_out.new.self
    (front style ++ (decimal c.args.actor ++ (codes " " ++ listing_text style state c.in-List.kind)))
    c.write_listing.new.writer.failed c.write_listing.result told.none told.text.1 listed)

pub returns-in_default-clause-text : goal.returns-in_default-clause-text
returns-in_default-clause-text g c =
    let style = c.args.style in
    let state = (world_of c.args.system.now).state in
    let plain : front style
    ++ (decimal c.args.actor ++ (codes " " ++ plain_text style state.limits.unit c.args.event.now c.args.reply.now))
    ≡ front style ++ (decimal c.args.actor ++ (codes " " ++ reply_text style state c.args.event.now c.args.reply.now)) =
    search rules in
    let text =
    headed style c.heading.result.style c.args.actor c.heading.result.actor state.limits.unit c.heading.result.unit
    c.args.event.now c.args.reply.now c.heading.ensures.style c.heading.ensures.actor c.heading.ensures.unit ∙ plain in
    subst (Put (g.W.Write.contents c.args.writer.now.inner) (g.W.Write.contents c.write_reply.new.writer.inner)
    c.args.page.now c.write_reply.new.page c.write_reply.new.writer.failed c.write_reply.result) text
    c.write_reply.ensures
