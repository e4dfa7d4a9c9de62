use Rattle.lot_engine.proofs.Lemmas.{IsBetween, Option, Place, ap, delivered-set, delivered_to_place, length, set_number, subst, sym, ℕ, ◌∙◌, ◌≡◌}
use Rattle.lot_engine.proofs.places.follow_slice.Goals as goal

pub returns-in-Trapped-clause-follows : goal.returns-in-Trapped-clause-follows
returns-in-Trapped-clause-follows c =
    let places = c.args.places.now.items in
    let thread = c.in-Trapped.thread in
    let number = c.number_delivered.result in
    let names : thread ≡ c.requires.0 = rw c.in-Trapped.is at c.requires.1.1 in
    let within : IsBetween 1 (length places) thread = subst (IsBetween 1 (length places)) (sym names) c.requires.1.0 in
    let end : c.copied-in-Trapped.result ≡ c.args.slice.now.end = c.copied-in-Trapped.ensures
    ∙ c.end-in-Trapped.ensures.end in
    rw c.in-Trapped.is (
    c.deliver.ensures.delivered
    ∙ delivered-set places thread c.copied-in-Trapped.result number within
    ∙ ap (λ (p : Place). set_number places thread (delivered_to_place number p)) end
    ∙ ap
    (λ (n : Option ℕ). set_number places thread (delivered_to_place n c.args.slice.now.end)) c.number_delivered.ensures
    )
