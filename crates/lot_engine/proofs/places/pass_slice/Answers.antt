-- The place that moves on is the thread's.
use Rattle.lot_engine.proofs.Lemmas.{Done, IsSlice, Place, ap, place-is, place-set, place_of, set_number, slice_between, subst, sym, ◌∙◌}
use Rattle.lot_engine.proofs.places.pass_slice.Goals as goal

pub returns-clause-slice : goal.returns-clause-slice
returns-clause-slice c =
    let places = c.args.places.now.items in
    let start = c.index_mut-place.result.now in
    let end = c.pass_slice-done.new.place in
    let done : Done =
    record { ticks = c.pass_slice-done.result.ticks; trap = c.pass_slice-done.result.trap; accumulator = c.accumulator.result } in
    subst (λ (p : Place). IsSlice (slice_between c.args.script.now
    (place_of places c.args.thread) c.args.budget done p)) (sym (place-set places c.args.thread end c.requires.there))
    (subst (λ (p : Place). IsSlice (slice_between c.args.script.now p c.args.budget done end))
    (place-is places c.args.thread start c.requires.there c.index_mut-place.ensures.value) c.pass_slice-done.ensures)

pub returns-clause-places : goal.returns-clause-places
returns-clause-places c = ap (set_number c.args.places.now.items c.args.thread)
    (sym (place-set c.args.places.now.items c.args.thread c.pass_slice-done.new.place c.requires.there))

pub returns-clause-accumulator : goal.returns-clause-accumulator
returns-clause-accumulator c = c.accumulator.ensures ∙ ap (λ (p : Place). p.accumulator)
    (sym (place-set c.args.places.now.items c.args.thread c.pass_slice-done.new.place c.requires.there))
