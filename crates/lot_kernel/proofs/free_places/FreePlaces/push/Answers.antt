use Rattle.lot_kernel.proofs.Lemmas.{FreeStack, ap, ap₂, arith, length, length-reverse, pushed-first, reverse, ◌∙◌, ◌∷◌}
use Rattle.lot_kernel.proofs.free_places.FreePlaces.push.Goals as goal

pub push-requires : goal.push-requires
push-requires c =
    omega (arith, c.requires.room, ap (λ (v : FreeStack). length v.places) c.self.view_is, ap (λ (v : FreeStack). v.room) c.self.view_is, length-reverse c.self.inside.places.items)

pub returns : goal.returns
returns c =
    ap₂ (λ xs n. let v : FreeStack = record { places = xs; room = n } in v)
    (ap reverse c.push.ensures.items ∙ pushed-first c.self.inside.places.items c.args.place) c.push.ensures.room
    ∙ ap (λ (v : FreeStack). record v { places = c.args.place ∷ v.places }) c.self.view_is
