use Rattle.lot_kernel.proofs.Lemmas.{FreeStack, IfNone, Option, ap, ap₂, drop, length, popped, popped-none, slice_get, subst, ℕ, [], ◌∙◌, ◌≡◌}
use Rattle.lot_kernel.proofs.free_places.FreePlaces.pop.Goals as goal

pub returns-clause-first : goal.returns-clause-first
returns-clause-first c =
    (popped c.self.inside.places.items c.pop.new.self.items c.pop.result c.pop.ensures.items
    (λ none. ap (length {A = ℕ})
    (subst (λ (o : Option ℕ). IfNone o (c.self.inside.places.items ≡ [])) none c.pop.ensures.none))).0
    ∙ ap (λ (v : FreeStack). slice_get v.places 0) c.self.view_is

pub returns-clause-rest : goal.returns-clause-rest
returns-clause-rest c =
    ap₂ (λ xs n. let v : FreeStack = record { places = xs; room = n } in v)
    (popped c.self.inside.places.items c.pop.new.self.items c.pop.result c.pop.ensures.items
    (λ none. ap (length {A = ℕ})
    (subst (λ (o : Option ℕ). IfNone o (c.self.inside.places.items ≡ [])) none c.pop.ensures.none))).1
    c.pop.ensures.room
    ∙ ap (λ (v : FreeStack). record v { places = drop 1 v.places }) c.self.view_is

pub returns-clause-unchanged : goal.returns-clause-unchanged
returns-clause-unchanged c =
    popped-none c.self.inside.places.items c.pop.new.self.items c.pop.result (λ same. ap₂ (λ xs n. let v : FreeStack =
    record { places = xs; room = n } in v) same c.pop.ensures.room ∙ c.self.view_is) c.pop.ensures.items
    (λ none.
    ap (length {A = ℕ}) (subst (λ (o : Option ℕ). IfNone o (c.self.inside.places.items ≡ [])) none c.pop.ensures.none))
