-- A number above the count is the next one only if no place is free.
use Rattle.lot_engine.proofs.Common.{IsNext, List, arith, placed, refl, ℕ, [], ◌∷◌, ◌≡◌}
use Rattle.lot_engine.proofs.places.put_place.Goals as goal

pub returns-else-index-len-clause-put : goal.returns-else-index-len-clause-put
returns-else-index-len-clause-put c = at
  where
    at : (free : List ℕ) → IsNext c.args.places.now.items free c.args.thread
        → c.push.new.self.items ≡ placed c.args.places.now.items free c.args.place
    at [] next = c.push.ensures.items
    at (place ∷ free) next =
        absurd (omega (arith, next.number, next.within place refl, c.if-index-len.false, c.len.ensures.value))
