use Rattle.lot_playback.proofs.Lemmas.{HaveTaken, IsOwed, Seen, ap, arith, length, one-taken, set, subst, sym, value_in, world_of, ◌+◌, ◌<◌, ◌∙◌, ◌≡◌}
use Rattle.lot_playback.proofs.dues.DueTable.revalue.Goals as goal

pub parts_of-requires : goal.parts_of-requires
parts_of-requires c =
    let i = c.loop-place.invariant in
    let place = c.loop-place.place in
    let parts = c.requires.owed.0 in
    let here = i.taken.owed parts c.requires.owed.1 place c.index.result.now
    (omega (arith, c.loop-place-test.true, i.taken.count, c.min-count.ensures, c.len.ensures)) in
    (parts (place + 1), subst (λ k. IsOwed k (parts (place + 1)) c.index.result.now) (sym i.rate) (subst (λ x. IsOwed c.args.self.now.rate (parts (place + 1)) x) (sym c.index.ensures) here))

pub loop-place-preserved : goal.loop-place-preserved
loop-place-preserved c =
    let i = c.loop-place.invariant in
    let place = c.loop-place.place in
    let old = c.args.self.now in
    let mid = c.loop-place.self.places.items in
    let s = (world_of c.args.system.now).state in
    let below : place < length mid =
    omega (arith, c.loop-place-test.true, i.taken.count, c.min-count.ensures, c.len.ensures) in
    let value : c.value-value.result ≡ value_in old.sharers s (place + 1) =
    c.value-value.ensures.value ∙ ap (λ (x : Seen). value_in old.sharers (world_of x).state (place + 1)) i.system in
    record {
      system = c.value-value.ensures.same ∙ i.system;
      sharers = i.sharers;
      rate = i.rate;
      time = i.time;
      shared = i.shared;
      whole = i.whole;
      taken = subst (λ k. HaveTaken (value_in old.sharers s) (place + 1) old.rate old.places.items
          (set mid place (record { value = c.value-value.result; since = k; parts = c.parts_of.result }))) (sym i.rate)
          (one-taken (value_in old.sharers s) place old.rate c.value-value.result c.parts_of.result old.places.items mid
          c.index.result.now below c.index.ensures
          (λ parts is. c.parts_of.ensures parts (subst (λ k. IsOwed k parts c.index.result.now) (sym i.rate) is)) value
          i.taken);
    }

pub returns-clause-rest : goal.returns-clause-rest
returns-clause-rest c =
    let now = c.loop-place.invariant in
    λ i. record { sharers = now.sharers i; places = c.loop-place.self.places; whole = c.loop-place.self.whole; rate = now.rate i; time = now.time i; shared_time = now.shared i }
