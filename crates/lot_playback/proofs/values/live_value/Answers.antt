use Rattle.lot_playback.proofs.Lemmas.{Seen, ap, arith, live_part, refl, value-more, value_of, world_of, ◌+◌, ◌∙◌, ◌≡◌}
use Rattle.lot_playback.proofs.values.live_value.Goals as goal

pub loop-place-preserved : goal.loop-place-preserved
loop-place-preserved c =
    let i = c.loop-place.invariant in
    let s = (world_of c.args.system.now).state in
    let place = c.loop-place.place in
    let own : c.live_value.result ≡ live_part s (place + 1) (value_of s (place + 1)) =
    c.live_value.ensures.value
    ∙ ap (λ (x : Seen). live_part (world_of x).state (place + 1) (value_of (world_of x).state (place + 1))) i.system in
    record {
      system = c.live_value.ensures.state ∙ i.system;
      value = ap (λ n. n + c.from-sum.result) i.value
          ∙ value-more s place (place + 1) c.from-sum.result refl (c.from-sum.ensures ∙ own);
      small = omega (arith, i.small, c.live_value.type_inv, c.from-sum.ensures);
    }
