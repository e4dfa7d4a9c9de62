use Rattle.lot_system.proofs.Common.{Err, ap, append_assoc, rules, sym, turns_left, [], ◌++◌, ◌∙◌, ◌∷◌, ◌≡◌}
use Rattle.lot_system.proofs.playing.play_through.Goals as goal

pub returns-in_err-play_turn-clause-stopped : goal.returns-in_err-play_turn-clause-stopped
returns-in_err-play_turn-clause-stopped g c =
    let is : c.from_residual.result ≡ Err c.in_err-play_turn.field-0.0 = search rules in
    let i = c.loop-next.invariant.observed in
    let told = c.in_err-play_turn.ensures.err in
    rw is (
      i.0 ++ told.0 ∷ [],
      told.1,
      i.1 ∙ ap (λ ts. i.0 ++ ts) told.2 ∙ sym (append_assoc i.0 (told.0 ∷ []) told.1),
      told.3 i.0 c.args.observer.now i.2 i.3,
    )

pub loop-next-preserved : goal.loop-next-preserved
loop-next-preserved g c =
    let i = c.loop-next.invariant.observed in
    let told = c.in_ok-play_turn.ensures.ok in
    record {
      setting = c.in_ok-play_turn.ensures.setting ∙ c.loop-next.invariant.setting;
      observed = (
        i.0 ++ told.0 ∷ [],
        i.1 ∙ ap (λ ts. i.0 ++ ts) told.1 ∙ sym (append_assoc i.0 (told.0 ∷ []) (turns_left c.play_turn.new.self)),
        told.2 i.0 i.2,
        told.3 i.0 c.args.observer.now i.2 i.3,
      );
    }
