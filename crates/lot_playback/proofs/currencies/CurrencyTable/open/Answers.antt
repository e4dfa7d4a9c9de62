use Rattle.lot_playback.proofs.Common.{ap, arith, get_or-replicate, length, length-replicate, replicate, rules, slice_index, ℕ, ◌<◌, ◌∙◌, ◌≡◌}
use Rattle.lot_playback.proofs.currencies.CurrencyTable.open.Goals as goal

pub returns-clause-none : goal.returns-clause-none
returns-clause-none c sizes bounds =
    let items : c.in_ok-vec.field-0.items ≡ replicate c.args.currencies 0 = search rules in
    let long : length c.in_ok-vec.field-0.items ≡ c.args.currencies = ap length items
    ∙ length-replicate c.args.currencies 0 in
    let none : (place : ℕ) → place < length c.in_ok-vec.field-0.items
    → slice_index c.in_ok-vec.field-0.items place ≡ 0 =
    λ place below. ap (λ xs. slice_index xs place) items
    ∙ get_or-replicate c.args.currencies place 0 0 (omega (arith, below, long)) in
    record {
      ticks = λ place below there. absurd (omega (arith, there));
      few = λ place below. omega (arith, none place below);
      dues = c.in_ok-open.ensures.none sizes bounds;
    }
