use Rattle.lot_chart.proofs.Lemmas.{IsSome, None, Option, Some, arith, dues-are, meter-within, new-meter, program-few, program_turns, refl, ℕ, ◌≡◌}
use Rattle.lot_chart.proofs.metering.LineDues.of_timed.Goals as goal

duration-is : (o : Option ℕ) → IsSome o → (d : ℕ) × (o ≡ Some d)
duration-is None some = cc
duration-is (Some d) some = (d, refl)

pub play_metered-requires : goal.play_metered-requires
play_metered-requires c = new-meter c.args.program.now c.args.curves.now c.args.shown.now c.in_ok-meter.meter
    c.requires.legal.limits c.requires.columns c.in_ok-meter.ensures

pub pass-requires-clause-within : goal.pass-requires-clause-within
pass-requires-clause-within c = meter-within c.args.program.now
    (program_turns c.args.program.now) c.in_ok-meter.meter c.play_metered.new.meter c.in_ok-play_metered.ensures

pub returns : goal.returns
returns c =
    let program = c.args.program.now in
    let (duration, timed) = duration-is program.duration c.requires.timed in
    dues-are program duration timed c.args.curves.now c.args.shown.now c.in_ok-meter.meter c.play_metered.new.meter
    c.pass.new.self c.in_ok-meter.ensures c.in_ok-play_metered.ensures
    (omega (arith, program-few program c.requires.legal)) c.in_ok-pass.ensures _ refl refl
