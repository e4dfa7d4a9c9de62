use Rattle.lot_program.proofs.Common.{IfOk-from_err, Program, ap, length, length-map, map, sym, without_sleep, ◌∙◌, ◌≡◌}
use Rattle.lot_program.proofs.program.Program.without_time.Goals as goal

pub returns-in_err-copy : goal.returns-in_err-copy
returns-in_err-copy c = IfOk-from_err c.from_residual.result _ c.from_residual.ensures.0

pub returns-in_err-copy-inside : goal.returns-in_err-copy-inside
returns-in_err-copy-inside c =
    IfOk-from_err c.from_residual-in_err-copy-inside.result _ c.from_residual-in_err-copy-inside.ensures.0

pub invariant_of-copy : goal.invariant_of-copy
invariant_of-copy c =
    let old = c.copy.invariant.program in
    let scripts : length c.copy.inside.parts.scripts.items ≡ length c.args.self.now.scripts =
    ap (λ (p : Program). length p.scripts) (c.copy.view_is ∙ c.in_ok-copy.ensures) in
    record {
      program = record {
        limits = old.limits;
        seed_count = old.seed_count;
        seeds = old.seeds;
        turns = old.turns;
        script_count = ap length c.in_ok-copy-inside.ensures ∙ length-map c.scripts.result.now (map without_sleep)
            ∙ ap length c.scripts.ensures.scripts ∙ sym scripts ∙ old.script_count;
        command_count = old.command_count;
        actors = old.actors;
        schedule_length = old.schedule_length;
        time_count = old.time_count;
        rising = old.rising;
        ticket_names = old.ticket_names;
      };
      unit = c.copy.invariant.unit;
      timed = c.copy.invariant.timed;
    }
