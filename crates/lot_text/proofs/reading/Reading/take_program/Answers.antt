-- The program shares the tables that were read.
use Rattle.lot_text.proofs.Lemmas.{NamedScript, Reading, Sizes, ap, length, length-map, rules, sym, ◌∙◌}
use Rattle.lot_text.proofs.reading.Reading.take_program.Goals as goal

pub new-requires-2 : goal.new-requires-2
new-requires-2 c =
    let commands = c.in_ok-tables.ensures.commands in
    let schedule = c.in_ok-tables.ensures.schedule in
    let times = c.in_ok-tables.ensures.times in
    let read = c.self.invariant in
    let processors = ap (λ (sizes : Sizes). sizes.processors) c.limits-limits.ensures
    ∙ sym (ap (λ (r : Reading). r.processors) c.self.view_is) in
    record {
      program = record {
        limits = search rules;
        seed_count = c.in_ok-seeds.ensures.seeds.count ∙ sym processors;
        seeds = c.in_ok-seeds.ensures.seeds.each;
        turns = read.sizes.turn_count;
        script_count = ap length c.in_ok-scripts.ensures
            ∙ rw c.replace.ensures.value (length-map c.self.inside.scripts.items (λ (s : NamedScript). s.lines)
            ∙ ap (λ (r : Reading). length r.scripts) c.self.view_is
            ∙ sym (ap (λ (sizes : Sizes). sizes.scripts) c.limits-limits.ensures));
        command_count = rw commands read.body.command_count;
        actors = rw (schedule, processors) read.body.actors;
        schedule_length = rw schedule read.body.schedule_length;
        time_count = λ some. rw (times, commands) (read.times.time_count (read.times.running some));
        rising = rw times read.times.rising;
        ticket_names = search rules;
      };
      unit = search rules;
      timed = search rules;
    }
