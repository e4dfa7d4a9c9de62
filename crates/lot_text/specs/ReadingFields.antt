-- The reading in the fields of a state.
use Rattle.std.specs.Prelude.{option_map}
use Rattle.lot_simulation.specs.Formats.{is_timed, unit_of}
use Rattle.lot_simulation.specs.Reading.{Reading}
use Rattle.lot_text.specs.declared.reading.Reading.TheInside.{Inside}

-- the reading in these fields
abbrev pub reading_of : Inside → Reading
reading_of r = record {
  place = r.place;
  given = r.given.items;
  is_timed = is_timed r.format;
  unit = unit_of r.format;
  processors = r.processors;
  quantum = r.quantum;
  turns = r.turns;
  duration = r.duration;
  seeds = option_map (λ s. s.items) r.seeds;
  tickets = r.tickets;
  currencies = r.currencies;
  threads = r.threads;
  options = r.options;
  ports = r.ports.items;
  mutexes = r.mutexes.items;
  scripts = r.scripts.items;
  unclosed = r.unclosed;
  commands = r.commands;
  time = r.time;
  times = r.times.items;
  ticket_names = r.ticket_names.items;
  names = r.names.items;
  schedule = r.schedule.items;
}
