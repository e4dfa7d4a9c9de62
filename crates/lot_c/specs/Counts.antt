-- Sizes, counts and running threads, in plain fields.
use Rattle.std.specs.Prelude.{◌==◌, not, false, if◌then◌else◌}
use Rattle.lot_machine.specs.declared.sizes.Sizes.{Sizes}
use Rattle.lot_threads.specs.declared.runners.Runner.{Runner}
use Rattle.lot_value.specs.declared.meter.Meter.{Meter}
use Rattle.lot_c.specs.declared.sizes.PlainSizes.{PlainSizes}
use Rattle.lot_c.specs.declared.sizes.PlainMeter.{PlainMeter}
use Rattle.lot_c.specs.declared.sizes.PlainRunner.{PlainRunner}

-- the sizes of a kernel in plain fields
abbrev pub plain_sizes : Sizes → PlainSizes
plain_sizes s = record {
  tickets = s.tickets;
  currencies = s.currencies;
  threads = s.threads;
  ports = s.ports;
  mutexes = s.mutexes;
  processors = s.processors;
  scripts = s.scripts;
  quantum = s.quantum;
  unit = s.unit;
  reuse = if s.reuse then 1 else 0;
  plain_names = if s.plain_names then 1 else 0;
  queued_lend = if s.queued_lend then 1 else 0;
}

-- the sizes in these fields
abbrev pub sizes_meant : PlainSizes → Sizes
sizes_meant s = record {
  tickets = s.tickets;
  currencies = s.currencies;
  threads = s.threads;
  ports = s.ports;
  mutexes = s.mutexes;
  processors = s.processors;
  scripts = s.scripts;
  quantum = s.quantum;
  unit = s.unit;
  reuse = not (s.reuse == 0);
  plain_names = not (s.plain_names == 0);
  without_compensation = false;
  without_lending = false;
  queued_lend = not (s.queued_lend == 0);
}

-- the counts of a kernel in plain fields
abbrev pub plain_meter : Meter → PlainMeter
plain_meter m = record { ticket_reads = m.ticket_reads; tree_visits = m.tree_visits }

-- a running thread in plain fields
abbrev pub plain_runner : Runner → PlainRunner
plain_runner r = record { thread = r.thread.number; used = r.used }
