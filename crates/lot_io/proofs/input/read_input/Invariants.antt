use Rattle.std.proofs.Common.{◌≤◌, ◌≡◌, false, vec_len}
use Rattle.std.specs.Io.KnownBytes.{Consumes}
use Rattle.lot_io.proofs.input.read_input.Given as goal

-- no more is kept than is asked for, it is what was read, a byte at least in each round, and the reader hasn't failed
abbrev pub invariant-loop : goal.invariant-loop
invariant-loop g l = record {
  most : vec_len l.bytes ≤ 16777217;
  room : vec_len l.piece ≡ 65536;
  working : l.reader.failed ≡ false;
  grows : l.counter ≤ vec_len l.bytes;
  consumed : Consumes (g.R.Read.remaining l.initial.reader.inner) (g.R.Read.remaining l.reader.inner) l.bytes.items;
}
