use Rattle.std.proofs.Common.{◌≡◌, ◌++◌, ◌<◌, take, length, rules, sym}
use Rattle.lot_io.proofs.input.read_piece.Goals as goal

pub returns-clause-read : goal.returns-clause-read
returns-clause-read g c =
    let told = c.in-Ok.ensures in
    let kept : c.extend_from_slice.new.self.items ≡ c.args.bytes.now.items ++ take c.in-Ok.read c.read.new.buf =
    search rules in
    let some : 0 < length c.read.new.buf = search rules in
    record {
      taken = take c.in-Ok.read c.read.new.buf;
      count_is = sym told.bound.1;
      kept = kept;
      consumed = told.bytes.0;
      at_end = λ none. told.bytes.1 none some;
    }
