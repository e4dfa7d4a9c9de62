use Rattle.std.proofs.Common.{◌≡◌, ◌==◌, ◌≤◌, ◌&&◌, ℕ, true, List, Option, length, take}
use Rattle.std.specs.Io.KnownBytes.{Appends}
use Rattle.lot_io.specs.Watching.{AppendsBeginning}
use Rattle.lot_io.proofs.watched.WatchedWrite.write_all.Given as goal

abbrev pub invariant-loop-rest : goal.invariant-loop-rest
invariant-loop-rest g l = record {
  bytes : (new : Option (List ℕ)) → Appends (g.W.Write.contents l.self.inner) new l.rest
      → Appends (g.W.Write.contents l.initial.self.inner) new l.buf;
  begun : (new : Option (List ℕ)) (count : ℕ) → Appends (g.W.Write.contents l.self.inner) new (take count l.rest)
      → AppendsBeginning (g.W.Write.contents l.initial.self.inner) new l.buf;
  failed : l.self.failed ≡ l.initial.self.failed;
  shorter : length l.rest ≤ length l.buf;
  flushed : l.self.flushed ≡ (l.initial.self.flushed && (length l.buf == length l.rest));
  nothing_after : l.initial.self.failed ≡ true → l.self ≡ l.initial.self;
}

abbrev pub decreases-loop-rest : goal.decreases-loop-rest
decreases-loop-rest g l = length l.rest
