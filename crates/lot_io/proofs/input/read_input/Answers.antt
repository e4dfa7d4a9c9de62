-- The bytes read so far, and those of the next piece.
use Rattle.std.proofs.Common.{◌≤◌, arith}
use Rattle.lot_io.proofs.ReadingFacts.{consumes-none, consumes-more, length-more, within-room}
use Rattle.lot_io.proofs.input.read_input.Goals as goal
use Rattle.lot_io.proofs.input.read_input.Goals.{else-loop-test, then-loop-test+then-len-eq-MOST, then-loop-test+else-len-eq-MOST+in_ok-read_piece+then-branch-eq0}

pub loop-init : goal.loop-init
loop-init g c =
    record {
      most = omega (arith, c.new-bytes.ensures.len);
      room = c.in-Ok.ensures.len;
      working = c.requires;
      grows = omega arith;
      consumed = rw c.new-bytes.ensures.items (consumes-none (g.R.Read.remaining c.args.reader.now.inner));
    }

pub loop-preserved : goal.loop-preserved
loop-preserved g c =
    let i = c.loop.invariant in
    let told = c.in_ok-read_piece.ensures in
    let first = g.R.Read.remaining c.args.reader.now.inner in
    let left = g.R.Read.remaining c.loop.reader.inner in
    let rest = g.R.Read.remaining c.read_piece.new.reader.inner in
    let count = c.in_ok-read_piece.field-0 in
    let longer = length-more first left rest c.loop.bytes.items c.read_piece.new.bytes.items count told.read in
    let bounded : count ≤ c.min-room.result = within-room _ count _ told.most in
    let old = c.loop.bytes.ok.0 in
    let now = c.read_piece.new.bytes.ok.0 in
    record {
      most = omega (arith, longer, bounded, old, now, i.most, c.min-room.ensures, c.len-in-loop.ensures);
      room = i.room;
      working = told.ok;
      grows = omega (arith, longer, old, now, i.grows, c.if-branch-eq0.false);
      consumed =
          consumes-more first left rest c.loop.bytes.items c.read_piece.new.bytes.items count told.read i.consumed;
    }

pub returns-clause-read : goal.returns-clause-read
returns-clause-read g c =
    let i = c.loop.invariant in
    let old = c.loop.bytes.ok.0 in
    elim c.loop-test.branch [
      | else-loop-test w ↦ rw (w.reader-is, w.bytes-is)
          (record { consumed = i.consumed; most = omega (arith, i.most, old); whole = λ below. absurd (omega (arith, below, old, i.grows, w.loop-test.false)) })
      | then-loop-test+then-len-eq-MOST w ↦ rw (w.reader-is, w.bytes-is)
          (record { consumed = i.consumed; most = omega (arith, i.most, old); whole = λ below. absurd (omega (arith, below, old, w.len.ensures, w.if-len-eq-MOST.true)) })
      | then-loop-test+else-len-eq-MOST+in_ok-read_piece+then-branch-eq0 w ↦
          let told = w.in_ok-read_piece.ensures in
          let first = g.R.Read.remaining c.args.reader.now.inner in
          let left = g.R.Read.remaining c.loop.reader.inner in
          let rest = g.R.Read.remaining w.read_piece.new.reader.inner in
          let longer = length-more first left rest c.loop.bytes.items w.read_piece.new.bytes.items
          w.in_ok-read_piece.field-0 told.read in
          rw (w.reader-is, w.bytes-is) (record {
            consumed = consumes-more first left rest c.loop.bytes.items w.read_piece.new.bytes.items
                w.in_ok-read_piece.field-0 told.read i.consumed;
            most = omega (arith, longer, w.if-branch-eq0.true, i.most, old);
            whole = λ below. told.read.at_end w.if-branch-eq0.true;
          })
    ]

pub returns-clause-ok : goal.returns-clause-ok
returns-clause-ok g c =
    elim c.loop-test.branch [
      | else-loop-test w ↦ rw w.reader-is c.loop.invariant.working
      | then-loop-test+then-len-eq-MOST w ↦ rw w.reader-is c.loop.invariant.working
      | then-loop-test+else-len-eq-MOST+in_ok-read_piece+then-branch-eq0 w ↦
          rw w.reader-is w.in_ok-read_piece.ensures.ok
    ]
