-- The rows' lines are written after the first.
use Rattle.lot_system.proofs.Lemmas.{Begins, Err, Written, begins-front, codes, decimal, first_number, flat_map, front, given_count, listed-after, listing_line, range_with_len, row_line, rules, subst, writes-after, ◌++◌, ◌≡◌}
use Rattle.lot_system.proofs.listing.write_listing.Goals as goal

pub returns-in_err-write_listing_line : goal.returns-in_err-write_listing_line
returns-in_err-write_listing_line g c =
    let is : c.from_residual.result ≡ Err c.in_err-write_listing_line.field-0.0 = search rules in
    let told = c.in_err-write_listing_line.ensures in
    let s = c.args.settled.kernel.now.state in
    let style = c.args.style in
    let kind = c.args.kind in
    let old = g.W.Write.contents c.args.writer.now.inner in
    let new = g.W.Write.contents c.write_listing_line.new.writer.inner in
    let rows = c.count_rows-rows.result in
    let first = front style ++ (decimal c.args.actor ++ (codes " " ++ listing_line kind rows)) in
    let lines = flat_map (row_line style s kind) (range_with_len (first_number kind) (given_count s kind)) in
    let following = listed-after style s kind c.args.actor rows c.count_rows-rows.ensures in
    rw is (told.0, told.1, subst (Begins old new) following (begins-front old new first lines told.2))

pub returns : goal.returns
returns g c =
    let s = c.args.settled.kernel.now.state in
    let style = c.args.style in
    let kind = c.args.kind in
    let old = g.W.Write.contents c.args.writer.now.inner in
    let mid = g.W.Write.contents c.write_listing_line.new.writer.inner in
    let new = g.W.Write.contents c.write_rows.new.writer.inner in
    let rows = c.count_rows-rows.result in
    let first = front style ++ (decimal c.args.actor ++ (codes " " ++ listing_line kind rows)) in
    let lines = flat_map (row_line style s kind) (range_with_len (first_number kind) (given_count s kind)) in
    let following = listed-after style s kind c.args.actor rows c.count_rows-rows.ensures in
    subst (Written old new c.write_rows.new.writer.failed c.write_rows.result) following
    (writes-after old mid new c.write_rows.new.writer.failed c.write_rows.result first lines
    c.in_ok-write_listing_line.ensures.1 c.write_rows.ensures)
