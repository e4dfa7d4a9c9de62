use Rattle.lot_chart.proofs.Lemmas.{List, None, Option, ap, arith, drop, first-next, first_in, get_or, length, marked-are, refl, subst, sym, take, take_all, take_at, ℕ, ◌++◌, ◌+◌, ◌<◌, ◌∙◌, ◌≡◌}
use Rattle.lot_chart.proofs.marks.marked.Goals as goal

pub loop-time-preserved : goal.loop-time-preserved
loop-time-preserved c =
    let i = c.loop-time.invariant in
    let curves = c.args.curves.now in
    let n = c.loop-time.time-index in
    let old = c.loop-time.marks.items in
    let new = c.mark_time.new.marks in
    let many : length new ≡ length old = c.mark_time.auto.marks
    ∙ ap (λ (xs : List (Option ℕ)). length xs) c.as_mut_slice.ensures.value in
    let whole : take c.loop-time.marks.len (new ++ drop (length new) old) ≡ new =
    take_at new (drop (length new) old) c.loop-time.marks.len (c.mark_time.auto.marks ∙ c.as_mut_slice.ensures.len) in
    let items = c.commands-time-items.result.now in
    let same : items ≡ curves.commands = c.commands-time-items.ensures in
    let places : length new ≡ 671 = many ∙ i.places in
    record {
      places = ap (λ (xs : List (Option ℕ)). length xs) whole ∙ places;
      firsts = λ k below.
          let within = subst (λ (xs : List (Option ℕ)). k < length xs) whole below in
          let before : get_or c.as_mut_slice.result.now k None ≡ first_in curves (take n items) k =
          ap (λ (xs : List (Option ℕ)). get_or xs k None) c.as_mut_slice.ensures.value
          ∙ i.firsts k (omega (arith, within, many))
          ∙ ap (λ (ts : List ℕ). first_in curves (take n ts) k) (sym same) in
          ap (λ (xs : List (Option ℕ)). get_or xs k None) whole
          ∙ first-next curves k items n _ _ (get_or c.as_mut_slice.result.now k None) (get_or new k None)
          c.loop-time-test.true refl before (c.mark_time.ensures k (omega (arith, within, c.mark_time.auto.marks)))
          ∙ ap (λ (ts : List ℕ). first_in curves (take (n + 1) ts) k) same;
    }

pub returns : goal.returns
returns c =
    let i = c.loop-time.invariant in
    let curves = c.args.curves.now in
    let n = c.loop-time.time-index in
    let all : take n curves.commands ≡ curves.commands = take_all n curves.commands
    (omega (arith, c.loop-time-test.false, ap (λ (xs : List ℕ). length xs) c.commands-time-items.ensures)) in
    marked-are curves c.loop-time.marks.items i.places
    (λ k below. i.firsts k below ∙ ap (λ (ts : List ℕ). first_in curves ts k) all)
