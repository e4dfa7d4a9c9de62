use Rattle.lot_chart.proofs.Common.{List, PlotLine, Standing, ap, append-nil, append_assoc, arith, drop, drop_all, drop_more, get_or, height_of, length, length-drop, lines_after, place_of, refl, sym, ℕ, [], ◌++◌, ◌+◌, ◌-◌, ◌<◌, ◌∙◌, ◌∷◌, ◌≡◌}
use Rattle.lot_chart.specs.Lines as definitions
use Rattle.lot_chart.proofs.lines.lines_of.Goals as goal

-- one line more
next : (most style least height place more : ℕ) (shown : List Standing) (d : Standing) (old new : List PlotLine)
    → style < length shown → more ≡ length shown - style - 1
    → height ≡ height_of most (get_or shown style d).ticks → place ≡ place_of least height more
    → old ++ lines_after most style least (drop style shown) ≡ definitions.lines_of most shown
    → new ≡ old ++ record { thread = (get_or shown style d).thread; ticks = (get_or shown style d).ticks; style = style; height = height; place = place } ∷ []
    → new ++ lines_after most (style + 1) (place + 160) (drop (style + 1) shown) ≡ definitions.lines_of most shown
next most style least height place more shown d old new below count high put has is =
    ap (λ (ls : List PlotLine). ls ++ after place) is ∙ append_assoc old
    (record { thread = s.thread; ticks = s.ticks; style = style; height = height; place = place } ∷ []) (after place)
    ∙ (λ i. old ++ (record { thread = s.thread; ticks = s.ticks; style = style; height = high i; place = there i }
    ∷ after (there i)))
    ∙ sym (ap (λ (ss : List Standing). old ++ lines_after most style least ss) (drop_more shown style d below)) ∙ has
  where
    s : Standing
    s = get_or shown style d

    rest : List Standing
    rest = drop (style + 1) shown

    after : ℕ → List PlotLine
    after p = lines_after most (style + 1) (p + 160) rest

    left : more ≡ length rest
    left = omega (arith, count, length-drop (style + 1) shown)

    there : place ≡ place_of least (height_of most s.ticks) (length rest)
    there = put ∙ (λ i. place_of least (high i) (left i))

pub loop-style-preserved : goal.loop-style-preserved
loop-style-preserved c =
    record {
      lines = next c.args.most c.loop-style.style c.loop-style.least c.height_of-height.result c.place_of-place.result _
          c.args.shown.now _ c.loop-style.lines.items c.push.new.self.items c.loop-style-test.true refl
          c.height_of-height.ensures.exact c.place_of-place.ensures.exact c.loop-style.invariant.lines
          c.in_ok-push.ensures.items;
      low =
          omega (arith, c.loop-style.invariant.low, c.place_of-place.ensures.exact, c.height_of-height.ensures.within);
    }

pub returns : goal.returns
returns c =
    let items = c.loop-style.lines.items in
    sym (append-nil items)
    ∙ sym (ap (λ (ss : List Standing). items ++ lines_after c.args.most c.loop-style.style c.loop-style.least ss)
    (drop_all c.loop-style.style c.args.shown.now c.loop-style-test.false)) ∙ c.loop-style.invariant.lines
