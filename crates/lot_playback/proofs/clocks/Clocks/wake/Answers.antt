use Rattle.lot_playback.proofs.Lemmas.{Clock, HaveIdled, List, all-woken, ap, arith, drop, get_or, length, map, set, subst, sym, take, turned-all, turned-at, turned-length, turned-more, woken, ◌++◌, ◌+◌, ◌∙◌, ◌≡◌}
use Rattle.lot_playback.proofs.clocks.Clocks.wake.Goals as goal

pub woken-requires : goal.woken-requires
woken-requires c =
    let xs = c.args.self.now.processors.items in
    let i = c.loop-place.place in
    let clock = c.index.result.now in
    let is : clock ≡ get_or xs i clock = c.index.ensures ∙ ap
    (λ (l : List Clock). get_or l i clock) c.loop-place.invariant.clocks ∙ turned-at (woken c.args.time) xs i clock in
    let idle : clock.idle ≡ (get_or xs i clock).idle = ap (λ (k : Clock). k.idle) is in
    let bound = c.requires.idled.2 i clock (omega (arith, c.loop-place-test.true, c.len-place-end.ensures)) in
    omega (arith, idle, bound, c.requires.idled.1)

pub loop-place-preserved : goal.loop-place-preserved
loop-place-preserved c =
    let xs = c.args.self.now.processors.items in
    let i = c.loop-place.place in
    let f = woken c.args.time in
    let clock = c.index.result.now in
    let inv = c.loop-place.invariant.clocks in
    let is : clock ≡ get_or xs i clock = c.index.ensures ∙ ap (λ (l : List Clock). get_or l i clock) inv
    ∙ turned-at f xs i clock in
    let new : c.woken.result ≡ f (get_or xs i clock) = c.woken.ensures ∙ ap f is in
    record {
      time = c.loop-place.invariant.time;
      clocks = ap (λ (l : List Clock). set l i c.woken.result) inv ∙ ap (set (map f (take i xs) ++ drop i xs) i) new
          ∙ turned-more f xs i clock (omega (arith, c.loop-place-test.true, c.len-place-end.ensures));
    }

pub returns-clause-idled : goal.returns-clause-idled
returns-clause-idled c =
    let xs = c.args.self.now.processors.items in
    let all : c.loop-place.self.processors.items ≡ map (woken c.args.time) xs = c.loop-place.invariant.clocks
    ∙ turned-all (woken c.args.time) xs c.loop-place.place
    (omega (arith, c.loop-place-test.false, c.len-place-end.ensures)) in
    λ n idled. subst (HaveIdled (n + 1)) (sym all) (all-woken n c.args.time xs (omega arith) idled)

pub returns-clause-count : goal.returns-clause-count
returns-clause-count c =
    let xs = c.args.self.now.processors.items in
    let now = c.loop-place.self.processors in
    let same : length now.items ≡ length xs = ap length c.loop-place.invariant.clocks
    ∙ turned-length (woken c.args.time) xs c.loop-place.place in
    omega (arith, same, c.args.self.now.processors.ok.0, now.ok.0)
