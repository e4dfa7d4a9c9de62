use Rattle.lot_playback.proofs.Lemmas.{AreDue, Currencies, CurrencyTable, DueTable, HaveAdded, Seen, ap, arith, currencies-more, have-run, length, subst, sym, ticks_in, world_of, [], ◌++◌, ◌+◌, ◌-◌, ◌∙◌, ◌∷◌, ◌≡◌}
use Rattle.lot_playback.proofs.currencies.CurrencyTable.follow.Goals as goal

pub returns-clause-exact : goal.returns-clause-exact
returns-clause-exact c first s done n turn room at answered world answers found were =
    let next = (world_of c.args.system.now).state in
    let e = c.args.event.now in
    let r = c.args.reply in
    let old = c.args.self.now in
    let mid = c.add.new.self in
    let new = c.forget_new.new.self in
    let count : c.count.result ≡ length next.currencies - 1 = c.count.ensures
    ∙ ap (λ (x : Seen). length (world_of x).state.currencies - 1) c.follow.ensures.same in
    let added : HaveAdded old.above (ticks_in r) (length next.currencies - 1) old.ticks.items mid.ticks.items =
    subst (λ k. HaveAdded old.above (ticks_in r) k old.ticks.items mid.ticks.items) count (subst (λ k.
    HaveAdded old.above k c.count.result old.ticks.items mid.ticks.items) c.ticks_in.ensures c.add.ensures.added) in
    let run = have-run s next e r answers old.above found old.ticks.items mid.ticks.items new.ticks.items added
    c.forget_new.ensures.count (c.forget_new.ensures.forgotten e)
    (omega (arith, c.ticks_in.ensures, c.ticks_in.type_inv)) in
    let kept : new.dues ≡ c.follow.new.self = ap (λ (x : CurrencyTable). x.dues) c.forget_new.ensures.rest
    ∙ ap (λ (x : CurrencyTable). x.dues) c.add.ensures.rest in
    currencies-more first s next done n turn e r answers answered old new were run
    (subst (λ (x : DueTable). AreDue Currencies first (done ++ turn ∷ []) (n + 1) next x) (sym kept)
    (c.follow.ensures.due Currencies first s done n turn room at answered world answers were.dues))
