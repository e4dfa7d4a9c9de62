use Rattle.lot_active.proofs.Lemmas.{Held, SetsAwake, arith, awake-kept, awake-switched, false, get_or_read, length, mark-read, mark-woken, refl, slice_set, subst, sym, ◌<◌, ◌∙◌}
use Rattle.lot_active.proofs.marks.Marks.set_awake.Goals as goal

pub returns-then-is_marked-was : goal.returns-then-is_marked-was
returns-then-is_marked-was c =
    let awake = c.self.inside.awake.items in
    let amounts = c.self.inside.amounts.items in
    let node = c.args.node in
    let old : Held = record { awake = awake; amounts = amounts; lists = c.self.inside.lists } in
    let new : Held =
    record { awake = slice_set awake node c.args.awake; amounts = amounts; lists = c.relist.new.lists } in
    let low : node < length amounts =
    subst (λ (h : Held). node < length h.amounts) (sym c.self.view_is) c.requires.node in
    let within : node < length awake = omega (arith, low, c.self.invariant.awake) in
    let was_awake = get_or_read awake _ _ within c.index.ensures false in
    let amount = get_or_read amounts _ _ low c.index-amount.ensures 0 in
    record {
      sets =
          subst (λ (h : Held). SetsAwake h new node c.args.awake) c.self.view_is
          (awake-switched old new node c.args.awake c.is_marked-was.result c.is_marked.result c.self.invariant refl refl
          (c.is_marked-was.ensures ∙ mark-read awake amounts node _ _ was_awake amount)
          (c.is_marked.ensures ∙ mark-woken awake amounts node c.args.awake _ within amount) c.if-is_marked-was.true
          c.relist.ensures.relists c.relist.ensures.size.0 c.relist.ensures.size.1 c.relist.ensures.consistent);
    }

pub returns-else-is_marked-was : goal.returns-else-is_marked-was
returns-else-is_marked-was c =
    let awake = c.self.inside.awake.items in
    let amounts = c.self.inside.amounts.items in
    let node = c.args.node in
    let old : Held = record { awake = awake; amounts = amounts; lists = c.self.inside.lists } in
    let new : Held =
    record { awake = slice_set awake node c.args.awake; amounts = amounts; lists = c.self.inside.lists } in
    let low : node < length amounts =
    subst (λ (h : Held). node < length h.amounts) (sym c.self.view_is) c.requires.node in
    let within : node < length awake = omega (arith, low, c.self.invariant.awake) in
    let was_awake = get_or_read awake _ _ within c.index.ensures false in
    let amount = get_or_read amounts _ _ low c.index-amount.ensures 0 in
    record {
      sets =
          subst (λ (h : Held). SetsAwake h new node c.args.awake) c.self.view_is
          (awake-kept old new node c.args.awake c.is_marked-was.result c.is_marked.result c.self.invariant refl refl
          (c.is_marked-was.ensures ∙ mark-read awake amounts node _ _ was_awake amount) (c.is_marked.ensures
          ∙ mark-woken awake amounts node c.args.awake _ within amount) c.if-is_marked-was.false refl);
    }
