use Rattle.lot_kernel.proofs.Lemmas.{FreeStack, Funding, IsInOrder, Snapshot, Threaded, ap, arith, backing_currency, currency-fits, currency-left, freed_in, funding_in, held, held-removed, is_some, issued_in, length-map, map, none-currencies, room-currencies, room-on, rules, sizes_of, slice_get_within, subst, sym, true, [], ◌∙◌, ◌≡◌}
use Rattle.lot_graph.specs.Graphs.{IsUserCurrency}
use Rattle.lot_kernel.proofs.tables.Tables.drop_currency.Goals as goal

pub apply-requires-clause-allowed : goal.apply-requires-clause-allowed
apply-requires-clause-allowed c =
    subst (λ (f : Funding). IsUserCurrency f c.args.currency × (issued_in f c.args.currency ≡ []) × (backing_currency f
    c.args.currency ≡ [])) (sym (ap funding_in c.self.invariant.threads)) (rw (← c.self.view_is) at c.requires.unused)

pub remove-requires : goal.remove-requires
remove-requires c =
    let i = c.self.inside in
    let (user, issued, backing) = rw (← c.self.view_is) at c.requires.unused in
    omega (arith, slice_get_within (map is_some i.currencies.items) c.args.currency true user.1, length-map i.currencies.items is_some, c.self.invariant.currencies, c.self.invariant.currency_places)

pub index_mut-requires : goal.index_mut-requires
index_mut-requires c =
    let i = c.self.inside in
    let (user, issued, backing) = rw (← c.self.view_is) at c.requires.unused in
    omega (arith, slice_get_within (map is_some i.currencies.items) c.args.currency true user.1, length-map i.currencies.items is_some)

pub invariant_of-self : goal.invariant_of-self
invariant_of-self c =
    let i = c.self.inside in
    let threads = held-removed (sizes_of i.limits) (freed_in i.freed) i.currencies.items i.threads c.apply.new.self
    i.queues c.self.invariant.threads c.args.currency c.apply.ensures.applied in
    let index = c.remove.ensures.removed i.currencies.items c.self.invariant.currency_index in
    let room = room-currencies (sizes_of i.limits) i.freed c.self.invariant.freed_room c.leave.new.self
    (ap (λ (x : FreeStack). x.room) c.leave.ensures) in
    let none = none-currencies i.limits.reuse i.freed c.self.invariant.none_freed c.leave.new.self _
    (ap (λ (x : FreeStack). x.places) c.leave.ensures) in
    search (rules, threads, index, room, none)

pub leave-requires : goal.leave-requires
leave-requires c =
    let i = c.self.inside in
    let s = held (sizes_of i.limits) (freed_in i.freed) i.currencies.items i.threads i.queues in
    let order : IsInOrder s = rw (← c.self.view_is) at c.requires.order in
    let (user, issued, backing) = rw (← c.self.view_is) at c.requires.unused in
    record { room = λ on. omega (arith, currency-fits s order on c.args.currency user.1, c.self.invariant.currencies, (room-on (sizes_of c.self.inside.limits) c.self.inside.freed c.self.invariant.freed_room on).1.0) }

pub returns-clause-state : goal.returns-clause-state
returns-clause-state c =
    let i = c.self.inside in
    let s = held (sizes_of i.limits) (freed_in i.freed) i.currencies.items i.threads i.queues in
    let left = currency-left s c.self.invariant.none_freed c.args.currency in
    search (rules, left)

pub returns-clause-stale : goal.returns-clause-stale
returns-clause-stale c = c.apply.ensures.stale.same tt ∙ ap (λ (x : Snapshot). x.stale) c.self.view_is

pub returns-clause-meter : goal.returns-clause-meter
returns-clause-meter c = ap (λ (v : Threaded). v.meter) c.apply.ensures.applied
    ∙ ap (λ (x : Snapshot). x.meter) c.self.view_is
