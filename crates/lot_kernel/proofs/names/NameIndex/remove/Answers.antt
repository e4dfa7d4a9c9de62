use Rattle.lot_kernel.proofs.Lemmas.{IsIndexOf, NodeLists, None, index-removed, index-unlisted, slice_set, subst, sym, when-none, when-some, ◌∙◌}
use Rattle.lot_kernel.proofs.names.NameIndex.remove.Goals as goal

pub returns-then-is_some-clause-removed : goal.returns-then-is_some-clause-removed
returns-then-is_some-clause-removed c names index =
    let v = c.self.inside.lists in
    let here = subst (λ (x : NodeLists). IsIndexOf x names) (sym c.self.view_is) index in
    let (list, listed) =
    when-some c.list_of.result (sym c.is_some.ensures ∙ c.if-is_some.true) c.list_of.ensures.found in
    index-removed v names here c.remove.new.self c.remove.ensures.same_size c.remove.ensures.consistent c.args.place
    list listed c.remove.ensures.free c.remove.ensures.removed

pub returns-else-is_some-clause-removed : goal.returns-else-is_some-clause-removed
returns-else-is_some-clause-removed c names index =
    let v = c.self.inside.lists in
    let here = subst (λ (x : NodeLists). IsIndexOf x names) (sym c.self.view_is) index in
    let free = when-none c.list_of.result (sym c.is_some.ensures ∙ c.if-is_some.false) c.list_of.ensures.free in
    subst (λ (x : NodeLists). IsIndexOf x (slice_set names c.args.place None)) c.self.view_is
    (index-unlisted v names here c.args.place free)
