use Rattle.lot_kernel.proofs.Lemmas.{IsIndexOf, NodeLists, None, Some, ap, bucket_of, index-added, index-again, index-nameless, index-nameless_again, length, rules, slice_set, subst, sym, with_pushed, [], ◌++◌, ◌<◌, ◌∙◌, ◌∷◌, ◌≡◌}
use Rattle.lot_kernel.proofs.names.NameIndex.add.Goals as goal

pub push_back-requires-clause-free : goal.push_back-requires-clause-free
push_back-requires-clause-free c = rw (← c.self.view_is) at c.requires.free

pub returns-in-Some-clause-added : goal.returns-in-Some-clause-added
returns-in-Some-clause-added c names index last =
    let v = c.self.inside.lists in
    let here = subst (λ (x : NodeLists). IsIndexOf x names) (sym c.self.view_is) index in
    let bucket = c.in-Some.bucket in
    let has : Some bucket ≡ bucket_of (length v.lists) c.args.name.now = c.in-Some.ensures.bucket
    ∙ ap (λ n. bucket_of n c.args.name.now) c.self.invariant.lists in
    let within : bucket < length v.lists = subst (λ n. bucket < n) c.self.invariant.lists c.in-Some.ensures.within in
    index-added v names here c.push_back.new.self c.push_back.ensures.same_size c.push_back.ensures.consistent
    c.args.name.now bucket has within
    (c.push_back.ensures.pushed ∙ ap (with_pushed v bucket) (sym last))

pub returns-in-Some-clause-again : goal.returns-in-Some-clause-again
returns-in-Some-clause-again c names index gap =
    let v = c.self.inside.lists in
    let here = subst (λ (x : NodeLists). IsIndexOf x names) (sym c.self.view_is) index in
    let bucket = c.in-Some.bucket in
    let has : Some bucket ≡ bucket_of (length v.lists) c.args.name.now = c.in-Some.ensures.bucket
    ∙ ap (λ n. bucket_of n c.args.name.now) c.self.invariant.lists in
    let within : bucket < length v.lists = subst (λ n. bucket < n) c.self.invariant.lists c.in-Some.ensures.within in
    index-again v names here c.push_back.new.self c.push_back.ensures.same_size c.push_back.ensures.consistent
    c.args.name.now c.args.place bucket has gap within c.push_back.ensures.pushed

-- no bytes have no bucket
pub returns-in_default-clause-added : goal.returns-in_default-clause-added
returns-in_default-clause-added c names index last =
    let v = c.self.inside.lists in
    let here = subst (λ (x : NodeLists). IsIndexOf x names) (sym c.self.view_is) index in
    let none : None ≡ bucket_of (length v.lists) c.args.name.now = search rules in
    subst (λ (x : NodeLists). IsIndexOf x (names ++ Some c.args.name.now ∷ [])) c.self.view_is
    (index-nameless v names here c.args.name.now none)

pub returns-in_default-clause-again : goal.returns-in_default-clause-again
returns-in_default-clause-again c names index gap =
    let v = c.self.inside.lists in
    let here = subst (λ (x : NodeLists). IsIndexOf x names) (sym c.self.view_is) index in
    let none : None ≡ bucket_of (length v.lists) c.args.name.now = search rules in
    subst (λ (x : NodeLists). IsIndexOf x (slice_set names c.args.place (Some c.args.name.now))) c.self.view_is
    (index-nameless_again v names here c.args.name.now c.args.place none gap)
