use Rattle.lot_value.proofs.Lemmas.{Nobody, Some, ap, apart-fewer, edges-lent, follows-both, follows-none, lend-kept, lend-twice, lends-nobody, number-some, refl, ◌∙◌, ◌≡◌}
use Rattle.lot_value.proofs.relending.relend.Goals as goal

pub returns-then-lends : goal.returns-then-lends
returns-then-lends c =
    record { follows = follows-none c.args.graph.now _ (lend-kept c.args.graph.now.now c.args.thread c.args.lend (c.if-lends.ensures.0 refl)) }

pub lend-requires-clause-nobody : goal.lend-requires-clause-nobody
lend-requires-clause-nobody c = lends-nobody c.args.graph.now.now c.unlend.new.graph.now c.args.thread c.requires.thread
    c.unlend.ensures.follows.now

pub lend-requires-clause-apart : goal.lend-requires-clause-apart
lend-requires-clause-apart c = apart-fewer c.args.graph.now.now c.unlend.new.graph.now c.args.thread c.args.lend
    c.unlend.ensures.follows.now c.requires.lend

pub returns-then-ne : goal.returns-then-ne
returns-then-ne c =
    let first = c.args.graph.now in
    let mid = c.unlend.new.graph in
    let last = c.lend.new.self in
    let t = c.args.thread in
    let (old, there) = number-some first.now.funding.lends t c.requires.thread.0 c.requires.thread.1 in
    let other : ¬ (old ≡ c.args.lend) = λ same. let no = c.if-lends.ensures.1 (there ∙ ap Some same) in cc in
    let lent = lend-twice first.now mid.now last.now t Nobody c.args.lend c.unlend.ensures.follows.now
    c.lend.ensures.follows.now in
    let edges = edges-lent first.now mid.now last.now t old c.args.lend there other c.unlend.ensures.follows.now lent in
    record { follows = follows-both first mid last lent c.unlend.ensures.follows c.lend.ensures.follows edges }
