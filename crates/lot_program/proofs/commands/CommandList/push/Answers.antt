-- The list keeps its commands while the pool grows.
use Rattle.lot_program.proofs.Lemmas.{All-push, All-same, Command, IfOk-from_err, IsCommandIn, List, ap, command_in, commands-added, commands-in, commands-kept, err_from_is_err_and, map, [], ◌++◌, ◌∙◌, ◌∷◌}
use Rattle.lot_program.proofs.commands.CommandList.push.Goals as goal

pub returns-in_err-packed-clause-kept : goal.returns-in_err-packed-clause-kept
returns-in_err-packed-clause-kept c =
    let p = err_from_is_err_and c.from_residual.result c.from_residual.ensures.1 in
    let kept = commands-kept c.self.inside.pool.bytes c.pack.new.pool.bytes c.pack.ensures.grows
    c.self.inside.packed.items c.self.invariant in
    rw p.1 (kept ∙ c.self.view_is)

pub returns-in_err-push-clause-kept : goal.returns-in_err-push-clause-kept
returns-in_err-push-clause-kept c =
    let p = err_from_is_err_and c.from_residual-in_err-push.result c.from_residual-in_err-push.ensures.1 in
    let kept = commands-kept c.self.inside.pool.bytes c.pack.new.pool.bytes c.pack.ensures.grows
    c.self.inside.packed.items c.self.invariant in
    rw p.1 (ap (map (command_in c.pack.new.pool.bytes)) c.in_err-push.ensures.items ∙ kept ∙ c.self.view_is)

pub invariant_of-self-2 : goal.invariant_of-self-2
invariant_of-self-2 c =
    let old = commands-in c.self.inside.pool.bytes c.pack.new.pool.bytes c.pack.ensures.grows c.self.inside.packed.items
    c.self.invariant in
    All-same (IsCommandIn c.pack.new.pool.bytes) _ _ c.in_ok-push.ensures.items
    (All-push (IsCommandIn c.pack.new.pool.bytes) _ _ old c.in_ok-packed.ensures.within)

pub returns-clause-added : goal.returns-clause-added
returns-clause-added c =
    let added =
    commands-added c.self.inside.pool.bytes c.pack.new.pool.bytes c.pack.ensures.grows c.self.inside.packed.items
    c.in_ok-packed.packed c.args.command
    c.self.invariant
    c.in_ok-packed.ensures.same in
    ap (map (command_in c.pack.new.pool.bytes)) c.in_ok-push.ensures.items ∙ added
    ∙ ap (λ (cs : List Command). cs ++ c.args.command ∷ []) c.self.view_is

pub invariant_of-self : goal.invariant_of-self
invariant_of-self c = commands-in c.self.inside.pool.bytes c.pack.new.pool.bytes c.pack.ensures.grows
    c.self.inside.packed.items c.self.invariant

pub returns-in_err-packed-clause-added : goal.returns-in_err-packed-clause-added
returns-in_err-packed-clause-added c = IfOk-from_err c.from_residual.result _ c.from_residual.ensures.0

pub invariant_of-self-in_err-push : goal.invariant_of-self-in_err-push
invariant_of-self-in_err-push c =
    let old = commands-in c.self.inside.pool.bytes c.pack.new.pool.bytes c.pack.ensures.grows c.self.inside.packed.items
    c.self.invariant in
    All-same (IsCommandIn c.pack.new.pool.bytes) _ _ c.in_err-push.ensures.items old

pub returns-in_err-push-clause-added : goal.returns-in_err-push-clause-added
returns-in_err-push-clause-added c =
    IfOk-from_err c.from_residual-in_err-push.result _ c.from_residual-in_err-push.ensures.0

pub returns-clause-kept : goal.returns-clause-kept
returns-clause-kept c = tt
