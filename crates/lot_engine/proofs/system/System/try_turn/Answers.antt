-- A slice of another work than the actor's is no slice of the actor's, which has exactly one.
use Rattle.lot_engine.proofs.Lemmas.{IsFresh, Matches, Seen, fresh-matches, refl, subst, sym, true, ◌≡◌}
use Rattle.lot_engine.proofs.system.System.try_turn.Goals as goal

pub returns-then-not-matches_work-clause-err : goal.returns-then-not-matches_work-clause-err
returns-then-not-matches_work-clause-err c =
    let seen = c.args.self.now in
    let work = c.kept_work-work.result in
    let given = c.args.slice.now in
    let stale : IsFresh seen c.args.actor given → ⊥ =
    λ fresh.
    let matches = fresh-matches seen c.args.actor work given c.kept_work-work.ensures fresh in
    let yes : c.matches_work.result ≡ true = c.matches_work.ensures.1
    (subst (λ (x : Seen). Matches x.setting.program work given) (sym c.self.view_is) matches) in
    let no = c.if-not-matches_work.true in
    cc in
    (stale, refl)
