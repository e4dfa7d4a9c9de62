use Rattle.lot_laws.proofs.Common.{AreOwn, IsReachable, State, Target, Unfunded, after-own, name-means, name_at, opening, opening-own, refl, subst, sym, target_name, ◌∙◌, ◌≡◌}
use Rattle.lot_machine.specs.declared.ticket.Target.TheVariants.{Currency, Thread}
use Rattle.lot_laws.proofs.named.names_mean_who_has_them.Goals as goal

reachable-own : (s : State) → IsReachable s → AreOwn s
reachable-own s (limits, events, bounds, is) =
    subst AreOwn (sym is) (after-own (opening limits) events (opening-own limits))

named-same : (s : State) (x : Target) → name_at s.currencies s.threads x ≡ target_name s x
named-same s Unfunded = refl
named-same s (Currency c) = refl
named-same s (Thread t) = refl

pub returns-clause-means : goal.returns-clause-means
returns-clause-means c s x name reached is some =
    name-means s name some (reachable-own s reached) x (named-same s x ∙ is)

pub returns-clause-once : goal.returns-clause-once
returns-clause-once c s x y name reached is other some =
    (reachable-own s reached).own x y name (named-same s x ∙ is) (named-same s y ∙ other) some

pub returns-clause-currencies : goal.returns-clause-currencies
returns-clause-currencies c s n name reached is = (reachable-own s reached).good (Currency n) name is

pub returns-clause-threads : goal.returns-clause-threads
returns-clause-threads c s t name reached is = (reachable-own s reached).good (Thread t) name is
