-- A change of the parts, as a change of the whole.
use Rattle.lot_value.proofs.Common.{Activity, Becomes, Bool, CanTarget, Follows, FollowsGraph, FollowsLives, Funding, GraphChange, HoldsOfOwners, IsCycle, IsStale, IsTarget, Known, Lend, LimitedFunding, List, MovesNothing, Node, None, OnSome, Option, PutThread, Some, SomeIff, StaleBy, Target, Valued, ap, applied, false, graph_after, inl, live_after, live_of, refl, set_number, sym, true, with_lends, ℕ, ◌∙◌, ◌≡◌}
use Rattle.lot_machine.specs.declared.ticket.Target.TheVariants as target
use Rattle.lot_value.proofs.TwoChanges.{lives-first, graph-first}
use Rattle.lot_value.proofs.Unchanged.{Stays}

-- what clauses see of the parts
abbrev pub seen : LimitedFunding → Activity → Known → Valued
seen w v c = record { now = w; live = live_of w v; known = c }

-- what is kept together followed
pub becomes : (w now : LimitedFunding) (v new : Activity) (c known : Known) (graph : LimitedFunding) (lives : List Bool)
    → now ≡ graph → Follows w now v new c known lives → known ≡ record c { stale = known.stale }
    → ((node : Node) → IsStale c node → IsStale known node) → Becomes (seen w v c) (seen now new known) graph lives
becomes w now v new c known graph lives is follows others kept =
    record { now = is; live = follows.live; known = others; kept = kept; reached = follows.stale }

-- nothing changed
pub follows-none : (v : Valued) (graph : LimitedFunding) → v.now ≡ graph → FollowsGraph v v graph
follows-none v graph is =
    record { now = is; live = refl; known = refl; kept = λ node here. here; reached = λ node here. inl here }

-- a whole by its parts
parts : (v : Valued) (now : LimitedFunding) (live : List Bool) (known : Known) → v.now ≡ now → v.live ≡ live
    → v.known ≡ known → v ≡ record { now = now; live = live; known = known }
parts v now live known a b c =
    ap (λ (x : LimitedFunding). record v { now = x }) a ∙ ap (λ (x : List Bool). record v { now = now; live = x }) b
    ∙ ap (λ (x : Known). record v { now = now; live = live; known = x }) c

-- a change of the graph that moves no edge
pub follows-stays : (w now graph : LimitedFunding) (v : Activity) (c : Known) → now ≡ graph
    → Stays now v c (live_of w v) → FollowsGraph (seen w v c) (seen now v c) graph
follows-stays w now graph v c is stays =
    record { now = is; live = stays.live; known = refl; kept = λ node here. here; reached = λ node here. inl here }

-- ---- changes

-- the change is made
pub record Done (change : GraphChange) (old new : Valued) : Type 0 where
  pub applied_to : new ≡ applied old change new.known.stale
  pub stale : StaleBy change old new

-- one that makes the graph what it is to be, and moves something
pub done : (change : GraphChange) (old new : Valued)
    → Becomes old new (graph_after old.now change) (live_after old.live change) → (¬ MovesNothing change)
    → HoldsOfOwners change (IsStale new.known) → Done change old new
done change old new is moves owners = record {
  applied_to = parts new _ _ _ is.now is.live is.known;
  stale = record { kept = is.kept; reached = is.reached; same = λ none. absurd (moves none); owners = owners };
}

-- one that moves nothing
pub done-stays : (change : GraphChange) (w now : LimitedFunding) (v : Activity) (c : Known) → now ≡ graph_after w change
    → live_after (live_of w v) change ≡ live_of w v → HoldsOfOwners change (IsStale c) → Stays now v c (live_of w v)
    → Done change (seen w v c) (seen now v c)
done-stays change w now v c graph life owners stays = record {
  applied_to = parts (seen now v c) _ _ _ graph (stays.live ∙ sym life) refl;
  stale = record { kept = λ node is. is; reached = λ node is. inl is; same = λ _. refl; owners = owners };
}

-- what was made if there was room was made
pub made-in : (number : Option ℕ) (room : Type 0) (n : ℕ) (P : Type 0) → SomeIff number room n → OnSome number P → room
    → P
made-in None room n P if made has = absurd (if has)
made-in (Some k) room n P if made has = made

-- ---- a ticket

-- a ticket that funds nothing may fund a target that is there, where it makes no cycle
pub target-may : (f : Funding) (n : ℕ) (before to : Target) → before ≡ target.Unfunded → IsTarget f to
    → ¬ IsCycle f n to → CanTarget f n before to
target-may f n before target.Unfunded free there apart = absurd there
target-may f n before (target.Currency c) free there apart = (free, there, apart)
target-may f n before (target.Thread t) free there apart = (free, there, apart)

-- ---- a thread

-- first who is live changes, and then what is lent
pub live-and-lend : (old mid new : Valued) (t : ℕ) (lend : Lend) → FollowsLives old mid (set_number old.live t true)
    → FollowsGraph mid new (with_lends mid.now (set_number mid.now.funding.lends t lend))
    → Done (PutThread t lend true) old new
live-and-lend old mid new t lend first then =
    done (PutThread t lend true) old new
    (record {
      now = then.now ∙ ap (λ (w : LimitedFunding). with_lends w (set_number w.funding.lends t lend)) first.now;
      live = then.live ∙ first.live;
      known = then.known ∙ ap (λ (k : Known). record k { stale = new.known.stale }) first.known;
      kept = λ node is. then.kept node (first.kept node is);
      reached = lives-first old mid new first.now then.live first.reached then.reached;
    })
    (λ never. never) tt

-- or the other way round
pub lend-and-sleep : (old mid new : Valued) (t : ℕ) (lend : Lend)
    → FollowsGraph old mid (with_lends old.now (set_number old.now.funding.lends t lend))
    → FollowsLives mid new (set_number mid.live t false) → Done (PutThread t lend false) old new
lend-and-sleep old mid new t lend first then =
    done (PutThread t lend false) old new
    (record {
      now = then.now ∙ first.now;
      live = then.live ∙ ap (λ (ls : List Bool). set_number ls t false) first.live;
      known = then.known ∙ ap (λ (k : Known). record k { stale = new.known.stale }) first.known;
      kept = λ node is. then.kept node (first.kept node is);
      reached = graph-first old mid new first.live then.now first.reached then.reached;
    })
    (λ never. never) tt
