-- The effect of a change on a valued graph, and the condition for making it.
use Rattle.std.specs.Prelude.{◌≡◌, ◌≢◌, ◌<◌, ◌≤◌, ◌∷◌, ◌++◌, ℕ, ⊤, Bool, true, false, Option, Some, None, List, [], length, slice_get, slice_set}
use Rattle.lot_machine.specs.declared.ticket.Ticket.{Ticket}
use Rattle.lot_machine.specs.declared.ticket.Target.{Target}
use Rattle.lot_machine.specs.declared.ticket.Target.TheVariants as target
use Rattle.lot_machine.specs.declared.funding.Node.{Node}
use Rattle.lot_machine.specs.declared.funding.Node.TheVariants.{Thread, Mutex}
use Rattle.lot_machine.specs.declared.funding.Lend.{Lend}
use Rattle.lot_machine.specs.declared.funding.Lend.TheVariants.{Nobody, ToThread, ToMutex}
use Rattle.lot_machine.specs.Numbered.{at_number, set_number}
use Rattle.lot_machine.specs.Funding.{Funding, ticket_at, target_of, owner_of, issued_in, backing_currency, retargeted, with_amount}
use Rattle.lot_machine.specs.Lends.{IsLive}
use Rattle.lot_machine.specs.Equations.{Reaches}
use Rattle.lot_graph.specs.Graphs.{LimitedFunding, IsCurrency, IsUserCurrency, IsThread, IsMutex, IsTarget, IsCycle, IsBorrower, LendReaches}
use Rattle.lot_value.specs.declared.change.GraphChange.{GraphChange}
use Rattle.lot_value.specs.declared.change.GraphChange.TheVariants.{NewTicket, ReuseTicket, PutTicket, SetAmount, DropTicket, NewCurrency, ReuseCurrency, DropCurrency, PutOwner, MoveOwner, PutThread}
use Rattle.lot_value.specs.Caches.{IsStale}
use Rattle.lot_value.specs.Valued.{Valued, MakesStale}

-- the currencies after a change
abbrev pub currencies_after : List Bool → GraphChange → List Bool
currencies_after there NewCurrency = there ++ true ∷ []
currencies_after there (ReuseCurrency c) = slice_set there c true
currencies_after there (DropCurrency c) = slice_set there c false
currencies_after there other = there

-- the tickets after a change
abbrev pub tickets_after : List (Option Ticket) → GraphChange → List (Option Ticket)
tickets_after tickets (NewTicket t) = tickets ++ Some t ∷ []
tickets_after tickets (ReuseTicket n t) = set_number tickets n (Some t)
tickets_after tickets (PutTicket n t) = set_number tickets n (Some t)
tickets_after tickets (SetAmount n amount) = with_amount tickets n amount
tickets_after tickets (DropTicket n) = set_number tickets n None
tickets_after tickets other = tickets

-- the threads' lends after a change
abbrev pub lends_after : List Lend → GraphChange → List Lend
lends_after lends (PutThread t lend live) = set_number lends t lend
lends_after lends other = lends

-- the owner of each mutex after a change
abbrev pub owners_after : List (Option ℕ) → GraphChange → List (Option ℕ)
owners_after owners (PutOwner m owner) = set_number owners m owner
owners_after owners (MoveOwner m owner next) = set_number owners m (Some next)
owners_after owners other = owners

-- the live threads after a change
abbrev pub live_after : List Bool → GraphChange → List Bool
live_after lives (PutThread t lend live) = set_number lives t live
live_after lives other = lives

-- the graph after a change
abbrev pub graph_after : LimitedFunding → GraphChange → LimitedFunding
graph_after w c = record w { funding = record { currencies = currencies_after w.funding.currencies c; tickets = tickets_after w.funding.tickets c; lends = lends_after w.funding.lends c; owners = owners_after w.funding.owners c } }

-- the valued graph after a change, with these stale nodes
abbrev pub applied : Valued → GraphChange → List Node → Valued
applied v c stale = record { now = graph_after v.now c; live = live_after v.live c; known = record v.known { stale = stale } }

-- the change moves no edge, and makes no thread live or ends that
abbrev pub MovesNothing : GraphChange → Type 0
MovesNothing (NewTicket t) = ⊤
MovesNothing (ReuseTicket n t) = ⊤
MovesNothing (DropTicket n) = ⊤
MovesNothing NewCurrency = ⊤
MovesNothing (ReuseCurrency c) = ⊤
MovesNothing (DropCurrency c) = ⊤
MovesNothing other = ⊥

-- if the change passes a mutex from one owner to another, this holds for both
abbrev pub HoldsOfOwners : GraphChange → (Node → Type 0) → Type 0
HoldsOfOwners (MoveOwner m owner next) Is = Is (Thread owner) × Is (Thread next)
HoldsOfOwners other Is = ⊤

-- Stale nodes stay stale, and touched nodes reach the new ones; there are none if the change moves nothing. Both owners
-- of a mutex that moves are stale.
pub record StaleBy (change : GraphChange) (old new : Valued) : Type 0 where
  pub kept : (node : Node) → IsStale old.known node → IsStale new.known node
  pub reached : MakesStale old new
  pub same : MovesNothing change → new.known ≡ old.known
  pub owners : HoldsOfOwners change (IsStale new.known)

-- the thread may have this lend: the borrower exists and doesn't reach the thread
abbrev pub CanLend : Funding → ℕ → Lend → Type 0
CanLend f t Nobody = ⊤
CanLend f t (ToThread s) = IsBorrower f (ToThread s) × (¬ LendReaches f (ToThread s) t)
CanLend f t (ToMutex m) = IsBorrower f (ToMutex m) × (¬ LendReaches f (ToMutex m) t)

-- a ticket with the first target may get the second: a ticket without a target gets one that makes no cycle, or a
-- ticket loses its target
abbrev pub CanTarget : Funding → ℕ → Target → Target → Type 0
CanTarget f n before target.Unfunded = before ≢ target.Unfunded
CanTarget f n before to = (before ≡ target.Unfunded) × IsTarget f to × (¬ IsCycle f n to)

-- a thread may own a mutex: both exist, and the thread doesn't reach the mutex
abbrev pub CanOwn : Funding → ℕ → ℕ → Type 0
CanOwn f m t = IsMutex f m × IsThread f t × (¬ Reaches f (Thread t) (Mutex m))

-- The change is allowed: its ticket, currency, mutex or thread exists, and it makes no cycle. A mutex moves only from
-- a live thread to another.
abbrev pub CanApply : LimitedFunding → List Bool → GraphChange → Type 0
CanApply w live (NewTicket t) = IsCurrency w.funding t.issuer × (0 < t.amount) × (t.target ≡ target.Unfunded) × (length w.funding.tickets < w.ticket_limit)
CanApply w live (ReuseTicket n t) = (at_number w.funding.tickets n ≡ Some None) × IsCurrency w.funding t.issuer × (0 < t.amount) × (t.target ≡ target.Unfunded)
CanApply w live (PutTicket n t) = (before : Ticket) × (ticket_at w.funding n ≡ Some before) × (t ≡ retargeted t.target before) × CanTarget w.funding n before.target t.target
CanApply w live (SetAmount n amount) = (before : Ticket) × (ticket_at w.funding n ≡ Some before) × (0 < amount)
CanApply w live (DropTicket n) = target_of w.funding n ≡ Some target.Unfunded
CanApply w live NewCurrency = length w.funding.currencies ≤ w.currency_limit
CanApply w live (ReuseCurrency c) = slice_get w.funding.currencies c ≡ Some false
CanApply w live (DropCurrency c) = IsUserCurrency w.funding c × (issued_in w.funding c ≡ []) × (backing_currency w.funding c ≡ [])
CanApply w live (PutOwner m None) = IsMutex w.funding m
CanApply w live (PutOwner m (Some t)) = CanOwn w.funding m t × (owner_of w.funding m ≡ None)
CanApply w live (MoveOwner m owner next) = CanOwn w.funding m next × (owner_of w.funding m ≡ Some owner) × (owner ≢ next) × IsLive live owner × IsLive live next
CanApply w live (PutThread t lend flag) = IsThread w.funding t × CanLend w.funding t lend
