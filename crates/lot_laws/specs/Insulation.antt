-- Insulation: the nodes that a change can't affect, and the nodes inside a currency (3.2, 3.3).
use Rattle.std.specs.Prelude.{◌≡◌, ◌≢◌, ◌⊎◌, ℕ, Bool, true, false, Some, List, option_and_then}
use Rattle.lot_machine.specs.declared.event.Event.{Event}
use Rattle.lot_machine.specs.declared.event.Event.TheVariants as event
use Rattle.lot_machine.specs.declared.command.Command.{Command}
use Rattle.lot_machine.specs.declared.command.Command.TheVariants.{RemoveTicket}
use Rattle.lot_machine.specs.declared.ticket.Ticket.{Ticket}
use Rattle.lot_machine.specs.declared.ticket.Target.TheVariants as target
use Rattle.lot_machine.specs.declared.reference.TargetRef.{TargetRef}
use Rattle.lot_machine.specs.declared.funding.Node.{Node}
use Rattle.lot_machine.specs.declared.funding.Node.TheVariants.{Currency, Thread}
use Rattle.lot_machine.specs.Funding.{Funding, ticket_at, target_of, target_node, IsEdge}
use Rattle.lot_machine.specs.Activity.{is_active, active_amount}
use Rattle.lot_machine.specs.Value.{ticket_value, node_value}
use Rattle.lot_machine.specs.State.{State, funding_of, live_of}
use Rattle.lot_machine.specs.Commands.{GivesAmount, target_meant}
use Rattle.lot_machine.specs.Touched.{PathLeads, IsTouched, IsChangedEdge, IsChangedLife}

-- the ticket with this number has the same amount before and after, if it exists in both
abbrev pub KeepsAmount : Funding → Funding → ℕ → Type 0
KeepsAmount before after n = (t u : Ticket) → ticket_at before n ≡ Some t → ticket_at after n ≡ Some u → t.amount ≡ u.amount

-- each ticket has the same amount before and after, if it exists in both
abbrev pub KeepsAmounts : Funding → Funding → Type 0
KeepsAmounts before after = (n : ℕ) → KeepsAmount before after n

-- the event is a command that gives the ticket an amount
abbrev pub SetsAmountOf : ℕ → Event → Type 0
SetsAmountOf n e = (c : Command) × (amount : ℕ) × (e ≡ event.Command c) × GivesAmount c n amount

-- the event removes the ticket, unless it is refused
abbrev pub RemovesTicket : ℕ → Event → Type 0
RemovesTicket n e = e ≡ event.Command (RemoveTicket n)

-- a path, perhaps empty, leads to the node from a node that the change touched
abbrev pub IsAffected : Funding → Funding → List Bool → List Bool → Node → Type 0
IsAffected before after live_before live_after node =
    (touched : Node) × IsTouched before after live_before live_after touched × PathLeads before after touched node

-- the step from one state to the next affects the node
abbrev pub Affects : State → State → Node → Type 0
Affects before after node = IsAffected (funding_of before) (funding_of after) (live_of before) (live_of after) node

-- ---- inside a currency

-- no ticket funds base
abbrev pub FundsNoBase : Funding → Type 0
FundsNoBase f = (n : ℕ) → target_of f n ≢ Some (target.Currency 0)

-- These nodes are inside the currency: it leads only to them, they lead only to each other, and no other node except
-- base leads to them.
pub record Encloses (f : Funding) (c : ℕ) (inside : Node → Bool) : Type 0 where
  pub itself : inside (Currency c) ≡ false
  pub below : (from to : Node) → IsEdge f from to → (from ≡ Currency c) ⊎ (inside from ≡ true) → inside to ≡ true
  pub alone : (from to : Node) → IsEdge f from to → inside to ≡ true → from ≢ Currency 0 → (from ≡ Currency c) ⊎ (inside from ≡ true)

-- the whole change is inside the currency: the edges that come, go or get another weight lead to nodes inside, and
-- the threads that become live or stop being live are inside
pub record IsChangeInside (before after : Funding) (live_before live_after : List Bool) (c : ℕ) (inside : Node → Bool) : Type 0 where
  pub enclosed_before : Encloses before c inside
  pub enclosed_after : Encloses after c inside
  pub edges : (from to : Node) → IsChangedEdge before after from to → inside to ≡ true
  pub lives : (t : ℕ) → IsChangedLife live_before live_after t → inside (Thread t) ≡ true

-- the step from one state to the next changes only nodes and edges inside the currency
abbrev pub ChangesInside : State → State → ℕ → (Node → Bool) → Type 0
ChangesInside before after c inside = IsChangeInside (funding_of before) (funding_of after) (live_of before) (live_of after) c inside

-- the active amount of a currency in a state
abbrev pub amount_in : State → ℕ → ℕ
amount_in s c = active_amount (funding_of s) (live_of s) c

-- the value of a node in a state; base counts as its active amount
abbrev pub worth_in : State → Node → ℕ
worth_in s node = node_value s.limits.unit (funding_of s) (live_of s) node

-- whether a ticket is active in a state
abbrev pub is_active_in : State → Ticket → Bool
is_active_in s t = is_active (funding_of s) (live_of s) t

-- the value of a ticket in a state
abbrev pub ticket_worth_in : State → Ticket → ℕ
ticket_worth_in s t = ticket_value s.limits.unit (funding_of s) (live_of s) t

-- the target that the reference means, if it exists, is inside
abbrev pub IsMeantInside : State → TargetRef → (Node → Bool) → Type 0
IsMeantInside s to inside = (node : Node) → option_and_then target_node (target_meant s to) ≡ Some node → inside node ≡ true
