-- Conservation: currencies pass on their value, from base to the live threads, and only rounding loses some (3.3,
-- 4.4).
use Rattle.std.specs.Prelude.{◌≡◌, ℕ, ◌-◌, ◌<◌, ◌==◌, Bool, ◌&&◌, not, Some, List, length, filter, count_by, sum_by}
use Rattle.std.specs.List.{range_with_len}
use Rattle.lot_machine.specs.declared.ticket.Ticket.{Ticket}
use Rattle.lot_machine.specs.Funding.{Funding, ticket_at, all_tickets, issued_in}
use Rattle.lot_machine.specs.Activity.{is_active}
use Rattle.lot_machine.specs.Value.{ticket_value, currency_value}
use Rattle.lot_machine.specs.State.{State, funding_of, live_of}

-- no ticket has the amount 0
abbrev pub HasAmounts : Funding → Type 0
HasAmounts f = (n : ℕ) (t : Ticket) → ticket_at f n ≡ Some t → 0 < t.amount

-- the active tickets that a currency issues
abbrev pub active_issued : Funding → List Bool → ℕ → List Ticket
active_issued f live c = filter (is_active f live) (issued_in f c)

-- the sum of the values of a currency's tickets
abbrev pub handed_out : ℕ → Funding → List Bool → ℕ → ℕ
handed_out unit f live c = sum_by (ticket_value unit f live) (issued_in f c)

-- the rounding loss at a currency: its value, less the sum of the values of its tickets
abbrev pub lost_at : ℕ → Funding → List Bool → ℕ → ℕ
lost_at unit f live c = currency_value unit f live c - handed_out unit f live c

-- the rounding loss in a state, over all user currencies
abbrev pub lost_value : State → ℕ
lost_value s = sum_by (lost_at s.limits.unit (funding_of s) (live_of s)) (range_with_len 1 (length (funding_of s).currencies - 1))

-- the number of active tickets other than base's: their values are rounded
abbrev pub rounded_tickets : State → ℕ
rounded_tickets s = count_by (λ t. is_active (funding_of s) (live_of s) t && not (t.issuer == 0)) (all_tickets (funding_of s))
