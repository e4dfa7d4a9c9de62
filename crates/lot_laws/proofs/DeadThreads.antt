-- A dead thread has nothing.
use Rattle.lot_laws.proofs.Common.{Dead, IsInOrder, None, Some, State, Ticket, activates_within, ap, borrower_of, false, funding_of, is_active, length, live_of, refl, status_of, value_of, ℕ, ◌∙◌, ◌≡◌}
use Rattle.lot_machine.specs.declared.ticket.Target.TheVariants as target
use Rattle.lot_laws.proofs.Blocked.{lead-itself, lends-nobody, not-live}
use Rattle.lot_laws.proofs.CallReceived.{blocked-nothing, unbacked}

module _ (s : State) (t : ℕ) (dead : status_of s.records t ≡ Some Dead) where
  pub dead-lends : borrower_of (funding_of s) t ≡ None
  dead-lends = lends-nobody s t Dead dead refl

  pub dead-worth : IsInOrder s → value_of s t ≡ 0
  dead-worth order =
      blocked-nothing s t order.no_cycle order.funds_there dead-lends (not-live s.records t Dead dead refl)

  pub dead-tickets : IsInOrder s → (ticket : Ticket) → ticket.target ≡ target.Thread t
      → is_active (funding_of s) (live_of s) ticket ≡ false
  dead-tickets order ticket funds =
      ap (activates_within (length (funding_of s).currencies) (funding_of s) (live_of s)) funds
      ∙ unbacked s t order.no_cycle order.funds_there dead-lends (not-live s.records t Dead dead refl) t
      (lead-itself (funding_of s) t order.no_cycle)
