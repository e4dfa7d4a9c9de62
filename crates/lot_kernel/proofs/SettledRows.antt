-- Rows of a settled kernel, from the values read.
use Rattle.lot_kernel.proofs.Common.{Bool, CurrencyRow, IsActive, IsInOrder, IsTrue, List, Meter, Node, Option, Some, State, Threaded, Ticket, active_amount, backing_currency, currency_name, currency_row, funding_in, funding_of, is_active, is_active-exact, issued_in, length, live_in, live_of, node_value, refl, subst, threads_of, ticket_in, ℕ, ◌↔◌, ◌≡◌}
use Rattle.lot_machine.specs.declared.funding.Node.TheVariants as node
use Rattle.lot_kernel.proofs.Rows.{same-truth}

module _ (s : State) where
  pub currency-row-of : (c : ℕ) (name : List ℕ) (backing issued active value : ℕ) → currency_name s c ≡ Some name
      → backing ≡ length (backing_currency (funding_of s) c) → issued ≡ length (issued_in (funding_of s) c)
      → active ≡ active_amount (funding_of s) (live_of s) c
      → value ≡ node_value s.limits.unit (funding_of s) (live_of s) (node.Currency c)
      → ◌≡◌ {A = Option CurrencyRow}
      (Some (record { name = name; backing = backing; issued = issued; active_amount = active; value = value }))
      (currency_row s c)
  currency-row-of c name backing issued active value named backs issues is worth =
      rw (named, backs, issues, is, worth) refl

  -- whether a ticket is active, as it was told and as it is tested
  pub active-is : (order : IsInOrder s) (n : ℕ) (t : Ticket) (v : Threaded) (stale : List Node) (meter : Meter)
      (found : Bool) → v ≡ threads_of s stale meter → ticket_in s.tickets n ≡ Some t
      → (IsTrue found ↔ IsActive (funding_in v) (live_in v.records) n)
      → found ≡ is_active (funding_of s) (live_of s) t
  active-is order n t v stale meter found same here active =
      let exact = is_active-exact (funding_of s) order.no_cycle order.funds_there (live_of s) n t here in
      let told = subst (λ (w : Threaded). IsTrue found ↔ IsActive (funding_in w) (live_in w.records) n) same active in
      same-truth found (is_active (funding_of s) (live_of s) t) (λ yes. exact.1 (told.0 yes))
      (λ yes. told.1 (exact.0 yes))
