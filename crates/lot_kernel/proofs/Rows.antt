-- Rows from the values read.
use Rattle.lot_kernel.proofs.Common.{Bool, List, None, Option, Record, Some, State, ThreadRow, Ticket, TicketRow, ap, at_number, currency_name, false, funding_of, is_active, live_of, option_and_then, option_map, refl, row_of_thread, sym, target_name, thread_name, thread_row, ticket_in, ticket_row, ticket_value, true, unwrap_or, value_of, weight, weight_of, ℕ, [], ◌≡◌}

module _ (s : State) where
  pub thread-row-of : (t : ℕ) (r : Record) (name : List ℕ) (value weighs : ℕ) → at_number s.records t ≡ Some r
      → thread_name s t ≡ Some name → value ≡ value_of s t → weighs ≡ weight value r.compensation s.limits.quantum
      → ◌≡◌ {A = Option ThreadRow} (Some
      (record { name = name; status = r.status; value = value; weight = weighs; quanta = r.quanta; ticks = r.ticks }))
      (thread_row s t)
  thread-row-of t r name value weighs found named is weighs_is =
      let weight_is : weight_of s t ≡ weight (value_of s t) r.compensation s.limits.quantum =
      ap (λ o. weight (value_of s t) (option_and_then (λ (x : Record). x.compensation) o) s.limits.quantum) found in
      rw (found, named, weighs_is, is, weight_is) refl

  pub ticket-row-of : (n : ℕ) (t : Ticket) (issuer : List ℕ) (target : Option (List ℕ)) (active : Bool) (value : ℕ)
      → ticket_in s.tickets n ≡ Some t → unwrap_or (currency_name s t.issuer) [] ≡ issuer
      → target ≡ target_name s t.target
      → active ≡ is_active (funding_of s) (live_of s) t
      → value ≡ ticket_value s.limits.unit (funding_of s) (live_of s) t
      → ◌≡◌ {A = Option TicketRow} (Some (record { amount = t.amount; issuer = issuer; target = target; funds = t.target; is_active = active; value = value })) (ticket_row s n)
  ticket-row-of n t issuer target active value found named targeted is worth =
      rw (found, named, targeted, is, worth) refl

-- what is so if and only if the other is, is the same
pub same-truth : (a b : Bool) → (a ≡ true → b ≡ true) → (b ≡ true → a ≡ true) → a ≡ b
same-truth true b to from = sym (to refl)
same-truth false true to from = from refl
same-truth false false to from = refl

and-none : {A B : Type 0} (f : A → Option B) (o : Option A) → ((a : A) → f a ≡ None) → option_and_then f o ≡ None
and-none f None none = refl
and-none f (Some a) none = none a

-- a thread without a record, or without a name, has no row
pub no-record-row : (s : State) (t : ℕ) → at_number s.records t ≡ None → thread_row s t ≡ None
no-record-row s t none = and-none (λ (name : List ℕ). option_map (row_of_thread s t) (at_number s.records t))
    (thread_name s t) (λ (name : List ℕ). ap (option_map (row_of_thread s t)) none)

pub no-name-row : (s : State) (t : ℕ) → thread_name s t ≡ None → thread_row s t ≡ None
no-name-row s t none = rw none refl
