-- Without lends, a thread that isn't live is worth 0.
use Rattle.lot_machine.proofs.Common.{Asleep, Bool, Dead, Funding, List, Nobody, None, Option, Queued, Ready, Receiving, Record, Running, Served, Sizes, Some, Status, Target, Ticket, Waiting, activates_within, ap, at_number, backing_thread, borrower, borrower_of, cond, eqb-true, false, is_active, is_backed, is_backed_within, is_live, is_thread, lend_of, lends_lead, lends_lead_within, length, map, numbers, option_and_then, option_any, option_map, own_value, refl, suc, sym, thread_value, ticket_value, ticket_value_within, true, user_currency_count, zero, ℕ, ◌==◌, ◌||◌, ◌∙◌, ◌≡◌}
use Rattle.lot_machine.specs.declared.ticket.Target.TheVariants as target
use Rattle.lot_machine.proofs.Sums.{sum-filter, sum-same, sum-nothing}
use Rattle.lot_machine.proofs.Tickets as tickets
use Rattle.lot_machine.proofs.TrapCycles.{at_number-map}

-- a target that is tested to be the thread is the thread
pub is_thread-is : (t : ℕ) (aim : Target) → is_thread t aim ≡ true → aim ≡ target.Thread t
is_thread-is t target.Unfunded h = cc
is_thread-is t (target.Currency c) h = cc
is_thread-is t (target.Thread u) h = ap target.Thread (eqb-true u t h)

-- without lending nobody lends, whatever its status
lends-nothing : (limits : Sizes) → limits.without_lending ≡ true → (status : Status) → lend_of limits status ≡ Nobody
lends-nothing limits off Ready = refl
lends-nothing limits off (Running p used) = refl
lends-nothing limits off (Receiving p) = refl
lends-nothing limits off (Queued p) = rw off refl
lends-nothing limits off (Served t) = rw off refl
lends-nothing limits off (Waiting m) = rw off refl
lends-nothing limits off Asleep = refl
lends-nothing limits off Dead = refl

pub lends-to-nobody : (limits : Sizes) → limits.without_lending ≡ true → (f : Funding) (records : List Record) (u : ℕ)
    → option_and_then (borrower f) (at_number (map (λ (r : Record). lend_of limits r.status) records) u) ≡ None
lends-to-nobody limits off f records u = ap (option_and_then (borrower f))
    (at_number-map (λ (r : Record). lend_of limits r.status) records u) ∙ by (at_number records u)
  where
    by : (o : Option Record)
        → option_and_then (borrower f) (option_map (λ (r : Record). lend_of limits r.status) o) ≡ None
    by None = refl
    by (Some r) = ap (borrower f) (lends-nothing limits off r.status)

module _ (f : Funding) (live : List Bool) (nobody : (u : ℕ) → borrower_of f u ≡ None) where
  -- a thread leads to itself alone
  leads-itself : (u t : ℕ) → lends_lead f u t ≡ true → u ≡ t
  leads-itself u t = by (length f.lends)
    where
      at : (k : ℕ) (b : Bool) → (u == t) ≡ b → (b || option_any (λ s. lends_lead_within k f s t) None) ≡ true → u ≡ t
      at k true same is = eqb-true u t same
      at k false other is = cc

      by : (k : ℕ) → lends_lead_within k f u t ≡ true → u ≡ t
      by zero is = eqb-true u t is
      by (suc k) is =
          at k (u == t) refl (sym (ap (λ o. (u == t) || option_any (λ s. lends_lead_within k f s t) o) (nobody u)) ∙ is)

  unbacked : (u : ℕ) → is_live live u ≡ false → is_backed f live u ≡ false
  unbacked u gone = by (length f.lends)
    where
      by : (k : ℕ) → is_backed_within k f live u ≡ false
      by zero = gone
      by (suc k) = ap (λ o. is_live live u || option_any (λ s. is_backed_within k f live s) o) (nobody u)
          ∙ ap (λ b. b || false) gone

  own-nothing : (unit u : ℕ) → is_live live u ≡ false → own_value unit f live u ≡ 0
  own-nothing unit u gone =
      tickets.sum-same (ticket_value unit f live) (λ x. 0) (λ x. is_thread u x.target) f.tickets
      (λ i x at funds. each x (is_thread-is u x.target funds)) ∙ sum-nothing (backing_thread f u)
    where
      off : (x : Ticket) → x.target ≡ target.Thread u → is_active f live x ≡ false
      off x funds = ap (activates_within (length f.currencies) f live) funds ∙ unbacked u gone

      within : (k : ℕ) (x : Ticket) → is_active f live x ≡ false → ticket_value_within k unit f live x ≡ 0
      within zero x idle = rw idle refl
      within (suc k) x idle = rw idle refl

      each : (x : Ticket) → x.target ≡ target.Thread u → ticket_value unit f live x ≡ 0
      each x funds = within (user_currency_count f) x (off x funds)

  pub unlent-nothing : (unit t : ℕ) → is_live live t ≡ false → thread_value unit f live t ≡ 0
  unlent-nothing unit t gone =
      sum-filter (own_value unit f live) (λ u. lends_lead f u t) (numbers f.lends)
      ∙ sum-same (λ u. cond (lends_lead f u t) (own_value unit f live u) 0) (λ u. 0) (numbers f.lends)
      (λ u. each u (lends_lead f u t) refl) ∙ sum-nothing (numbers f.lends)
    where
      each : (u : ℕ) (b : Bool) → lends_lead f u t ≡ b → cond b (own_value unit f live u) 0 ≡ 0
      each u false is = refl
      each u true is = own-nothing unit u (ap (is_live live) (leads-itself u t is) ∙ gone)
