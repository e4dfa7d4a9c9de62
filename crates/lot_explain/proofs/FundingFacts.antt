-- A draw leaves the funding unchanged.
use Rattle.lot_explain.proofs.Common.{Bool, Currency, CurrencyRow, Detail, Drawn, Event, Funding, LineStyle, List, Lottery, None, OfProcessor, Option, Passed, Ready, Record, Refusal, Reply, Some, State, Step, Target, Ticket, TicketRow, Timed, Unfunded, Whole, active_amount, ap, at_number, at_number-map, backing_currency, change_record, currency_funds, currency_name, currency_row, draw, event_refusal, filter-passes, flat_map, funding_at, funding_if_won, funding_in, funding_lines, funding_of, funding_text, index-holds, is-ready, is_active, is_live_status, is_ready, issued_in, lend_of, length, live_of, map, map-set, node_value, number-kept, numbers, option_any, option_map, range_with_len, ready_threads, refl, row_funds, row_of_ticket, row_shared, set_number, some-injective, started, status_of, step, sym, target_name, ticket_funds, ticket_in, ticket_row, ticket_value, unless_refused, unwrap_or, weight_of, winner, won_in, ℕ, [], ◌++◌, ◌-◌, ◌∙◌, ◌∷◌, ◌≡◌}
use Rattle.lot_machine.specs.declared.trap.Trap.TheVariants as action
use Rattle.lot_machine.specs.declared.event.Event.TheVariants as event
use Rattle.lot_machine.specs.declared.funding.Node.TheVariants as node
use Rattle.lot_machine.specs.declared.reply.Reply.TheVariants as reply
use Rattle.lot_machine.specs.declared.ticket.Target.TheVariants.{Thread}
use Rattle.lot_explain.specs.declared.detail.Detail.TheVariants as detail

-- one record changes, and what is read of it doesn't
changed-same : {A : Type 0} (read : Record → A) (change : Record → Record) (records : List Record) (t : ℕ)
    → ((r : Record) → at_number records t ≡ Some r → read (change r) ≡ read r)
    → map read (change_record change records t) ≡ map read records
changed-same read change records t same = at (at_number records t) refl
  where
    at : (o : Option Record) → at_number records t ≡ o → map read (change_record change records t) ≡ map read records
    at None is = rw is refl
    at (Some r) is =
        let now : change_record change records t ≡ set_number records t (change r) = rw is refl in
        ap (map read) now ∙ map-set read records (t - 1) (change r)
        ∙ number-kept (map read records) t (read (change r))
        (at_number-map read records t ∙ ap (option_map read) is ∙ ap Some (sym (same r is)))

-- lists that are the same one by one
flat-same : {A : Type 0} (f g : ℕ → List A) → ((n : ℕ) → f n ≡ g n) → (ns : List ℕ) → flat_map f ns ≡ flat_map g ns
flat-same f g same [] = refl
flat-same f g same (n ∷ ns) = ap (λ xs. xs ++ flat_map f ns) (same n) ∙ ap (λ xs. g n ++ xs) (flat-same f g same ns)

-- ---- rows depend on records only by what threads lend, and by who is live

module _ (s : State) (records : List Record) (lent : map (λ (r : Record). lend_of s.limits r.status) records
    ≡ map (λ (r : Record). lend_of s.limits r.status) s.records)
    (live : map (λ (r : Record). is_live_status r.status) records
    ≡ map (λ (r : Record). is_live_status r.status) s.records) where
  abbrev after : State
  after = record s { records = records }

  funding-is : funding_of after ≡ funding_of s
  funding-is = ap (λ xs. record (funding_of s) { lends = xs }) lent

  target-same : (to : Target) → target_name after to ≡ target_name s to
  target-same Unfunded = refl
  target-same (Currency c) = refl
  target-same (Thread t) = refl

  abbrev ticket_by : Option (List ℕ) → Funding → List Bool → Ticket → TicketRow
  ticket_by target f live t =
      record { amount = t.amount; issuer = unwrap_or (currency_name s t.issuer) []; target = target; funds = t.target; is_active = is_active f live t; value = ticket_value s.limits.unit f live t }

  ticket-same : (t : Ticket) → row_of_ticket after t ≡ row_of_ticket s t
  ticket-same t =
      ap (λ to. ticket_by to (funding_of after) (live_of after) t) (target-same t.target)
      ∙ ap (λ f. ticket_by (target_name s t.target) f (live_of after) t) funding-is
      ∙ ap (λ l. ticket_by (target_name s t.target) (funding_of s) l t) live

  ticket-row-same : (n : ℕ) → ticket_row after n ≡ ticket_row s n
  ticket-row-same n = at (ticket_in s.tickets n)
    where
      at : (o : Option Ticket) → option_map (row_of_ticket after) o ≡ option_map (row_of_ticket s) o
      at None = refl
      at (Some t) = ap Some (ticket-same t)

  abbrev currency_by : Funding → List Bool → ℕ → List ℕ → CurrencyRow
  currency_by f live c name = record {
    name = name;
    backing = length (backing_currency f c);
    issued = length (issued_in f c);
    active_amount = active_amount f live c;
    value = node_value s.limits.unit f live (node.Currency c);
  }

  currency-row-same : (c : ℕ) → currency_row after c ≡ currency_row s c
  currency-row-same c =
      ap (λ f. option_map (currency_by f (live_of after) c) (currency_name s c)) funding-is
      ∙ ap (λ l. option_map (currency_by (funding_of s) l c) (currency_name s c)) live

  text-same : (style : LineStyle) (unit actor : ℕ)
      → funding_text style unit actor after ≡ funding_text style unit actor s
  text-same Whole unit actor = refl
  text-same (Timed time) unit actor =
      let style = Timed time in
      let tickets = flat-same (ticket_funds style unit actor after) (ticket_funds style unit actor s)
      (λ n. ap (row_funds style unit actor n) (ticket-row-same n)) (numbers s.tickets) in
      let currencies = flat-same (currency_funds style unit actor after) (currency_funds style unit actor s)
      (λ c. ap (row_shared style unit actor c) (currency-row-same c)) (range_with_len 0 (length s.currencies)) in
      ap (λ xs. xs ++ flat_map (currency_funds style unit actor after) (range_with_len 0 (length s.currencies))) tickets
      ∙ ap (λ xs. flat_map (ticket_funds style unit actor s) (numbers s.tickets) ++ xs) currencies

module _ (style : LineStyle) (unit actor : ℕ) (s : State) where
  -- a thread that starts to run was Ready
  started-same : (p t : ℕ) → status_of s.records t ≡ Some Ready → funding_text style unit actor
      (record s { records = change_record (started p) s.records t }) ≡ funding_text style unit actor s
  started-same p t ready =
      text-same s (change_record (started p) s.records t)
      (changed-same (λ (r : Record). lend_of s.limits r.status) (started p) s.records t
      (λ r is. sym (ap (lend_of s.limits) (status-is r is))))
      (changed-same (λ (r : Record). is_live_status r.status) (started p) s.records t
      (λ r is. sym (ap is_live_status (status-is r is)))) style unit actor
    where
      status-is : (r : Record) → at_number s.records t ≡ Some r → r.status ≡ Ready
      status-is r is = some-injective r.status Ready (sym (ap (option_map (λ (x : Record). x.status)) is) ∙ ready)

  -- number 0 has no thread
  nobody-same : (p : ℕ) → funding_text style unit actor (record s { records = change_record (started p) s.records 0 })
      ≡ funding_text style unit actor s
  nobody-same p = refl

  draw-same : (p d : ℕ) → funding_text style unit actor (draw s p d).state ≡ funding_text style unit actor s
  draw-same p d = at (winner (map (weight_of s) (ready_threads s.records)) d) refl
    where
      at : (o : Option Drawn) → winner (map (weight_of s) (ready_threads s.records)) d ≡ o
          → funding_text style unit actor (draw s p d).state ≡ funding_text style unit actor s
      at None is = rw is refl
      at (Some w) is =
          rw is
          (index-holds
          (λ t. funding_text style unit actor (record s { records = change_record (started p) s.records t })
          ≡ funding_text style unit actor s) (ready_threads s.records) w.place (nobody-same p)
          (λ t place. started-same p t (is-ready (status_of s.records t)
          (filter-passes (λ u. option_any is_ready (status_of s.records u)) (numbers s.records) w.place t place))))

  unless-same : (o : Option Refusal) (next : Step)
      → funding_text style unit actor next.state ≡ funding_text style unit actor s
      → funding_text style unit actor (unless_refused s o next).state ≡ funding_text style unit actor s
  unless-same None next same = same
  unless-same (Some refusal) next same = refl

  -- only a draw has a funding
  mutex-none : (p ran m d : ℕ) (r : Reply) (a : State)
      → funding_if_won (won_in (event.Trap p ran (action.Unlock m d)) r) style unit actor a ≡ []
  mutex-none p ran m d (reply.Trapped t ticks (Passed to (Some drawn)) ends) a = refl
  mutex-none p ran m d other a = refl

  won-same : (e : Event) (r : Reply)
      → funding_if_won (won_in e r) style unit actor (step s e).state ≡ funding_if_won (won_in e r) style unit actor s
  won-same (event.Draw p d) (reply.Winner t number total delivered) =
      unless-same (event_refusal s (event.Draw p d)) (draw s p d) (draw-same p d)
  won-same (event.Draw p d) other = refl
  won-same (event.Trap p ran (action.Unlock m d)) r =
      mutex-none p ran m d r (step s (event.Trap p ran (action.Unlock m d))).state ∙ sym (mutex-none p ran m d r s)
  won-same other r = refl

  -- the funding at a lottery is that of the state before it
  pub funding-same : (detail : Detail) (e : Event) (r : Reply) → funding_in detail (won_in e r) style unit actor
      (step s e).state ≡ funding_in detail (won_in e r) style unit actor s
  funding-same detail.Lots e r = refl
  funding-same detail.Funding e r = won-same e r

-- the funding at a processor's lottery in timed style is its lines
pub funding-timed : (lottery : Lottery) (style : LineStyle) (time unit actor : ℕ) (s : State) → lottery ≡ OfProcessor
    → style ≡ Timed time → funding_at lottery style unit actor s ≡ funding_lines style unit actor s
funding-timed lottery style time unit actor s held timed = rw (held, timed) refl
