-- A draw and the end of a quantum change the status of one thread at most, and no value.
use Rattle.lot_playback.proofs.Common.{Answered, Answers, BadProcessor, Bool, Currencies, Drawn, Event, Funding, IsDispatch, Lend, List, None, NotRunning, Option, Record, Refusal, Reply, Sharers, Some, State, Step, Threads, active_amount, all-pass, ap, at_number, at_number-map, change_record, currency_value, draw, event_effect, event_refusal, false, filter, filter-passes, funding_of, if◌then◌else◌, index-holds, inl, inr, is-ready, is_bad_processor, is_live, is_live_status, is_none, is_ready, lend_of, length, length-map, live_of, makes, makes_currency, makes_one, map, map-set, moved_thread, number-kept, numbers, option_any, option_map, range_with_len, ready_threads, refl, set_number, slice_index, some-injective, started, status-other, status_of, step, stopped, subst, sum_by, sym, there-runs, thread_on, thread_there, thread_value, unless_refused, used_there, value_in, weight_of, whole_in, winner, with_ticks, ℕ, [], ◌*◌, ◌-◌, ◌∙◌, ◌∷◌, ◌≡◌, ◌⊎◌}
use Rattle.lot_machine.specs.declared.event.Event.TheVariants as event
use Rattle.lot_machine.specs.declared.record.Status.TheVariants as status
use Rattle.lot_machine.specs.declared.reply.Reply.TheVariants as answer

-- no thread and no currency is made
abbrev MakesNone : Reply → Type 0
MakesNone r = (sharers : Sharers) (e : Event) (n : ℕ) → makes_one sharers n (Answered e r) ≡ false

made-none : (r : Reply) → ((e : Event) (t : ℕ) → makes t (Answered e r) ≡ false)
    → ((e : Event) (c : ℕ) → makes_currency c (Answered e r) ≡ false) → MakesNone r
made-none r threads currencies Threads e t = threads e t
made-none r threads currencies Currencies e c = currencies e c

-- a change of the thread's record that keeps it live or not, and its lend
abbrev KeepsLife : State → ℕ → (Record → Record) → Type 0
KeepsLife s t change = (r : Record) → at_number s.records t ≡ Some r → (lend_of s.limits (change r).status
    ≡ lend_of s.limits r.status) × (is_live_status (change r).status ≡ is_live_status r.status)

-- a step that changes nothing, or the record of one thread
abbrev IsSlight : State → Step → Type 0
IsSlight s next = MakesNone next.reply
    × ((next.state ≡ s) ⊎ ((t : ℕ) × (change : Record → Record) × KeepsLife s t change
    × (moved_thread next.reply ≡ Some t) × (next.state ≡ record s { records = change_record change s.records t })))

unless : (s : State) (o : Option Refusal) (next : Step) → (o ≡ None → IsSlight s next)
    → IsSlight s (unless_refused s o next)
unless s None next slight = slight refl
unless s (Some why) next slight = (made-none (answer.Refused why) (λ e t. refl) (λ e c. refl), inl refl)

ready-keeps : (s : State) (p t : ℕ) → ((r : Record) → at_number s.records t ≡ Some r → r.status ≡ status.Ready)
    → KeepsLife s t (started p)
ready-keeps s p t ready r is = (sym (ap (lend_of s.limits) (ready r is)), sym (ap is_live_status (ready r is)))

draw-slight : (s : State) (p d : ℕ) → IsSlight s (draw s p d)
draw-slight s p d = at (winner (map (weight_of s) (ready_threads s.records)) d) refl
  where
    at : (o : Option Drawn) → winner (map (weight_of s) (ready_threads s.records)) d ≡ o → IsSlight s (draw s p d)
    at None is = rw is (made-none answer.Idle (λ e t. refl) (λ e c. refl), inl refl)
    at (Some w) is =
        let won = slice_index (ready_threads s.records) w.place in
        let ready : (r : Record) → at_number s.records won ≡ Some r → r.status ≡ status.Ready =
        index-holds (λ t. (r : Record) → at_number s.records t ≡ Some r → r.status ≡ status.Ready)
        (ready_threads s.records) w.place (λ r is. cc)
        (λ t here r there. some-injective r.status status.Ready
        (sym (ap (option_map (λ (x : Record). x.status)) there) ∙ is-ready (status_of s.records t)
        (filter-passes (λ u. option_any is_ready (status_of s.records u)) (numbers s.records) w.place t here))) in
        rw is (made-none _ (λ e t. refl) (λ e c. refl), inr (won, started p, ready-keeps s p won ready, refl, refl))

stop-slight : (s : State) (p ticks : ℕ) (compensation : Option ℕ) → is_none (thread_on s.records p) ≡ false
    → IsSlight s (stopped s (thread_there s p) ticks compensation)
stop-slight s p ticks compensation there =
    (made-none (answer.Expired (thread_there s p) ticks) (λ e t. refl) (λ e c. refl), inr (thread_there s p, λ r. with_ticks ticks (record r { status = status.Ready; compensation = compensation }), keeps, refl, refl))
  where
    keeps : KeepsLife s (thread_there s p)
        (λ r. with_ticks ticks (record r { status = status.Ready; compensation = compensation }))
    keeps r is =
        let (used, runs) = there-runs s p there in
        let now : r.status ≡ status.Running p used =
        some-injective r.status (status.Running p used) (sym (ap (option_map (λ (x : Record). x.status)) is) ∙ runs) in
        (sym (ap (lend_of s.limits) now), sym (ap is_live_status now))

dispatch-slight : (s : State) (e : Event) → IsDispatch e → IsSlight s (step s e)
dispatch-slight s e (inl (p, d, is)) =
    rw is (unless s (event_refusal s (event.Draw p d)) (draw s p d) (λ passed. draw-slight s p d))
dispatch-slight s e (inr (p, is)) =
    rw is (unless s (event_refusal s (event.Expire p)) (event_effect s (event.Expire p)) (λ e.
    let passed =
    all-pass ((is_bad_processor s p, BadProcessor) ∷ (is_none (thread_on s.records p), NotRunning) ∷ []) e in
    stop-slight s p (s.limits.quantum - used_there s p) None passed.1.0))

-- what is seen of the records stays
same-seen : {B : Type 0} (seen : Record → B) (change : Record → Record) (records : List Record) (t : ℕ)
    → ((r : Record) → at_number records t ≡ Some r → seen (change r) ≡ seen r)
    → map seen (change_record change records t) ≡ map seen records
same-seen seen change records t same = by (at_number records t) refl
  where
    by : (o : Option Record) → at_number records t ≡ o → map seen (change_record change records t) ≡ map seen records
    by None is = rw is refl
    by (Some r) is =
        rw is (map-set seen records (t - 1) (change r) ∙ ap (λ b. set_number (map seen records) t b) (same r is)
        ∙ number-kept (map seen records) t (seen r) (at_number-map seen records t ∙ ap (option_map seen) is))

-- the value of the live threads, from what it is computed from
abbrev value_by : ℕ → Funding → List Bool → List ℕ → ℕ
value_by unit f live ts = sum_by (thread_value unit f live) (filter (is_live live) ts)

module _ (s : State) (e : Event) (dispatch : IsDispatch e) (r : Reply) (next : State)
    (answers : Answers s e r next) where
  slight : IsSlight s (record { state = next; reply = r })
  slight = subst (IsSlight s) answers (dispatch-slight s e dispatch)

  -- no thread and no currency is made
  pub none-made : (sharers : Sharers) (n : ℕ) → makes_one sharers n (Answered e r) ≡ false
  none-made sharers n = slight.0 sharers e n

  funding-kept : funding_of next ≡ funding_of s
  funding-kept = by slight.1
    where
      by : ((next ≡ s) ⊎ ((t : ℕ) × (change : Record → Record) × KeepsLife s t change × (moved_thread r ≡ Some t)
          × (next ≡ record s { records = change_record change s.records t }))) → funding_of next ≡ funding_of s
      by (inl same) = ap funding_of same
      by (inr (t, change, keeps, moved, is)) =
          ap funding_of is ∙ ap (λ (ls : List Lend). record (funding_of s) { lends = ls })
          (same-seen (λ (x : Record). lend_of s.limits x.status) change s.records t (λ x there. (keeps x there).0))

  lives-kept : live_of next ≡ live_of s
  lives-kept = by slight.1
    where
      by : ((next ≡ s) ⊎ ((t : ℕ) × (change : Record → Record) × KeepsLife s t change × (moved_thread r ≡ Some t)
          × (next ≡ record s { records = change_record change s.records t }))) → live_of next ≡ live_of s
      by (inl same) = ap live_of same
      by (inr (t, change, keeps, moved, is)) =
          ap live_of is
          ∙ same-seen (λ (x : Record). is_live_status x.status) change s.records t (λ x there. (keeps x there).1)

  unit-kept : next.limits.unit ≡ s.limits.unit
  unit-kept = by slight.1
    where
      by : ((next ≡ s) ⊎ ((t : ℕ) × (change : Record → Record) × KeepsLife s t change × (moved_thread r ≡ Some t)
          × (next ≡ record s { records = change_record change s.records t }))) → next.limits.unit ≡ s.limits.unit
      by (inl same) = ap (λ (x : State). x.limits.unit) same
      by (inr (t, change, keeps, moved, is)) = ap (λ (x : State). x.limits.unit) is

  numbers-kept : numbers next.records ≡ numbers s.records
  numbers-kept =
      let lives : length (live_of next) ≡ length (live_of s) = ap length lives-kept in
      ap (range_with_len 1) (sym (length-map next.records (λ (x : Record). is_live_status x.status)) ∙ lives
      ∙ length-map s.records (λ (x : Record). is_live_status x.status))

  -- each one's value stays
  pub value-kept : (sharers : Sharers) (n : ℕ) → value_in sharers next n ≡ value_in sharers s n
  value-kept Threads t i =
      if is_live (lives-kept i) t then thread_value (unit-kept i) (funding-kept i) (lives-kept i) t else 0
  value-kept Currencies c i = currency_value (unit-kept i) (funding-kept i) (lives-kept i) c

  -- and so does the value of the whole
  pub whole-kept : (sharers : Sharers) → whole_in sharers next ≡ whole_in sharers s
  whole-kept Threads i = value_by (unit-kept i) (funding-kept i) (lives-kept i) (numbers-kept i)
  whole-kept Currencies i = active_amount (funding-kept i) (lives-kept i) 0 * unit-kept i

  -- the status of any other thread stays
  pub status-kept : (u : ℕ) → ¬ (moved_thread r ≡ Some u) → status_of next.records u ≡ status_of s.records u
  status-kept u other = by slight.1
    where
      by : ((next ≡ s) ⊎ ((t : ℕ) × (change : Record → Record) × KeepsLife s t change × (moved_thread r ≡ Some t)
          × (next ≡ record s { records = change_record change s.records t })))
          → status_of next.records u ≡ status_of s.records u
      by (inl same) = ap (λ (x : State). status_of x.records u) same
      by (inr (t, change, keeps, moved, is)) =
          ap (λ (x : State). status_of x.records u) is
          ∙ status-other change s.records t u (λ same. other (moved ∙ ap Some (sym same)))
