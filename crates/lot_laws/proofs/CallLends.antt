-- A queued call at a port with a server, with `queued_lend`: the values of threads afterwards.
use Rattle.lot_laws.proofs.Common.{Bool, Call, Event, HasNoCycle, IsBacked, IsInOrder, Leaves, LendsLead, LendsQueued, List, Nobody, None, Queued, QueuesAt, Record, Running, Serves, Some, State, ToMutex, Trap, after_trap, ap, arith, borrower, call, change-length, cond, counts-once, false, finish_trap, funding_of, holder_of, if◌then◌else◌, is_live_status, leads_back, lend_of, lends_at, lends_lead, lends_lead-exact, length, live_of, live_value, nat_le, of_ports, option_any, option_map, owner_of, refl, served_at, status-now, status-other, status_of, step, step-order, subst, sym, true, value_of, with_server, with_ticks, ℕ, [], ◌&&◌, ◌+◌, ◌∙◌, ◌≡◌, ◌≢◌}
use Rattle.lot_machine.specs.declared.record.Status.TheVariants.{Queued as QueuedAt}
use Rattle.lot_laws.proofs.Trapped.{IsDone, trap-done}
use Rattle.lot_laws.proofs.Blocked.{blocked-worth, blocked-own}
use Rattle.lot_laws.proofs.CallQueued.{queued, call-queued}

module _ (s : State) (order : IsInOrder s) (lends : LendsQueued s) (p ran used before port number server t : ℕ)
    (runs : status_of s.records t ≡ Some (Running p before))
    (small : nat_le port s.limits.ports ≡ true)
    (server_is : owner_of (funding_of s) (holder_of s.limits port) ≡ Some server)
    (no_cycle_now : HasNoCycle (funding_of (queued s p ran used port number t)))
    (backed : IsBacked (funding_of s) (live_of s) server) where
  records_now : List Record
  records_now = (queued s p ran used port number t).records

  t-now : status_of records_now t ≡ Some (QueuedAt port)
  unfolding records_now
  t-now = status-now (λ r. with_ticks (ran + 1) (after_trap (Leaves (QueuedAt port)) p used s.limits r)) s.records t
      (Running p before) (QueuedAt port) runs (λ r. refl)

  other-now : (u : ℕ) → u ≢ t → status_of records_now u ≡ status_of s.records u
  unfolding records_now
  other-now u differs = status-other
      (λ r. with_ticks (ran + 1) (after_trap (Leaves (QueuedAt port)) p used s.limits r)) s.records t u differs

  many : length records_now ≡ length s.records
  unfolding records_now
  many = change-length (λ r. with_ticks (ran + 1) (after_trap (Leaves (QueuedAt port)) p used s.limits r)) s.records t

  -- it lends to the port's server
  to-server : borrower (funding_of s) (lend_of s.limits (QueuedAt port)) ≡ Some server
  to-server =
      ap (λ (without : Bool). borrower (funding_of s) (if without then Nobody
      else (if lends_at s.limits port then ToMutex (holder_of s.limits port) else Nobody))) lends.0
      ∙ ap (λ (on : Bool). borrower (funding_of s) (if on then ToMutex (holder_of s.limits port) else Nobody))
      (ap (λ q. q && nat_le port s.limits.ports) lends.1 ∙ small) ∙ server_is

  -- those to whom the server leads are worth as much more as the thread was worth
  pub call-worth : (v : ℕ) → value_of (queued s p ran used port number t) v
      ≡ value_of s v + cond (lends_lead (funding_of s) server v) (value_of s t) 0
  unfolding records_now
  call-worth v =
      blocked-worth s records_now t server (Running p before) (QueuedAt port) many runs refl refl t-now refl to-server
      (λ u differs. ap (option_map (lend_of s.limits)) (other-now u differs)) order.no_cycle order.funds_there
      no_cycle_now
      (λ u differs. ap (option_map is_live_status) (other-now u differs)) backed v

  pub call-together : live_value (queued s p ran used port number t) ≡ live_value s
  unfolding records_now
  call-together =
      counts-once (queued s p ran used port number t) no_cycle_now
      ∙ blocked-own s records_now t server (Running p before) (QueuedAt port) many runs refl refl t-now refl to-server
      (λ u differs. ap (option_map (lend_of s.limits)) (other-now u differs)) order.no_cycle order.funds_there
      no_cycle_now
      (λ u differs. ap (option_map is_live_status) (other-now u differs)) backed
      ∙ sym (counts-once s order.no_cycle)

-- ---- the event

-- a server whose lends don't lead to the caller stays the port's
stays : (s : State) (t port server : ℕ) → IsInOrder s → owner_of (funding_of s) (holder_of s.limits port) ≡ Some server
    → ¬ LendsLead (funding_of s) server t → served_at s t port Queued ≡ s.mutexes
stays s t port server order server_is apart = by (leads_back s t port) refl
  where
    by : (b : Bool) → leads_back s t port ≡ b → cond b (with_server s.limits s.mutexes port None) s.mutexes ≡ s.mutexes
    by false off = refl
    by true on = absurd (apart ((lends_lead-exact (funding_of s) order.no_cycle.lends server t).0
        (sym (ap (option_any (λ x. lends_lead (funding_of s) x t)) server_is) ∙ on)))

after-call : (P : State → Type 0) (s : State) (e : Event) (t port server : ℕ) → IsInOrder s → QueuesAt s e t port
    → Serves s port server → ¬ LendsLead (funding_of s) server t
    → ((p ran used before number : ℕ) → status_of s.records t ≡ Some (Running p before)
    → HasNoCycle (funding_of (queued s p ran used port number t)) → P (queued s p ran used port number t))
    → P (step s e).state
after-call P s e t port server order (p, ran, number, ticks, ends, is, replied) serves apart holds =
    by (trap-done s p ran (Call port number) t ticks Queued ends (λ refusal same. cc)
    (ap (λ x. (step s x).reply) (sym is) ∙ replied))
  where
    by : IsDone s p ran (Call port number) t Queued (step s (Trap p ran (Call port number))).state → P (step s e).state
    by done =
        let called = call s.records s.clients s.ports t port number in
        let same : served_at s t port called.outcome ≡ s.mutexes = ap (served_at s t port) done.came
        ∙ stays s t port server order serves.1 apart in
        let here : (step s e).state ≡ queued s p ran done.used port number t =
        ap (λ x. (step s x).state) is ∙ done.state
        ∙ ap (λ mutexes. (finish_trap s p t (ran + 1) done.used
        (record { state = record (of_ports s called).state { mutexes = mutexes }; outcome = called.outcome; after = called.after })).state) same
        ∙ call-queued s p ran done.used port number t done.came in
        let now : HasNoCycle (funding_of (step s e).state) = (step-order s e order).no_cycle in
        subst P (sym here)
        (holds p ran done.used done.before number done.runs (subst (λ x. HasNoCycle (funding_of x)) here now))

pub worth-then : (s : State) (e : Event) (t port server v : ℕ) → IsInOrder s → LendsQueued s → QueuesAt s e t port
    → Serves s port server → IsBacked (funding_of s) (live_of s) server
    → ¬ LendsLead (funding_of s) server t
    → value_of (step s e).state v ≡ value_of s v + cond (lends_lead (funding_of s) server v) (value_of s t) 0
worth-then s e t port server v order lends queues server_is backed apart =
    after-call (λ x. value_of x v ≡ value_of s v + cond (lends_lead (funding_of s) server v) (value_of s t) 0) s e t
    port server order queues server_is apart
    (λ p ran used before number runs now.
    call-worth s order lends p ran used before port number server t runs server_is.0 server_is.1 now backed v)

pub leads-gets : (s : State) (e : Event) (t port server v : ℕ) → IsInOrder s → LendsQueued s → QueuesAt s e t port
    → Serves s port server → IsBacked (funding_of s) (live_of s) server
    → ¬ LendsLead (funding_of s) server t → LendsLead (funding_of s) server v
    → value_of (step s e).state v ≡ value_of s v + value_of s t
leads-gets s e t port server v order lends queues server_is backed apart leads =
    worth-then s e t port server v order lends queues server_is backed apart ∙ ap (λ b.
    value_of s v + cond b (value_of s t) 0) ((lends_lead-exact (funding_of s) order.no_cycle.lends server v).1 leads)

pub server-gets : (s : State) (e : Event) (t port server : ℕ) → IsInOrder s → LendsQueued s → QueuesAt s e t port
    → Serves s port server → IsBacked (funding_of s) (live_of s) server
    → ¬ LendsLead (funding_of s) server t → value_of (step s e).state server ≡ value_of s server + value_of s t
server-gets s e t port server order lends queues server_is backed apart =
    leads-gets s e t port server server order lends queues server_is backed apart ([], refl)

pub others-keep : (s : State) (e : Event) (t port server v : ℕ) → IsInOrder s → LendsQueued s → QueuesAt s e t port
    → Serves s port server → IsBacked (funding_of s) (live_of s) server
    → ¬ LendsLead (funding_of s) server t → ¬ LendsLead (funding_of s) server v
    → value_of (step s e).state v ≡ value_of s v
others-keep s e t port server v order lends queues server_is backed apart other =
    worth-then s e t port server v order lends queues server_is backed apart
    ∙ ap (λ b. value_of s v + cond b (value_of s t) 0) (off (lends_lead (funding_of s) server v) refl) ∙ omega arith
  where
    off : (b : Bool) → lends_lead (funding_of s) server v ≡ b → b ≡ false
    off false is = refl
    off true is = absurd (other ((lends_lead-exact (funding_of s) order.no_cycle.lends server v).0 is))

pub together-same : (s : State) (e : Event) (t port server : ℕ) → IsInOrder s → LendsQueued s → QueuesAt s e t port
    → Serves s port server → IsBacked (funding_of s) (live_of s) server
    → ¬ LendsLead (funding_of s) server t → live_value (step s e).state ≡ live_value s
together-same s e t port server order lends queues server_is backed apart =
    after-call (λ x. live_value x ≡ live_value s) s e t port server order queues server_is apart
    (λ p ran used before number runs now.
    call-together s order lends p ran used before port number server t runs server_is.0 server_is.1 now backed)
