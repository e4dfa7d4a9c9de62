-- A reply: the values of threads afterwards.
use Rattle.lot_laws.proofs.Common.{Event, GoesOn, HasNoCycle, IsBacked, IsInOrder, List, Nobody, None, NothingToReply, Option, Ready, Record, Replied, RepliesTo, Running, Served, Sizes, Some, State, Trap, after_trap, all-pass, ap, arith, borrower, borrower_of, cases_eq, change-length, change_record, clients_of, cond, counts-once, drop, false, finish_trap, first_client, funding_of, inl, inr, is_live_status, is_none, lend_of, lends_lead, length, live_of, live_value, of_ports, option_and_then, option_map, queue-clients, record-of, refl, reply, set_number, some-injective, some-of, status-now, status-other, status-set, status_of, step, step-order, subst, sym, true, unwrap_or, value_of, with_ticks, ℕ, [], ◌+◌, ◌∙◌, ◌∷◌, ◌≡◌, ◌≢◌, ◌⊎◌}
use Rattle.lot_machine.specs.declared.trap.Trap.TheVariants.{Reply as ReplyTo}
use Rattle.lot_laws.proofs.Trapped.{IsDone, trap-done, lend-is, live-is, goes-on}
use Rattle.lot_laws.proofs.Blocked.{lead-itself, lead-other, blocked-worth, blocked-own, served-lends}

-- a thread that goes on after its trap: what it lends to, and that it is live
pub lends-on : (without : Sizes) (records : List Record) (t p used ticks : ℕ) (limits : Sizes) (before : ℕ)
    → status_of records t ≡ Some (Running p before)
    → option_map (lend_of without)
    (status_of (change_record (λ r. with_ticks ticks (after_trap GoesOn p used limits r)) records t) t) ≡ Some Nobody
lends-on without records t p used ticks limits before is =
    let (r, there, status) = record-of records t (Running p before) is in
    ap (option_map (lend_of without)) (status-set (λ r. with_ticks ticks (after_trap GoesOn p used limits r)) records t
    r there) ∙ ap Some (goes-on without ticks p used limits r).0

pub lives-on : (records : List Record) (t p used ticks : ℕ) (limits : Sizes) (before : ℕ)
    → status_of records t ≡ Some (Running p before)
    → option_map is_live_status
    (status_of (change_record (λ r. with_ticks ticks (after_trap GoesOn p used limits r)) records t) t) ≡ Some true
lives-on records t p used ticks limits before is =
    let (r, there, status) = record-of records t (Running p before) is in
    ap (option_map is_live_status) (status-set (λ r. with_ticks ticks (after_trap GoesOn p used limits r)) records t r
    there) ∙ ap Some (goes-on limits ticks p used limits r).1

-- ---- the state

-- the records after the caller woke, and after the server went on
abbrev pub woken : State → ℕ → ℕ → List Record
woken s number caller = change_record (λ r. record r { status = Ready; delivered = Some number }) s.records caller

abbrev gone_on : State → ℕ → ℕ → ℕ → ℕ → ℕ → ℕ → List Record
gone_on s p ran used number caller server =
    change_record (λ r. with_ticks (ran + 1) (after_trap GoesOn p used s.limits r)) (woken s number caller) server

-- the state after a reply
abbrev replied : State → ℕ → ℕ → ℕ → ℕ → ℕ → ℕ → State
replied s p ran used number caller server = record s {
  records = gone_on s p ran used number caller server;
  clients = set_number s.clients server (drop 1 (clients_of s.clients server));
  ports = s.ports;
}

reply-done : (s : State) (p ran used number caller server : ℕ)
    → (reply s.records s.clients s.ports server number).outcome ≡ Replied caller
    → (unwrap_or (first_client s.clients server) 0 ≡ caller)
    × ((finish_trap s p server (ran + 1) used (of_ports s (reply s.records s.clients s.ports server number))).state
    ≡ replied s p ran used number caller server)
reply-done s p ran used number caller server came =
    let same : unwrap_or (first_client s.clients server) 0 ≡ caller = cc in
    (same, ap (λ x. replied s p ran used number x server) same)

-- the caller is the first client
pub caller-first : (s : State) (caller server : ℕ) → unwrap_or (first_client s.clients server) 0 ≡ caller
    → is_none (first_client s.clients server) ≡ false → first_client s.clients server ≡ Some caller
caller-first s caller server same some =
    let (x, there) = some-of (first_client s.clients server) some in there
    ∙ ap Some (sym (ap (λ (o : Option ℕ). unwrap_or o 0) there) ∙ same)

module _ (s : State) (order : IsInOrder s) (lends : s.limits.without_lending ≡ false)
    (p ran used before number caller server : ℕ) (runs : status_of s.records server ≡ Some (Running p before))
    (first : first_client s.clients server ≡ Some caller)
    (no_cycle_now : HasNoCycle (funding_of (replied s p ran used number caller server))) where
  served : status_of s.records caller ≡ Some (Served server)
  served = (queue-clients s.records s.clients s.ports s.mutexes order.queues server).each 0 caller first

  apart : ¬ (caller ≡ server)
  apart same =
      let both : Running p before ≡ Served server =
      some-injective (Running p before) (Served server) (sym runs ∙ ap (status_of s.records) (sym same) ∙ served) in cc

  server-then : status_of (woken s number caller) server ≡ Some (Running p before)
  server-then = status-other (λ r. record r { status = Ready; delivered = Some number }) s.records caller server
      (λ same. apart (sym same)) ∙ runs

  records_now : List Record
  records_now = gone_on s p ran used number caller server

  caller-now : status_of records_now caller ≡ Some Ready
  unfolding records_now
  caller-now =
      status-other (λ r. with_ticks (ran + 1) (after_trap GoesOn p used s.limits r))
      (woken s number caller) server caller apart
      ∙ status-now (λ r. record r { status = Ready; delivered = Some number }) s.records caller
      (Served server) Ready served (λ r. refl)

  other-now : (u : ℕ) → u ≢ caller → u ≢ server → status_of s.records u ≡ status_of records_now u
  unfolding records_now
  other-now u first_apart second_apart =
      sym (status-other (λ r. with_ticks (ran + 1) (after_trap GoesOn p used s.limits r))
      (woken s number caller) server u second_apart
      ∙ status-other (λ r. record r { status = Ready; delivered = Some number }) s.records caller u first_apart)

  server-lend : option_map (lend_of s.limits) (status_of records_now server) ≡ Some Nobody
  unfolding records_now
  server-lend = lends-on s.limits (woken s number caller) server p used (ran + 1) s.limits before server-then

  server-live : option_map is_live_status (status_of records_now server) ≡ Some true
  unfolding records_now
  server-live = lives-on (woken s number caller) server p used (ran + 1) s.limits before server-then

  many : length s.records ≡ length records_now
  unfolding records_now
  many =
      sym
      (change-length (λ r. with_ticks (ran + 1) (after_trap GoesOn p used s.limits r)) (woken s number caller) server
      ∙ change-length (λ r. record r { status = Ready; delivered = Some number }) s.records caller)

  lends-same : (u : ℕ) → u ≢ caller
      → option_map (lend_of s.limits) (status_of s.records u) ≡ option_map (lend_of s.limits) (status_of records_now u)
  lends-same u differs = by (cases_eq u server)
    where
      by : (u ≡ server) ⊎ (¬ (u ≡ server)) → option_map (lend_of s.limits)
          (status_of s.records u) ≡ option_map (lend_of s.limits) (status_of records_now u)
      by (inl same) = ap (λ x. option_map (lend_of s.limits) (status_of s.records x)) same
          ∙ ap (option_map (lend_of s.limits)) runs ∙ sym server-lend
          ∙ ap (λ x. option_map (lend_of s.limits) (status_of records_now x)) (sym same)
      by (inr other) = ap (option_map (lend_of s.limits)) (other-now u differs other)

  lives-same : (u : ℕ) → u ≢ caller
      → option_map is_live_status (status_of s.records u) ≡ option_map is_live_status (status_of records_now u)
  lives-same u differs = by (cases_eq u server)
    where
      by : (u ≡ server) ⊎ (¬ (u ≡ server))
          → option_map is_live_status (status_of s.records u) ≡ option_map is_live_status (status_of records_now u)
      by (inl same) = ap (λ x. option_map is_live_status (status_of s.records x)) same ∙ ap (option_map is_live_status)
          runs ∙ sym server-live ∙ ap (λ x. option_map is_live_status (status_of records_now x)) (sym same)
      by (inr other) = ap (option_map is_live_status) (other-now u differs other)

  server-backed : IsBacked (funding_of (replied s p ran used number caller server))
      (live_of (replied s p ran used number caller server)) server
  unfolding records_now
  server-backed = (server, ([], refl), live-is records_now server ∙ server-live)

  server-alone : borrower_of (funding_of (replied s p ran used number caller server)) server ≡ None
  unfolding records_now
  server-alone = ap (option_and_then (borrower (funding_of (replied s p ran used number caller server))))
      (lend-is s.limits records_now server ∙ server-lend)

  -- what was lent to the server
  pub reply-worth : (v : ℕ) → value_of s v ≡ value_of (replied s p ran used number caller server) v
      + cond (lends_lead (funding_of (replied s p ran used number caller server)) server v)
      (value_of (replied s p ran used number caller server) caller) 0
  unfolding records_now
  reply-worth =
      blocked-worth (replied s p ran used number caller server) s.records caller server Ready (Served server) many
      caller-now refl refl served refl (served-lends (replied s p ran used number caller server) server lends)
      lends-same no_cycle_now order.funds_there order.no_cycle
      lives-same server-backed

  pub reply-together : live_value (replied s p ran used number caller server) ≡ live_value s
  unfolding records_now
  reply-together =
      counts-once (replied s p ran used number caller server) no_cycle_now
      ∙ sym (blocked-own (replied s p ran used number caller server) s.records caller server Ready (Served server) many
      caller-now refl refl served refl (served-lends (replied s p ran used number caller server) server lends)
      lends-same no_cycle_now order.funds_there order.no_cycle
      lives-same server-backed)
      ∙ sym (counts-once s order.no_cycle)

  pub reply-others : (v : ℕ) → v ≢ server → value_of (replied s p ran used number caller server) v ≡ value_of s v
  reply-others v differs =
      let now = replied s p ran used number caller server in
      let off : lends_lead (funding_of now) server v ≡ false =
      lead-other (funding_of now) server v no_cycle_now server-alone differs in
      let is : value_of s v ≡ value_of now v + 0 = reply-worth v
      ∙ ap (λ b. value_of now v + cond b (value_of now caller) 0) off in
      omega (arith, is)

  pub reply-caller : value_of (replied s p ran used number caller server) caller ≡ value_of s caller
  reply-caller = reply-others caller apart

  pub reply-server : value_of s server ≡ value_of (replied s p ran used number caller server) server + value_of s caller
  reply-server =
      let now = replied s p ran used number caller server in
      reply-worth server ∙ ap (λ b. value_of now server + cond b (value_of now caller) 0)
      (lead-itself (funding_of now) server no_cycle_now) ∙ ap (λ w. value_of now server + w) reply-caller

-- ---- the event

-- what holds of the state then, if it holds of each state after a reply
after-reply : (P : State → Type 0) (s : State) (e : Event) (caller server : ℕ) → IsInOrder s
    → RepliesTo s e caller server
    → ((p ran used before number : ℕ) → status_of s.records server ≡ Some (Running p before)
    → first_client s.clients server ≡ Some caller → HasNoCycle (funding_of (replied s p ran used number caller server))
    → P (replied s p ran used number caller server))
    → P (step s e).state
after-reply P s e caller server order (p, ran, number, ticks, ends, is, replies) holds =
    by (trap-done s p ran (ReplyTo number) server ticks (Replied caller) ends (λ refusal same. cc)
    (ap (λ x. (step s x).reply) (sym is) ∙ replies))
  where
    by : IsDone s p ran (ReplyTo number) server (Replied caller) (step s (Trap p ran (ReplyTo number))).state
        → P (step s e).state
    by done =
        let (same, state) = reply-done s p ran done.used number caller server done.came in
        let here : (step s e).state ≡ replied s p ran done.used number caller server = ap (λ x. (step s x).state) is
        ∙ done.state ∙ state in
        let some : is_none (first_client s.clients server) ≡ false =
        (all-pass ((is_none (first_client s.clients server), NothingToReply) ∷ []) done.passed).0 in
        let now : HasNoCycle (funding_of (step s e).state) = (step-order s e order).no_cycle in
        subst P (sym here) (holds p ran done.used done.before number done.runs (caller-first s caller server same some)
        (subst (λ x. HasNoCycle (funding_of x)) here now))

pub server-returns : (s : State) (e : Event) (caller server : ℕ) → IsInOrder s → s.limits.without_lending ≡ false
    → RepliesTo s e caller server → value_of s server ≡ value_of (step s e).state server + value_of s caller
server-returns s e caller server order lends replies =
    after-reply (λ x. value_of s server ≡ value_of x server + value_of s caller) s e caller server order replies
    (λ p ran used before number runs first now.
    reply-server s order lends p ran used before number caller server runs first now)

pub others-keep : (s : State) (e : Event) (caller server other : ℕ) → IsInOrder s → s.limits.without_lending ≡ false
    → RepliesTo s e caller server → other ≢ server → value_of (step s e).state other ≡ value_of s other
others-keep s e caller server other order lends replies differs =
    after-reply (λ x. value_of x other ≡ value_of s other) s e caller server order replies
    (λ p ran used before number runs first now.
    reply-others s order lends p ran used before number caller server runs first now other differs)

pub caller-keeps : (s : State) (e : Event) (caller server : ℕ) → IsInOrder s → s.limits.without_lending ≡ false
    → RepliesTo s e caller server → value_of (step s e).state caller ≡ value_of s caller
caller-keeps s e caller server order lends replies =
    after-reply (λ x. value_of x caller ≡ value_of s caller) s e caller server order replies
    (λ p ran used before number runs first now.
    reply-caller s order lends p ran used before number caller server runs first now)

pub together-same : (s : State) (e : Event) (caller server : ℕ) → IsInOrder s → s.limits.without_lending ≡ false
    → RepliesTo s e caller server → live_value (step s e).state ≡ live_value s
together-same s e caller server order lends replies =
    after-reply (λ x. live_value x ≡ live_value s) s e caller server order replies
    (λ p ran used before number runs first now.
    reply-together s order lends p ran used before number caller server runs first now)
