-- A mutex passed on, in two changes of the threads: its next owner wakes, and the mutex moves to it.
use Rattle.lot_mutex.proofs.Common.{Contains, Edge, Funding, IsLive, IsStaleIn, IsTouched, Lend, List, MakesStaleIn, Meter, Node, None, OfLender, OfMutex, OfTicket, Option, Outcome, Passed, PathLeads, Ready, Record, Some, Threaded, WeighedBetween, ap, at_number, at_number-map, change_record, contains-nothing, edges-between, funding_in, inl, inr, is_live_status, lends_in, live-between, live_in, makes-both-in, option_map, refl, set_number, settled_in, some-injective, status_of, subst, sym, weighed_of, with_records, ℕ, [], ◌∙◌, ◌≡◌, ◌⊎◌}

-- ---- edges

-- between new lends and new owners there are the new lends
lends-first : (f : Funding) (lends : List Lend) (owners : List (Option ℕ))
    → WeighedBetween f (record f { lends = lends }) (record f { lends = lends; owners = owners })
lends-first f lends owners =
    edges-between f (record f { lends = lends }) (record f { lends = lends; owners = owners }) each
  where
    each : (edge : Edge) → (weighed_of (record f { lends = lends }) edge ≡ weighed_of f edge)
        ⊎ (weighed_of (record f { lends = lends }) edge ≡ weighed_of (record f { lends = lends; owners = owners }) edge)
    each (OfTicket n) = inl refl
    each (OfLender u) = inr refl
    each (OfMutex k) = inl refl

-- ---- who is live

-- a thread of the same status is live as before
pub live-same : (records after : List Record) (t : ℕ) → status_of after t ≡ status_of records t
    → IsLive (live_in records) t → IsLive (live_in after) t
live-same records after t same live =
    at_number-map (λ (r : Record). is_live_status r.status) after t ∙ by (at_number after t) (at_number records t) same
    ∙ sym (at_number-map (λ (r : Record). is_live_status r.status) records t) ∙ live
  where
    by : (o p : Option Record) → option_map (λ (r : Record). r.status) o ≡ option_map (λ (r : Record). r.status) p
        → option_map (λ (r : Record). is_live_status r.status) o
        ≡ option_map (λ (r : Record). is_live_status r.status) p
    by None None e = refl
    by None (Some q) e = cc
    by (Some r) None e = cc
    by (Some r) (Some q) e = ap Some (ap is_live_status (some-injective r.status q.status e))

-- ---- the two changes

module _ (a b d : Threaded) (m p : ℕ) (records : List Record) (first : b ≡ with_records a records b.stale)
    (second : d ≡ record b { owners = set_number b.owners m (Some p); stale = d.stale }) where
  -- after both
  pub passed : d ≡ record (with_records a records d.stale) { owners = set_number a.owners m (Some p) }
  passed = second ∙ ap (λ (x : Threaded). record x { owners = set_number x.owners m (Some p); stale = d.stale }) first

  edges-first : WeighedBetween (funding_in a) (funding_in b) (funding_in d)
  edges-first =
      subst (λ (x : Threaded). WeighedBetween (funding_in a) (funding_in b) (funding_in x)) (sym passed)
      (subst (λ (x : Threaded). WeighedBetween (funding_in a) (funding_in x)
      (funding_in (record (with_records a records d.stale) { owners = set_number a.owners m (Some p) }))) (sym first)
      (lends-first (funding_in a) (lends_in a.lending records) (set_number a.owners m (Some p))))

  -- what gets stale by both is what a path reaches from a node that the whole change touched
  pub passes-stale : MakesStaleIn a b → MakesStaleIn b d → MakesStaleIn a d
  passes-stale one two =
      makes-both-in a b d edges-first (live-between (live_in a.records) (live_in b.records) (live_in d.records)
      (λ t. inr (ap (λ (x : Threaded). at_number (live_in x.records) t) (sym second)))) one two

-- what a change makes stale where nothing was
pub settled-makes : (v new : Threaded) → MakesStaleIn (settled_in v) new → MakesStaleIn v new
settled-makes v new makes x stale = by (makes x stale)
  where
    by : Contains [] x ⊎ ((touched : Node) × IsTouched (funding_in v) (funding_in new) (live_in v.records)
        (live_in new.records) touched × PathLeads (funding_in v) (funding_in new) touched x)
        → IsStaleIn v x ⊎ ((touched : Node) × IsTouched (funding_in v) (funding_in new) (live_in v.records)
        (live_in new.records) touched × PathLeads (funding_in v) (funding_in new) touched x)
    by (inl old) = absurd (contains-nothing x old)
    by (inr reached) = inr reached

-- a thread's record when it wakes
abbrev pub woken : Record → Record
woken r = record r { status = Ready }

-- the threads after a mutex passed, from those before they were settled
pub pass-threads : (v now new : Threaded) (next picked m : ℕ) (owners : List (Option ℕ)) → now ≡ settled_in v
    → next ≡ picked → set_number v.owners m (Some picked) ≡ owners
    → new ≡ record (with_records now
    (change_record woken now.records next) new.stale) { owners = set_number now.owners m (Some next) }
    → new
    ≡ record (with_records v (change_record woken v.records picked) new.stale) { owners = owners; meter = new.meter }
pass-threads v now new next picked m owners is_settled same after changed =
    let is : new
    ≡ record (with_records (settled_in v) (change_record woken v.records picked) new.stale) { owners = owners } =
    changed
    ∙ ap (λ (x : Threaded). record (with_records x
    (change_record woken x.records next) new.stale) { owners = set_number x.owners m (Some next) }) is_settled
    ∙ ap (λ t. record (with_records (settled_in v)
    (change_record woken v.records t) new.stale) { owners = set_number v.owners m (Some t) }) same
    ∙ ap (λ xs. record (with_records (settled_in v) (change_record woken v.records picked) new.stale) { owners = xs })
    after in
    is ∙ ap (λ (counts : Meter). record (with_records v (change_record woken v.records picked)
    new.stale) { owners = owners; meter = counts }) (sym (ap (λ (x : Threaded). x.meter) is))

-- to whom a mutex passed
abbrev pub next-owner : Outcome → ℕ
next-owner (Passed to draw) = to
next-owner other = 0
