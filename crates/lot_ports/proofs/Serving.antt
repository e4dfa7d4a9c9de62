-- A reply and then a receipt: the premises of the receipt, and the nodes that both make stale.
use Rattle.lot_ports.proofs.Common.{Contains, IsLive, IsNowhere, List, MakesStaleIn, None, Option, Port, QueueLists, QueuedCall, Record, Served, Some, Threaded, ap, at_number, at_number-map, callers_at, change_record, clients_of, contains-at, contains-drop, drop, edges-between, first_client, funding_in, inl, inr, is_live_status, live-between, live_in, makes-both-in, makes-last, number-set, number-there, option_map, port_at, receive, refl, reply, set_number, slice_get, subst, suc, sym, unwrap_or, weighed_of, with_ports, with_records, ℕ, [], ◌-◌, ◌∙◌, ◌∷◌, ◌≡◌, ◌⊎◌}
use Rattle.lot_ports.proofs.Callers.{caller-first}

-- a change of another thread's record
pub record-other : (change : Record → Record) (records : List Record) (u t : ℕ) → ¬ (t ≡ u)
    → at_number (change_record change records u) t ≡ at_number records t
record-other change records u t other = by (at_number records u) refl
  where
    by : (o : Option Record) → at_number records u ≡ o
        → at_number (change_record change records u) t ≡ at_number records t
    by None none = rw none refl
    by (Some r) some = rw some (from (number-set records u (change r) t))
      where
        from : (at_number (set_number records u (change r)) t ≡ at_number records t)
            ⊎ ((t ≡ suc (u - 1)) × (at_number (set_number records u (change r)) t ≡ Some (change r)))
            → at_number (set_number records u (change r)) t ≡ at_number records t
        from (inl same) = same
        from (inr (place, new)) = absurd (other (place ∙ number-there records u r some))

-- one that competes or runs still does then
pub live-kept : (change : Record → Record) (records : List Record) (u t : ℕ) → ¬ (t ≡ u) → IsLive (live_in records) t
    → IsLive (live_in (change_record change records u)) t
live-kept change records u t other live =
    at_number-map (λ (r : Record). is_live_status r.status) (change_record change records u) t
    ∙ ap (option_map (λ (r : Record). is_live_status r.status)) (record-other change records u t other)
    ∙ sym (at_number-map (λ (r : Record). is_live_status r.status) records t) ∙ live

-- who waits nowhere isn't the client that it answers
pub client-other : (q : QueueLists) (server client : ℕ) → IsNowhere q server
    → first_client q.clients server ≡ Some client → ¬ (server ≡ client)
client-other q server client nowhere first same = nowhere.clients server (subst (λ t.
    Contains (clients_of q.clients server) t) (sym same) (contains-at (clients_of q.clients server) 0 client first))

-- and waits nowhere after a reply
pub nowhere-replied : (q : QueueLists) (records : List Record) (server t number : ℕ) → IsNowhere q t
    → IsNowhere (with_ports q (reply records q.clients q.ports server number)) t
nowhere-replied q records server t number nowhere = record {
  calls = nowhere.calls;
  receivers = nowhere.receivers;
  waiters = nowhere.waiters;
  clients = λ u w. by u (number-set q.clients server (drop 1 (clients_of q.clients server)) u) w;
}
  where
    by : (u : ℕ)
        → (at_number (set_number q.clients server (drop 1 (clients_of q.clients server))) u ≡ at_number q.clients u)
        ⊎ ((u ≡ suc (server - 1)) × (at_number (set_number q.clients server (drop 1 (clients_of q.clients server))) u
        ≡ Some (drop 1 (clients_of q.clients server))))
        → ¬ Contains (clients_of (set_number q.clients server (drop 1 (clients_of q.clients server))) u) t
    by u (inl same) w = nowhere.clients u (subst (λ (o : Option (List ℕ)). Contains (unwrap_or o []) t) same w)
    by u (inr (at, set)) w = nowhere.clients server (contains-drop (clients_of q.clients server) 1 t
        (subst (λ (o : Option (List ℕ)). Contains (unwrap_or o []) t) set w))

-- a change of one record, and then a receipt that leaves it
module _ (a b c : Threaded) (lending : b.lending ≡ a.lending) (clients : List (List ℕ)) (ports : List Port)
    (server client port : ℕ) (wake : Record → Record) (woken : b.records ≡ change_record wake a.records client)
    (taken : c ≡ with_records b (receive b.records clients ports server port).records c.stale)
    (apart : ¬ Contains (callers_at ports port) client) (first_makes : MakesStaleIn a b)
    (then_makes : MakesStaleIn b c) where
  -- if no record changes then
  same-records : c ≡ with_records b b.records c.stale → MakesStaleIn a c
  same-records is =
      makes-both-in a b c
      (edges-between (funding_in a) (funding_in b) (funding_in c)
      (λ edge. inr (sym (ap (λ (v : Threaded). weighed_of (funding_in v) edge) is))))
      (live-between (live_in a.records) (live_in b.records) (live_in c.records)
      (λ t. inr (sym (ap (λ (v : Threaded). at_number (live_in v.records) t) is)))) first_makes then_makes

  -- if another thread's does
  other-record : (caller : ℕ) → ¬ (caller ≡ client)
      → c ≡ with_records b (change_record (λ r. record r { status = Served server }) b.records caller) c.stale
      → MakesStaleIn a c
  other-record caller other is = by (at_number b.records caller) refl
    where
      by : (o : Option Record) → at_number b.records caller ≡ o → MakesStaleIn a c
      by None none = let same : change_record (λ r. record r { status = Served server }) b.records caller ≡ b.records =
          rw none refl in same-records (is ∙ ap (λ (rs : List Record). with_records b rs c.stale) same)
      by (Some was) there =
          let set : change_record (λ r. record r { status = Served server }) b.records caller
          ≡ set_number b.records caller (record was { status = Served server }) = rw there refl in
          let left : at_number a.records caller ≡ Some was = sym (ap (λ (rs : List Record). at_number rs caller) woken
          ∙ record-other wake a.records client caller other) ∙ there in
          makes-last a b c lending caller was (record was { status = Served server }) left there
          (is ∙ ap (λ (rs : List Record). with_records b rs c.stale) set) first_makes then_makes

  pub makes-serving : MakesStaleIn a c
  makes-serving = by (port_at ports port).calls refl
    where
      by : (o : List QueuedCall) → (port_at ports port).calls ≡ o → MakesStaleIn a c
      by [] is = let same : (receive b.records clients ports server port).records ≡ b.records = rw is refl in
          same-records (taken ∙ ap (λ (rs : List Record). with_records b rs c.stale) same)
      by (first ∷ others) is =
          let moved : (receive b.records clients ports server port).records ≡ change_record (λ r.
          record r { status = Served server }) b.records first.caller = rw is refl in
          let queued =
          caller-first (port_at ports port).calls first (ap (λ (calls : List QueuedCall). slice_get calls 0) is) in
          other-record first.caller (λ same. apart (subst (λ t. Contains (callers_at ports port) t) same queued))
          (taken ∙ ap (λ (rs : List Record). with_records b rs c.stale) moved)
