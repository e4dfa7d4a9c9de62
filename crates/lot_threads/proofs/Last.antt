-- A change of threads, and then one of a record that the first change left: a trap's effect, and its thread's
-- disposition.
use Rattle.lot_threads.proofs.Common.{Edge, LiveBetween, MakesStaleIn, OfLender, OfMutex, OfTicket, Record, Sizes, Some, Threaded, WeighedBetween, ap, at_number, at_number-map, edges-between, funding_in, inl, inr, is_live_status, lend_of, lends_in, lent_weighed, live-between, live_in, number-set, number-there, option_map, set_number, suc, sym, weighed_of, with_records, ℕ, ◌-◌, ◌∙◌, ◌≡◌, ◌⊎◌}
use Rattle.lot_threads.proofs.TwoChanges.{makes-both-in}

module _ (a b c : Threaded) (lending : b.lending ≡ a.lending) (t : ℕ) (was next : Record)
    (left : at_number a.records t ≡ Some was) (there : at_number b.records t ≡ Some was)
    (last : c ≡ with_records b (set_number b.records t next) c.stale) where
  -- each record in between is the one before or the one after
  each-record : (u : ℕ)
      → (at_number b.records u ≡ at_number a.records u) ⊎ (at_number b.records u ≡ at_number c.records u)
  each-record u = by (number-set b.records t next u)
    where
      by : (at_number (set_number b.records t next) u ≡ at_number b.records u)
          ⊎ ((u ≡ suc (t - 1)) × (at_number (set_number b.records t next) u ≡ Some next))
          → (at_number b.records u ≡ at_number a.records u) ⊎ (at_number b.records u ≡ at_number c.records u)
      by (inl same) = inr (sym (ap (λ (v : Threaded). at_number v.records u) last ∙ same))
      by (inr (at, set)) = let is = at ∙ number-there b.records t was there in
          inl (ap (at_number b.records) is ∙ there ∙ sym left ∙ sym (ap (at_number a.records) is))

  lend_seen : (v : Threaded) (u : ℕ) → at_number (lends_in v.lending v.records) u
      ≡ option_map (λ (r : Record). lend_of v.lending r.status) (at_number v.records u)
  lend_seen v u = at_number-map (λ (r : Record). lend_of v.lending r.status) v.records u

  life_seen : (v : Threaded) (u : ℕ)
      → at_number (live_in v.records) u ≡ option_map (λ (r : Record). is_live_status r.status) (at_number v.records u)
  life_seen v u = at_number-map (λ (r : Record). is_live_status r.status) v.records u

  pub edges-last : WeighedBetween (funding_in a) (funding_in b) (funding_in c)
  edges-last = edges-between (funding_in a) (funding_in b) (funding_in c) each
    where
      each : (edge : Edge) → (weighed_of (funding_in b) edge ≡ weighed_of (funding_in a) edge)
          ⊎ (weighed_of (funding_in b) edge ≡ weighed_of (funding_in c) edge)
      each (OfTicket n) = inr (sym (ap (λ (v : Threaded). weighed_of (funding_in v) (OfTicket n)) last))
      each (OfMutex m) = inr (sym (ap (λ (v : Threaded). weighed_of (funding_in v) (OfMutex m)) last))
      each (OfLender u) = by (each-record u)
        where
          lent : (v : Threaded) → b.lending ≡ v.lending → at_number b.records u ≡ at_number v.records u
              → weighed_of (funding_in b) (OfLender u) ≡ weighed_of (funding_in v) (OfLender u)
          lent v alike same =
              ap (lent_weighed u) (lend_seen b u ∙ ap (option_map (λ (r : Record). lend_of b.lending r.status)) same
              ∙ ap (λ (without : Sizes). option_map (λ (r : Record). lend_of without r.status) (at_number v.records u))
              alike ∙ sym (lend_seen v u))

          by : (at_number b.records u ≡ at_number a.records u) ⊎ (at_number b.records u ≡ at_number c.records u)
              → (weighed_of (funding_in b) (OfLender u) ≡ weighed_of (funding_in a) (OfLender u))
              ⊎ (weighed_of (funding_in b) (OfLender u) ≡ weighed_of (funding_in c) (OfLender u))
          by (inl same) = inl (lent a lending same)
          by (inr same) = inr (lent c (sym (ap (λ (v : Threaded). v.lending) last)) same)

  pub live-last : LiveBetween (live_in a.records) (live_in b.records) (live_in c.records)
  live-last = live-between (live_in a.records) (live_in b.records) (live_in c.records) (λ u. by u (each-record u))
    where
      lives : (v : Threaded) (u : ℕ) → at_number b.records u ≡ at_number v.records u
          → at_number (live_in b.records) u ≡ at_number (live_in v.records) u
      lives v u same = life_seen b u ∙ ap (option_map (λ (r : Record). is_live_status r.status)) same
          ∙ sym (life_seen v u)

      by : (u : ℕ) → (at_number b.records u ≡ at_number a.records u) ⊎ (at_number b.records u ≡ at_number c.records u)
          → (at_number (live_in b.records) u ≡ at_number (live_in a.records) u)
          ⊎ (at_number (live_in b.records) u ≡ at_number (live_in c.records) u)
      by u (inl same) = inl (lives a u same)
      by u (inr same) = inr (lives c u same)

  -- what both make stale is what a path reaches from a node that they touched together
  pub makes-last : MakesStaleIn a b → MakesStaleIn b c → MakesStaleIn a c
  makes-last = makes-both-in a b c edges-last live-last
