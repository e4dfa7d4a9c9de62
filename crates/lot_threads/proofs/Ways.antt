-- Paths from a live thread: it lends to nobody, so no edge leads from it.
use Rattle.lot_threads.proofs.Common.{Bool, CanLend, Funding, IsEdge, IsLive, IsLiveIn, IsThread, IsThreadOf, Lend, LendReaches, List, Nobody, Node, None, Option, Reaches, Record, Sizes, Some, Status, Threaded, ToThread, ap, arith, at_number, at_number-map, at_number-suc, false, funding_in, if◌then◌else◌, is_live_status, lend_node, lend_of, lends_in, length, length-map, live_in, option_map, refl, slice_get_within, some-injective, status_of, subst, suc, sym, true, zero, ℕ, [], ◌<◌, ◌∙◌, ◌∷◌, ◌≡◌, ◌≢◌, ◌≤◌}
use Rattle.lot_machine.specs.declared.funding.Node.TheVariants as node
use Rattle.lot_machine.specs.declared.record.Status.TheVariants as status
use Rattle.lot_threads.proofs.Leads.{lender-next}

-- who competes or runs lends to nobody
live-alone : (without : Sizes) (s : Status) → is_live_status s ≡ true → lend_of without s ≡ Nobody
live-alone without status.Ready live = refl
live-alone without (status.Running p used) live = refl
live-alone without (status.Served server) live = cc
live-alone without (status.Waiting m) live = cc
live-alone without (status.Queued p) live = cc
live-alone without (status.Receiving p) live = cc
live-alone without status.Asleep live = cc
live-alone without status.Dead live = cc

pub live-lends : (without : Sizes) (records : List Record) (t : ℕ) → IsLive (live_in records) t
    → at_number (lends_in without records) t ≡ Some Nobody
live-lends without records t live = at_number-map (λ (r : Record). lend_of without r.status) records t
    ∙ by (at_number records t) (sym (at_number-map (λ (r : Record). is_live_status r.status) records t) ∙ live)
  where
    by : (o : Option Record) → option_map (λ (r : Record). is_live_status r.status) o ≡ Some true
        → option_map (λ (r : Record). lend_of without r.status) o ≡ Some Nobody
    by None is = cc
    by (Some r) is = ap Some (live-alone without r.status (some-injective (is_live_status r.status) true is))

module _ (f : Funding) (t : ℕ) (alone : at_number f.lends t ≡ Some Nobody) where
  -- no edge leads from who lends to nobody
  no-edge : (next : Node) → ¬ IsEdge f (node.Thread t) next
  no-edge next edge =
      let (lend, there, to) = lender-next f t next edge in
      let none : None ≡ Some next = ap lend_node (some-injective Nobody lend (sym alone ∙ there)) ∙ to in
      cc

  -- so it reaches itself alone
  pub reaches-itself : (to : Node) → Reaches f (node.Thread t) to → node.Thread t ≡ to
  reaches-itself to ([], is) = is
  reaches-itself to (next ∷ rest, (edge, more)) = absurd (no-edge next edge)

-- ---- what is lent to one that competes or runs

pub number-low : {A : Type 0} (xs : List A) (n : ℕ) (x : A) → at_number xs n ≡ Some x → 0 < n
number-low xs zero x is = cc
number-low xs (suc i) x is = omega arith

pub number-high : {A : Type 0} (xs : List A) (n : ℕ) (x : A) → at_number xs n ≡ Some x → n ≤ length xs
number-high xs zero x is = omega arith
number-high xs (suc i) x is = omega (arith, slice_get_within xs i x (sym (at_number-suc xs i) ∙ is))

-- it is there
pub live-there : (v : Threaded) (t : ℕ) → IsLiveIn v t → IsThread (funding_in v) t
live-there v t live = let alone = live-lends v.lending v.records t live in
    (number-low (lends_in v.lending v.records) t Nobody alone, number-high (lends_in v.lending v.records) t Nobody alone)

pub live-counted : (v : Threaded) (t : ℕ) → IsLiveIn v t → IsThreadOf v t
live-counted v t live = let there = live-there v t live in
    (there.0, omega (arith, there.1, length-map v.records (λ (r : Record). lend_of v.lending r.status)))

abbrev thread_number : Node → ℕ
thread_number (node.Thread n) = n
thread_number other = 0

-- another thread may lend to it
pub lends-to-live : (v : Threaded) (t s : ℕ) → IsLiveIn v s → s ≢ t → CanLend (funding_in v) t (ToThread s)
lends-to-live v t s live other = (live-there v s live, apart)
  where
    apart : ¬ LendReaches (funding_in v) (ToThread s) t
    apart (from, is, leads) =
        let reached = reaches-itself (funding_in v) s (live-lends v.lending v.records s live) (node.Thread t)
        (subst (λ (x : Node). Reaches (funding_in v) x (node.Thread t))
        (sym (some-injective (node.Thread s) from is)) leads) in
        other (ap thread_number reached)

-- as may one without lending, which lends to nobody
pub may-lend-to : (f : Funding) (t : ℕ) (without : Bool) (lend : Lend) → CanLend f t lend
    → CanLend f t (if without then Nobody else lend)
may-lend-to f t true lend can = tt
may-lend-to f t false lend can = can

-- it reaches no mutex
pub live-apart : (v : Threaded) (t m : ℕ) → IsLiveIn v t → ¬ Reaches (funding_in v) (node.Thread t) (node.Mutex m)
live-apart v t m live leads = let same =
    reaches-itself (funding_in v) t (live-lends v.lending v.records t live) (node.Mutex m) leads in cc

-- and isn't one that waits for a mutex
pub live-other : (v : Threaded) (t u m : ℕ) → IsLiveIn v t → status_of v.records u ≡ Some (status.Waiting m) → t ≢ u
live-other v t u m live waits same =
    let clash : Some true ≡ Some false = sym live ∙ ap (at_number (live_in v.records)) same
    ∙ at_number-map (λ (r : Record). is_live_status r.status) v.records u ∙ by (at_number v.records u) waits in
    cc
  where
    by : (o : Option Record) → option_map (λ (r : Record). r.status) o ≡ Some (status.Waiting m)
        → option_map (λ (r : Record). is_live_status r.status) o ≡ Some false
    by None none = cc
    by (Some r) at = ap Some (ap is_live_status (some-injective r.status (status.Waiting m) at))

-- who has the status of one that competes or runs
pub live-status : (records : List Record) (t : ℕ) (s : Status) → status_of records t ≡ Some s → is_live_status s ≡ true
    → IsLive (live_in records) t
live-status records t s is live = at_number-map (λ (r : Record). is_live_status r.status) records t
    ∙ by (at_number records t) is
  where
    by : (o : Option Record) → option_map (λ (r : Record). r.status) o ≡ Some s
        → option_map (λ (r : Record). is_live_status r.status) o ≡ Some true
    by None none = cc
    by (Some r) at = ap Some (ap is_live_status (some-injective r.status s at) ∙ live)
