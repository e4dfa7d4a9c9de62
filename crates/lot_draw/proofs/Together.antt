-- After a change the competing threads exist.
use Rattle.lot_draw.proofs.Common.{AreWeights, CompetesIn, Competitor, IsStale, IsThread, Known, List, Node, None, Option, Queued, Some, Valued, ap, arith, at_number, at_number-suc, cases_lt, competitor_at, get_or-replicate, inl, inr, length, length-replicate, length-set, number-set, option_flatten, refl, replicate, set_number, slice_get, slice_get_past, slice_get_read, subst, suc, sym, zero, ℕ, ◌-◌, ◌<◌, ◌∙◌, ◌≡◌, ◌≤◌, ◌⊎◌}
use Rattle.lot_draw.proofs.Weighing.{weights-stale}

abbrev nobody : Option Competitor
nobody = None

-- after a thread that is there competes with something else
pub competes-set : (competitors : List (Option Competitor)) (v : Valued) (thread : ℕ) (o : Option Competitor)
    → IsThread v.now.funding thread → CompetesIn competitors v → CompetesIn (set_number competitors thread o) v
competes-set competitors v thread o is competes = record {
  places = length-set competitors (thread - 1) o ∙ competes.places;
  there = λ t c at. by t c (number-set competitors thread o t) at;
}
  where
    by : (t : ℕ) (c : Competitor) → (at_number (set_number competitors thread o) t ≡ at_number competitors t)
        ⊎ ((t ≡ suc (thread - 1)) × (at_number (set_number competitors thread o) t ≡ Some o))
        → competitor_at (set_number competitors thread o) t ≡ Some c → IsThread v.now.funding t
    by t c (inl same) at = competes.there t c (sym (ap option_flatten same) ∙ at)
    by t c (inr (place, new)) at = (omega (arith, place, is.0), omega (arith, place, is.0, is.1))

-- after no thread went
pub competes-more : (competitors : List (Option Competitor)) (v w : Valued) → w.now.thread_limit ≡ v.now.thread_limit
    → length v.now.funding.lends ≤ length w.now.funding.lends → CompetesIn competitors v → CompetesIn competitors w
competes-more competitors v w limit more competes = record {
  places = competes.places ∙ sym limit;
  there = λ t c at. let is = competes.there t c at in (is.0, omega (arith, is.1, more));
}

-- the queue after that
pub queue-set : (q new : Queued) (v : Valued) (thread : ℕ) (o : Option Competitor) → IsThread v.now.funding thread
    → new ≡ record q { competitors = set_number q.competitors thread o; changed = new.changed }
    → CompetesIn q.competitors v → CompetesIn new.competitors v
queue-set q new v thread o is set competes = subst (λ (cs : List (Option Competitor)). CompetesIn cs v)
    (sym (ap (λ (x : Queued). x.competitors) set)) (competes-set q.competitors v thread o is competes)

-- if nobody competes
pub competes-none : (competitors : List (Option Competitor)) (v : Valued) (n : ℕ) → competitors ≡ replicate n None
    → v.now.thread_limit ≡ n → CompetesIn competitors v
competes-none competitors v n is limit = record {
  places = ap (length {A = Option Competitor}) is ∙ length-replicate n nobody ∙ sym limit;
  there = λ t c at. let no : None ≡ Some c = sym (idle t)
      ∙ sym (ap (λ (cs : List (Option Competitor)). competitor_at cs t) is) ∙ at in cc;
}
  where
    past : (i : ℕ) → (i < n) ⊎ (n ≤ i) → option_flatten (slice_get (replicate n nobody) i) ≡ None
    past i (inl low) = ap option_flatten (slice_get_read (replicate n nobody) n i nobody
        (sym (length-replicate n nobody)) low (sym (get_or-replicate n i nobody nobody low)))
    past i (inr high) =
        ap option_flatten (slice_get_past (replicate n nobody) i (omega (arith, high, length-replicate n nobody)))

    idle : (t : ℕ) → competitor_at (replicate n nobody) t ≡ None
    idle zero = refl
    idle (suc i) = ap option_flatten (at_number-suc (replicate n nobody) i) ∙ past i (cases_lt i n)

-- weights stay right when a value is kept and more is stale, after something that kept both
pub weights-follow : (q : Queued) (first then last : Known) → then ≡ first → last ≡ record then { stale = last.stale }
    → ((node : Node) → IsStale then node → IsStale last node) → AreWeights q first → AreWeights q last
weights-follow q first then last same more kept weights =
    subst (AreWeights q) (sym more) (weights-stale q then last.stale kept (subst (AreWeights q) (sym same) weights))
