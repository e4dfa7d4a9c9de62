-- The knowledge of a seat after it held the system.
use Rattle.lot_station.proofs.Common.{Answer, Answers, Claim, Counts, Err, Extends, Faults, Goes, IfErr, IfOk, IsLegalIn, List, Looks, Next, Ok, Option, Parts, Result, Seat, Seen, Sees, SeesAll, Setting, TurnFault, Turns, View, after_turn, ap, arith, claim, counted_with, counts_in, false, gave, holding, inl, inr, note_of, refl, resting, seen_in, subst, sym, together, took, turns_by, ℕ, [], ◌+◌, ◌∙◌, ◌∷◌, ◌≡◌, ◌≤◌}
use Rattle.lot_station.proofs.BatonCounts.{counts-still, counts-more}
use Rattle.lot_station.proofs.BatonShares.{turns_by-append, turns_by-own}

-- the clauses of the system's `turn`, if its answer is Ok, and if it is Err
abbrev pub TurnOk : ℕ → Option Parts → Seen → Seen → Answer → Type 0
TurnOk a given was x answer = Goes was a given × (x ≡ after_turn was a) × Answers was a answer

abbrev pub TurnErr : ℕ → Option Parts → Seen → Seen → TurnFault → Type 0
TurnErr a given was x fault = Faults was a given fault × (x ≡ was)

pub held_after : (p q : View) (a : ℕ) (s was : Seen) → p ≡ resting (claim a (a + 1) s ∷ []) → q ≡ took p was
    → q ≡ holding was (claim a (a + 1) s)
held_after p q a s was is now = now ∙ ap (λ (y : View). took y was) is

pub given_after : (q r : View) (a : ℕ) (s was x : Seen) → q ≡ holding was (claim a (a + 1) s) → r ≡ gave q x
    → r ≡ resting (claim a (a + 1) x ∷ [])
given_after q r a s was x is now = now ∙ ap (λ (y : View). gave y x) is

-- the system that is given back is the one that was taken, with one turn more at most
pub next_turn : (a : ℕ) (given : Option Parts) (s was x : Seen) (result : Result Answer TurnFault)
    → IfOk result (TurnOk a given was x) → IfErr result (TurnErr a given was x) → Next (claim a (a + 1) s) was x
next_turn a given s was x (Ok r) ok err =
    (ap (λ (y : Seen). y.setting) ok.1, inr (ap (λ (y : Seen). y.history) ok.1, omega arith))
next_turn a given s was x (Err f) ok err =
    (ap (λ (y : Seen). y.setting) err.1, inl (ap (λ (y : Seen). y.history) err.1))

pub next_same : (c : Claim) (was : Seen) → Next c was was
next_same c was = (refl, inl refl)

pub looks : (old new : Seat) (was : Seen) → new.seen ≡ was → Sees was (claim old.actor (old.actor + 1) old.seen)
    → IsLegalIn was → Looks old new
looks old new was is sees legal =
    record {
      legal = subst (λ (y : Seen). IsLegalIn y) (sym is) legal;
      begins = subst (λ (y : Seen). Extends y old.seen) (sym is) sees.0;
      turns = ap (λ (y : Seen). turns_by old.actor y.history) is ∙ sees.1 old.actor (omega arith) (omega arith);
      counts = ap (λ (y : Seen). counts_in y old.actor) is
          ∙ counts-still was old.seen old.actor sees.0 (sees.1 old.actor (omega arith) (omega arith));
    }

-- what was counted when it last saw the system is what is counted now
pub still_counted : (n : Counts) (a : ℕ) (old was new : Seen) → n ≡ counts_in old a → Sees was (claim a (a + 1) old)
    → new ≡ was → n ≡ counts_in new a
still_counted n a old was new is sees same =
    is ∙ sym (counts-still was old a sees.0 (sees.1 a (omega arith) (omega arith)))
    ∙ ap (λ (x : Seen). counts_in x a) (sym same)

pub turned : (old new : Seat) (given : Option Parts) (was x : Seen) (result : Result Answer TurnFault) → new.seen ≡ x
    → Sees was (claim old.actor (old.actor + 1) old.seen)
    → IsLegalIn x → IfOk result (TurnOk old.actor given was x) → IfOk result (λ answer. Turns old given answer new)
turned old new given was x (Err f) is sees legal ok = tt
turned old new given was x (Ok r) is sees legal ok =
    record {
      legal = subst (λ (y : Seen). IsLegalIn y) (sym is) legal;
      before = was;
      begins = sees.0;
      goes = ok.0;
      ends = is ∙ ok.1;
      answered = ok.2;
      turns = ap (λ (y : Seen). turns_by old.actor y.history) (is ∙ ok.1)
          ∙ turns_by-append old.actor was.history (old.actor ∷ [])
          ∙ (λ i. sees.1 old.actor (omega arith) (omega arith) i + turns_by-own old.actor i);
      counts = ap (λ (y : Seen). counts_in y old.actor) (is ∙ ok.1) ∙ counts-more was old.actor r ok.2
          ∙ ap (λ c. counted_with c r.reply)
          (counts-still was old.seen old.actor sees.0 (sees.1 old.actor (omega arith) (omega arith)));
    }

pub refused : (old new : Seat) (given : Option Parts) (was x : Seen) (result : Result Answer TurnFault) → new.seen ≡ x
    → Sees was (claim old.actor (old.actor + 1) old.seen)
    → IsLegalIn x → IfErr result (TurnErr old.actor given was x)
    → IfErr result (λ fault. Looks old new × Faults new.seen old.actor given fault)
refused old new given was x (Ok r) is sees legal err = tt
refused old new given was x (Err f) is sees legal err =
    let same = is ∙ err.1 in
    (looks old new was same sees (subst (λ (y : Seen). IsLegalIn y) err.1 legal), subst (λ (y : Seen). Faults y old.actor given f) (sym same) err.0)

-- a seat's pass with the note of another
with_note : (p q n m : View) (a b : ℕ) (s t : Seen) → p ≡ resting (claim a (a + 1) s ∷ [])
    → q ≡ resting (claim b (b + 1) t ∷ []) → n ≡ note_of q → m ≡ together p n
    → m ≡ resting (claim a (a + 1) s ∷ claim 0 0 t ∷ [])
with_note p q n m a b s t own other noted joined = joined ∙ (λ i. together (own i) ((noted ∙ ap note_of other) i))

-- what it holds then is of the seat alone
back_after : (m q r : View) (a : ℕ) (s t x : Seen) → m ≡ resting (claim a (a + 1) s ∷ claim 0 0 t ∷ []) → q ≡ took m x
    → r ≡ gave q x → r ≡ resting (claim a (a + 1) x ∷ [])
back_after m q r a s t x joined held now = now ∙ ap (λ (y : View). gave y x) (held ∙ ap (λ (y : View). took y x) joined)

-- what the seat knows then: the system is as both saw it, and the pass saw it last
pub record Told (r : View) (a : ℕ) (s u x : Seen) : Type 0 where
  pub sees : Sees x (claim a (a + 1) s)
  pub told : Extends x u
  pub back : r ≡ resting (claim a (a + 1) x ∷ [])

pub told_by : (p q n m t r : View) (a b : ℕ) (s u x : Seen) → p ≡ resting (claim a (a + 1) s ∷ [])
    → q ≡ resting (claim b (b + 1) u ∷ []) → n ≡ note_of q → m ≡ together p n → SeesAll x m.claims → t ≡ took m x
    → r ≡ gave t x → Told r a s u x
told_by p q n m t r a b s u x own other noted joined sees held now =
    let is = with_note p q n m a b s u own other noted joined in
    let all = subst (λ (y : View). SeesAll x y.claims) is sees in
    record { sees = all.0; told = all.1.0.0; back = back_after m t r a s u x is held now }

-- while it holds the system
pub held_with_note : (p q n m t : View) (a b : ℕ) (s u x : Seen) → p ≡ resting (claim a (a + 1) s ∷ [])
    → q ≡ resting (claim b (b + 1) u ∷ []) → n ≡ note_of q → m ≡ together p n → t ≡ took m x
    → t ≡ holding x (claim a (a + 1) s)
held_with_note p q n m t a b s u x own other noted joined held =
    held ∙ ap (λ (y : View). took y x) (with_note p q n m a b s u own other noted joined)

-- ---- what holds of a seat, as its pass changes

-- once it has given the system back
pub kept_seat : {X : Type 0} (m : List X) (r : View) (a : ℕ) (n : Counts) (s x : Seen) → m ≡ []
    → r ≡ resting (claim a (a + 1) x ∷ []) → x.setting ≡ s.setting → a ≤ s.setting.program.limits.processors
    → n ≡ counts_in x a → s.setting.timer ≡ false
    → (m ≡ []) × (r ≡ resting (claim a (a + 1) (seen_in r.claims) ∷ []))
    × (a ≤ (seen_in r.claims).setting.program.limits.processors) × (n ≡ counts_in (seen_in r.claims) a)
    × ((seen_in r.claims).setting.timer ≡ false)
kept_seat m r a n s x empty is setting there counts untimed =
    subst
    (λ (y : View). (m ≡ []) × (y ≡ resting (claim a (a + 1) (seen_in y.claims) ∷ []))
    × (a ≤ (seen_in y.claims).setting.program.limits.processors) × (n ≡ counts_in (seen_in y.claims) a)
    × ((seen_in y.claims).setting.timer ≡ false))
    (sym is)
    (empty, refl, subst (λ (z : Setting). a ≤ z.program.limits.processors) (sym setting) there, counts, ap (λ (z : Setting). z.timer) setting ∙ untimed)

-- once it has written a note
pub noted_seat : {X : Type 0} (m : List X) (p r : View) (a : ℕ) (n : Counts) → m ≡ [] → r ≡ p
    → p ≡ resting (claim a (a + 1) (seen_in p.claims) ∷ []) → a ≤ (seen_in p.claims).setting.program.limits.processors
    → n ≡ counts_in (seen_in p.claims) a → (seen_in p.claims).setting.timer ≡ false
    → (m ≡ []) × (r ≡ resting (claim a (a + 1) (seen_in r.claims) ∷ []))
    × (a ≤ (seen_in r.claims).setting.program.limits.processors) × (n ≡ counts_in (seen_in r.claims) a)
    × ((seen_in r.claims).setting.timer ≡ false)
noted_seat m p r a n empty same is there counts untimed =
    subst
    (λ (y : View). (m ≡ []) × (y ≡ resting (claim a (a + 1) (seen_in y.claims) ∷ []))
    × (a ≤ (seen_in y.claims).setting.program.limits.processors) × (n ≡ counts_in (seen_in y.claims) a)
    × ((seen_in y.claims).setting.timer ≡ false))
    (sym same)
    (empty, is, there, counts, untimed)
