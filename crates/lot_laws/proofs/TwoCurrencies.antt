-- A new thread in one of two currencies is inside it, and doesn't affect the thread in the other. Nor does another
-- amount of a ticket there.
use Rattle.lot_laws.proofs.Common.{Affects, Bool, ChangesInside, Currency, Edge, Encloses, Funding, IsAffected, IsChangeInside, IsChangedEdge, IsChangedLife, IsChangedNode, IsEdge, IsEdgeOfEither, IsPath, IsTouched, Lend, List, Nobody, Node, None, OfLender, OfMutex, OfTicket, Option, Some, Thread, Ticket, Touches, after, ap, arith, at_number, at_number-suc, codes, ends_of, false, first_threads, fundx, inl, inr, refl, settkt, some-injective, subst, suc, sym, there-weighed, three_threads, true, two_currencies, weighed_of, zero, ℕ, [], ◌++◌, ◌∙◌, ◌∷◌, ◌≡◌, ◌≢◌, ◌⊎◌}
use Rattle.lot_machine.specs.declared.ticket.Target.TheVariants as target

-- the graph, whose first thread has a ticket of this amount, with these tickets and lends besides
graph : ℕ → List (Option Ticket) → List Lend → Funding
graph amount more lends = record {
  currencies = true ∷ true ∷ true ∷ [];
  tickets = Some (record { amount = 100; issuer = 0; target = target.Currency 1 })
      ∷ Some (record { amount = 100; issuer = 0; target = target.Currency 2 })
      ∷ Some (record { amount = amount; issuer = 1; target = target.Thread 1 })
      ∷ Some (record { amount = 1; issuer = 2; target = target.Thread 2 }) ∷ more;
  lends = Nobody ∷ Nobody ∷ lends;
  owners = None ∷ None ∷ [];
}

-- before the new thread, and with it
old : Funding
old = graph 1 [] []

new : ℕ → Funding
new amount = graph amount (Some (record { amount = 1; issuer = 1; target = target.Thread 3 }) ∷ []) (Nobody ∷ [])

abbrev ends : Node → Node → Option (Node × Node)
ends from to = Some (from, to)

abbrev weighed : Node → Node → ℕ → Option (Node × Node × ℕ)
weighed from to weight = Some (from, to, weight)

-- the edges that there are
abbrev IsRow : Node → Node → Type 0
IsRow from to =
    (ends (Currency 0) (Currency 1) ≡ ends from to) ⊎ (ends (Currency 0) (Currency 2) ≡ ends from to)
    ⊎ (ends (Currency 1) (Thread 1) ≡ ends from to)
    ⊎ (ends (Currency 2) (Thread 2) ≡ ends from to) ⊎ (ends (Currency 1) (Thread 3) ≡ ends from to)

old-rows : (edge : Edge) (from to : Node) → ends_of old edge ≡ ends from to → IsRow from to
unfolding old graph
old-rows (OfTicket zero) from to is = cc
old-rows (OfTicket (suc zero)) from to is = inl is
old-rows (OfTicket (suc (suc zero))) from to is = inr (inl is)
old-rows (OfTicket (suc (suc (suc zero)))) from to is = inr (inr (inl is))
old-rows (OfTicket (suc (suc (suc (suc zero))))) from to is = inr (inr (inr (inl is)))
old-rows (OfTicket (suc (suc (suc (suc (suc n)))))) from to is =
    let none : at_number old.tickets (suc (suc (suc (suc (suc n))))) ≡ None =
    at_number-suc old.tickets (suc (suc (suc (suc n)))) in
    let gone = rw none at is in cc
old-rows (OfLender zero) from to is = cc
old-rows (OfLender (suc zero)) from to is = cc
old-rows (OfLender (suc (suc zero))) from to is = cc
old-rows (OfLender (suc (suc (suc n)))) from to is =
    let none : at_number old.lends (suc (suc (suc n))) ≡ None = at_number-suc old.lends (suc (suc n)) in
    let gone = rw none at is in cc
old-rows (OfMutex zero) from to is = cc
old-rows (OfMutex (suc zero)) from to is = cc
old-rows (OfMutex (suc (suc zero))) from to is = cc
old-rows (OfMutex (suc (suc (suc n)))) from to is =
    let none : at_number old.owners (suc (suc (suc n))) ≡ None = at_number-suc old.owners (suc (suc n)) in
    let gone = rw none at is in cc

new-rows : (amount : ℕ) (edge : Edge) (from to : Node) → ends_of (new amount) edge ≡ ends from to → IsRow from to
unfolding new graph
new-rows amount (OfTicket zero) from to is = cc
new-rows amount (OfTicket (suc zero)) from to is = inl is
new-rows amount (OfTicket (suc (suc zero))) from to is = inr (inl is)
new-rows amount (OfTicket (suc (suc (suc zero)))) from to is = inr (inr (inl is))
new-rows amount (OfTicket (suc (suc (suc (suc zero))))) from to is = inr (inr (inr (inl is)))
new-rows amount (OfTicket (suc (suc (suc (suc (suc zero)))))) from to is = inr (inr (inr (inr is)))
new-rows amount (OfTicket (suc (suc (suc (suc (suc (suc n))))))) from to is =
    let none : at_number (new amount).tickets (suc (suc (suc (suc (suc (suc n)))))) ≡ None =
    at_number-suc (new amount).tickets (suc (suc (suc (suc (suc n))))) in
    let gone = rw none at is in cc
new-rows amount (OfLender zero) from to is = cc
new-rows amount (OfLender (suc zero)) from to is = cc
new-rows amount (OfLender (suc (suc zero))) from to is = cc
new-rows amount (OfLender (suc (suc (suc zero)))) from to is = cc
new-rows amount (OfLender (suc (suc (suc (suc n))))) from to is =
    let none : at_number (new amount).lends (suc (suc (suc (suc n)))) ≡ None =
    at_number-suc (new amount).lends (suc (suc (suc n))) in
    let gone = rw none at is in cc
new-rows amount (OfMutex zero) from to is = cc
new-rows amount (OfMutex (suc zero)) from to is = cc
new-rows amount (OfMutex (suc (suc zero))) from to is = cc
new-rows amount (OfMutex (suc (suc (suc n)))) from to is =
    let none : at_number (new amount).owners (suc (suc (suc n))) ≡ None =
    at_number-suc (new amount).owners (suc (suc n)) in
    let gone = rw none at is in cc

new-thread-rows : (from to : Node) → IsEdgeOfEither old (new 1) from to → IsRow from to
new-thread-rows from to (inl (edge, is)) = old-rows edge from to is
new-thread-rows from to (inr (edge, is)) = new-rows 1 edge from to is

new-amount-rows : (from to : Node) → IsEdgeOfEither (new 1) (new 3) from to → IsRow from to
new-amount-rows from to (inl (edge, is)) = new-rows 1 edge from to is
new-amount-rows from to (inr (edge, is)) = new-rows 3 edge from to is

-- the other currency and its thread, and base above them
abbrev IsOwn : Node → Type 0
IsOwn node = (node ≡ Currency 2) ⊎ (node ≡ Thread 2)

abbrev IsOther : Node → Type 0
IsOther node = (node ≡ Currency 0) ⊎ IsOwn node

from_of : (a b from to : Node) → ends a b ≡ ends from to → from ≡ a
from_of a b from to e = sym (ap (λ (x : Node × Node). x.0) (some-injective _ _ e))

to_of : (a b from to : Node) → ends a b ≡ ends from to → to ≡ b
to_of a b from to e = sym (ap (λ (x : Node × Node). x.1) (some-injective _ _ e))

-- which of them a node is
currency-other : (c : ℕ) → ¬ (c ≡ 0) → ¬ (c ≡ 2) → ¬ IsOther (Currency c)
currency-other c base second (inl e) = let same : c ≡ 0 = cc in base same
currency-other c base second (inr (inl e)) = let same : c ≡ 2 = cc in second same
currency-other c base second (inr (inr e)) = cc

thread-other : (t : ℕ) → ¬ (t ≡ 2) → ¬ IsOther (Thread t)
thread-other t second (inl e) = cc
thread-other t second (inr (inl e)) = cc
thread-other t second (inr (inr e)) = let same : t ≡ 2 = cc in second same

-- what leads to one of them is one of them
above : (from to : Node) → IsRow from to → IsOther to → IsOther from
above from to (inl e) is = absurd (currency-other 1 (λ h. absurd (omega (arith, h))) (λ h. absurd (omega (arith, h)))
    (subst IsOther (to_of (Currency 0) (Currency 1) from to e) is))
above from to (inr (inl e)) is = inl (from_of (Currency 0) (Currency 2) from to e)
above from to (inr (inr (inl e))) is = absurd
    (thread-other 1 (λ h. absurd (omega (arith, h))) (subst IsOther (to_of (Currency 1) (Thread 1) from to e) is))
above from to (inr (inr (inr (inl e)))) is = inr (inl (from_of (Currency 2) (Thread 2) from to e))
above from to (inr (inr (inr (inr e)))) is = absurd
    (thread-other 3 (λ h. absurd (omega (arith, h))) (subst IsOther (to_of (Currency 1) (Thread 3) from to e) is))

-- and what the currency or its thread leads to is its thread
currency-own : (c : ℕ) → ¬ (c ≡ 2) → ¬ IsOwn (Currency c)
currency-own c second (inl e) = let same : c ≡ 2 = cc in second same
currency-own c second (inr e) = cc

below : (from to : Node) → IsRow from to → IsOwn from → IsOwn to
below from to (inl e) is = absurd
    (currency-own 0 (λ h. absurd (omega (arith, h))) (subst IsOwn (from_of (Currency 0) (Currency 1) from to e) is))
below from to (inr (inl e)) is = absurd
    (currency-own 0 (λ h. absurd (omega (arith, h))) (subst IsOwn (from_of (Currency 0) (Currency 2) from to e) is))
below from to (inr (inr (inl e))) is = absurd
    (currency-own 1 (λ h. absurd (omega (arith, h))) (subst IsOwn (from_of (Currency 1) (Thread 1) from to e) is))
below from to (inr (inr (inr (inl e)))) is = inr (to_of (Currency 2) (Thread 2) from to e)
below from to (inr (inr (inr (inr e)))) is = absurd
    (currency-own 1 (λ h. absurd (omega (arith, h))) (subst IsOwn (from_of (Currency 1) (Thread 3) from to e) is))

-- no thread of the first currency is one of them
first-own : (node : Node) → IsOwn node → ¬ (first_threads node ≡ true)
first-own node (inl e) is = let never : false ≡ true = sym (ap first_threads e) ∙ is in cc
first-own node (inr e) is = let never : false ≡ true = sym (ap first_threads e) ∙ is in cc

-- a change of the first currency's edges and threads alone leaves the other currency's thread
module _ (f g : Funding) (live now : List Bool) (rows : (from to : Node) → IsEdgeOfEither f g from to → IsRow from to)
    (changed : (from to : Node) → IsChangedEdge f g from to → (from ≡ Currency 1) × (first_threads to ≡ true))
    (lives : (t : ℕ) → IsChangedLife live now t → first_threads (Thread t) ≡ true) where
  path-above : (path : List Node) (from to : Node) → IsPath f g from path to → IsOther to → IsOther from
  path-above [] from to is other = subst IsOther (sym is) other
  path-above (next ∷ rest) from to (edge, more) other =
      above from next (rows from next edge) (path-above rest next to more other)

  path-below : (path : List Node) (from to : Node) → IsPath f g from path to → IsOwn from → IsOwn to
  path-below [] from to is own = subst IsOwn is own
  path-below (next ∷ rest) from to (edge, more) own =
      path-below rest next to more (below from next (rows from next edge) own)

  -- neither the currency nor its thread is where the change begins
  own-unchanged : (node : Node) → IsOwn node → ¬ IsChangedNode f g live now node
  own-unchanged node own (inl (other, inl edge)) =
      currency-own 1 (λ h. absurd (omega (arith, h))) (subst IsOwn (changed node other edge).0 own)
  own-unchanged node own (inl (other, inr edge)) = first-own node own (changed other node edge).1
  own-unchanged node own (inr (t, is, life)) = first-own node own (ap first_threads is ∙ lives t life)

  other-unaffected : ¬ IsAffected f g live now (Thread 2)
  other-unaffected (touched, (user, (seed, (way, is), begins)), (path, leads)) =
      by (path-above path touched (Thread 2) leads (inr (inr refl)))
    where
      by : IsOther touched → ⊥
      by (inl base) = user base
      by (inr own) = own-unchanged seed (path-below way touched seed is own) begins

-- ---- what changes

-- the new ticket's edge alone is changed
not-gone : (edge : Edge) (from to : Node) (weight : ℕ) → weighed_of old edge ≡ weighed from to weight
    → weighed_of (new 1) edge ≢ weighed from to weight → ⊥
unfolding old new graph
not-gone (OfTicket zero) from to weight is gone = gone is
not-gone (OfTicket (suc zero)) from to weight is gone = gone is
not-gone (OfTicket (suc (suc zero))) from to weight is gone = gone is
not-gone (OfTicket (suc (suc (suc zero)))) from to weight is gone = gone is
not-gone (OfTicket (suc (suc (suc (suc zero))))) from to weight is gone = gone is
not-gone (OfTicket (suc (suc (suc (suc (suc n)))))) from to weight is gone =
    let none : at_number old.tickets (suc (suc (suc (suc (suc n))))) ≡ None =
    at_number-suc old.tickets (suc (suc (suc (suc n)))) in
    let away = rw none at is in cc
not-gone (OfLender zero) from to weight is gone = cc
not-gone (OfLender (suc zero)) from to weight is gone = cc
not-gone (OfLender (suc (suc zero))) from to weight is gone = cc
not-gone (OfLender (suc (suc (suc n)))) from to weight is gone =
    let none : at_number old.lends (suc (suc (suc n))) ≡ None = at_number-suc old.lends (suc (suc n)) in
    let away = rw none at is in cc
not-gone (OfMutex m) from to weight is gone = gone is

added : (edge : Edge) (from to : Node) (weight : ℕ) → weighed_of (new 1) edge ≡ weighed from to weight
    → weighed_of old edge ≢ weighed from to weight → ends (Currency 1) (Thread 3) ≡ ends from to
unfolding old new graph
added (OfTicket zero) from to weight is none = absurd (none is)
added (OfTicket (suc zero)) from to weight is none = absurd (none is)
added (OfTicket (suc (suc zero))) from to weight is none = absurd (none is)
added (OfTicket (suc (suc (suc zero)))) from to weight is none = absurd (none is)
added (OfTicket (suc (suc (suc (suc zero))))) from to weight is none = absurd (none is)
added (OfTicket (suc (suc (suc (suc (suc zero)))))) from to weight is none =
    there-weighed (new 1) (OfTicket 5) from to weight is
added (OfTicket (suc (suc (suc (suc (suc (suc n))))))) from to weight is none =
    let away : at_number (new 1).tickets (suc (suc (suc (suc (suc (suc n)))))) ≡ None =
    at_number-suc (new 1).tickets (suc (suc (suc (suc (suc n))))) in
    let gone = rw away at is in cc
added (OfLender zero) from to weight is none = cc
added (OfLender (suc zero)) from to weight is none = cc
added (OfLender (suc (suc zero))) from to weight is none = cc
added (OfLender (suc (suc (suc zero)))) from to weight is none = cc
added (OfLender (suc (suc (suc (suc n))))) from to weight is none =
    let away : at_number (new 1).lends (suc (suc (suc (suc n)))) ≡ None =
    at_number-suc (new 1).lends (suc (suc (suc n))) in
    let gone = rw away at is in cc
added (OfMutex m) from to weight is none = absurd (none is)

changed-by-thread : (from to : Node) → IsChangedEdge old (new 1) from to → (from ≡ Currency 1) × (to ≡ Thread 3)
changed-by-thread from to (inl (edge, weight, is, gone)) = absurd (not-gone edge from to weight is gone)
changed-by-thread from to (inr (edge, weight, is, none)) = let there = added edge from to weight is none in
    (from_of (Currency 1) (Thread 3) from to there, to_of (Currency 1) (Thread 3) from to there)

-- another amount changes the edge of the first thread's ticket alone
reweighed : (amount other : ℕ) (edge : Edge) (from to : Node) (weight : ℕ)
    → weighed_of (new amount) edge ≡ weighed from to weight → weighed_of (new other) edge ≢ weighed from to weight
    → ends (Currency 1) (Thread 1) ≡ ends from to
unfolding new graph
reweighed amount other (OfTicket zero) from to weight is not = absurd (not is)
reweighed amount other (OfTicket (suc zero)) from to weight is not = absurd (not is)
reweighed amount other (OfTicket (suc (suc zero))) from to weight is not = absurd (not is)
reweighed amount other (OfTicket (suc (suc (suc zero)))) from to weight is not =
    there-weighed (new amount) (OfTicket 3) from to weight is
reweighed amount other (OfTicket (suc (suc (suc (suc n))))) from to weight is not = absurd (not (same ∙ is))
  where
    same : weighed_of (new other) (OfTicket (suc (suc (suc (suc n))))) ≡ weighed_of (new amount)
        (OfTicket (suc (suc (suc (suc n)))))
    same = rw
        (at_number-suc (new other).tickets (suc (suc (suc n))), at_number-suc (new amount).tickets (suc (suc (suc n))))
        refl
reweighed amount other (OfLender t) from to weight is not = absurd (not is)
reweighed amount other (OfMutex m) from to weight is not = absurd (not is)

changed-by-amount : (from to : Node) → IsChangedEdge (new 1) (new 3) from to → (from ≡ Currency 1) × (to ≡ Thread 1)
changed-by-amount from to is = by is
  where
    both : ends (Currency 1) (Thread 1) ≡ ends from to → (from ≡ Currency 1) × (to ≡ Thread 1)
    both there = (from_of (Currency 1) (Thread 1) from to there, to_of (Currency 1) (Thread 1) from to there)

    by : IsChangedEdge (new 1) (new 3) from to → (from ≡ Currency 1) × (to ≡ Thread 1)
    by (inl (edge, weight, was, not)) = both (reweighed 1 3 edge from to weight was not)
    by (inr (edge, weight, was, not)) = both (reweighed 3 1 edge from to weight was not)

-- the threads that live with the new one, and before it
abbrev three : List Bool
three = true ∷ true ∷ true ∷ []

abbrev two : List Bool
two = true ∷ true ∷ []

-- ---- all that changes is inside the first currency

abbrev Begins : Node → Type 0
Begins from = (from ≡ Currency 1) ⊎ (first_threads from ≡ true)

not-first : (c : ℕ) → ¬ (c ≡ 1) → ¬ Begins (Currency c)
not-first c differs (inl e) = let same : c ≡ 1 = cc in differs same
not-first c differs (inr e) = cc

first-below : (from to : Node) → IsRow from to → (from ≡ Currency 1) ⊎ (first_threads from ≡ true)
    → first_threads to ≡ true
first-below from to (inl e) why = absurd
    (not-first 0 (λ h. absurd (omega (arith, h))) (subst Begins (from_of (Currency 0) (Currency 1) from to e) why))
first-below from to (inr (inl e)) why = absurd
    (not-first 0 (λ h. absurd (omega (arith, h))) (subst Begins (from_of (Currency 0) (Currency 2) from to e) why))
first-below from to (inr (inr (inl e))) why = ap first_threads (to_of (Currency 1) (Thread 1) from to e)
first-below from to (inr (inr (inr (inl e)))) why =
    absurd (not-first 2 (λ h. absurd (omega (arith, h))) (subst Begins (from_of (Currency 2) (Thread 2) from to e) why))
first-below from to (inr (inr (inr (inr e)))) why = ap first_threads (to_of (Currency 1) (Thread 3) from to e)

first-alone : (from to : Node) → IsRow from to → first_threads to ≡ true
    → (from ≡ Currency 1) ⊎ (first_threads from ≡ true)
first-alone from to (inl e) is = let never : true ≡ false = sym is
    ∙ ap first_threads (to_of (Currency 0) (Currency 1) from to e) in cc
first-alone from to (inr (inl e)) is = let never : true ≡ false = sym is
    ∙ ap first_threads (to_of (Currency 0) (Currency 2) from to e) in cc
first-alone from to (inr (inr (inl e))) is = inl (from_of (Currency 1) (Thread 1) from to e)
first-alone from to (inr (inr (inr (inl e)))) is = let never : true ≡ false = sym is
    ∙ ap first_threads (to_of (Currency 2) (Thread 2) from to e) in cc
first-alone from to (inr (inr (inr (inr e)))) is = inl (from_of (Currency 1) (Thread 3) from to e)

first-lives : (t : ℕ) → IsChangedLife two three t → first_threads (Thread t) ≡ true
first-lives zero (inl (alive, ended)) = cc
first-lives (suc zero) (inl (alive, ended)) = absurd (ended refl)
first-lives (suc (suc zero)) (inl (alive, ended)) = absurd (ended refl)
first-lives (suc (suc (suc n))) (inl (alive, ended)) = let never : None ≡ Some true =
    sym (at_number-suc (true ∷ true ∷ []) (suc (suc n))) ∙ alive in cc
first-lives zero (inr (alive, none)) = cc
first-lives (suc zero) (inr (alive, none)) = absurd (none refl)
first-lives (suc (suc zero)) (inr (alive, none)) = absurd (none refl)
first-lives (suc (suc (suc zero))) (inr (alive, none)) = refl
first-lives (suc (suc (suc (suc n)))) (inr (alive, none)) = let never : None ≡ Some true =
    sym (at_number-suc (true ∷ true ∷ true ∷ []) (suc (suc (suc n)))) ∙ alive in cc

no-lives : (live : List Bool) (t : ℕ) → IsChangedLife live live t → first_threads (Thread t) ≡ true
no-lives live t (inl (alive, ended)) = absurd (ended alive)
no-lives live t (inr (alive, none)) = absurd (none alive)

encloses : (f : Funding) → ((from to : Node) → IsEdge f from to → IsRow from to) → Encloses f 1 first_threads
encloses f rows = record { itself = refl; below = λ from to edge. first-below from to (rows from to edge); alone = λ from to edge is user. first-alone from to (rows from to edge) is }

thread-encloses : (amount : ℕ) → Encloses (new amount) 1 first_threads
thread-encloses amount = encloses (new amount) (λ from to (edge, is). new-rows amount edge from to is)

-- ---- a new thread

thread-first : (from to : Node) → IsChangedEdge old (new 1) from to → (from ≡ Currency 1) × (first_threads to ≡ true)
thread-first from to is = let r = changed-by-thread from to is in (r.0, ap first_threads r.1)

thread-inside : IsChangeInside old (new 1) two three 1 first_threads
thread-inside = record { enclosed_before = encloses old (λ from to (edge, is). old-rows edge from to is); enclosed_after = thread-encloses 1; edges = λ from to is. (thread-first from to is).1; lives = first-lives }

pub other-currency : ¬ Affects (after two_currencies) (after (two_currencies ++ fundx 1 (codes "g") (codes "c") ∷ []))
    (Thread 2)
unfolding old new graph
other-currency = other-unaffected old (new 1) two three new-thread-rows thread-first first-lives

pub changes-inside : ChangesInside (after two_currencies)
    (after (two_currencies ++ fundx 1 (codes "g") (codes "c") ∷ [])) 1 first_threads
unfolding old new graph
changes-inside = thread-inside

-- ---- another amount

amount-first : (from to : Node) → IsChangedEdge (new 1) (new 3) from to
    → (from ≡ Currency 1) × (first_threads to ≡ true)
amount-first from to is = let r = changed-by-amount from to is in (r.0, ap first_threads r.1)

amount-inside : IsChangeInside (new 1) (new 3) three three 1 first_threads
amount-inside = record { enclosed_before = thread-encloses 1; enclosed_after = thread-encloses 3; edges = λ from to is. (amount-first from to is).1; lives = no-lives three }

pub other-unaffected-by-amount : ¬ Affects (after three_threads) (after (three_threads ++ settkt 3 3 ∷ [])) (Thread 2)
unfolding new graph
other-unaffected-by-amount = other-unaffected (new 1) (new 3) three three new-amount-rows amount-first (no-lives three)

pub amount-changes-inside : ChangesInside (after three_threads)
    (after (three_threads ++ settkt 3 3 ∷ [])) 1 first_threads
unfolding new graph
amount-changes-inside = amount-inside

-- the currency's other thread leads nowhere, and isn't where the change begins
from-currency : (from to : Node) → IsRow from to → from ≢ Thread 3
from-currency from to (inl e) is = let never : Thread 3 ≡ Currency 0 = sym is
    ∙ from_of (Currency 0) (Currency 1) from to e in cc
from-currency from to (inr (inl e)) is = let never : Thread 3 ≡ Currency 0 = sym is
    ∙ from_of (Currency 0) (Currency 2) from to e in cc
from-currency from to (inr (inr (inl e))) is = let never : Thread 3 ≡ Currency 1 = sym is
    ∙ from_of (Currency 1) (Thread 1) from to e in cc
from-currency from to (inr (inr (inr (inl e)))) is = let never : Thread 3 ≡ Currency 2 = sym is
    ∙ from_of (Currency 2) (Thread 2) from to e in cc
from-currency from to (inr (inr (inr (inr e)))) is = let never : Thread 3 ≡ Currency 1 = sym is
    ∙ from_of (Currency 1) (Thread 3) from to e in cc

thread-one : (t u : ℕ) → Thread t ≡ Thread u → t ≡ u
thread-one t u e = cc

third-unchanged : (path : List Node) (seed : Node) → IsPath (new 1) (new 3) (Thread 3) path seed
    → ¬ IsChangedNode (new 1) (new 3) three three seed
third-unchanged (next ∷ rest) seed (edge, more) changed =
    from-currency (Thread 3) next (new-amount-rows (Thread 3) next edge) refl
third-unchanged [] seed is (inl (other, inl edge)) = let never : Thread 3 ≡ Currency 1 = is
    ∙ (changed-by-amount seed other edge).0 in cc
third-unchanged [] seed is (inl (other, inr edge)) = let no =
    thread-one 3 1 (is ∙ (changed-by-amount other seed edge).1) in absurd (omega (arith, no))
third-unchanged [] seed is (inr (t, at, inl (alive, ended))) = ended alive
third-unchanged [] seed is (inr (t, at, inr (alive, none))) = none alive

third-untouched : ¬ IsTouched (new 1) (new 3) three three (Thread 3)
third-untouched (user, (seed, (path, is), changed)) = third-unchanged path seed is changed

weight-one : (from to : Node) (m n : ℕ) → weighed from to m ≡ weighed from to n → m ≡ n
weight-one from to m n e = ap (λ (x : Node × Node × ℕ). x.2) (some-injective _ _ e)

third-affected : IsAffected (new 1) (new 3) three three (Thread 3)
unfolding new graph
third-affected = (Currency 1, ((λ e. cc), (Currency 1, ([], refl), inl (Thread 1, inl (inl (OfTicket 3, 1, refl, λ e. let no = weight-one (Currency 1) (Thread 1) 3 1 e in absurd (omega (arith, no))))))), (Thread 3 ∷ [], (inl (OfTicket 5, refl), refl)))

pub same-currency-untouched : ¬ Touches (after three_threads) (after (three_threads ++ settkt 3 3 ∷ [])) (Thread 3)
unfolding new graph
same-currency-untouched = third-untouched

pub same-currency-affected : Affects (after three_threads) (after (three_threads ++ settkt 3 3 ∷ [])) (Thread 3)
unfolding new graph
same-currency-affected = third-affected
