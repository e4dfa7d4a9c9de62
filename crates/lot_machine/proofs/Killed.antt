-- The threads that a kill releases, those left in a list, and the statuses afterwards.
use Rattle.lot_machine.proofs.Common.{Bool, HasQueues, IsQueue, List, Mutex, None, Option, QueuedCall, Record, Some, State, Status, ap, at_number, change_each, change_record, clients_of, cond, cons_option, ended, eqb-false, eqb-true, false, filter, filter_map, heir, inl, inr, is_owned_by, killed, map, mutex_without, not, passed_on, refl, released, released_by, set_number, slice_get, status_of, subst, suc, sym, true, without, zero, ℕ, [], ◌++◌, ◌-◌, ◌==◌, ◌∙◌, ◌∷◌, ◌≡◌, ◌⊎◌}
use Rattle.lot_machine.specs.declared.record.Status.TheVariants as status
use Rattle.lot_machine.proofs.Changes.{number-set, number-there}
use Rattle.lot_machine.proofs.Tickets.{at_number-suc, some-injective}
use Rattle.lot_machine.proofs.RecordsKept.{status-changed}
use Rattle.lot_machine.proofs.Queues.{IsAbsent, number-set_same, status-other, status-now, queue-rest, absent-rest, queue-clients}
use Rattle.lot_machine.proofs.Idle.{filter-passes}

-- ---- what stands in a list

-- the thread is one of these
abbrev pub IsAmong : List ℕ → ℕ → Type 0
IsAmong threads t = (place : ℕ) × (slice_get threads place ≡ Some t)

-- what stands in two lists, one after the other, stands in one of them
pub place-append : (xs ys : List ℕ) (place u : ℕ) → slice_get (xs ++ ys) place ≡ Some u → IsAmong xs u ⊎ IsAmong ys u
place-append [] ys place u e = inr (place, e)
place-append (x ∷ xs) ys zero u e = inl (zero, e)
place-append (x ∷ xs) ys (suc place) u e = next (place-append xs ys place u e)
  where
    next : IsAmong xs u ⊎ IsAmong ys u → IsAmong (x ∷ xs) u ⊎ IsAmong ys u
    next (inl (at, is)) = inl (suc at, is)
    next (inr there) = inr there

-- what a filter keeps was there
pub filter-was : (test : ℕ → Bool) (xs : List ℕ) (place u : ℕ) → slice_get (filter test xs) place ≡ Some u
    → IsAmong xs u
filter-was test [] place u e = (place, e)
filter-was test (x ∷ xs) place u e = at (test x) (λ i. filter-was test xs i u) place e
  where
    next : IsAmong xs u → IsAmong (x ∷ xs) u
    next (at, is) = (suc at, is)

    at : (b : Bool) → ((i : ℕ) → slice_get (filter test xs) i ≡ Some u → IsAmong xs u) → (i : ℕ)
        → slice_get (cond b (x ∷ filter test xs) (filter test xs)) i ≡ Some u → IsAmong (x ∷ xs) u
    at true more zero is = (zero, is)
    at true more (suc i) is = next (more i is)
    at false more i is = next (more i is)

-- what comes of a list by a function that may give nothing comes of an element
pub mapped-from : {A : Type 0} (h : A → Option ℕ) (xs : List A) (place u : ℕ)
    → slice_get (filter_map h xs) place ≡ Some u → (i : ℕ) × ((x : A) × (slice_get xs i ≡ Some x) × (h x ≡ Some u))
mapped-from h [] place u e = cc
mapped-from {A} h (x ∷ xs) place u e = at (h x) refl (λ i. mapped-from h xs i u) place e
  where
    next : ((i : ℕ) × ((y : A) × (slice_get xs i ≡ Some y) × (h y ≡ Some u)))
        → (i : ℕ) × ((y : A) × (slice_get (x ∷ xs) i ≡ Some y) × (h y ≡ Some u))
    next (i, found) = (suc i, found)

    at : (o : Option ℕ) → h x ≡ o → ((i : ℕ) → slice_get (filter_map h xs) i ≡ Some u
        → (k : ℕ) × ((y : A) × (slice_get xs k ≡ Some y) × (h y ≡ Some u)))
        → (i : ℕ) → slice_get (cons_option o (filter_map h xs)) i ≡ Some u
        → (k : ℕ) × ((y : A) × (slice_get (x ∷ xs) k ≡ Some y) × (h y ≡ Some u))
    at None is more i here = next (more i here)
    at (Some y) is more zero here = (zero, (x, refl, is ∙ here))
    at (Some y) is more (suc i) here = next (more i here)

-- who is left in a list without a thread is another
pub without-other : (t : ℕ) (threads : List ℕ) (place u : ℕ) → slice_get (without t threads) place ≡ Some u → ¬ (u ≡ t)
without-other t threads place u e = eqb-false u t (off (u == t) (filter-passes (λ x. not (x == t)) threads place u e))
  where
    off : (b : Bool) → not b ≡ true → b ≡ false
    off true h = cc
    off false h = refl

-- ---- queues without a thread

queue-cons : (records : List Record) (now : Status) (t : ℕ) (threads : List ℕ) → status_of records t ≡ Some now
    → IsAbsent threads t → IsQueue records now threads → IsQueue records now (t ∷ threads)
queue-cons records now t threads is absent queue = record { each = each; once = once }
  where
    each : (place u : ℕ) → slice_get (t ∷ threads) place ≡ Some u → status_of records u ≡ Some now
    each zero u e = ap (status_of records) (sym (some-injective t u e)) ∙ is
    each (suc place) u e = queue.each place u e

    once : (place other u : ℕ) → slice_get (t ∷ threads) place ≡ Some u → slice_get (t ∷ threads) other ≡ Some u
        → place ≡ other
    once zero zero u e more = refl
    once zero (suc other) u e more = absurd (absent other (more ∙ sym e))
    once (suc place) zero u e more = absurd (absent place (e ∙ sym more))
    once (suc place) (suc other) u e more = ap suc (queue.once place other u e more)

pub queue-filter : (test : ℕ → Bool) (records : List Record) (now : Status) (threads : List ℕ)
    → IsQueue records now threads → IsQueue records now (filter test threads)
queue-filter test records now [] queue = queue
queue-filter test records now (t ∷ threads) queue =
    at (test t) (queue-filter test records now threads (queue-rest records now t threads queue))
  where
    absent : IsAbsent (filter test threads) t
    absent place e = let was = filter-was test threads place t e in absent-rest records now t threads queue was.0 was.1

    at : (b : Bool) → IsQueue records now (filter test threads)
        → IsQueue records now (cond b (t ∷ filter test threads) (filter test threads))
    at true rest = queue-cons records now t (filter test threads) (queue.each 0 t refl) absent rest
    at false rest = rest

-- a queue whose threads keep their statuses
pub queue-kept : (before after : List Record) (now : Status) (threads : List ℕ)
    → ((place u : ℕ) → slice_get threads place ≡ Some u → status_of after u ≡ status_of before u)
    → IsQueue before now threads → IsQueue after now threads
queue-kept before after now threads same queue =
    record { each = λ place u e. same place u e ∙ queue.each place u e; once = queue.once }

-- the callers without a thread
pub callers-without : (t : ℕ) (calls : List QueuedCall)
    → map (λ (call : QueuedCall). call.caller) (filter (λ (call : QueuedCall). not (call.caller == t)) calls)
    ≡ without t (map (λ (call : QueuedCall). call.caller) calls)
callers-without t [] = refl
callers-without t (c ∷ cs) = at (not (c.caller == t)) (callers-without t cs)
  where
    kept : List QueuedCall
    kept = filter (λ (call : QueuedCall). not (call.caller == t)) cs

    at : (b : Bool)
        → map (λ (call : QueuedCall). call.caller) (filter (λ (call : QueuedCall). not (call.caller == t)) cs)
        ≡ without t (map (λ (call : QueuedCall). call.caller) cs)
        → map (λ (call : QueuedCall). call.caller)
        (cond b (c ∷ filter (λ (call : QueuedCall). not (call.caller == t)) cs)
        (filter (λ (call : QueuedCall). not (call.caller == t)) cs))
        ≡ cond b (c.caller ∷ without t (map (λ (call : QueuedCall). call.caller) cs))
        (without t (map (λ (call : QueuedCall). call.caller) cs))
    at true rest = ap (λ us. c.caller ∷ us) rest
    at false rest = rest

-- a list in which the thread doesn't stand stays
pub without-absent : (t : ℕ) (threads : List ℕ) → IsAbsent threads t → without t threads ≡ threads
without-absent t [] absent = refl
without-absent t (u ∷ us) absent = at (u == t) refl (without-absent t us (λ place e. absent (suc place) e))
  where
    at : (b : Bool) → (u == t) ≡ b → without t us ≡ us → cond (not b) (u ∷ without t us) (without t us) ≡ u ∷ us
    at true is rest = absurd (absent 0 (ap Some (eqb-true u t is)))
    at false is rest = ap (λ xs. u ∷ xs) rest

pub calls-absent : (t : ℕ) (calls : List QueuedCall) → IsAbsent (map (λ (call : QueuedCall). call.caller) calls) t
    → filter (λ (call : QueuedCall). not (call.caller == t)) calls ≡ calls
calls-absent t [] absent = refl
calls-absent t (c ∷ cs) absent = at (c.caller == t) refl (calls-absent t cs (λ place e. absent (suc place) e))
  where
    at : (b : Bool) → (c.caller == t) ≡ b → filter (λ (call : QueuedCall). not (call.caller == t)) cs ≡ cs
        → cond (not b) (c ∷ filter (λ (call : QueuedCall). not (call.caller == t)) cs)
        (filter (λ (call : QueuedCall). not (call.caller == t)) cs) ≡ c ∷ cs
    at true is rest = absurd (absent 0 (ap Some (eqb-true c.caller t is)))
    at false is rest = ap (λ xs. c ∷ xs) rest

-- ---- records after a change of each of some threads'

-- a record is as before, or it is the one that changes
pub record-changed : (change : Record → Record) (records : List Record) (t u : ℕ)
    → (at_number (change_record change records t) u ≡ at_number records u)
    ⊎ ((u ≡ t) × ((r : Record) × (at_number records t ≡ Some r)
    × (at_number (change_record change records t) u ≡ Some (change r))))
record-changed change records t u = at (at_number records t) refl
  where
    at : (o : Option Record) → at_number records t ≡ o
        → (at_number (change_record change records t) u ≡ at_number records u)
        ⊎ ((u ≡ t) × ((r : Record) × (at_number records t ≡ Some r)
        × (at_number (change_record change records t) u ≡ Some (change r))))
    at None is = inl (rw is refl)
    at (Some r) is = from (number-set records t (change r) u)
      where
        now : change_record change records t ≡ set_number records t (change r)
        now = rw is refl

        from : (at_number (set_number records t (change r)) u ≡ at_number records u)
            ⊎ ((u ≡ suc (t - 1)) × (at_number (set_number records t (change r)) u ≡ Some (change r)))
            → (at_number (change_record change records t) u ≡ at_number records u)
            ⊎ ((u ≡ t) × ((x : Record) × (at_number records t ≡ Some x)
            × (at_number (change_record change records t) u ≡ Some (change x))))
        from (inl same) = inl (ap (λ rs. at_number rs u) now ∙ same)
        from (inr (place, new)) =
            inr (place ∙ number-there records t r is, (r, is, ap (λ rs. at_number rs u) now ∙ new))

-- the record that changes
pub record-now : (change : Record → Record) (records : List Record) (t : ℕ) (r : Record) → at_number records t ≡ Some r
    → at_number (change_record change records t) t ≡ Some (change r)
record-now change records t r there =
    let now : change_record change records t ≡ set_number records t (change r) = rw there refl in
    ap (λ rs. at_number rs t) now ∙ number-set_same records t (change r) r there

-- another stays
pub record-other : (change : Record → Record) (records : List Record) (t u : ℕ) → ¬ (u ≡ t)
    → at_number (change_record change records t) u ≡ at_number records u
record-other change records t u other = from (record-changed change records t u)
  where
    from : (at_number (change_record change records t) u ≡ at_number records u) ⊎ ((u ≡ t) × ((r : Record)
        × (at_number records t ≡ Some r) × (at_number (change_record change records t) u ≡ Some (change r))))
        → at_number (change_record change records t) u ≡ at_number records u
    from (inl same) = same
    from (inr (at, _)) = absurd (other at)

-- the same after a change of each of these threads'
pub each-record_other : (change : Record → Record) (records : List Record) (threads : List ℕ) (u : ℕ)
    → IsAbsent threads u → at_number (change_each change records threads) u ≡ at_number records u
each-record_other change records [] u absent = refl
each-record_other change records (t ∷ ts) u absent =
    each-record_other change (change_record change records t) ts u (λ place e. absent (suc place) e)
    ∙ record-other change records t u (λ same. absent 0 (ap Some (sym same)))

-- a change that does no more a second time: one of them has it, and another may have it
pub each-record_either : (change : Record → Record) → ((r : Record) → change (change r) ≡ change r)
    → (records : List Record) (threads : List ℕ) (u : ℕ) (r : Record) → at_number records u ≡ Some r
    → (at_number (change_each change records threads) u ≡ Some r)
    ⊎ (at_number (change_each change records threads) u ≡ Some (change r))
each-record_either change once records [] u r there = inl there
each-record_either change once records (t ∷ ts) u r there = from (λ x here.
    each-record_either change once (change_record change records t) ts u x here) (record-changed change records t u)
  where
    after : List Record
    after = change_each change (change_record change records t) ts

    twice : (x : Record) → x ≡ r
        → (at_number (change_each change (change_record change records t) ts) u ≡ Some (change x))
        ⊎ (at_number (change_each change (change_record change records t) ts) u ≡ Some (change (change x)))
        → (at_number (change_each change (change_record change records t) ts) u ≡ Some r)
        ⊎ (at_number (change_each change (change_record change records t) ts) u ≡ Some (change r))
    twice x same (inl new) = inr (new ∙ ap (λ y. Some (change y)) same)
    twice x same (inr new) = inr (new ∙ ap Some (once x) ∙ ap (λ y. Some (change y)) same)

    from : ((x : Record) → at_number (change_record change records t) u ≡ Some x
        → (at_number (change_each change (change_record change records t) ts) u ≡ Some x)
        ⊎ (at_number (change_each change (change_record change records t) ts) u ≡ Some (change x)))
        → (at_number (change_record change records t) u ≡ at_number records u) ⊎ ((u ≡ t) × ((x : Record)
        × (at_number records t ≡ Some x) × (at_number (change_record change records t) u ≡ Some (change x))))
        → (at_number (change_each change (change_record change records t) ts) u ≡ Some r)
        ⊎ (at_number (change_each change (change_record change records t) ts) u ≡ Some (change r))
    from later (inl same) = later r (same ∙ there)
    from later (inr (at, (x, here, new))) =
        twice x (some-injective x r (sym here ∙ ap (at_number records) (sym at) ∙ there)) (later (change x) new)

pub each-record : (change : Record → Record) → ((r : Record) → change (change r) ≡ change r)
    → (records : List Record) (threads : List ℕ) (place u : ℕ) (r : Record)
    → slice_get threads place ≡ Some u → at_number records u ≡ Some r
    → at_number (change_each change records threads) u ≡ Some (change r)
each-record change once records [] place u r e there = cc
each-record change once records (t ∷ ts) zero u r e there =
    from (each-record_either change once (change_record change records t) ts u (change r) changed)
  where
    changed : at_number (change_record change records t) u ≡ Some (change r)
    changed = subst (λ x. at_number (change_record change records x) u ≡ Some (change r)) (sym (some-injective t u e))
        (record-now change records u r there)

    from : (at_number (change_each change (change_record change records t) ts) u ≡ Some (change r))
        ⊎ (at_number (change_each change (change_record change records t) ts) u ≡ Some (change (change r)))
        → at_number (change_each change (change_record change records t) ts) u ≡ Some (change r)
    from (inl new) = new
    from (inr new) = new ∙ ap Some (once r)
each-record change once records (t ∷ ts) (suc place) u r e there = from (λ x here.
    each-record change once (change_record change records t) ts place u x e here) (record-changed change records t u)
  where
    from : ((x : Record) → at_number (change_record change records t) u ≡ Some x
        → at_number (change_each change (change_record change records t) ts) u ≡ Some (change x))
        → (at_number (change_record change records t) u ≡ at_number records u) ⊎ ((u ≡ t) × ((x : Record)
        × (at_number records t ≡ Some x) × (at_number (change_record change records t) u ≡ Some (change x))))
        → at_number (change_each change (change_record change records t) ts) u ≡ Some (change r)
    from later (inl same) = later r (same ∙ there)
    from later (inr (at, (x, here, new))) =
        let same : x ≡ r = some-injective x r (sym here ∙ ap (at_number records) (sym at) ∙ there) in
        later (change x) new ∙ ap Some (once x) ∙ ap (λ y. Some (change y)) same

-- others keep their statuses
pub each-other : (change : Record → Record) (records : List Record) (threads : List ℕ) (u : ℕ) → IsAbsent threads u
    → status_of (change_each change records threads) u ≡ status_of records u
each-other change records [] u absent = refl
each-other change records (t ∷ ts) u absent =
    each-other change (change_record change records t) ts u (λ place e. absent (suc place) e)
    ∙ status-other change records t u (λ same. absent 0 (ap Some (sym same)))

-- a status is as before, or the new one
pub each-either : (change : Record → Record) (now : Status) → ((r : Record) → (change r).status ≡ now)
    → (records : List Record) (threads : List ℕ) (u : ℕ)
    → (status_of (change_each change records threads) u ≡ status_of records u)
    ⊎ (status_of (change_each change records threads) u ≡ Some now)
each-either change now is records [] u = inl refl
each-either change now is records (t ∷ ts) u =
    from (each-either change now is (change_record change records t) ts u) (status-changed change records t u)
  where
    after : List Record
    after = change_each change (change_record change records t) ts

    from : (status_of (change_each change (change_record change records t) ts) u
        ≡ status_of (change_record change records t) u)
        ⊎ (status_of (change_each change (change_record change records t) ts) u ≡ Some now)
        → (status_of (change_record change records t) u ≡ status_of records u) ⊎ ((u ≡ t) × ((r : Record)
        × (at_number records t ≡ Some r) × (status_of (change_record change records t) u ≡ Some (change r).status)))
        → (status_of (change_each change (change_record change records t) ts) u ≡ status_of records u)
        ⊎ (status_of (change_each change (change_record change records t) ts) u ≡ Some now)
    from (inr new) either = inr new
    from (inl same) (inl kept) = inl (same ∙ kept)
    from (inl same) (inr (at, (r, there, new))) = inr (same ∙ new ∙ ap Some (is r))

-- each of them has the new one
pub each-now : (change : Record → Record) (now : Status) → ((r : Record) → (change r).status ≡ now)
    → (records : List Record) (threads : List ℕ) (place u : ℕ) (before : Status)
    → slice_get threads place ≡ Some u → status_of records u ≡ Some before
    → status_of (change_each change records threads) u ≡ Some now
each-now change now is records [] place u before e there = cc
each-now change now is records (t ∷ ts) zero u before e there =
    from (each-either change now is (change_record change records t) ts u)
  where
    same : t ≡ u
    same = some-injective t u e

    changed : status_of (change_record change records t) u ≡ Some now
    changed = subst (λ x. status_of (change_record change records x) u ≡ Some now) (sym same)
        (status-now change records u before now there is)

    from : (status_of (change_each change (change_record change records t) ts) u
        ≡ status_of (change_record change records t) u)
        ⊎ (status_of (change_each change (change_record change records t) ts) u ≡ Some now)
        → status_of (change_each change (change_record change records t) ts) u ≡ Some now
    from (inl kept) = kept ∙ changed
    from (inr new) = new
each-now change now is records (t ∷ ts) (suc place) u before e there = from (λ old here.
    each-now change now is (change_record change records t) ts place u old e here) (status-changed change records t u)
  where
    from : ((old : Status) → status_of (change_record change records t) u ≡ Some old
        → status_of (change_each change (change_record change records t) ts) u ≡ Some now)
        → (status_of (change_record change records t) u ≡ status_of records u) ⊎ ((u ≡ t) × ((r : Record)
        × (at_number records t ≡ Some r) × (status_of (change_record change records t) u ≡ Some (change r).status)))
        → status_of (change_each change (change_record change records t) ts) u ≡ Some now
    from later (inl kept) = later before (kept ∙ there)
    from later (inr (at, (r, here, new))) = later (change r).status new

-- nobody's record comes
each-none : (change : Record → Record) (records : List Record) (threads : List ℕ) (u : ℕ) → at_number records u ≡ None
    → at_number (change_each change records threads) u ≡ None
each-none change records [] u none = none
each-none change records (t ∷ ts) u none =
    from (λ here. each-none change (change_record change records t) ts u here) (record-changed change records t u)
  where
    from : (at_number (change_record change records t) u ≡ None
        → at_number (change_each change (change_record change records t) ts) u ≡ None)
        → (at_number (change_record change records t) u ≡ at_number records u) ⊎ ((u ≡ t) × ((r : Record)
        × (at_number records t ≡ Some r) × (at_number (change_record change records t) u ≡ Some (change r))))
        → at_number (change_each change (change_record change records t) ts) u ≡ None
    from later (inl same) = later (same ∙ none)
    from later (inr (at, (r, there, new))) = let never : None ≡ Some r = sym none ∙ ap (at_number records) at ∙ there in
        cc

-- first some, and then others
pub each-append : (change : Record → Record) (records : List Record) (us vs : List ℕ)
    → change_each change records (us ++ vs) ≡ change_each change (change_each change records us) vs
each-append change records [] vs = refl
each-append change records (u ∷ us) vs = each-append change (change_record change records u) us vs

-- a record in between is as before the change of some, or as after the change of others too
pub each-between : (change : Record → Record) → ((r : Record) → change (change r) ≡ change r)
    → (records : List Record) (us vs : List ℕ) (u : ℕ)
    → (at_number (change_each change records us) u ≡ at_number records u) ⊎ (at_number (change_each change records us) u
    ≡ at_number (change_each change (change_each change records us) vs) u)
each-between change once records us vs u = at (at_number records u) refl
  where
    now : List Record
    now = change_each change records us

    then : (r : Record) → at_number (change_each change records us) u ≡ Some (change r)
        → (at_number (change_each change (change_each change records us) vs) u ≡ Some (change r))
        ⊎ (at_number (change_each change (change_each change records us) vs) u ≡ Some (change (change r)))
        → at_number (change_each change records us) u
        ≡ at_number (change_each change (change_each change records us) vs) u
    then r here (inl same) = here ∙ sym same
    then r here (inr same) = here ∙ ap Some (sym (once r)) ∙ sym same

    from : (r : Record) → at_number records u ≡ Some r → (at_number (change_each change records us) u ≡ Some r)
        ⊎ (at_number (change_each change records us) u ≡ Some (change r))
        → (at_number (change_each change records us) u ≡ at_number records u) ⊎ (at_number
        (change_each change records us) u ≡ at_number (change_each change (change_each change records us) vs) u)
    from r there (inl same) = inl (same ∙ sym there)
    from r there (inr changed) =
        inr (then r changed (each-record_either change once (change_each change records us) vs u (change r) changed))

    at : (o : Option Record) → at_number records u ≡ o
        → (at_number (change_each change records us) u ≡ at_number records u) ⊎ (at_number
        (change_each change records us) u ≡ at_number (change_each change (change_each change records us) vs) u)
    at None none = inl (each-none change records us u none ∙ sym none)
    at (Some r) there = from r there (each-record_either change once records us u r there)

-- ---- whom a kill releases

-- the thread waits longest for a mutex that the killed one owns
pub record IsHeir (s : State) (t u : ℕ) : Type 0 where
  pub mutex : ℕ
  pub held : Mutex
  pub there : at_number s.mutexes mutex ≡ Some held
  pub owned : is_owned_by t held ≡ true
  pub first : slice_get (without t held.waiters) 0 ≡ Some u

-- the next owner of a mutex that passes on
pub passed-first : (waiters : List ℕ) (u : ℕ) → (passed_on waiters).owner ≡ Some u → slice_get waiters 0 ≡ Some u
passed-first [] u e = cc
passed-first (w ∷ ws) u e = e

pub first-passed : (waiters : List ℕ) (u : ℕ) → slice_get waiters 0 ≡ Some u → (passed_on waiters).owner ≡ Some u
first-passed [] u e = cc
first-passed (w ∷ ws) u e = e

pub heir-of : (t u : ℕ) (held : Mutex) → heir t held ≡ Some u
    → (is_owned_by t held ≡ true) × (slice_get (without t held.waiters) 0 ≡ Some u)
heir-of t u held e = at (is_owned_by t held) refl e
  where
    at : (b : Bool) → is_owned_by t held ≡ b → cond b (cond b (passed_on (without t held.waiters))
        (record { owner = held.owner; waiters = without t held.waiters })).owner None ≡ Some u
        → (is_owned_by t held ≡ true) × (slice_get (without t held.waiters) 0 ≡ Some u)
    at true is owner = (is, passed-first (without t held.waiters) u owner)
    at false is none = cc

-- who owns a mutex after a kill owned it before, or waited longest for it
pub owner-either : (t v : ℕ) (held : Mutex) → (mutex_without t held).owner ≡ Some v
    → ((is_owned_by t held ≡ false) × (held.owner ≡ Some v))
    ⊎ ((is_owned_by t held ≡ true) × (slice_get (without t held.waiters) 0 ≡ Some v))
owner-either t v held = at (is_owned_by t held) refl
  where
    at : (b : Bool) → is_owned_by t held ≡ b → (cond b (passed_on (without t held.waiters))
        (record { owner = held.owner; waiters = without t held.waiters })).owner ≡ Some v
        → ((is_owned_by t held ≡ false) × (held.owner ≡ Some v))
        ⊎ ((is_owned_by t held ≡ true) × (slice_get (without t held.waiters) 0 ≡ Some v))
    at true owned owner = inr (owned, passed-first (without t held.waiters) v owner)
    at false other owner = inl (other, owner)

-- a released thread is a client or an heir
pub released-why : (s : State) (t place u : ℕ) → slice_get (released_by s t) place ≡ Some u
    → IsAmong (clients_of s.clients t) u ⊎ IsHeir s t u
released-why s t place u e = from (place-append (clients_of s.clients t) (filter_map (heir t) s.mutexes) place u e)
  where
    from : IsAmong (clients_of s.clients t) u ⊎ IsAmong (filter_map (heir t) s.mutexes) u
        → IsAmong (clients_of s.clients t) u ⊎ IsHeir s t u
    from (inl client) = inl client
    from (inr (at, is)) =
        let (i, (held, there, passes)) = mapped-from (heir t) s.mutexes at u is in
        let why = heir-of t u held passes in
        inr
        (record { mutex = suc i; held = held; there = at_number-suc s.mutexes i ∙ there; owned = why.0; first = why.1 })

-- and the other way round
pub among-append_left : (xs ys : List ℕ) (place u : ℕ) → slice_get xs place ≡ Some u → IsAmong (xs ++ ys) u
among-append_left [] ys place u e = cc
among-append_left (x ∷ xs) ys zero u e = (zero, e)
among-append_left (x ∷ xs) ys (suc place) u e = let more = among-append_left xs ys place u e in (suc more.0, more.1)

pub among-append_right : (xs ys : List ℕ) (place u : ℕ) → slice_get ys place ≡ Some u → IsAmong (xs ++ ys) u
among-append_right [] ys place u e = (place, e)
among-append_right (x ∷ xs) ys place u e = let more = among-append_right xs ys place u e in (suc more.0, more.1)

pub among-mapped : {A : Type 0} (h : A → Option ℕ) (xs : List A) (i u : ℕ) (x : A) → slice_get xs i ≡ Some x
    → h x ≡ Some u → IsAmong (filter_map h xs) u
among-mapped h [] i u x e is = cc
among-mapped h (y ∷ ys) zero u x e is =
    (zero, ap (λ o. slice_get (cons_option o (filter_map h ys)) zero) (ap h (some-injective y x e) ∙ is))
among-mapped h (y ∷ ys) (suc i) u x e is = at (h y) (among-mapped h ys i u x e is)
  where
    at : (o : Option ℕ) → IsAmong (filter_map h ys) u → IsAmong (cons_option o (filter_map h ys)) u
    at None more = more
    at (Some z) more = (suc more.0, more.1)

pub heir-released : (s : State) (t u : ℕ) → IsHeir s t u → IsAmong (released_by s t) u
heir-released s t u why = from (among why.mutex why.there)
  where
    is : heir t why.held ≡ Some u
    is = rw why.owned (first-passed (without t why.held.waiters) u why.first)

    among : (m : ℕ) → at_number s.mutexes m ≡ Some why.held → IsAmong (filter_map (heir t) s.mutexes) u
    among zero e = cc
    among (suc i) e = among-mapped (heir t) s.mutexes i u why.held (sym (at_number-suc s.mutexes i) ∙ e) is

    from : IsAmong (filter_map (heir t) s.mutexes) u → IsAmong (released_by s t) u
    from (place, e) = among-append_right (clients_of s.clients t) (filter_map (heir t) s.mutexes) place u e

module _ (s : State) (queues : HasQueues s.records s.clients s.ports s.mutexes) (t : ℕ) where
  -- an heir waits for its mutex
  pub heir-waits : (u : ℕ) (why : IsHeir s t u) → status_of s.records u ≡ Some (status.Waiting why.mutex)
  heir-waits u why =
      let was = filter-was (λ x. not (x == t)) why.held.waiters 0 u why.first in
      (queues.waiters why.mutex why.held why.there).each was.0 u was.1

  pub client-waits : (u : ℕ) → IsAmong (clients_of s.clients t) u → status_of s.records u ≡ Some (status.Served t)
  client-waits u (place, e) = (queue-clients s.records s.clients s.ports s.mutexes queues t).each place u e

  -- who isn't the killed thread, its client or its heir keeps its status
  pub stands-still : (u : ℕ) (now : Status) → status_of s.records u ≡ Some now → ¬ (u ≡ t) → ¬ (now ≡ status.Served t)
      → ((why : IsHeir s t u) → ¬ (now ≡ status.Waiting why.mutex))
      → status_of (killed s t).records u ≡ status_of s.records u
  stands-still u now is other client waiter = status-other ended (change_each released s.records (released_by s t)) t u
      other ∙ each-other released s.records (released_by s t) u absent
    where
      absent : IsAbsent (released_by s t) u
      absent place e = from (released-why s t place u e)
        where
          from : IsAmong (clients_of s.clients t) u ⊎ IsHeir s t u → ⊥
          from (inl there) = client (some-injective now (status.Served t) (sym is ∙ client-waits u there))
          from (inr why) = waiter why (some-injective now (status.Waiting why.mutex) (sym is ∙ heir-waits u why))

  -- an heir is Ready
  pub heir-ready : (u : ℕ) → IsHeir s t u → status_of (killed s t).records u ≡ Some status.Ready
  heir-ready u why =
      let among = heir-released s t u why in
      status-other ended (change_each released s.records (released_by s t)) t u
      (without-other t why.held.waiters 0 u why.first)
      ∙ each-now released status.Ready (λ r. refl) s.records (released_by s t) among.0 u
      (status.Waiting why.mutex) among.1 (heir-waits u why)

-- after a kill a status is as before, Ready or Dead
pub killed-either : (s : State) (t u : ℕ) → (status_of (killed s t).records u ≡ status_of s.records u)
    ⊎ ((status_of (killed s t).records u ≡ Some status.Ready) ⊎ (status_of (killed s t).records u ≡ Some status.Dead))
killed-either s t u = from (status-changed ended (change_each released s.records (released_by s t)) t u)
    (each-either released status.Ready (λ r. refl) s.records (released_by s t) u)
  where
    from : (status_of (killed s t).records u ≡ status_of (change_each released s.records (released_by s t)) u)
        ⊎ ((u ≡ t) × ((r : Record) × (at_number (change_each released s.records (released_by s t)) t ≡ Some r)
        × (status_of (killed s t).records u ≡ Some (ended r).status)))
        → (status_of (change_each released s.records (released_by s t)) u ≡ status_of s.records u)
        ⊎ (status_of (change_each released s.records (released_by s t)) u ≡ Some status.Ready)
        → (status_of (killed s t).records u ≡ status_of s.records u)
        ⊎ ((status_of (killed s t).records u ≡ Some status.Ready)
        ⊎ (status_of (killed s t).records u ≡ Some status.Dead))
    from (inl same) (inl kept) = inl (same ∙ kept)
    from (inl same) (inr ready) = inr (inl (same ∙ ready))
    from (inr (at, (r, there, dead))) either = inr (inr dead)

-- the killed thread is Dead
pub killed-dead : (s : State) (t : ℕ) (now : Status) → status_of s.records t ≡ Some now
    → status_of (killed s t).records t ≡ Some status.Dead
killed-dead s t now is = from (each-either released status.Ready (λ r. refl) s.records (released_by s t) t)
  where
    from : (status_of (change_each released s.records (released_by s t)) t ≡ status_of s.records t)
        ⊎ (status_of (change_each released s.records (released_by s t)) t ≡ Some status.Ready)
        → status_of (killed s t).records t ≡ Some status.Dead
    from (inl same) =
        status-now ended (change_each released s.records (released_by s t)) t now status.Dead (same ∙ is) (λ r. refl)
    from (inr ready) =
        status-now ended (change_each released s.records (released_by s t)) t status.Ready status.Dead ready (λ r. refl)
