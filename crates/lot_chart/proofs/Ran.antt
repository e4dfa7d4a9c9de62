-- The currencies found above the thread that ran in a turn.
use Rattle.lot_chart.proofs.Common.{Answered, Bool, By, EndedTurn, Err, Event, FoundNodes, HasFound, HasLooked, HasSearched, HasThoseAbove, IsTrue, List, Ok, OnOk, Reply, Result, State, Stretch, ap, append-nil, append_assoc, arith, currencies_above, currency_numbers, drop, false, filter, filter-append, has_run, if◌then◌else◌, in_column, length, map, map-append, numbers-push, range_with_len, refl, stands_below, stretch_of, subst, suc, sym, true, turn_stretches, ℕ, [], ◌++◌, ◌+◌, ◌-◌, ◌<◌, ◌↔◌, ◌∙◌, ◌∷◌, ◌≡◌, ◌≤◌}
use Rattle.lot_playback.specs.TicksBelow.{RanOn}
use Rattle.lot_machine.specs.declared.reply.Reply.TheVariants as reply
use Rattle.lot_curves.specs.declared.by.By.TheVariants as by

-- ---- the currencies above it

-- those above a thread that ran
pub above-found : (s : State) (actor : ℕ) (e : Event) (r : Reply) (above : FoundNodes) (count : ℕ) → has_run r ≡ true
    → RanOn s actor r → HasLooked s actor above count
    → (t : ℕ) × HasThoseAbove s t above
    × (currencies_above s (Answered e r) ≡ filter (λ c. stands_below s c t) (currency_numbers s))
above-found s actor e (reply.Expired t ticks) above count ran on looked = (t, looked.found t on.0 on.1, refl)
above-found s actor e (reply.Trapped t ticks came ends) above count ran on looked = (t, looked.found t on.0 on.1, refl)
above-found s actor e (reply.Ticket n) above count ran on looked = cc
above-found s actor e (reply.Currency n) above count ran on looked = cc
above-found s actor e (reply.Thread n) above count ran on looked = cc
above-found s actor e (reply.Funded ticket thread) above count ran on looked = cc
above-found s actor e reply.Done above count ran on looked = cc
above-found s actor e (reply.Killed n) above count ran on looked = cc
above-found s actor e (reply.List kind) above count ran on looked = cc
above-found s actor e (reply.Winner thread number total delivered) above count ran on looked = cc
above-found s actor e reply.Idle above count ran on looked = cc
above-found s actor e (reply.Refused why) above count ran on looked = cc

filter-none : (xs : List ℕ) → filter (λ x. false) xs ≡ []
filter-none [] = refl
filter-none (x ∷ xs) = filter-none xs

-- none, if no thread ran
pub above-none : (s : State) (e : Event) (r : Reply) → has_run r ≡ false → currencies_above s (Answered e r) ≡ []
above-none s e (reply.Expired t ticks) ran = cc
above-none s e (reply.Trapped t ticks came ends) ran = cc
above-none s e (reply.Ticket n) ran = filter-none (currency_numbers s)
above-none s e (reply.Currency n) ran = filter-none (currency_numbers s)
above-none s e (reply.Thread n) ran = filter-none (currency_numbers s)
above-none s e (reply.Funded ticket thread) ran = filter-none (currency_numbers s)
above-none s e reply.Done ran = filter-none (currency_numbers s)
above-none s e (reply.Killed n) ran = filter-none (currency_numbers s)
above-none s e (reply.List kind) ran = filter-none (currency_numbers s)
above-none s e (reply.Winner thread number total delivered) ran = filter-none (currency_numbers s)
above-none s e reply.Idle ran = filter-none (currency_numbers s)
above-none s e (reply.Refused why) ran = filter-none (currency_numbers s)

-- ---- the stretches of currencies

-- one currency more, if it was found
pub found-more : (x : Stretch) (s : State) (t : ℕ) (above : FoundNodes) (c : ℕ) (has : Bool)
    (old items next : List Stretch) → 1 ≤ c → c < length s.currencies → IsTrue has ↔ HasFound above c
    → HasThoseAbove s t above
    → items ≡ old ++ map (λ d. in_column d x) (filter (λ d. stands_below s d t) (range_with_len 1 (c - 1)))
    → next ≡ (if has then items ++ in_column c x ∷ [] else items)
    → next ≡ old ++ map (λ d. in_column d x) (filter (λ d. stands_below s d t) (range_with_len 1 c))
found-more x s t above c has old items next low high is those items_are put =
    let test : ℕ → Bool = λ d. stands_below s d t in
    let numbers : List ℕ = range_with_len 1 (c - 1) in
    let same : has ≡ stands_below s c t =
    same-truth has (stands_below s c t) (λ yes. (those c high).0 (is.0 yes)) (λ yes. is.1 ((those c high).1 yes)) in
    let before : c ≡ suc (c - 1) = omega (arith, low) in
    let after : 1 + (c - 1) ≡ c = omega (arith, low) in
    let more : range_with_len 1 c ≡ numbers ++ c ∷ [] = ap (range_with_len 1) before ∙ numbers-push 1 (c - 1)
    ∙ ap (λ n. numbers ++ n ∷ []) after in
    let split : filter test (range_with_len 1 c) ≡ filter test numbers ++ filter test (c ∷ []) = ap (filter test) more
    ∙ filter-append test numbers (c ∷ []) in
    put ∙ ap (λ b. if b then items ++ in_column c x ∷ [] else items) same ∙ by (stands_below s c t) refl
    ∙ sym (ap (λ ds. old ++ map (λ d. in_column d x) ds) split ∙ ap (λ xs. old ++ xs)
    (map-append (λ d. in_column d x) (filter test numbers) (filter test (c ∷ []))) ∙ sym (append_assoc old
    (map (λ d. in_column d x) (filter test numbers)) (map (λ d. in_column d x) (filter test (c ∷ []))))
    ∙ ap (λ xs. xs ++ map (λ d. in_column d x) (filter test (c ∷ []))) (sym items_are))
  where
    same-truth : (a b : Bool) → (IsTrue a → IsTrue b) → (IsTrue b → IsTrue a) → a ≡ b
    same-truth true true to from = refl
    same-truth false false to from = refl
    same-truth true false to from = let e : false ≡ true = to refl in cc
    same-truth false true to from = let e : false ≡ true = from refl in cc

    by : (b : Bool) → stands_below s c t ≡ b → (if b then items ++ in_column c x ∷ [] else items) ≡ items
        ++ map (λ d. in_column d x) (filter (λ d. stands_below s d t) (c ∷ []))
    by true stands = rw stands refl
    by false other = rw other (sym (append-nil items))

-- ---- the stretches of a turn

pub on-ok : {A E : Type 0} {P Q : Type 0} (r : Result A E) → (P → Q) → OnOk r P → OnOk r Q
on-ok (Ok x) to p = to p
on-ok (Err e) to p = p

pub on-both : {A E : Type 0} {P Q R : Type 0} (r : Result A E) → (P → Q → R) → OnOk r P → OnOk r Q → OnOk r R
on-both (Ok x) to p q = to p q
on-both (Err e) to p q = p

-- by thread, if this is the turn's stretch
pub thread-pushed : (s : State) (what : By) (turn : EndedTurn) (x : Stretch) (old new : List Stretch) → what ≡ by.Thread
    → x ≡ stretch_of turn → new ≡ old ++ x ∷ [] → new ≡ old ++ turn_stretches what s turn
thread-pushed s what turn x old new is own pushed = pushed ∙ ap (λ y. old ++ y ∷ []) own
    ∙ ap (λ b. old ++ turn_stretches b s turn) (sym is)

-- by currency
pub columns-pushed : (s : State) (actor : ℕ) (what : By) (time : ℕ) (e : Event) (r : Reply) (above : FoundNodes)
    (count : ℕ) (x : Stretch) (ran : Bool) (old new : List Stretch)
    → what ≡ by.Currency → x ≡ stretch_of (record { time = time; answer = Answered e r }) → ran ≡ has_run r
    → RanOn s actor r → HasSearched what s actor above count
    → ((s : State) (t : ℕ) → count ≡ length s.currencies → HasThoseAbove s t above → ran ≡ true
    → new ≡ old ++ in_column 0 x ∷ map (λ c. in_column c x) (filter (λ c. stands_below s c t) (currency_numbers s)))
    → (ran ≡ false → new ≡ old ++ in_column 0 x ∷ [])
    → new ≡ old ++ turn_stretches what s (record { time = time; answer = Answered e r })
columns-pushed s actor what time e r above count x ran old new is own has on searched columns none =
    by-run ran refl ∙ ap (λ y. old ++ in_column 0 y ∷ map (λ c. in_column c y) (currencies_above s (Answered e r))) own
    ∙ ap (λ b. old ++ turn_stretches b s (record { time = time; answer = Answered e r })) (sym is)
  where
    looked : HasLooked s actor above count
    looked = subst (λ b. HasSearched b s actor above count) is searched

    by-run : (b : Bool) → ran ≡ b
        → new ≡ old ++ in_column 0 x ∷ map (λ c. in_column c x) (currencies_above s (Answered e r))
    by-run true runs =
        let (t, those, same) = above-found s actor e r above count (sym has ∙ runs) on looked in
        columns s t looked.given those runs ∙ ap (λ cs. old ++ in_column 0 x ∷ map (λ c. in_column c x) cs) (sym same)
    by-run false idle = none idle
        ∙ ap (λ cs. old ++ in_column 0 x ∷ map (λ c. in_column c x) cs) (sym (above-none s e r (sym has ∙ idle)))

-- the number of elements after the first
pub length-rest : {A : Type 0} (xs : List A) → length (drop 1 xs) ≡ length xs - 1
length-rest [] = refl
length-rest (x ∷ xs) = omega arith

-- the numbers below this one are those of all currencies, if no more were given
pub all-numbers : (s : State) (count currency : ℕ) → count ≡ length s.currencies → 1 ≤ currency
    → currency - 1 ≤ count - 1 → count ≤ currency → range_with_len 1 (currency - 1) ≡ currency_numbers s
all-numbers s count currency given low within past =
    ap (range_with_len 1) (omega (arith, length-rest s.currencies, given, low, within, past))
