-- No two currencies or threads have the same name, the kernel takes each name, and it means exactly its owner.
use Rattle.lot_machine.proofs.Common.{BadAmount, BadName, Bool, Command, Currency, DropCurrency, DropThread, Event, Full, List, MakeCurrency, MakeFunded, MakeThread, NameTaken, NewCurrency, NewThread, NoCurrency, NoScript, None, Option, RemoveCurrency, RemoveThread, Sizes, Some, State, Target, Unfunded, ap, are_currencies_full, are_threads_full, are_tickets_full, arith, at_number, bytes_eq, bytes_eq-Decides, command_effect, command_refusal, currency_meant, currency_named, currency_or_base, false, free_currencies, free_threads, get_or, inl, inr, is_bad_amount, is_meant_by, is_name, is_no_name, is_no_script, is_none, is_taken, is_thread_name, length, ltb-false, nat_lt, next_place, not, opening, option_any, option_flatten, option_map, option_or, placed, position, position-Some, position_or_len, refl, set_number, slice_get, slice_get-get_or, slice_set, state_after, step, subst, suc, sym, target_named, thread_at, thread_meant, thread_named, true, unwrap_or, zero, ℕ, [], ◌&&◌, ◌+◌, ◌-◌, ◌<◌, ◌||◌, ◌∙◌, ◌∷◌, ◌≡◌, ◌⊎◌}
use Rattle.lot_machine.specs.declared.event.Event.TheVariants as event
use Rattle.lot_machine.specs.declared.record.Thread.{Thread as ThreadRecord}
use Rattle.lot_machine.specs.declared.ticket.Target.TheVariants.{Thread}
use Rattle.lot_machine.proofs.Changes.{number-set, place-set}
use Rattle.lot_machine.proofs.CommandsKept.{all-pass, unrefused}
use Rattle.lot_machine.proofs.Places.{number-next, place-next}
use Rattle.lot_machine.proofs.StepChanges.{By, IsConsole, Keeps, by_event, kept, step-leads}
use Rattle.lot_machine.proofs.Tickets.{at_number-suc, flatten-some, some-injective}

-- ---- what has a name

-- the name of a currency or a thread, if it exists; a thread's may have no bytes
abbrev pub name_at : List (Option (List ℕ)) → List (Option ThreadRecord) → Target → Option (List ℕ)
name_at currencies threads Unfunded = None
name_at currencies threads (Currency c) = option_flatten (slice_get currencies c)
name_at currencies threads (Thread t) = option_map (λ thread. thread.name) (thread_at threads t)

-- whether a kernel with these sizes lets the target have the name
abbrev pub is_allowed : Sizes → Target → List ℕ → Bool
is_allowed limits Unfunded name = false
is_allowed limits (Currency c) name = is_name limits name
is_allowed limits (Thread t) name = is_thread_name limits name

-- each name is allowed, and only one has it, except for no name
pub record HasOwnNames (limits : Sizes) (currencies : List (Option (List ℕ)))
    (threads : List (Option ThreadRecord)) : Type 0 where
  pub good : (x : Target) (name : List ℕ) → name_at currencies threads x ≡ Some name → is_allowed limits x name ≡ true
  pub own : (x y : Target) (name : List ℕ) → name_at currencies threads x ≡ Some name
      → name_at currencies threads y ≡ Some name → is_no_name name ≡ false → x ≡ y

-- the same of a state
abbrev pub AreOwn : State → Type 0
AreOwn s = HasOwnNames s.limits s.currencies s.threads

none-some : {A : Type 0} (x : A) → ¬ (None ≡ Some x)
none-some x e = cc

-- ---- names that are given and taken away

module _ (limits : Sizes) (currencies more : List (Option (List ℕ))) (threads others : List (Option ThreadRecord))
    (own : HasOwnNames limits currencies threads) where
  -- one more has a name, which it may have, and which nobody had
  more-own : (new : Target) (name : List ℕ) → is_allowed limits new name ≡ true
      → ((x : Target) → name_at currencies threads x ≡ Some name → is_no_name name ≡ false → ⊥)
      → ((x : Target)
      → (name_at more others x ≡ name_at currencies threads x) ⊎ ((x ≡ new) × (name_at more others x ≡ Some name)))
      → HasOwnNames limits more others
  more-own new name allowed free each = record {
    good = λ x n is. good-in x n is (each x);
    own = λ x y n is other some. own-in x y n is other some (each x) (each y);
  }
    where
      good-in : (x : Target) (n : List ℕ) → name_at more others x ≡ Some n
          → (name_at more others x ≡ name_at currencies threads x) ⊎ ((x ≡ new) × (name_at more others x ≡ Some name))
          → is_allowed limits x n ≡ true
      good-in x n is (inl same) = own.good x n (sym same ∙ is)
      good-in x n is (inr (at, here)) =
          let is_name : name ≡ n = some-injective name n (sym here ∙ is) in
          ap (λ (z : Target). is_allowed limits z n) at ∙ ap (is_allowed limits new) (sym is_name) ∙ allowed

      own-in : (x y : Target) (n : List ℕ) → name_at more others x ≡ Some n → name_at more others y ≡ Some n
          → is_no_name n ≡ false
          → (name_at more others x ≡ name_at currencies threads x) ⊎ ((x ≡ new) × (name_at more others x ≡ Some name))
          → (name_at more others y ≡ name_at currencies threads y) ⊎ ((y ≡ new) × (name_at more others y ≡ Some name))
          → x ≡ y
      own-in x y n is other some (inl same) (inl also) = own.own x y n (sym same ∙ is) (sym also ∙ other) some
      own-in x y n is other some (inl same) (inr (at, here)) =
          let is_name : n ≡ name = some-injective n name (sym other ∙ here) in
          absurd (free x (sym same ∙ is ∙ ap Some is_name) (ap is_no_name (sym is_name) ∙ some))
      own-in x y n is other some (inr (at, here)) (inl same) =
          let is_name : n ≡ name = some-injective n name (sym is ∙ here) in
          absurd (free y (sym same ∙ other ∙ ap Some is_name) (ap is_no_name (sym is_name) ∙ some))
      own-in x y n is other some (inr (at, here)) (inr (also, there)) = at ∙ sym also

  -- some lose theirs
  fewer-own : ((x : Target) → (name_at more others x ≡ name_at currencies threads x) ⊎ (name_at more others x ≡ None))
      → HasOwnNames limits more others
  fewer-own each = record {
    good = λ x n is. own.good x n (before x n is (each x));
    own = λ x y n is other some. own.own x y n (before x n is (each x)) (before y n other (each y)) some;
  }
    where
      before : (x : Target) (n : List ℕ) → name_at more others x ≡ Some n
          → (name_at more others x ≡ name_at currencies threads x) ⊎ (name_at more others x ≡ None)
          → name_at currencies threads x ≡ Some n
      before x n is (inl same) = sym same ∙ is
      before x n is (inr gone) = absurd (none-some n (sym gone ∙ is))

-- ---- a name that nothing has

-- what passes a test stands no earlier than the first that does
first-below : {A : Type 0} (p : A → Bool) (xs : List A) (i : ℕ) (x : A) → slice_get xs i ≡ Some x → p x ≡ true
    → position_or_len p xs < length xs
first-below p [] i x here passes = cc
first-below p (y ∷ ys) i x here passes = by (p y) refl i here (λ j there. first-below p ys j x there passes)
  where
    by : (b : Bool) → p y ≡ b → (i : ℕ) → slice_get (y ∷ ys) i ≡ Some x
        → ((j : ℕ) → slice_get ys j ≡ Some x → position_or_len p ys < length ys)
        → position_or_len p (y ∷ ys) < length (y ∷ ys)
    by true is i here later = rw is (omega arith)
    by false is zero here later = let same : y ≡ x = cc in let never : true ≡ false = sym passes ∙ sym (ap p same)
        ∙ is in cc
    by false is (suc j) here later = rw is (omega (arith, later j here))

-- so it has a position
passes-found : {A : Type 0} (p : A → Bool) (xs : List A) (i : ℕ) (x : A) → slice_get xs i ≡ Some x → p x ≡ true
    → ¬ (position p xs ≡ None)
passes-found p xs i x here passes none = by (nat_lt (position_or_len p xs) (length xs)) refl
  where
    some-none : (n : ℕ) → ¬ (Some n ≡ None)
    some-none n e = cc

    by : (b : Bool) → nat_lt (position_or_len p xs) (length xs) ≡ b → ⊥
    by false past = omega (arith, ltb-false (position_or_len p xs) (length xs) past, first-below p xs i x here passes)
    by true within = let found : position p xs ≡ Some (position_or_len p xs) = rw within refl in
        some-none (position_or_len p xs) (sym found ∙ none)

-- a name means what has it
meant-itself : (name other : List ℕ) → is_no_name name ≡ false → name ≡ other → is_meant_by name other ≡ true
meant-itself name other some same = rw some ((bytes_eq-Decides name other).1 same)

-- and nothing else
meant-same : (name other : List ℕ) → is_meant_by name other ≡ true → name ≡ other
meant-same name other is = (bytes_eq-Decides name other).0 (second (not (is_no_name name)) is)
  where
    second : (b : Bool) → (b && bytes_eq name other) ≡ true → bytes_eq name other ≡ true
    second true e = e
    second false e = cc

module _ (s : State) (name : List ℕ) (some : is_no_name name ≡ false) where
  -- so what has the name has a position
  currency-found : (c : ℕ) → name_at s.currencies s.threads (Currency c) ≡ Some name → ¬ (currency_named s name ≡ None)
  currency-found c is = passes-found (option_any (is_meant_by name)) s.currencies c (Some name)
      (flatten-some (slice_get s.currencies c) name is) (meant-itself name name some refl)

  thread-found : (t : ℕ) → name_at s.currencies s.threads (Thread t) ≡ Some name
      → ¬ (position (option_any (λ (x : ThreadRecord). is_meant_by name x.name)) s.threads ≡ None)
  thread-found zero is = absurd (none-some name is)
  thread-found (suc i) is = from (thread_at s.threads (suc i)) refl is
    where
      from : (o : Option ThreadRecord) → thread_at s.threads (suc i) ≡ o → option_map (λ (x : ThreadRecord). x.name) o
          ≡ Some name → ¬ (position (option_any (λ (x : ThreadRecord). is_meant_by name x.name)) s.threads ≡ None)
      from None here e = absurd (none-some name e)
      from (Some x) here e =
          passes-found (option_any (λ (x : ThreadRecord). is_meant_by name x.name)) s.threads i (Some x)
          (sym (at_number-suc s.threads i) ∙ flatten-some (at_number s.threads (suc i)) x here)
          (meant-itself name x.name some (sym (some-injective x.name name e)))

  -- a name that isn't taken is nobody's
  free-name : is_taken s name ≡ false → (x : Target) → name_at s.currencies s.threads x ≡ Some name → ⊥
  free-name free x is = by x is
    where
      neither : (c t : Option ℕ) → not (is_none (option_or (option_map Currency c) (option_map Thread t))) ≡ false
          → (c ≡ None) × (t ≡ None)
      neither None None e = (refl, refl)
      neither None (Some t) e = cc
      neither (Some c) t e = cc

      unplaced : (place : Option ℕ) → option_map (λ n. n + 1) place ≡ None → place ≡ None
      unplaced None e = refl
      unplaced (Some n) e = cc

      nowhere : (currency_named s name ≡ None) × (thread_named s name ≡ None)
      nowhere = neither (currency_named s name) (thread_named s name) free

      by : (x : Target) → name_at s.currencies s.threads x ≡ Some name → ⊥
      by Unfunded is = none-some name is
      by (Currency c) is = currency-found c is nowhere.0
      by (Thread t) is = thread-found t is (unplaced _ nowhere.1)

  -- ---- who has a name is what the name means

  module _ (own : AreOwn s) where
    -- the currency that is found has the name
    found-currency : (d : ℕ) → currency_named s name ≡ Some d → name_at s.currencies s.threads (Currency d) ≡ Some name
    found-currency d is =
        let found = position-Some (option_any (is_meant_by name)) s.currencies d None is in
        ap option_flatten (slice_get-get_or s.currencies d None found.0) ∙ named (get_or s.currencies d None) found.1
      where
        named : (o : Option (List ℕ)) → option_any (is_meant_by name) o ≡ true → o ≡ Some name
        named None e = cc
        named (Some other) e = ap Some (sym (meant-same name other e))

    -- and so has the thread
    found-thread : (i : ℕ) → position (option_any (λ (x : ThreadRecord). is_meant_by name x.name)) s.threads ≡ Some i
        → name_at s.currencies s.threads (Thread (suc i)) ≡ Some name
    found-thread i is =
        let found = position-Some (option_any (λ (x : ThreadRecord). is_meant_by name x.name)) s.threads i None is in
        ap (λ (o : Option (Option ThreadRecord)). option_map (λ (x : ThreadRecord). x.name) (option_flatten o))
        (at_number-suc s.threads i ∙ slice_get-get_or s.threads i None found.0)
        ∙ named (get_or s.threads i None) found.1
      where
        named : (o : Option ThreadRecord) → option_any (λ (x : ThreadRecord). is_meant_by name x.name) o ≡ true
            → option_map (λ (x : ThreadRecord). x.name) o ≡ Some name
        named None e = cc
        named (Some x) e = ap Some (sym (meant-same name x.name e))

    pub name-means : (x : Target) → name_at s.currencies s.threads x ≡ Some name → target_named s name ≡ Some x
    name-means x is = by (currency_named s name) refl
      where
        absent : (y : Target) → name_at s.currencies s.threads y ≡ Some name → currency_named s name ≡ None
            → position (option_any (λ (x : ThreadRecord). is_meant_by name x.name)) s.threads ≡ None → ⊥
        absent Unfunded is none nowhere = none-some name is
        absent (Currency c) is none nowhere = currency-found c is none
        absent (Thread t) is none nowhere = thread-found t is nowhere

        at : (o : Option ℕ) → currency_named s name ≡ None
            → position (option_any (λ (x : ThreadRecord). is_meant_by name x.name)) s.threads ≡ o
            → option_map Thread (option_map (λ place. place + 1) o) ≡ Some x
        at None none nowhere = absurd (absent x is none nowhere)
        at (Some i) none found =
            let next : i + 1 ≡ suc i = omega arith in
            ap (λ n. Some (Thread n)) next ∙ ap Some (own.own (Thread (suc i)) x name (found-thread i found) is some)

        by : (o : Option ℕ) → currency_named s name ≡ o → target_named s name ≡ Some x
        by None none =
            rw none (at (position (option_any (λ (x : ThreadRecord). is_meant_by name x.name)) s.threads) none refl)
        by (Some c) found = rw found (ap Some (own.own (Currency c) x name (found-currency c found) is some))

-- ---- each event

holds : (b : Bool) → not b ≡ false → b ≡ true
holds true e = refl
holds false e = cc

-- the thread that a command makes, its number, and that of a currency
abbrev made : List ℕ → ℕ → ThreadRecord
made name script = record { name = name; script = script }

abbrev last_thread : State → ℕ
last_thread s = next_place s.threads (free_threads s) + 1

abbrev last_currency : State → ℕ
last_currency s = next_place s.currencies (free_currencies s)

-- one more thread
thread-own : (s : State) (name : List ℕ) (script : ℕ) → AreOwn s → is_thread_name s.limits name ≡ true
    → is_taken s name ≡ false
    → HasOwnNames s.limits s.currencies (placed s.threads (free_threads s) (Some (made name script)))
thread-own s name script own allowed free =
    more-own s.limits s.currencies s.currencies s.threads (placed s.threads (free_threads s) (Some (made name script)))
    own (Thread (last_thread s)) name allowed (λ x is some. free-name s name some free x is) each
  where
    each : (x : Target) → (name_at s.currencies (placed s.threads (free_threads s) (Some (made name script))) x
        ≡ name_at s.currencies s.threads x) ⊎ ((x ≡ Thread (last_thread s))
        × (name_at s.currencies (placed s.threads (free_threads s) (Some (made name script))) x ≡ Some name))
    each Unfunded = inl refl
    each (Currency c) = inl refl
    each (Thread t) = from (number-next s.threads (free_threads s) (Some (made name script)) t)
      where
        from : (at_number (placed s.threads (free_threads s) (Some (made name script))) t ≡ at_number s.threads t)
            ⊎ ((t ≡ last_thread s) × (at_number (placed s.threads (free_threads s) (Some (made name script))) t
            ≡ Some (Some (made name script)))
            × ((at_number s.threads t ≡ None) ⊎ (slice_get (free_threads s) 0 ≡ Some (t - 1))))
            → (name_at s.currencies (placed s.threads (free_threads s) (Some (made name script))) (Thread t)
            ≡ name_at s.currencies s.threads (Thread t)) ⊎ ((Thread t ≡ Thread (last_thread s)) × (name_at s.currencies
            (placed s.threads (free_threads s) (Some (made name script))) (Thread t) ≡ Some name))
        from (inl same) = inl (ap
            (λ (o : Option (Option ThreadRecord)). option_map (λ (x : ThreadRecord). x.name) (option_flatten o)) same)
        from (inr (at, here, before)) = inr
            (ap Thread at, ap (λ (o : Option (Option ThreadRecord)). option_map (λ (x : ThreadRecord). x.name) (option_flatten o)) here)

-- one more currency
currency-own : (s : State) (name : List ℕ) → AreOwn s → is_name s.limits name ≡ true → is_taken s name ≡ false
    → HasOwnNames s.limits (placed s.currencies (free_currencies s) (Some name)) s.threads
currency-own s name own allowed free =
    more-own s.limits s.currencies (placed s.currencies (free_currencies s) (Some name)) s.threads s.threads own
    (Currency (last_currency s)) name allowed (λ x is some. free-name s name some free x is) each
  where
    each : (x : Target)
        → (name_at (placed s.currencies (free_currencies s) (Some name)) s.threads x ≡ name_at s.currencies s.threads x)
        ⊎ ((x ≡ Currency (last_currency s))
        × (name_at (placed s.currencies (free_currencies s) (Some name)) s.threads x ≡ Some name))
    each Unfunded = inl refl
    each (Thread t) = inl refl
    each (Currency c) = from (place-next s.currencies (free_currencies s) (Some name) c)
      where
        from : (slice_get (placed s.currencies (free_currencies s) (Some name)) c ≡ slice_get s.currencies c)
            ⊎ ((c ≡ last_currency s)
            × (slice_get (placed s.currencies (free_currencies s) (Some name)) c ≡ Some (Some name)))
            → (name_at (placed s.currencies (free_currencies s) (Some name)) s.threads (Currency c)
            ≡ name_at s.currencies s.threads (Currency c)) ⊎ ((Currency c ≡ Currency (last_currency s))
            × (name_at (placed s.currencies (free_currencies s) (Some name)) s.threads (Currency c) ≡ Some name))
        from (inl same) = inl (ap option_flatten same)
        from (inr (at, here)) = inr (ap Currency at, ap option_flatten here)

-- one fewer of each
dropped-thread : (s : State) (n : ℕ) → AreOwn s → HasOwnNames s.limits s.currencies (set_number s.threads n None)
dropped-thread s n own = fewer-own s.limits s.currencies s.currencies s.threads (set_number s.threads n None) own each
  where
    each : (x : Target) → (name_at s.currencies (set_number s.threads n None) x ≡ name_at s.currencies s.threads x)
        ⊎ (name_at s.currencies (set_number s.threads n None) x ≡ None)
    each Unfunded = inl refl
    each (Currency c) = inl refl
    each (Thread t) = from (number-set s.threads n None t)
      where
        from : (at_number (set_number s.threads n None) t ≡ at_number s.threads t)
            ⊎ ((t ≡ suc (n - 1)) × (at_number (set_number s.threads n None) t ≡ Some None))
            → (name_at s.currencies (set_number s.threads n None) (Thread t) ≡ name_at s.currencies s.threads
            (Thread t)) ⊎ (name_at s.currencies (set_number s.threads n None) (Thread t) ≡ None)
        from (inl same) = inl (ap
            (λ (o : Option (Option ThreadRecord)). option_map (λ (x : ThreadRecord). x.name) (option_flatten o)) same)
        from (inr (place, gone)) = inr (ap
            (λ (o : Option (Option ThreadRecord)). option_map (λ (x : ThreadRecord). x.name) (option_flatten o)) gone)

dropped-currency : (s : State) (n : ℕ) → AreOwn s → HasOwnNames s.limits (slice_set s.currencies n None) s.threads
dropped-currency s n own = fewer-own s.limits s.currencies (slice_set s.currencies n None) s.threads s.threads own each
  where
    each : (x : Target) → (name_at (slice_set s.currencies n None) s.threads x ≡ name_at s.currencies s.threads x)
        ⊎ (name_at (slice_set s.currencies n None) s.threads x ≡ None)
    each Unfunded = inl refl
    each (Thread t) = inl refl
    each (Currency c) = from (place-set s.currencies n None c)
      where
        from : (slice_get (slice_set s.currencies n None) c ≡ slice_get s.currencies c)
            ⊎ ((c ≡ n) × (slice_get (slice_set s.currencies n None) c ≡ Some None))
            → (name_at (slice_set s.currencies n None) s.threads (Currency c) ≡ name_at s.currencies s.threads
            (Currency c)) ⊎ (name_at (slice_set s.currencies n None) s.threads (Currency c) ≡ None)
        from (inl same) = inl (ap option_flatten same)
        from (inr (place, gone)) = inr (ap option_flatten gone)

effect-own : (s : State) (c : Command) → command_refusal s c ≡ None → AreOwn s → AreOwn (command_effect s c).state
effect-own s (MakeCurrency name) e own =
    let passed = all-pass
    ((not (is_name s.limits name), BadName) ∷ (is_taken s name, NameTaken) ∷ (are_currencies_full s, Full) ∷ []) e in
    currency-own s name own (holds (is_name s.limits name) passed.0) passed.1.0
effect-own s (RemoveCurrency currency) e own = dropped-currency s (currency_or_base s currency) own
effect-own s (MakeThread name script) e own =
    let passed = all-pass ((not (is_thread_name s.limits name), BadName) ∷ (is_taken s name, NameTaken)
    ∷ (is_no_script s script, NoScript) ∷ (are_threads_full s, Full) ∷ []) e in
    thread-own s name script own (holds (is_thread_name s.limits name) passed.0) passed.1.0
effect-own s (MakeFunded amount currency name script) e own =
    let passed = all-pass ((is_bad_amount amount, BadAmount) ∷ (is_none (currency_meant s currency), NoCurrency)
    ∷ (not (is_thread_name s.limits name), BadName)
    ∷ (is_taken s name, NameTaken) ∷ (is_no_script s script, NoScript)
    ∷ (are_tickets_full s || are_threads_full s, Full) ∷ []) e in
    thread-own s name script own (holds (is_thread_name s.limits name) passed.1.1.0) passed.1.1.1.0
effect-own s (RemoveThread thread) e own = dropped-thread s (unwrap_or (thread_meant s thread) 0) own
effect-own s c e own = own

-- nobody but the console gives and takes names
abbrev HasNamesOf : State → State → Type 0
HasNamesOf s a = (a.limits ≡ s.limits) × (a.currencies ≡ s.currencies) × (a.threads ≡ s.threads)

change-names : (by : By) (s : State) → ¬ IsConsole by → Keeps by s (HasNamesOf s)
change-names by s other a (NewCurrency name) allowed same = absurd (other allowed)
change-names by s other a (DropCurrency c) allowed same = absurd (other allowed.0)
change-names by s other a (NewThread t) allowed same = absurd (other allowed.0)
change-names by s other a (DropThread t) allowed same = absurd (other allowed.0)
change-names by s other a c allowed same = same

work-own : (s : State) (e : Event) → ¬ IsConsole (by_event s e) → AreOwn s → AreOwn (step s e).state
work-own s e other own = moved (step s e).state
    (kept (HasNamesOf s) (change-names (by_event s e) s other) (step-leads s e) (refl, refl, refl))
  where
    moved : (a : State) → HasNamesOf s a → AreOwn a
    moved a (limits, currencies, threads) = rw limits (rw currencies (rw threads own))

pub step-own : (s : State) (e : Event) → AreOwn s → AreOwn (step s e).state
step-own s (event.Command c) own =
    unrefused AreOwn s (command_refusal s c) (command_effect s c) own (λ e. effect-own s c e own)
step-own s (event.Draw p d) own = work-own s (event.Draw p d) (λ e. cc) own
step-own s (event.Expire p) own = work-own s (event.Expire p) (λ e. cc) own
step-own s (event.Trap p ran action) own = work-own s (event.Trap p ran action) (λ e. cc) own
step-own s (event.Preempt p ticks) own = work-own s (event.Preempt p ticks) (λ e. cc) own
step-own s (event.Overrun p late) own = work-own s (event.Overrun p late) (λ e. cc) own
step-own s (event.Wake t) own = work-own s (event.Wake t) (λ e. cc) own

-- ---- runs

pub opening-own : (limits : Sizes) → AreOwn (opening limits)
opening-own limits = record {
  good = λ x name is. good-in x name is;
  own = λ x y name is other some. base x name is ∙ sym (base y name other);
}
  where
    plain : (plain_names : Bool)
        → is_name (record limits { plain_names = plain_names }) (98 ∷ 97 ∷ 115 ∷ 101 ∷ []) ≡ true
    plain true = refl
    plain false = refl

    base : (x : Target) (name : List ℕ) → name_at (opening limits).currencies (opening limits).threads x ≡ Some name
        → x ≡ Currency 0
    base Unfunded name is = cc
    base (Currency zero) name is = refl
    base (Currency (suc c)) name is = cc
    base (Thread zero) name is = cc
    base (Thread (suc t)) name is = absurd (none-some name (sym (ap (λ (o : Option (Option ThreadRecord)).
        option_map (λ (x : ThreadRecord). x.name) (option_flatten o)) (at_number-suc [] t)) ∙ is))

    good-in : (x : Target) (name : List ℕ) → name_at (opening limits).currencies (opening limits).threads x ≡ Some name
        → is_allowed limits x name ≡ true
    good-in x name is =
        let at : x ≡ Currency 0 = base x name is in
        let first : name_at (opening limits).currencies (opening limits).threads (Currency 0) ≡ Some name =
        subst (λ (z : Target). name_at (opening limits).currencies (opening limits).threads z ≡ Some name) at is in
        subst (λ (z : Target). is_allowed limits z name ≡ true) (sym at)
        (ap (is_name limits) (sym (some-injective _ name first)) ∙ plain limits.plain_names)

pub after-own : (s : State) (events : List Event) → AreOwn s → AreOwn (state_after s events)
after-own s [] own = own
after-own s (e ∷ es) own = after-own (step s e).state es (step-own s e own)
