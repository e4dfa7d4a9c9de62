-- A play that writes its turns first, and then the report.
use Rattle.lot_system.proofs.Common.{Appends, Begins, Bool, Done, EndsPlay, Err, IfOk, IoFault, IsErrAnd, List, Ok, OnOk, Option, Played, Result, Write, ap, appends-both, begins-after, begins-front, false, refl, subst, sym, true, ℕ, ◌++◌, ◌≡◌}

module _ (old new : Option (List ℕ)) (turns last all : List ℕ) (is : all ≡ turns ++ last) (failed : Bool) where
  -- the writer fails among the turns
  pub fails-first : (r : Result Played IoFault) (fault : IoFault) → r ≡ Err fault
      → (fault ≡ Write) × (failed ≡ true) × Begins old new turns → EndsPlay old new failed r Done all
  fails-first r fault err told =
      rw err (rw told.0 (told.1, subst (Begins old new) (sym is) (begins-front old new turns last told.2)))

  module _ (mid : Option (List ℕ)) (first : Appends old mid turns) where
    -- or in the report
    pub fails-last : (r : Result Played IoFault) (fault : IoFault) → r ≡ Err fault
        → (fault ≡ Write) × (failed ≡ true) × Begins mid new last → EndsPlay old new failed r Done all
    fails-last r fault err told =
        rw err (rw told.0 (told.1, subst (Begins old new) (sym is) (begins-after old mid new turns last first told.2)))

    -- or not at all
    pub ends-well : (failed ≡ false) × Appends mid new last → EndsPlay old new failed (Ok Done) Done all
    ends-well told = (refl, told.0, subst (Appends old new) (sym is) (appends-both old mid new turns last first told.1))

-- a writer that fails in the only text
pub ends-err : (old new : Option (List ℕ)) (text : List ℕ) (failed : Bool) (r : Result Played IoFault) (fault : IoFault)
    → r ≡ Err fault → (fault ≡ Write) × (failed ≡ true) × Begins old new text → EndsPlay old new failed r Done text
ends-err old new text failed r fault err told = rw err (rw told.0 (told.1, told.2))

-- what is so anyhow is so on success
pub on-any : {A E P : Type 0} (r : Result A E) → P → OnOk r P
on-any (Ok done) p = p
on-any (Err fault) p = tt

-- a failure made nothing
pub nothing-made : {A E : Type 0} (P : A → Type 0) (Q : E → Type 0) (r : Result A E) → IsErrAnd r Q → IfOk r P
nothing-made P Q (Ok x) wrong = absurd wrong
nothing-made P Q (Err fault) is = tt

-- the fault that `?` hands on
pub err-is : {A E : Type 0} (r : Result A E) (fault : E) → IsErrAnd r (λ other. other ≡ fault) → r ≡ Err fault
err-is (Ok x) fault told = absurd told
err-is (Err other) fault told = ap Err told
