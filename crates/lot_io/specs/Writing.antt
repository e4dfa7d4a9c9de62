-- The text written, or put on a page.
use Rattle.std.specs.Prelude.{◌≡◌, ℕ, Bool, true, false, Option, Result, Ok, Err, List, ◌++◌}
use Rattle.std.specs.Io.KnownBytes.{Appends}
use Rattle.lot_io.specs.Watching.{Watch}
use Rattle.lot_io.specs.declared.fault.IoFault.{IoFault}
use Rattle.lot_io.specs.declared.fault.IoFault.TheVariants.{Memory, Read, Write}

-- a beginning of the text was written
abbrev pub Begins : Option (List ℕ) → Option (List ℕ) → List ℕ → Type 0
Begins old new text = (written left : List ℕ) × (text ≡ written ++ left) × Appends old new written

-- On Ok the text was written, and the writer hasn't failed. Otherwise it has failed, and a beginning of the text was
-- written.
abbrev pub Written : {U : Type 0} → Option (List ℕ) → Option (List ℕ) → Bool → Result U IoFault → List ℕ → Type 0
Written old new failed (Ok done) text = (failed ≡ false) × Appends old new text
Written old new failed (Err fault) text = (fault ≡ Write) × (failed ≡ true) × Begins old new text

-- `Written` for a watched writer, whose contents `contents` returns
abbrev pub Writes : {T : Type 0} {U : Type 0} → (T → Option (List ℕ)) → Watch T → Watch T → Result U IoFault → List ℕ → Type 0
Writes contents old new result text = Written (contents old.inner) (contents new.inner) new.failed result text

-- The text was put on the page: the earlier page followed by the text equals the bytes written since followed by the
-- present page.
abbrev pub IsPut : Option (List ℕ) → Option (List ℕ) → List ℕ → List ℕ → List ℕ → Type 0
IsPut old new before after text = (written : List ℕ) × (before ++ text ≡ written ++ after) × Appends old new written

-- On Ok the text was put on the page, and the writer hasn't failed. Otherwise it has failed, and a beginning of the
-- earlier page followed by the text was written.
abbrev pub Put : {U : Type 0} → Option (List ℕ) → Option (List ℕ) → List ℕ → List ℕ → Bool → Result U IoFault → List ℕ → Type 0
Put old new before after failed (Ok done) text = (failed ≡ false) × IsPut old new before after text
Put old new before after failed (Err fault) text = (fault ≡ Write) × (failed ≡ true) × Begins old new (before ++ text)

-- `Put` for a watched writer, whose contents `contents` returns
abbrev pub Puts : {T : Type 0} {U : Type 0} → (T → Option (List ℕ)) → Watch T → Watch T → List ℕ → List ℕ → Result U IoFault → List ℕ → Type 0
Puts contents old new before after result text = Put (contents old.inner) (contents new.inner) before after new.failed result text

-- Read if the reader has failed, Write if the writer has, and Memory if neither has
abbrev pub IsFaultOf : IoFault → Bool → Bool → Type 0
IsFaultOf Memory reader writer = (reader ≡ false) × (writer ≡ false)
IsFaultOf Read reader writer = (reader ≡ true) × (writer ≡ false)
IsFaultOf Write reader writer = (reader ≡ false) × (writer ≡ true)
