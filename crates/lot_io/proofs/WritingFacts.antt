-- Text written in parts.
use Rattle.std.proofs.Common.{◌≡◌, ℕ, ◌+◌, Bool, Option, Some, None, Result, Ok, Err, List, [], ◌++◌, take, drop, sym, subst, ◌∙◌, ap, append_assoc, append-nil}
use Rattle.std.proofs.Math.Seq.{take-add}
use Rattle.std.proofs.lemmas.List.{take-append-drop}
use Rattle.std.specs.Io.KnownBytes.{Appends, Keeps}
use Rattle.lot_io.specs.Watching.{AppendsBeginning}
use Rattle.lot_io.specs.Writing.{Begins, Written}
use Rattle.lot_io.specs.declared.fault.IoFault.{IoFault}

-- what is written after what was written
pub appends-both : (old mid new : Option (List ℕ)) (a b : List ℕ) → Appends old mid a → Appends mid new b
    → Appends old new (a ++ b)
appends-both None mid new a b one two = tt
appends-both (Some xs) None new a b one two = absurd one
appends-both (Some xs) (Some ys) None a b one two = absurd two
appends-both (Some xs) (Some ys) (Some zs) a b one two = two ∙ ap (λ ws. ws ++ b) one ∙ append_assoc xs a b

-- nothing is written
pub appends-none : (old : Option (List ℕ)) → Appends old old []
appends-none None = tt
appends-none (Some xs) = sym (append-nil xs)

-- the same of bytes that stay as they are
pub keeps-appends : (old new : Option (List ℕ)) → Keeps old new → Appends old new []
keeps-appends None new same = tt
keeps-appends (Some xs) None same = absurd same
keeps-appends (Some xs) (Some ys) same = same ∙ sym (append-nil xs)

-- the first bytes, and then all the rest
pub appends-rest : (old mid new : Option (List ℕ)) (taken : ℕ) (bytes rest : List ℕ) → rest ≡ drop taken bytes
    → Appends old mid (take taken bytes) → Appends mid new rest → Appends old new bytes
appends-rest old mid new taken bytes rest following one two =
    subst (Appends old new) (ap (λ (xs : List ℕ). take taken bytes ++ xs) following ∙ take-append-drop taken bytes)
    (appends-both old mid new (take taken bytes) rest one two)

-- the first bytes, and then some of the rest
pub appends-more : (old mid new : Option (List ℕ)) (taken count : ℕ) (bytes rest : List ℕ) → rest ≡ drop taken bytes
    → Appends old mid (take taken bytes) → Appends mid new (take count rest)
    → Appends old new (take (taken + count) bytes)
appends-more old mid new taken count bytes rest following one two =
    subst (Appends old new) (ap (λ (xs : List ℕ). take taken bytes ++ take count xs) following
    ∙ sym (take-add taken count bytes)) (appends-both old mid new (take taken bytes) (take count rest) one two)

-- the first of the bytes are a beginning of them
pub begins-with : (old new : Option (List ℕ)) (bytes : List ℕ) → AppendsBeginning old new bytes → Begins old new bytes
begins-with old new bytes (count, some) = (take count bytes, drop count bytes, sym (take-append-drop count bytes), some)

-- a beginning of what follows is one of both
pub begins-after : (old mid new : Option (List ℕ)) (a b : List ℕ) → Appends old mid a → Begins mid new b
    → Begins old new (a ++ b)
begins-after old mid new a b one two =
    (a ++ two.0, two.1, ap (λ ws. a ++ ws) two.2 ∙ sym (append_assoc a two.0 two.1), appends-both old mid new a two.0 one two.3)

-- a beginning of what comes first is one of both
pub begins-front : (old new : Option (List ℕ)) (a b : List ℕ) → Begins old new a → Begins old new (a ++ b)
begins-front old new a b one = (one.0, one.1 ++ b, ap (λ ws. ws ++ b) one.2 ∙ append_assoc one.0 one.1 b, one.3)

-- what is written after what was written already
pub writes-after : {U : Type 0} (old mid new : Option (List ℕ)) (failed : Bool) (r : Result U IoFault) (a b : List ℕ)
    → Appends old mid a → Written mid new failed r b → Written old new failed r (a ++ b)
writes-after old mid new failed (Ok done) a b one two = (two.0, appends-both old mid new a b one two.1)
writes-after old mid new failed (Err fault) a b one two = (two.0, two.1, begins-after old mid new a b one two.2)

-- flushing writes nothing more
pub writes-flushed : {U : Type 0} (old mid new : Option (List ℕ)) (failed : Bool) (r : Result U IoFault) (a : List ℕ)
    → Appends old mid a → Written mid new failed r [] → Written old new failed r a
writes-flushed old mid new failed r a one two =
    subst (Written old new failed r) (append-nil a) (writes-after old mid new failed r a [] one two)
