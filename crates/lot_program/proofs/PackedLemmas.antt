-- What is read of a pool stays when the pool grows, and what was written is read again.
use Rattle.std.proofs.Common.{All, Bool, Err, List, Ok, Option, Some, ap, append_assoc, arith, drop, flat_map, fold, false, length, length-append, map, refl, slice_index_or, sym, take, true, ℕ, [], ◌++◌, ◌∙◌, ◌∷◌, ◌≡◌, ◌≤◌}
use Rattle.std.specs.Prelude.{IsOk, IsSome, if◌then◌else◌, nat_le, ◌==◌}
use Rattle.std.proofs.lemmas.Bool.{leb-true}
use Rattle.std.proofs.lemmas.List.{append-nil, drop-append-le, drop_at, map-append, take-append-drop, take-append-le, take_all}
use Rattle.std.proofs.lemmas.List.Elements.{All-tail}
use Rattle.lot_machine.specs.Arguments.{Value}
use Rattle.lot_machine.specs.Commands.{command_from, form, parts}
use Rattle.lot_machine.specs.Verbs.{EachTaken, command_given, values_given, ◌>>=◌}
use Rattle.lot_machine.specs.declared.command.Command.{Command}
use Rattle.lot_machine.specs.declared.arguments.Slot.{Slot}
use Rattle.lot_machine.specs.declared.arguments.Slot.TheVariants as slot
use Rattle.lot_machine.specs.declared.command.Verb.{Verb}
use Rattle.lot_program.specs.declared.packed.PackedCommand.{PackedCommand}
use Rattle.lot_program.specs.Packed.{Extends, Filling, IsCommandIn, IsReadAgain, Read, bytes_at, bytes_of, command_in, command_read, filled_before, long_at, read_as, command_at, name_at, value_at, with_value, word_at}

-- ---- more bytes

-- what is read, with more bytes after it
abbrev grown : {A : Type 0} → List ℕ → Read A → Read A
grown more (Ok found) = Ok (found.0, found.1 ++ more)
grown more (Err e) = Err e

-- what is read is the same before and after more bytes come
abbrev IsKept : {A : Type 0} → List ℕ → Read A → Read A → Type 0
IsKept more before after = IsOk before → after ≡ grown more before

then-kept : {A B : Type 0} (f : A × List ℕ → Read B) (more : List ℕ) (r s : Read A) → IsKept more r s
    → ((x : A) (bytes : List ℕ) → IsKept more (f (x, bytes)) (f (x, bytes ++ more))) → IsKept more (r >>= f) (s >>= f)
then-kept f more (Ok found) s kept next ok = ap (λ read. read >>= f) (kept refl) ∙ next found.0 found.1 ok
then-kept f more (Err e) s kept next ok = cc

read-as-kept : {A B : Type 0} (f : A → B) (more : List ℕ) (r s : Read A) → IsKept more r s
    → IsKept more (read_as f r) (read_as f s)
read-as-kept f more r s kept = then-kept (λ found. Ok (f found.0, found.1)) more r s kept (λ x bytes ok. refl)

either-kept : {A : Type 0} (b : Bool) (more : List ℕ) (r s r' s' : Read A) → IsKept more r s → IsKept more r' s'
    → IsKept more (if b then r else r') (if b then s else s')
either-kept true more r s r' s' first second = first
either-kept false more r s r' s' first second = second

bytes-kept : (count : ℕ) (bytes more : List ℕ) → IsKept more (bytes_at count bytes) (bytes_at count (bytes ++ more))
bytes-kept count bytes more = at (nat_le count (length bytes)) refl
  where
    at : (b : Bool) → nat_le count (length bytes) ≡ b
        → IsKept more (if b then Ok (take count bytes, drop count bytes) else Err tt) (bytes_at count (bytes ++ more))
    at true is ok =
        let within : count ≤ length bytes = leb-true count (length bytes) is in
        let still : nat_le count (length (bytes ++ more)) ≡ true = search (arith, length-append bytes more) in
        rw (still, take-append-le count bytes more within, drop-append-le count bytes more within) refl
    at false is ok = cc

word-kept : (bytes more : List ℕ) → IsKept more (word_at bytes) (word_at (bytes ++ more))
word-kept bytes more = read-as-kept _ more _ _ (bytes-kept 4 bytes more)

long-kept : (bytes more : List ℕ) → IsKept more (long_at bytes) (long_at (bytes ++ more))
long-kept bytes more = read-as-kept _ more _ _ (bytes-kept 8 bytes more)

name-kept : (len : ℕ) (bytes more : List ℕ) → IsKept more (name_at len bytes) (name_at len (bytes ++ more))
name-kept len bytes more = either-kept (nat_le len 16) more _ _ _ _ (bytes-kept len bytes more) (λ ok. refl)

value-kept : (bytes more : List ℕ) (kind : Slot) → IsKept more (value_at bytes kind) (value_at (bytes ++ more) kind)
value-kept bytes more slot.Amount = read-as-kept _ more _ _ (long-kept bytes more)
value-kept bytes more slot.Ticket = read-as-kept _ more _ _ (long-kept bytes more)
value-kept bytes more slot.Script = read-as-kept _ more _ _ (word-kept bytes more)
value-kept (len ∷ bytes) more slot.Name = read-as-kept _ more _ _ (name-kept len bytes more)
value-kept (tag ∷ bytes) more slot.Currency =
    either-kept (tag == 17) more _ _ _ _ (read-as-kept _ more _ _ (word-kept bytes more))
    (read-as-kept _ more _ _ (name-kept tag bytes more))
value-kept (tag ∷ bytes) more slot.Thread =
    either-kept (tag == 18) more _ _ _ _ (read-as-kept _ more _ _ (word-kept bytes more))
    (read-as-kept _ more _ _ (name-kept tag bytes more))
value-kept (tag ∷ bytes) more slot.Target =
    either-kept (tag == 17) more _ _ _ _ (read-as-kept _ more _ _ (word-kept bytes more))
    (either-kept (tag == 18) more _ _ _ _ (read-as-kept _ more _ _ (word-kept bytes more))
    (read-as-kept _ more _ _ (name-kept tag bytes more)))
value-kept [] more other = λ ok. cc

values-kept : (kinds : List Slot) (bytes more : List ℕ)
    → IsKept more (values_given value_at kinds bytes) (values_given value_at kinds (bytes ++ more))
values-kept [] bytes more = λ ok. refl
values-kept (kind ∷ kinds) bytes more =
    then-kept _ more _ _ (value-kept bytes more kind) (λ v rest. read-as-kept _ more _ _ (values-kept kinds rest more))

command-kept : (v : Verb) (bytes more : List ℕ)
    → IsKept more (command_given value_at v bytes) (command_given value_at v (bytes ++ more))
command-kept v bytes more = read-as-kept _ more _ _ (values-kept (form v) bytes more)

-- ---- pools that grow

-- the pool, once something came after the place where a command began
pub extends-begun : (pool : List ℕ) (begun filling : Filling) → begun.start ≡ length pool → begun.bytes ≡ pool
    → filled_before filling ≡ filled_before begun
    → Extends pool filling.bytes
extends-begun pool begun filling start bytes kept =
    let before : filled_before begun ≡ pool = rw (start, bytes) (take_all (length pool) pool (omega arith)) in
    let rest = drop filling.start filling.bytes in
    (rest, sym (take-append-drop filling.start filling.bytes) ∙ ap (λ (pool : List ℕ). pool ++ rest) (kept ∙ before))

read-is-ok : (r : Read (Option Command)) → IsSome (command_read r) → IsOk r
read-is-ok (Ok given) some = refl
read-is-ok (Err e) some = cc

read-grown : (more : List ℕ) (r : Read (Option Command)) → command_read (grown more r) ≡ command_read r
read-grown more (Ok given) = refl
read-grown more (Err e) = refl

command-at-kept : (before after : List ℕ) → Extends before after → (c : PackedCommand) → IsCommandIn before c
    → command_at after c ≡ command_at before c
command-at-kept before after more c is =
    let given = command_given value_at c.verb (drop c.start before) in
    let there = ap (drop c.start) more.1 ∙ drop-append-le c.start before more.0 is.inside in
    ap (λ (bytes : List ℕ). command_read (command_given value_at c.verb bytes)) there
    ∙ ap command_read (command-kept c.verb (drop c.start before) more.0 (read-is-ok given is.made))
    ∙ read-grown more.0 given

command-in : (before after : List ℕ) → Extends before after → (c : PackedCommand) → IsCommandIn before c
    → IsCommandIn after c
command-in before after more c is = record {
  inside = omega (arith, is.inside, ap length more.1, length-append before more.0);
  made = rw (command-at-kept before after more c is) is.made;
}

pub commands-in : (before after : List ℕ) → Extends before after → (cs : List PackedCommand)
    → All (IsCommandIn before) cs → All (IsCommandIn after) cs
commands-in before after grown cs within =
    λ k d below. command-in before after grown (slice_index_or cs k d) (within k d below)

pub commands-kept : (before after : List ℕ) → Extends before after → (cs : List PackedCommand)
    → All (IsCommandIn before) cs
    → map (command_in after) cs ≡ map (command_in before) cs
commands-kept before after grown [] within = refl
commands-kept before after grown (c ∷ cs) within =
    let first = command-at-kept before after grown c (within 0 c (omega arith)) in
    rw (first, commands-kept before after grown cs (All-tail (IsCommandIn before) c cs within)) refl

pub commands-added : (before after : List ℕ) → Extends before after
    → (cs : List PackedCommand) (p : PackedCommand) (c : Command) → All (IsCommandIn before) cs
    → command_in after p ≡ c → map (command_in after) (cs ++ p ∷ []) ≡ map (command_in before) cs ++ c ∷ []
commands-added before after grown cs p c within same =
    map-append (command_in after) cs (p ∷ []) ∙ ap (λ (x : Command). map (command_in after) cs ++ x ∷ []) same
    ∙ ap (λ (xs : List Command). xs ++ c ∷ []) (commands-kept before after grown cs within)

-- ---- what was written

values-again : (kinds : List Slot) (values : List Value) → EachTaken IsReadAgain kinds values → (rest : List ℕ)
    → values_given value_at kinds (flat_map bytes_of values ++ rest) ≡ Ok (values, rest)
values-again [] [] taken rest = refl
values-again [] (v ∷ values) taken rest = absurd taken
values-again (kind ∷ kinds) [] taken rest = absurd taken
values-again (kind ∷ kinds) (v ∷ values) taken rest =
    let first = ap (λ (bytes : List ℕ). value_at bytes kind) (append_assoc (bytes_of v) (flat_map bytes_of values) rest)
    ∙ taken.0 (flat_map bytes_of values ++ rest) in
    ap (λ (read : Read Value).
    read >>= (λ found. values_given value_at kinds found.1 >>= (λ others. Ok (found.0 ∷ others.0, others.1)))) first
    ∙ ap (read_as (λ (vs : List Value). v ∷ vs)) (values-again kinds values taken.1 rest)

-- the pool after these arguments
values-added : (filling : Filling) (values : List Value)
    → (fold with_value filling values).bytes ≡ filling.bytes ++ flat_map bytes_of values
values-added filling [] = sym (append-nil filling.bytes)
values-added filling (v ∷ values) = values-added (with_value filling v) values
    ∙ append_assoc filling.bytes (bytes_of v) (flat_map bytes_of values)

-- a command whose arguments came to the end of the pool
pub command-added : (c : Command) (pool : List ℕ) (begun filling : Filling) (packed : PackedCommand)
    → begun.bytes ≡ pool → packed.start ≡ length pool
    → packed.verb ≡ (parts c).0 → filling ≡ fold with_value begun (parts c).1
    → EachTaken IsReadAgain (form (parts c).0) (parts c).1
    → command_from (parts c).0 (parts c).1 ≡ Some c
    → IsCommandIn filling.bytes packed × (command_in filling.bytes packed ≡ c)
command-added c pool begun filling packed begins start verb added taken back =
    let all = flat_map bytes_of (parts c).1 in
    let there : filling.bytes ≡ pool ++ all =
    ap (λ (f : Filling). f.bytes) added ∙ values-added begun (parts c).1
    ∙ ap (λ (bytes : List ℕ). bytes ++ all) begins in
    let rest : drop packed.start filling.bytes ≡ all ++ [] = ap (drop packed.start) there
    ∙ drop_at pool all packed.start (sym start) ∙ sym (append-nil all) in
    let read = ap (λ (read : Read (List Value)). command_read (read_as (command_from (parts c).0) read))
    (values-again (form (parts c).0) (parts c).1 taken []) in
    let is : command_at filling.bytes packed ≡ Some c = rw (verb, rest) (read ∙ back) in
    let inside : packed.start ≤ length filling.bytes = omega (arith, start, ap length there, length-append pool all) in
    (record { inside = inside; made = rw is refl }, rw is refl)
