-- Commands in little memory: a verb, and its arguments one after the other in a pool of bytes.
use Rattle.std.specs.Prelude.{◌≡◌, ℕ, ◌==◌, ◌≤◌, nat_le, if◌then◌else◌, Option, None, IsSome, unwrap_or, Result, Ok, Err, List, [], ◌∷◌, ◌++◌, length, take, drop}
use Rattle.std.specs.Int.{from_le_bytes, to_le_bytes, w32, w64}
use Rattle.lot_machine.specs.Arguments.{Value}
use Rattle.lot_machine.specs.Arguments as value
use Rattle.lot_machine.specs.Verbs.{◌>>=◌, command_given}
use Rattle.lot_machine.specs.declared.command.Command.{Command}
use Rattle.lot_machine.specs.declared.command.Command.TheVariants as command
use Rattle.lot_machine.specs.declared.command.Kind.TheVariants.{Tickets}
use Rattle.lot_machine.specs.declared.reference.CurrencyRef.TheVariants as currency
use Rattle.lot_machine.specs.declared.reference.TargetRef.TheVariants as target
use Rattle.lot_machine.specs.declared.reference.ThreadRef.TheVariants as thread
use Rattle.lot_machine.specs.declared.arguments.Slot.{Slot}
use Rattle.lot_machine.specs.declared.arguments.Slot.TheVariants as slot
use Rattle.lot_program.specs.declared.packed.PackedCommand.{PackedCommand}

-- the second pool begins with the bytes of the first
abbrev pub Extends : List ℕ → List ℕ → Type 0
Extends before after = (more : List ℕ) × (after ≡ before ++ more)

-- ---- reading

-- what bytes begin with, and the bytes after it, if they do not end before
abbrev pub Read : Type 0 → Type 0
Read A = Result (A × List ℕ) (Unit {0})

-- so many bytes
abbrev pub bytes_at : ℕ → List ℕ → Read (List ℕ)
bytes_at count bytes = if nat_le count (length bytes) then Ok (take count bytes, drop count bytes) else Err tt

-- what is made of that which is read
abbrev pub read_as : {A B : Type 0} → (A → B) → Read A → Read B
read_as make read = do
  found ← read
  Ok (make found.0, found.1)

-- a number of 64 bits
abbrev pub long_at : List ℕ → Read ℕ
long_at bytes = read_as (from_le_bytes w64) (bytes_at 8 bytes)

-- a number of 32 bits
abbrev pub word_at : List ℕ → Read ℕ
word_at bytes = read_as (from_le_bytes w32) (bytes_at 4 bytes)

-- a name of this length
abbrev pub name_at : ℕ → List ℕ → Read (List ℕ)
name_at len bytes = if nat_le len 16 then bytes_at len bytes else Err tt

-- An argument of this kind. A name has its length before it. In that place 17 stands before a currency's number, and
-- 18 before a thread's.
abbrev pub value_at : List ℕ → Slot → Read Value
value_at bytes slot.Amount = read_as value.Amount (long_at bytes)
value_at bytes slot.Ticket = read_as value.Ticket (long_at bytes)
value_at bytes slot.Script = read_as value.Script (word_at bytes)
value_at (len ∷ bytes) slot.Name = read_as value.Name (name_at len bytes)
value_at (tag ∷ bytes) slot.Currency =
    if tag == 17 then read_as (λ n. value.Currency (currency.Numbered n)) (word_at bytes)
    else read_as (λ name. value.Currency (currency.Named name)) (name_at tag bytes)
value_at (tag ∷ bytes) slot.Thread =
    if tag == 18 then read_as (λ n. value.Thread (thread.Numbered n)) (word_at bytes)
    else read_as (λ name. value.Thread (thread.Named name)) (name_at tag bytes)
value_at (tag ∷ bytes) slot.Target =
    if tag == 17 then read_as (λ n. value.Target (target.Currency n)) (word_at bytes)
    else if tag == 18 then read_as (λ n. value.Target (target.Thread n)) (word_at bytes)
    else read_as (λ name. value.Target (target.Named name)) (name_at tag bytes)
value_at [] other = Err tt

-- ---- writing

-- the bytes of an argument
abbrev pub bytes_of : Value → List ℕ
bytes_of (value.Amount n) = to_le_bytes w64 n
bytes_of (value.Ticket n) = to_le_bytes w64 n
bytes_of (value.NamedTicket n) = []
bytes_of (value.Currency (currency.Named name)) = length name ∷ name
bytes_of (value.Currency (currency.Numbered n)) = 17 ∷ to_le_bytes w32 n
bytes_of (value.Target (target.Named name)) = length name ∷ name
bytes_of (value.Target (target.Currency n)) = 17 ∷ to_le_bytes w32 n
bytes_of (value.Target (target.Thread n)) = 18 ∷ to_le_bytes w32 n
bytes_of (value.Thread (thread.Named name)) = length name ∷ name
bytes_of (value.Thread (thread.Numbered n)) = 18 ∷ to_le_bytes w32 n
bytes_of (value.Name name) = length name ∷ name
bytes_of (value.Script n) = to_le_bytes w32 n

-- whatever bytes come after those of the argument, they begin with it
abbrev pub IsReadAgain : Slot → Value → Type 0
IsReadAgain kind v = (rest : List ℕ) → value_at (bytes_of v ++ rest) kind ≡ Ok (v, rest)

-- a pool, and where in it the arguments of the last command begin
pub record Filling : Type 0 where
  pub start : ℕ
  pub bytes : List ℕ

-- the pool before the last command
abbrev pub filled_before : Filling → List ℕ
filled_before filling = take filling.start filling.bytes

-- the pool with these bytes at its end
abbrev pub with_bytes : Filling → List ℕ → Filling
with_bytes filling more = record filling { bytes = filling.bytes ++ more }

-- the pool with the argument at its end
abbrev pub with_value : Filling → Value → Filling
with_value filling v = with_bytes filling (bytes_of v)

-- ---- commands

-- the command that is read, if one is
abbrev pub command_read : Read (Option Command) → Option Command
command_read (Ok given) = given.0
command_read (Err missing) = None

-- the command whose arguments are in the pool, if they are
abbrev pub command_at : List ℕ → PackedCommand → Option Command
command_at pool packed = command_read (command_given value_at packed.verb (drop packed.start pool))

-- the arguments of the command are in the pool
pub record IsCommandIn (pool : List ℕ) (packed : PackedCommand) : Type 0 where
  pub inside : packed.start ≤ length pool
  pub made : IsSome (command_at pool packed)

-- the command whose arguments are in the pool
abbrev pub command_in : List ℕ → PackedCommand → Command
command_in pool packed = unwrap_or (command_at pool packed) (command.List Tickets)
