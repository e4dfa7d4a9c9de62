-- Names in plain fields.
use Rattle.std.specs.Prelude.{ℕ, ◌-◌, Bool, List, ◌++◌, Result, Ok, Err, nat_lt, length, take, replicate, if◌then◌else◌}
use Rattle.lot_machine.specs.declared.sizes.Sizes.{Sizes}
use Rattle.lot_machine.specs.Commands.{is_name, is_thread_name}
use Rattle.lot_c.specs.declared.name.PlainName.{PlainName}
use Rattle.lot_c.specs.declared.status.Status.{Status}
use Rattle.lot_c.specs.declared.status.Status.TheVariants.{LongName, BadName}

-- the plain fields of a name of at most 16 bytes, padded with 0
abbrev pub plain_name : List ℕ → PlainName
plain_name name = record { length = length name; bytes = name ++ replicate (16 - length name) 0 }

-- the bytes of the name in these fields
abbrev pub spelled : PlainName → List ℕ
spelled n = take n.length n.bytes

-- the name in these fields if it passes the test, or the status for one that is too long or fails it
abbrev pub name_passing : (List ℕ → Bool) → PlainName → Result (List ℕ) Status
name_passing passes n = if nat_lt 16 n.length then Err LongName else if passes (spelled n) then Ok (spelled n) else Err BadName

-- the name in these fields, or the status for one that a kernel with these sizes doesn't take
abbrev pub name_meant : Sizes → PlainName → Result (List ℕ) Status
name_meant sizes = name_passing (is_name sizes)

-- the name of a new thread in these fields, which may have none, or the status for one that the kernel doesn't take
abbrev pub thread_name_meant : Sizes → PlainName → Result (List ℕ) Status
thread_name_meant sizes = name_passing (is_thread_name sizes)
