-- Parts of the lines of listings.
use Rattle.std.specs.Prelude.{ℕ, Option, List, ◌++◌, codes, unwrap_or}
use Rattle.std.specs.Fmt.{decimal}
use Rattle.lot_machine.specs.declared.command.Kind.{Kind}
use Rattle.lot_machine.specs.declared.command.Kind.TheVariants.{Tickets, Currencies, Threads}
use Rattle.lot_simulation.specs.Texts.{newline}

-- the first line: the listing's kind, and the number of its rows
abbrev pub listing_line : Kind → ℕ → List ℕ
listing_line Tickets rows = codes "lstkt " ++ (decimal rows ++ newline)
listing_line Currencies rows = codes "lscur " ++ (decimal rows ++ newline)
listing_line Threads rows = codes "lsthr " ++ (decimal rows ++ newline)

-- a ticket's target, or `-` for none
abbrev pub target_text : Option (List ℕ) → List ℕ
target_text target = unwrap_or target (codes "-")

-- the end of a line: the draws won and the ticks used
abbrev pub used_text : ℕ → ℕ → List ℕ
used_text quanta ticks = codes " quanta " ++ (decimal quanta ++ (codes " ticks " ++ (decimal ticks ++ newline)))
