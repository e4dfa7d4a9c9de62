-- A reader's handle, in place, as a struct that code can read through a reference.
use Rattle.std.specs.Borrow.{Lends, MutBor, Fml}
use Rattle.lot_c.specs.declared.reader.ReadHandle.{ReadHandle}
use Rattle.lot_c.specs.declared.reader.Reader.{Reader}
use Rattle.lot_c.specs.contracts.reader.ReadHandle as handle
use Rattle.lot_c.specs.contracts.reader.Reader as reader

-- the reader with the parts of the handle
abbrev pub reader_of : ReadHandle → Reader
reader_of h = record { at = h.at; kernel = h.kernel; life = h.life; share = h.share }

-- the handle with the parts of the reader
abbrev pub handle_of : Reader → ReadHandle
handle_of r = record { at = r.at; kernel = r.kernel; life = r.life; share = r.share }

-- the handle ends with the parts of the last value of the reader behind r
abbrev pub LendsReader : MutBor ReadHandle → MutBor Reader → Fml
LendsReader h r = Lends handle.the_row reader.the_row h r handle_of
