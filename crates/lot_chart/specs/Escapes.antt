-- Text in XML.
use Rattle.std.specs.Prelude.{ℕ, ◌==◌, nat_lt, List, [], ◌∷◌, codes, if◌then◌else◌}
use Rattle.std.specs.List.{flat_map}

-- a byte escaped for XML text; a control character becomes a space
abbrev pub escaped_byte : ℕ → List ℕ
escaped_byte byte =
    if byte == 38 then codes "&amp;" else if byte == 60 then codes "&lt;" else if byte == 62 then codes "&gt;" else if nat_lt byte 32 then codes " " else byte ∷ []

-- the text escaped for XML
abbrev pub escaped : List ℕ → List ℕ
escaped text = flat_map escaped_byte text
