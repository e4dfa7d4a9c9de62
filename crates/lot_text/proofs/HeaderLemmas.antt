-- Header lines, late and not.
use Rattle.lot_text.proofs.Common.{Fails, HeaderWord, LineFault, List, None, Ok, Option, Reading, Some, arith, false, header_in_order, header_line, header_place, is_after_seed, is_given, is_late, is_some, leb-false, nat_le, or_parts, refl, true≢false, with_header_word, ℕ, ◌<◌, ◌||◌, ◌≡◌}
use Rattle.lot_simulation.specs.declared.input.HeaderWord.TheVariants as header
use Rattle.lot_text.proofs.FaultLemmas.{Fails-then}

-- ---- the place of a word

-- the place of an early word is above those that are passed
pub early-place : (r : Reading) (word : HeaderWord) → is_late r word ≡ false → r.place < header_place word
early-place r word early =
    let passed = nat_le (header_place word) r.place in
    leb-false (header_place word) r.place
    (or_parts passed (is_given r word) (or_parts (passed || is_given r word) (is_after_seed r word) early).0).0

-- so it isn't the first line's
pub early-above : (r : Reading) (word : HeaderWord) → is_late r word ≡ false → 0 < header_place word
early-above r word early = omega (arith, early-place r word early)

-- an early `processors` comes before `seed`
pub early-unseeded : (r : Reading) → is_late r header.Processors ≡ false → r.seeds ≡ None
early-unseeded r early =
    none-from r.seeds (or_parts (nat_le 1 r.place || is_given r header.Processors) (is_some r.seeds) early).1
  where
    none-from : (o : Option (List ℕ)) → is_some o ≡ false → o ≡ None
    none-from None is = refl
    none-from (Some x) is = absurd (true≢false is)

-- ---- the reading after a line

-- an early line fails as its arguments do
pub header-fails : (fault : LineFault) (r : Reading) (word : HeaderWord) (tokens : List (List ℕ))
    → is_late r word ≡ false
    → Fails fault (header_line r word tokens) → Fails fault (header_in_order r word tokens)
header-fails fault r word tokens early fails =
    rw early (Fails-then fault (header_line r word tokens) (λ after. Ok (with_header_word after word)) fails)

-- if they are read, its word is one of those given
pub header-read : (r after : Reading) (word : HeaderWord) (tokens : List (List ℕ)) → is_late r word ≡ false
    → header_line r word tokens ≡ Ok after
    → header_in_order r word tokens ≡ Ok (with_header_word after word)
header-read r after word tokens early read = rw (early, read) refl
