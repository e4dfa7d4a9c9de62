-- A script whose sleeps are yields is a script.
use Rattle.lot_script.proofs.Common.{All, All-cons, All-head, All-nil, All-tail, CanNest, IsLine, IsScript, List, Nests, ScriptLine, Sleep, ap, arith, fold, length, length-map, loops_after, map, open_count, refl, without_sleep, ℕ, [], ◌<◌, ◌∙◌, ◌∷◌, ◌≡◌, ◌≤◌}
use Rattle.lot_simulation.specs.declared.script.ScriptLine.TheVariants as line

is-line : (l : ScriptLine) → IsLine l → IsLine (without_sleep l)
is-line (line.Trap (Sleep n)) good = tt
is-line other good = good

can-nest : (loops : ℕ) (l : ScriptLine) → CanNest loops l → CanNest loops (without_sleep l)
can-nest loops (line.Trap (Sleep n)) can = tt
can-nest loops other can = can

same-loops : (loops : ℕ) (l : ScriptLine) → loops_after loops (without_sleep l) ≡ loops_after loops l
same-loops loops (line.Trap (Sleep n)) = refl
same-loops loops other = refl

lines-good : (lines : List ScriptLine) → All IsLine lines → All IsLine (map without_sleep lines)
lines-good [] all = All-nil IsLine
lines-good (l ∷ lines) all =
    All-cons IsLine (without_sleep l) (map without_sleep lines) (is-line l (All-head IsLine l lines all))
    (lines-good lines (All-tail IsLine l lines all))

lines-nest : (loops : ℕ) (lines : List ScriptLine) → Nests loops lines → Nests loops (map without_sleep lines)
lines-nest loops [] nests = tt
lines-nest loops (l ∷ lines) nests =
    (can-nest loops l nests.0, rw (same-loops loops l) (lines-nest (loops_after loops l) lines nests.1))

lines-open : (loops : ℕ) (lines : List ScriptLine)
    → fold loops_after loops (map without_sleep lines) ≡ fold loops_after loops lines
lines-open loops [] = refl
lines-open loops (l ∷ lines) =
    ap (λ k. fold loops_after k (map without_sleep lines)) (same-loops loops l) ∙ lines-open (loops_after loops l) lines

pub awake-script : (lines : List ScriptLine) → IsScript lines → IsScript (map without_sleep lines)
awake-script lines is = record {
  count = omega (arith, is.count, length-map lines without_sleep);
  each = lines-good lines is.each;
  nests = lines-nest 0 lines is.nests;
  closed = lines-open 0 lines ∙ is.closed;
}
