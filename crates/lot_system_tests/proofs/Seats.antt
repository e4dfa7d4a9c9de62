-- Seats in a list, taken out one by one.
use Rattle.std.proofs.Common.{◌≡◌, suc, ◌<◌, List, [], ◌∷◌, length, drop, get_or, sym, subst, arith}
use Rattle.std.specs.Prelude.{All}
use Rattle.lot_station.specs.BatonSeats.{Seat, Baton, IsSeatOf}

-- the first of a list, and what it leaves
pub removed : (b : Baton) (l m : List Seat) (y : Seat) → All (IsSeatOf b) l → 0 < length l → y ≡ get_or l 0 y
    → m ≡ drop 1 l → IsSeatOf b y × All (IsSeatOf b) m
removed b [] m y all some e rest = absurd (omega (arith, some))
removed b (x ∷ xs) m y all some e rest =
    (subst (IsSeatOf b) (sym e) (all 0 x (omega arith)), subst (λ l. All (IsSeatOf b) l) (sym rest) (λ k d low. all (suc k) d (omega (arith, low))))

-- seats of one station, under another name
pub handed : (b c : Baton) (l m : List Seat) → c ≡ b → m ≡ l → All (IsSeatOf b) l → All (IsSeatOf c) m
handed b c l m same rest all =
    subst (λ (a : Baton). All (IsSeatOf a) m) (sym same) (subst (λ (k : List Seat). All (IsSeatOf b) k) (sym rest) all)
