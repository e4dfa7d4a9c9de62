-- The seats' shares add up.
use Rattle.lot_station.proofs.Common.{AddUp, All, Bool, HasEachSeat, List, Program, Seat, Seen, Shows, Some, World, ap, arith, dite, eq-eqb, false, if◌then◌else◌, length, ne_eqb, opening_world, refl, share, slice_get, suc, sum_by, sum_by-cons, summed, summed_by, sym, system_after, system_turn, true, turns_by, zero, ℕ, ℕ_discrete, [], ◌++◌, ◌+◌, ◌<◌, ◌==◌, ◌∙◌, ◌∷◌, ◌≡◌, ◌≢◌, ◌≤◌}
use Rattle.lot_station.proofs.BatonClosing.{all_at}
use Rattle.lot_station.proofs.BatonShares.{turns_by-append, turns_by-cons}

-- g j + g (j + 1) + .., n numbers
from_on : (ℕ → ℕ) → ℕ → ℕ → ℕ
from_on g j zero = 0
from_on g j (suc n) = g j + from_on g (j + 1) n

from_on-zero : (j n : ℕ) → from_on (λ b. 0) j n ≡ 0
unfolding from_on
from_on-zero j zero = refl
from_on-zero j (suc n) = omega (arith, from_on-zero (j + 1) n)

from_on-add : (g h : ℕ → ℕ) (j n : ℕ) → from_on (λ b. g b + h b) j n ≡ from_on g j n + from_on h j n
unfolding from_on
from_on-add g h j zero = omega arith
from_on-add g h j (suc n) = omega (arith, from_on-add g h (j + 1) n)

at_one : (a b k : ℕ) → a ≡ b → (if a == b then k else 0) ≡ k
at_one a b k e = ap (λ (t : Bool). if t then k else 0) (eq-eqb a b e)

at_other : (a b k : ℕ) → a ≢ b → (if a == b then k else 0) ≡ 0
at_other a b k e = ap (λ (t : Bool). if t then k else 0) (ne_eqb a b e)

none : (a k j n : ℕ) → a < j → from_on (λ b. if a == b then k else 0) j n ≡ 0
unfolding from_on
none a k j zero low = refl
none a k j (suc n) low = let first = at_other a j k (λ e. omega (arith, low, e)) in
    omega (arith, first, none a k (j + 1) n (omega (arith, low)))

point : (a k j n : ℕ) → j ≤ a → a < j + n → from_on (λ b. if a == b then k else 0) j n ≡ k
unfolding from_on
point a k j zero low high = absurd (omega (arith, low, high))
point a k j (suc n) low high =
    dite (ℕ_discrete a j)
    (λ e. let first = at_one a j k e in let rest = none a k (j + 1) n (omega (arith, e)) in omega (arith, first, rest))
    (λ e. let first = at_other a j k e in let further : j + 1 ≤ a = omega (arith, low, e) in
    let rest = point a k (j + 1) n further (omega (arith, high)) in omega (arith, first, rest))

by_actors : (f : World → ℕ → ℕ) (program : Program) (p : ℕ) (w : World) (h : List ℕ) → All (λ a. a ≤ p) h
    → from_on (λ b. summed_by f program b w h) 0 (p + 1) ≡ summed f program w h
by_actors f program p w [] all = from_on-zero 0 (p + 1)
by_actors f program p w (a ∷ rest) all =
    let next = (system_turn program w a).world in
    let first : a ≤ p = all 0 0 (omega arith) in
    let others : All (λ b. b ≤ p) rest = λ k d low. all (suc k) d (omega (arith, low)) in
    from_on-add (λ b. if a == b then f w a else 0) (λ b. summed_by f program b next rest) 0 (p + 1)
    ∙ (λ i. point a (f w a) 0 (p + 1) (omega arith) (omega (arith, first)) i + by_actors f program p next rest others i)

summed_by-append : (f : World → ℕ → ℕ) (program : Program) (b : ℕ) (w : World) (h rest : List ℕ)
    → summed_by f program b w (h ++ rest)
    ≡ summed_by f program b w h + summed_by f program b (system_after program w h) rest
summed_by-append f program b w [] rest = omega arith
summed_by-append f program b w (a ∷ h) rest =
    omega (arith, summed_by-append f program b (system_turn program w a).world h rest)

none_of_it : (f : World → ℕ → ℕ) (program : Program) (b : ℕ) (w : World) (h : List ℕ) → turns_by b h ≡ 0
    → summed_by f program b w h ≡ 0
none_of_it f program b w [] e = refl
none_of_it f program b w (a ∷ h) e =
    both (a == b) (turns_by b h) (summed_by f program b (system_turn program w a).world h) (f w a)
    (sym (turns_by-cons b a h) ∙ e) (none_of_it f program b (system_turn program w a).world h)
  where
    both : (t : Bool) (n m k : ℕ) → (if t then 1 else 0) + n ≡ 0 → (n ≡ 0 → m ≡ 0) → (if t then k else 0) + m ≡ 0
    both true n m k e f = absurd (omega (arith, e))
    both false n m k e f = let z : n ≡ 0 = omega (arith, e) in omega (arith, f z)

-- since a seat last saw the system its actor has done nothing
still : (f : World → ℕ → ℕ) (x : Seen) (s : Seat) → Shows x s
    → share f s ≡ summed_by f x.setting.program s.actor (opening_world x.setting.program) x.history
still f x s shows =
    let rest = shows.begins.1.0 in
    let h = s.seen.history in
    let program = x.setting.program in
    let w = opening_world program in
    let same = shows.begins.1.1 in
    let quiet : turns_by s.actor rest ≡ 0 =
    omega (arith, turns_by-append s.actor h rest, sym (ap (turns_by s.actor) same) ∙ shows.turns) in
    let here : summed_by f program s.actor w x.history ≡ summed_by f program s.actor w h =
    ap (summed_by f program s.actor w) same ∙ summed_by-append f program s.actor w h rest
    ∙ omega (arith, none_of_it f program s.actor (system_after program w h) rest quiet) in
    sym (here ∙ ap (λ p. summed_by f p s.actor (opening_world p) h) (ap (λ y. y.program) shows.begins.0))

in_a_row : (f : Seat → ℕ) (g : ℕ → ℕ) (j : ℕ) (seats : List Seat)
    → ((k : ℕ) (s : Seat) → slice_get seats k ≡ Some s → f s ≡ g (j + k)) → sum_by f seats ≡ from_on g j (length seats)
unfolding from_on
in_a_row f g j [] same = refl
in_a_row f g j (s ∷ seats) same =
    let first : f s ≡ g j = same 0 s refl ∙ ap g (omega arith) in
    let rest = in_a_row f g (j + 1) seats (λ k y e. same (suc k) y e ∙ ap g (omega arith)) in
    omega (arith, sum_by-cons f s seats, first, rest)

pub adds_up : (x : Seen) (p : ℕ) (seats : List Seat) → p ≡ x.setting.program.limits.processors → HasEachSeat p seats
    → All (λ a. a ≤ x.setting.program.limits.processors) x.history → All (Shows x) seats → AddUp x seats
adds_up x p seats is order all shows f =
    let program = x.setting.program in
    let g : ℕ → ℕ = λ b. summed_by f program b (opening_world program) x.history in
    let row = in_a_row (share f) g 0 seats
    (λ k s e. still f x s (all_at (Shows x) seats shows k s e) ∙ ap g (order.1 k s e ∙ omega arith)) in
    sym (row ∙ ap (from_on g 0) (order.0 ∙ ap (λ n. n + 1) is)
    ∙ by_actors f program program.limits.processors (opening_world program) x.history all)
