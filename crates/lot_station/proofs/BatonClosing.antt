-- Seats in a list, taken in one by one.
use Rattle.lot_station.proofs.Common.{All, Baton, Dealt, HasEachSeat, IfSome, IsSeatOf, List, None, Option, Seat, Seen, SeesAll, Shows, Some, TableId, TurnFault, View, ap, append-nil, append_assoc, arith, claim, claim_of, drop, false, get_or, get_or_from_slice_get, inl, inr, length, map, refl, resting, seat, slice_get, slice_get-get_or, slice_get_within, subst, suc, sym, together, zero, ℕ, [], ⊎_elim, ◌++◌, ◌+◌, ◌<◌, ◌∙◌, ◌∷◌, ◌≡◌, ◌⊎◌}

pub all_at : (P : Seat → Type 0) (l : List Seat) → All P l → (k : ℕ) (s : Seat) → slice_get l k ≡ Some s → P s
all_at P l all k s e = subst P (get_or_from_slice_get l k s s e) (all k s (slice_get_within l k s e))

pub each_all : (P : Seat → Type 0) (l : List Seat) → ((k : ℕ) (s : Seat) → slice_get l k ≡ Some s → P s) → All P l
each_all P l each k d low = each k (get_or l k d) (slice_get-get_or l k d low)

pub here_at : (t : TableId) (l : List Seat) → All (λ s. s.station ≡ t) l → (k : ℕ) (s : Seat) → slice_get l k ≡ Some s
    → s.station ≡ t
here_at t l all k s e = all_at (λ y. y.station ≡ t) l all k s e

pub own_claim : (p : View) (t : TableId) (a : ℕ) (x : Seen) (o : Option TurnFault) (s : Seat)
    → p ≡ resting (claim a (a + 1) x ∷ []) → seat t a x o ≡ s → p ≡ resting (claim_of s ∷ [])
own_claim p t a x o s is view = is ∙ ap (λ (y : Seat). resting (claim_of y ∷ [])) view

pub head_first : (l : List Seat) (x : Seat) → 0 < length l → x ≡ get_or l 0 x → l ≡ x ∷ drop 1 l
head_first [] x some e = absurd (omega arith)
head_first (y ∷ ys) x some e = ap (λ z. z ∷ ys) (sym e)

pub at_middle : (xs : List Seat) (y : Seat) (ys : List Seat) → slice_get (xs ++ y ∷ ys) (length xs) ≡ Some y
at_middle [] y ys = refl
at_middle (x ∷ xs) y ys = at_middle xs y ys

map_more : (xs : List Seat) (y : Seat) → map claim_of (xs ++ y ∷ []) ≡ map claim_of xs ++ claim_of y ∷ []
map_more [] y = refl
map_more (x ∷ xs) y = ap (λ l. claim_of x ∷ l) (map_more xs y)

pub one_more : (p q r : View) (xs : List Seat) (y : Seat) → p ≡ resting (map claim_of xs)
    → q ≡ resting (claim_of y ∷ []) → r ≡ together p q → r ≡ resting (map claim_of (xs ++ y ∷ []))
one_more p q r xs y is that now = now ∙ (λ i. together (is i) (that i)) ∙ ap resting (sym (map_more xs y))

pub moves_on : (all xs rest rest' : List Seat) (y : Seat) → all ≡ xs ++ rest → rest ≡ y ∷ rest'
    → all ≡ (xs ++ y ∷ []) ++ rest'
moves_on all xs rest rest' y is step = is ∙ ap (λ l. xs ++ l) step ∙ sym (append_assoc xs (y ∷ []) rest')

pub all_taken : (all xs rest : List Seat) → all ≡ xs ++ rest → length rest ≡ 0 → all ≡ xs
all_taken all xs [] is none = is ∙ append-nil xs
all_taken all xs (y ∷ ys) is none = absurd (omega (arith, none))

pub shown : (x : Seen) (seats : List Seat) → SeesAll x (map claim_of seats) → (k : ℕ) (s : Seat)
    → slice_get seats k ≡ Some s → Shows x s
shown x [] sees k s e = absurd cc
shown x (y ∷ ys) sees zero s e =
    let P : Seat → Type 0 = Shows x in
    let same : y ≡ s = cc in
    subst P same (record { begins = sees.0.0; turns = sees.0.1 y.actor (omega arith) (omega arith) })
shown x (y ∷ ys) sees (suc k) s e = shown x ys sees.1 k s e

at_last_or_before : (xs : List Seat) (y s : Seat) (k : ℕ) → slice_get (xs ++ y ∷ []) k ≡ Some s
    → (slice_get xs k ≡ Some s) ⊎ ((k ≡ length xs) × (y ≡ s))
at_last_or_before [] y s zero e = inr (refl, cc)
at_last_or_before [] y s (suc k) e = absurd cc
at_last_or_before (x ∷ xs) y s zero e = inl e
at_last_or_before (x ∷ xs) y s (suc k) e =
    ⊎_elim (λ p. inl p) (λ p. inr (ap suc p.0, p.1)) (at_last_or_before xs y s k e)

-- one seat more is dealt
pub deals_one : (t : TableId) (x : Seen) (old new : List Seat) (n : ℕ) (y : Seat) → Dealt t x old → length old ≡ n
    → y ≡ seat t n x None → new ≡ old ++ y ∷ [] → Dealt t x new
deals_one t x old new n y dealt len is now k s e =
    ⊎_elim
    (λ (p : slice_get old k ≡ Some s). dealt k s p)
    (λ (p : (k ≡ length old) × (y ≡ s)). sym p.1 ∙ is ∙ ap (λ j. seat t j x None) (sym (p.0 ∙ len)))
    (at_last_or_before old y s k (ap (λ l. slice_get l k) (sym now) ∙ e))

-- the seats that are dealt are the station's
pub dealt_of : (b : Baton) (x : Seen) (l : List Seat) → b.processors ≡ x.setting.program.limits.processors
    → Dealt b.id x l → All (IsSeatOf b) l
dealt_of b x l is dealt =
    each_all (IsSeatOf b) l
    (λ k s e. (ap (λ (y : Seat). y.station) (dealt k s e), ap (λ (y : Seat). y.seen.setting.program.limits.processors) (dealt k s e) ∙ sym is))

-- the last actor is that of the program
pub last_actor : (b : Baton) (x : Seen) (l : List Seat) → All (IsSeatOf b) l → HasEachSeat b.processors l
    → All (Shows x) l → b.processors ≡ x.setting.program.limits.processors
last_actor b x [] all order shows = absurd (omega (arith, order.0))
last_actor b x (y ∷ ys) all order shows =
    sym (all 0 y (omega arith)).1 ∙ sym (ap (λ z. z.program.limits.processors) (shows 0 y (omega arith)).begins.0)

-- the system has no timer, as its first seat hasn't
pub no_timer : (n : ℕ) (x : Seen) (l : List Seat) → HasEachSeat n l → All (Shows x) l
    → IfSome (slice_get l 0) (λ s. s.seen.setting.timer ≡ false) → x.setting.timer ≡ false
no_timer n x [] order shows first = absurd (omega (arith, order.0))
no_timer n x (y ∷ ys) order shows first = ap (λ z. z.timer) (shows 0 y (omega arith)).begins.0 ∙ first
