-- The sum of shares.
use Rattle.lot_station.proofs.Common.{Holder, List, ap, append-nil, append_assoc, arith, drop, get_or, length, length-append, sum_by, sum_by-append, sym, ℕ, [], ◌++◌, ◌+◌, ◌<◌, ◌∙◌, ◌∷◌, ◌≡◌}

-- ---- seats taken in one after another

pub head_first : (l : List Holder) (x : Holder) → 0 < length l → x ≡ get_or l 0 x → l ≡ x ∷ drop 1 l
head_first [] x some e = absurd (omega arith)
head_first (y ∷ ys) x some e = ap (λ z. z ∷ ys) (sym e)

pub moves_on : (all xs rest rest' : List Holder) (y : Holder) → all ≡ xs ++ rest → rest ≡ y ∷ rest'
    → all ≡ (xs ++ y ∷ []) ++ rest'
moves_on all xs rest rest' y is step = is ∙ ap (λ l. xs ++ l) step ∙ sym (append_assoc xs (y ∷ []) rest')

pub all_taken : (all xs rest : List Holder) → all ≡ xs ++ rest → length rest ≡ 0 → all ≡ xs
all_taken all xs [] is none = is ∙ append-nil xs
all_taken all xs (y ∷ ys) is none = absurd (omega (arith, none))

-- ---- what three shares have together, of these seats

pub record Has (parts parts' parts'' turns quanta ticks : ℕ) (seats : List Holder) : Type 0 where
  pub parts_is : parts ≡ length seats
  pub parts'_is : parts' ≡ length seats
  pub parts''_is : parts'' ≡ length seats
  pub turns_is : turns ≡ sum_by (λ s. s.turns) seats
  pub quanta_is : quanta ≡ sum_by (λ s. s.quanta) seats
  pub ticks_is : ticks ≡ sum_by (λ s. s.ticks) seats

pub has_one : (p p' p'' t q k : ℕ) (s : Holder) → p ≡ 1 → p' ≡ 1 → p'' ≡ 1 → t ≡ s.turns → q ≡ s.quanta → k ≡ s.ticks
    → Has p p' p'' t q k (s ∷ [])
has_one p p' p'' t q k s one one' one'' turns quanta ticks =
    record {
      parts_is = one;
      parts'_is = one';
      parts''_is = one'';
      turns_is = omega (arith, turns);
      quanta_is = omega (arith, quanta);
      ticks_is = omega (arith, ticks);
    }

pub has_more : (p p' p'' t q k n n' n'' u v w r r' r'' x y z : ℕ) (done : List Holder) (s : Holder)
    → Has p p' p'' t q k done → Has n n' n'' u v w (s ∷ [])
    → r ≡ p + n → r' ≡ p' + n' → r'' ≡ p'' + n'' → x ≡ t + u → y ≡ q + v → z ≡ k + w
    → Has r r' r'' x y z (done ++ s ∷ [])
has_more p p' p'' t q k n n' n'' u v w r r' r'' x y z done s have one a b c d e f =
    record {
      parts_is = omega (arith, a, have.parts_is, one.parts_is, length-append done (s ∷ []));
      parts'_is = omega (arith, b, have.parts'_is, one.parts'_is, length-append done (s ∷ []));
      parts''_is = omega (arith, c, have.parts''_is, one.parts''_is, length-append done (s ∷ []));
      turns_is = omega (arith, d, have.turns_is, one.turns_is, sum_by-append (λ (h : Holder). h.turns) done (s ∷ []));
      quanta_is =
          omega (arith, e, have.quanta_is, one.quanta_is, sum_by-append (λ (h : Holder). h.quanta) done (s ∷ []));
      ticks_is = omega (arith, f, have.ticks_is, one.ticks_is, sum_by-append (λ (h : Holder). h.ticks) done (s ∷ []));
    }
