-- Bytes read in pieces.
use Rattle.std.proofs.Common.{◌≡◌, ℕ, ◌+◌, ◌≤◌, Option, Some, None, List, [], ◌++◌, length, take, refl, ◌∙◌, ap, sym, subst, append_assoc, length-append, arith}
use Rattle.std.specs.Io.KnownBytes.{Consumes}
use Rattle.std.proofs.lemmas.List.{length-take}
use Rattle.lot_io.specs.Reading.{HasTaken}

-- what was read after what was read
pub consumes-both : (old mid new : Option (List ℕ)) (a b : List ℕ) → Consumes old mid a → Consumes mid new b
    → Consumes old new (a ++ b)
consumes-both None mid new a b one two = tt
consumes-both (Some xs) None new a b one two = absurd one
consumes-both (Some xs) (Some ys) None a b one two = absurd two
consumes-both (Some xs) (Some ys) (Some zs) a b one two = one ∙ ap (λ ws. a ++ ws) two ∙ sym (append_assoc a b zs)

-- if nothing was read
pub consumes-none : (known : Option (List ℕ)) → Consumes known known []
consumes-none None = tt
consumes-none (Some xs) = refl

-- what was taken and what was read before
module _ (first left rest : Option (List ℕ)) (old now : List ℕ) (count : ℕ)
    (took : HasTaken left rest old now count) where
  pub consumes-more : Consumes first left old → Consumes first rest now
  consumes-more one =
      subst (Consumes first rest) (sym took.kept) (consumes-both first left rest old took.taken one took.consumed)

  pub length-more : length now ≡ length old + count
  length-more = ap length took.kept ∙ length-append old took.taken ∙ ap (λ n. length old + n) took.count_is

-- the front of a list has no more than was asked for
pub within-room : (n count : ℕ) (xs : List ℕ) → count ≤ length (take n xs) → count ≤ n
within-room n count xs below = omega (arith, below, length-take n xs)
