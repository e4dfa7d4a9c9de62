-- The number of partial sums that a descent reads: at most one a level, and one at the top level.
use Rattle.lot_tree.proofs.Common.{CountsReads, add-one, arith, cases_lt, counted_up, inl, inr, pow-le-pow_right, pow-suc, suc, ℕ, ◌*◌, ◌+◌, ◌<◌, ◌^◌, ◌≡◌, ◌≤◌, ◌⊎◌}

-- a descent that has read nothing is at its start
pub record IsUncounted (digits level block reads : ℕ) : Type 0 where
  pub at_top : level ≡ digits
  pub at_start : block ≡ 0
  pub none : reads ≡ 0

-- a descent with `level` of its levels to go has counted its reads, one or more and at most one a level
pub record IsCounted (digits level reads : ℕ) : Type 0 where
  pub some : 1 ≤ reads
  pub few : reads + level ≤ digits

-- either way it has read no more than one partial sum a level
pub reads-few : (digits level block reads : ℕ) → IsUncounted digits level block reads ⊎ IsCounted digits level reads
    → reads + level ≤ digits
reads-few digits level block reads (inl start) = omega (arith, start.at_top, start.none)
reads-few digits level block reads (inr before) = before.few

module _ (digits upper level block reads : ℕ) (down : upper ≡ level + 1)
    (before : IsUncounted digits upper block reads ⊎ IsCounted digits upper reads) where
  -- one level down with a read
  pub IsCounted_read : IsCounted digits level (reads + 1)
  IsCounted_read = record {
    some = omega arith;
    few = omega (arith, reads-few digits upper block reads before);
  }

  -- one level down with no read, which the top level always has
  pub IsCounted_short : (n : ℕ) → 2 ^ digits ≤ 2 * n + 1 → n < (block * 2 + 1) * 2 ^ level
      → IsCounted digits level reads
  IsCounted_short n needed short = elim before [
    | inl start ↦
        let twice : 2 ^ digits ≡ 2 * 2 ^ level = rw (← start.at_top, down, add-one) (omega (arith, pow-suc 2 level)) in
        let first = rw start.at_start at short in
        absurd (omega (arith, twice, needed, first))
    | inr counted ↦ record { some = counted.some; few = omega (arith, counted.few) }
  ]

-- no number of digits in which n can be written is less than the least
digits_least : (n digits other : ℕ) → 2 ^ digits ≤ 2 * n + 1 → n < 2 ^ other → digits ≤ other
digits_least n digits other needed enough = elim (cases_lt other digits) [
  | inl less ↦ absurd (omega
      (arith, pow-suc 2 other, pow-le-pow_right {n = 2} (omega arith) {i = suc other} {j = digits} (omega arith)))
  | inr more ↦ more
]

-- at the end of a descent over one level or more, whose reads are counted besides what was counted before
pub CountsReads-from_IsCounted : (n digits level block reads old new : ℕ) → level ≡ 0 → 0 < digits
    → 2 ^ digits ≤ 2 * n + 1 → new ≡ counted_up old reads
    → IsUncounted digits level block reads ⊎ IsCounted digits level reads → CountsReads n old new
CountsReads-from_IsCounted n digits level block reads old new end some needed is (inl start) =
    absurd (omega (arith, start.at_top, end, some))
CountsReads-from_IsCounted n digits level block reads old new end some needed is (inr all) = record {
  reads = reads;
  some = all.some;
  few = λ other fits. omega (arith, all.few, digits_least n digits other needed fits);
  counted = is;
}
