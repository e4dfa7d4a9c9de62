use Rattle.lot_text.proofs.Common.{Bool, IsFirstByte, List, None, Option, Some, arith, eq-zero-or-pos, false, false≢true, inl, inr, is_byte, length, not, prefix_len, prefix_len-le-length, prefix_len_passes, prefix_len_stops, refl, sym, true, unwrap_or, ℕ, ◌-◌, ◌==◌, ◌∙◌, ◌≡◌}
use Rattle.lot_text.proofs.tokens.line_len.Goals as goal

abbrev is_other : ℕ → Bool
is_other b = not (b == 10)

-- a byte that doesn't pass is an end of a line
end-of : (e : Bool) → not e ≡ false → e ≡ true
end-of true is = refl
end-of false is = sym is

-- one that is an end of a line doesn't pass
no-other : (e : Bool) → e ≡ true → not e ≡ true → false ≡ true
no-other true is other = other
no-other false is other = is

-- the first end of a line stands behind all others
first-end : (xs : List ℕ) (r : Option ℕ) → IsFirstByte (is_byte 10) xs r
    → unwrap_or r (length xs) ≡ prefix_len is_other xs
first-end xs None none =
    let len = prefix_len is_other xs in
    elim (eq-zero-or-pos (length xs - len)) [
      | inl all ↦ omega (arith, all, prefix_len-le-length is_other xs)
      | inr some ↦ absurd (none len (omega arith) (omega (arith, some))
          (end-of _ (prefix_len_stops is_other xs 0 (omega (arith, some)))))
    ]
first-end xs (Some k) first =
    let len = prefix_len is_other xs in
    elim (eq-zero-or-pos (len - k)) [
      | inl late ↦ elim (eq-zero-or-pos (k - len)) [
        | inl early ↦ omega (arith, late, early)
        | inr before ↦ absurd (first.0.before len (omega arith) (omega (arith, before))
            (end-of _ (prefix_len_stops is_other xs 0 (omega (arith, before, first.0.high)))))
      ]
      | inr passes ↦
          absurd (false≢true (no-other _ first.1 (prefix_len_passes is_other xs k 0 (omega (arith, passes)))))
    ]

pub returns-clause-others : goal.returns-clause-others
returns-clause-others c = c.unwrap_or.ensures ∙ first-end c.args.bytes.now c.memchr.result c.memchr.ensures
