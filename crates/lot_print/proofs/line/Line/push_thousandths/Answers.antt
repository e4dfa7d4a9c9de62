use Rattle.lot_print.proofs.Lemmas.{ap, arith, behind_point, decimal_digit, ne_eqb, parts, refl, sym, ℕ, [], ◌%◌, ◌++◌, ◌+◌, ◌/◌, ◌<◌, ◌∙◌, ◌∷◌, ◌≡◌, ◌≢◌}
use Rattle.lot_print.proofs.line.Line.push_thousandths.Goals as goal

-- one, two or three digits behind the point
one_digit : (m : ℕ) → m < 1000 → m ≢ 0 → m % 100 ≡ 0 → behind_point m ≡ 46 ∷ (48 + m / 100) ∷ []
one_digit m below some none = rw (ne_eqb m 0 some, none, decimal_digit (m / 100) (omega arith)) refl

two_digits : (m : ℕ) → m < 1000 → m ≢ 0 → m % 100 ≢ 0 → m % 10 ≡ 0
    → behind_point m ≡ 46 ∷ (48 + m / 100) ∷ (48 + m / 10 % 10) ∷ []
two_digits m below some more none =
    rw (ne_eqb m 0 some, ne_eqb (m % 100) 0 more, none, decimal_digit (m / 100) (omega arith), decimal_digit (m / 10 % 10) (omega arith)) refl

three_digits : (m : ℕ) → m < 1000 → m ≢ 0 → m % 100 ≢ 0 → m % 10 ≢ 0
    → behind_point m ≡ 46 ∷ (48 + m / 100) ∷ (48 + m / 10 % 10) ∷ (48 + m % 10) ∷ []
three_digits m below some more last =
    rw (
      ne_eqb m 0 some,
      ne_eqb (m % 100) 0 more,
      ne_eqb (m % 10) 0 last,
      decimal_digit (m / 100) (omega arith),
      decimal_digit (m / 10 % 10) (omega arith),
      decimal_digit (m % 10) (omega arith),
    ) refl

pub returns-then-thousandths-eq0-2-clause-text : goal.returns-then-thousandths-eq0-2-clause-text
returns-then-thousandths-eq0-2-clause-text g c =
    let m = c.args.thousandths in
    let old = c.args.self.now in
    parts old _ _ _ _ c.push_text.ensures.text c.push_digit.ensures.text
    ∙ ap (λ t. old ++ t) (sym (one_digit m c.requires.1 c.if-thousandths-eq0.false c.if-thousandths-eq0-2.true))

pub returns-then-thousandths-eq0-3-clause-text : goal.returns-then-thousandths-eq0-3-clause-text
returns-then-thousandths-eq0-3-clause-text g c =
    let m = c.args.thousandths in
    let old = c.args.self.now in
    parts old _ _ _ _ (parts old _ _ _ _ c.push_text.ensures.text c.push_digit.ensures.text) c.push_digit-2.ensures.text
    ∙ ap (λ t. old ++ t) (sym
    (two_digits m c.requires.1 c.if-thousandths-eq0.false c.if-thousandths-eq0-2.false c.if-thousandths-eq0-3.true))

pub returns-clause-text : goal.returns-clause-text
returns-clause-text g c =
    let m = c.args.thousandths in
    let old = c.args.self.now in
    parts old _ _ _ _ (parts old _ _ _ _ (parts old _ _ _ _ c.push_text.ensures.text c.push_digit.ensures.text)
    c.push_digit-2.ensures.text) c.push_digit-3.ensures.text
    ∙ ap (λ t. old ++ t) (sym
    (three_digits m c.requires.1 c.if-thousandths-eq0.false c.if-thousandths-eq0-2.false c.if-thousandths-eq0-3.false))
