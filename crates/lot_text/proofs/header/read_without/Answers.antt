use Rattle.lot_text.proofs.Lemmas.{BadHeader, BadLine, Bool, Err, Gives-refusal, List, Reading, alone-refused, ap, bytes_eq, checked, codes, false, header_line, if◌then◌else◌, not, refl, sym, true, without_line, ℕ, [], ◌∙◌, ◌∷◌, ◌≡◌}
use Rattle.lot_simulation.specs.declared.input.HeaderWord.TheVariants as header
use Rattle.lot_text.proofs.header.read_without.Goals as goal

-- only a timed input has such a line
untimed : (r : Reading) (mechanism : List ℕ) → r.is_timed ≡ false → without_line r mechanism ≡ Err BadLine
untimed r mechanism is = at (bytes_eq mechanism (codes "compensation")) (bytes_eq mechanism (codes "lending"))
  where
    at : (first second : Bool)
        → (if first then checked ((not r.is_timed, BadLine) ∷ (r.options.without_compensation, BadHeader) ∷ [])
        (record r { options = record r.options { without_compensation = true } })
        else if second then checked ((not r.is_timed, BadLine) ∷ (r.options.without_lending, BadHeader) ∷ [])
        (record r { options = record r.options { without_lending = true } })
        else Err BadLine) ≡ Err BadLine
    at true second = rw is refl
    at false true = rw is refl
    at false false = refl

pub returns-in_err-mechanism : goal.returns-in_err-mechanism
returns-in_err-mechanism c =
    let other =
    alone-refused (header_line c.args.reading.now header.Without) c.args.tokens c.in_err-mechanism.field-0.0 refl
    (λ a b others. refl)
    c.in_err-mechanism.ensures in
    Gives-refusal _ c.from_residual.result c.in_err-mechanism.field-0.0 _ c.from_residual.ensures other

pub returns-then-not-is_timed : goal.returns-then-not-is_timed
returns-then-not-is_timed c =
    rw c.in_ok-mechanism.ensures
    (untimed c.args.reading.now c.in_ok-mechanism.mechanism.now
    (ap (λ (r : Reading). r.is_timed) (sym c.reading.view_is) ∙ sym c.if-not-is_timed.ensures))

pub returns-then-reading : goal.returns-then-reading
returns-then-reading c =
    rw
    (c.in_ok-mechanism.ensures, ← c.reading.view_is, ← c.if-eq.ensures, ← c.if-not-is_timed.ensures, c.if-reading.true)
    refl

pub returns-then-eq : goal.returns-then-eq
returns-then-eq c = rw
    (c.in_ok-mechanism.ensures, ← c.reading.view_is, ← c.if-eq.ensures, ← c.if-not-is_timed.ensures, c.if-reading.false)
    refl

pub returns-then-reading-2 : goal.returns-then-reading-2
returns-then-reading-2 c =
    rw (c.in_ok-mechanism.ensures, ← c.reading.view_is, ← c.if-eq.ensures, ← c.if-eq-2.ensures, ← c.if-not-is_timed.ensures, c.if-reading-2.true) refl

pub returns-then-eq-2 : goal.returns-then-eq-2
returns-then-eq-2 c =
    rw (c.in_ok-mechanism.ensures, ← c.reading.view_is, ← c.if-eq.ensures, ← c.if-eq-2.ensures, ← c.if-not-is_timed.ensures, c.if-reading-2.false) refl

pub returns : goal.returns
returns c = rw (c.in_ok-mechanism.ensures, ← c.if-eq.ensures, ← c.if-eq-2.ensures) refl
