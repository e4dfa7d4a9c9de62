-- The largest lengths of the lines of lots and of loans.
use Rattle.lot_explain.proofs.Common.{All, All-head, All-tail, Bool, Compensation, IfSome, IsUnit, LineStyle, List, Loan, Lot, Lottery, None, OfMutex, OfProcessor, Option, Some, Timed, Whole, Won, arith, behind_point, codes, cond, decimal, div-le_self, drawn_value, eqb-true, false, flat_map, front, length, length-append, length-decimal-le_wide, loan_line, loan_lines, lot_diagnostics, lot_line, mark, newline, part_word, quotient_text, refl, sum_by-cons, total_of, true, value_text, weight_word, why_text, ℕ, [], ◌%◌, ◌*◌, ◌++◌, ◌+◌, ◌/◌, ◌<◌, ◌==◌, ◌^◌, ◌∷◌, ◌≡◌, ◌≤◌}

-- a list that is joined of two is no longer than their bounds add up to
both : (m n : ℕ) (xs ys : List ℕ) → length xs ≤ m → length ys ≤ n → length (xs ++ ys) ≤ m + n
both m n xs ys one two = omega (arith, length-append xs ys, one, two)

-- ---- numbers

-- a number below ten is a digit
digit-short : (n : ℕ) → n < 10 → length (decimal n) ≤ 1
digit-short n small = length-decimal-le_wide 1 n (omega arith) (omega (arith, small)) (omega (arith, small))

-- behind the point there are at most three digits
behind-short : (m : ℕ) → m < 1000 → length (behind_point m) ≤ 4
behind-short m small = at (m == 0) (m % 100 == 0) (m % 10 == 0)
  where
    hundreds : length (decimal (m / 100)) ≤ 1
    hundreds = digit-short (m / 100) (omega (arith, small))

    tens : length (decimal (m / 10 % 10)) ≤ 1
    tens = digit-short (m / 10 % 10) (omega arith)

    ones : length (decimal (m % 10)) ≤ 1
    ones = digit-short (m % 10) (omega arith)

    at : (a b c : Bool) → length (cond a []
        (cond b (codes "." ++ decimal (m / 100)) (cond c (codes "." ++ (decimal (m / 100) ++ decimal (m / 10 % 10)))
        (codes "." ++ (decimal (m / 100) ++ (decimal (m / 10 % 10) ++ decimal (m % 10))))))) ≤ 4
    at true b c = omega arith
    at false true c = omega (arith, hundreds)
    at false false true = omega (arith, both 1 1 (decimal (m / 100)) (decimal (m / 10 % 10)) hundreds tens)
    at false false false = omega
        (arith, both 1 2 (decimal (m / 100)) (decimal (m / 10 % 10) ++ decimal (m % 10)) hundreds (both 1 1 (decimal (m / 10 % 10)) (decimal (m % 10)) tens ones))

-- A value has at most 22 bytes: one that is kept whole has 20 digits, and one that is kept in 256 parts 18 before the point.
quotient-short : (n unit : ℕ) → IsUnit unit → n < 2 ^ 66 → length (quotient_text n unit) ≤ 22
quotient-short n unit is small = at (unit == 1) (unit == 256) refl refl is
  where
    at : (a b : Bool) → (unit == 1) ≡ a → (unit == 256) ≡ b → IsUnit unit → length (quotient_text n unit) ≤ 22
    at true b one other h =
        let e : unit ≡ 1 = eqb-true unit 1 one in
        let none : n % 1 * 1000 / 1 ≡ 0 = omega arith in
        let whole : length (decimal (n / 1)) ≤ 20 =
        length-decimal-le_wide 20 (n / 1) (omega arith) (omega (arith, small)) (omega (arith, small)) in
        let behind : length (behind_point (n % 1 * 1000 / 1)) ≤ 0 = rw none (omega arith) in
        rw e (omega (arith, both 20 0 (decimal (n / 1)) (behind_point (n % 1 * 1000 / 1)) whole behind))
    at false true one other h =
        let e : unit ≡ 256 = eqb-true unit 256 other in
        let whole : length (decimal (n / 256)) ≤ 18 =
        length-decimal-le_wide 18 (n / 256) (omega arith) (omega (arith, small)) (omega (arith, small)) in
        let behind = behind-short (n % 256 * 1000 / 256) (omega arith) in
        rw e (both 18 4 (decimal (n / 256)) (behind_point (n % 256 * 1000 / 256)) whole behind)
    at false false one other h = let impossible : false ≡ true = rw (one, other) at h in cc

-- so has a value in either style
value-short : (style : LineStyle) (unit value : ℕ) → IsUnit unit → value < 2 ^ 66
    → length (value_text style unit value) ≤ 22
value-short Whole unit value is small =
    let less = div-le_self value unit in
    let whole =
    length-decimal-le_wide 20 (value / unit) (omega arith) (omega (arith, small, less)) (omega (arith, small, less)) in
    omega (arith, whole)
value-short (Timed time) unit value is small = quotient-short value unit is small

-- and so has a number that is drawn
drawn-short : (style : LineStyle) (unit n : ℕ) → IsUnit unit → n < 2 ^ 66 → length (drawn_value style unit n) ≤ 22
drawn-short Whole unit n is small =
    let whole = length-decimal-le_wide 20 n (omega arith) (omega (arith, small)) (omega (arith, small)) in
    omega (arith, whole)
drawn-short (Timed time) unit n is small = quotient-short n unit is small

-- ---- lines

-- the time that lines begin with has 32 bits
abbrev pub HasShortTime : LineStyle → Type 0
HasShortTime Whole = Unit {0}
HasShortTime (Timed time) = time < 2 ^ 32

-- so a line begins with at most 11 bytes
front-short : (style : LineStyle) → HasShortTime style → length (front style) ≤ 11
front-short Whole small = omega arith
front-short (Timed time) small =
    let time_text = length-decimal-le_wide 10 time (omega arith) (omega (arith, small)) (omega (arith, small)) in
    both 10 1 (decimal time) (codes " ") time_text (omega arith)

-- what a lottery calls those who take part
part-short : (lottery : Lottery) → length (part_word lottery) ≤ 12
part-short OfProcessor = omega arith
part-short OfMutex = omega arith

-- and what they bring
weight-short : (lottery : Lottery) → length (weight_word lottery) ≤ 8
weight-short OfProcessor = omega arith
weight-short OfMutex = omega arith

-- the winner's mark
mark-short : (b : Bool) → length (mark b) ≤ 5
mark-short true = omega arith
mark-short false = omega arith

-- the numbers of a reason: a value, a quantum, and less ticks than the most that a quantum may have
pub record IsShortReason (reason : Compensation) : Type 0 where
  pub value : reason.value < 2 ^ 66
  pub quantum : reason.quantum ≤ 1000
  pub used : reason.used < 1000

-- the thread is one of those that there may be, and its name and its reason are short
pub record IsShortLot (lot : Lot) : Type 0 where
  pub thread : lot.thread ≤ 4096
  pub name : length lot.name ≤ 16
  pub reason : IfSome lot.compensation IsShortReason

-- so are those of a loan, and it is worth no more than all lots
pub record IsShortLoan (loan : Loan) : Type 0 where
  pub thread : loan.thread ≤ 4096
  pub name : length loan.name ≤ 16
  pub value : loan.value < 2 ^ 66
  pub to : loan.to ≤ 4096

-- the most bytes of a reason in a line of this style
abbrev pub why_most : LineStyle → ℕ
why_most Whole = 0
why_most (Timed time) = 44

-- the most bytes of a line in it
abbrev pub line_most : LineStyle → ℕ
line_most Whole = 139
line_most (Timed time) = 183

line_most-is : (style : LineStyle) → line_most style ≡ why_most style + 139
line_most-is Whole = omega arith
line_most-is (Timed time) = omega arith

-- a reason is a value, and two numbers of at most four and three digits
why-short : (style : LineStyle) (unit : ℕ) → IsUnit unit → (o : Option Compensation) → IfSome o IsShortReason
    → length (why_text style unit o) ≤ why_most style
why-short Whole unit is o short = omega arith
why-short (Timed time) unit is None short = omega arith
why-short (Timed time) unit is (Some reason) short =
    let quantum = length-decimal-le_wide 4 reason.quantum (omega arith) (omega (arith, short.quantum))
    (omega (arith, short.quantum)) in
    let used =
    length-decimal-le_wide 3 reason.used (omega arith) (omega (arith, short.used)) (omega (arith, short.used)) in
    let value = value-short (Timed time) unit reason.value is short.value in
    let part = codes " / " ++ decimal reason.used in
    let whole = decimal reason.quantum ++ part in
    let scale = codes " x " ++ whole in
    let after_slash = both 3 3 (codes " / ") (decimal reason.used) (omega arith) used in
    let after_quantum = both 4 6 (decimal reason.quantum) part quantum after_slash in
    let after_times = both 3 10 (codes " x ") whole (omega arith) after_quantum in
    let after_value = both 22 13 (value_text (Timed time) unit reason.value) scale value after_times in
    both 9 35 (codes " = value ") (value_text (Timed time) unit reason.value ++ scale) (omega arith) after_value

module _ (style : LineStyle) (unit actor : ℕ) (timely : HasShortTime style) (is : IsUnit unit) (few : actor ≤ 64) where
  -- the line of a lot has at most so many bytes: what it is made of adds up to no more
  line-short : (lottery : Lottery) (winner first : ℕ) (lot : Lot) → IsShortLot lot → first + lot.weight < 2 ^ 66
      → length (lot_line style unit actor lottery winner first lot) ≤ line_most style
  line-short lottery winner first lot short small =
      let actor_text = length-decimal-le_wide 2 actor (omega arith) (omega (arith, few)) (omega (arith, few)) in
      let thread =
      length-decimal-le_wide 4 lot.thread (omega arith) (omega (arith, short.thread)) (omega (arith, short.thread)) in
      let weight = value-short style unit lot.weight is (omega (arith, small)) in
      let from = drawn-short style unit first is (omega (arith, small)) in
      let below = drawn-short style unit (first + lot.weight) is small in
      let end = mark (lot.thread == winner) ++ newline in
      let to = drawn_value style unit (first + lot.weight) ++ end in
      let numbers = drawn_value style unit first ++ (codes " below " ++ to) in
      let why = why_text style unit lot.compensation in
      let value = value_text style unit lot.weight ++ (why ++ (codes " from " ++ numbers)) in
      let name = lot.name ++ (weight_word lottery ++ value) in
      let rest = decimal lot.thread ++ (codes " " ++ name) in
      let after_end =
      both 5 1 (mark (lot.thread == winner)) newline (mark-short (lot.thread == winner)) (omega arith) in
      let after_to = both 22 6 (drawn_value style unit (first + lot.weight)) end below after_end in
      let after_below = both 7 28 (codes " below ") to (omega arith) after_to in
      let after_numbers = both 22 35 (drawn_value style unit first) (codes " below " ++ to) from after_below in
      let after_from = both 6 57 (codes " from ") numbers (omega arith) after_numbers in
      let after_why = both (why_most style) 63 why (codes " from " ++ numbers)
      (why-short style unit is lot.compensation short.reason) after_from in
      let after_value =
      both 22 _ (value_text style unit lot.weight) (why ++ (codes " from " ++ numbers)) weight after_why in
      let after_weight = both 8 _ (weight_word lottery) value (weight-short lottery) after_value in
      let after_name = both 16 _ lot.name (weight_word lottery ++ value) short.name after_weight in
      let after_blank = both 1 _ (codes " ") name (omega arith) after_name in
      let after_thread = both 4 _ (decimal lot.thread) (codes " " ++ name) thread after_blank in
      let after_part = both 12 _ (part_word lottery) rest (part-short lottery) after_thread in
      let after_actor = both 2 _ (decimal actor) (part_word lottery ++ rest) actor_text after_part in
      omega (arith, both 11 _ (front style) (decimal actor ++ (part_word lottery ++ rest)) (front-short style timely) after_actor, line_most-is style)

  -- the lines of lots that weigh less than 2 ^ 66 together
  pub lines-short : (won : Won) (first : ℕ) (lots : List Lot) → All IsShortLot lots → first + total_of lots < 2 ^ 66
      → length (lot_diagnostics style unit actor won first lots) ≤ length lots * line_most style
  lines-short won first [] short small = omega arith
  lines-short won first (lot ∷ lots) short small =
      let total = sum_by-cons (λ (x : Lot). x.weight) lot lots in
      let head =
      line-short won.lottery won.winner first lot (All-head IsShortLot lot lots short) (omega (arith, small, total)) in
      let tail =
      lines-short won (first + lot.weight) lots (All-tail IsShortLot lot lots short) (omega (arith, small, total)) in
      let joined = both (line_most style) (length lots * line_most style) (lot_line style unit actor won.lottery
      won.winner first lot) (lot_diagnostics style unit actor won (first + lot.weight) lots) head tail in
      omega (arith, joined)

module _ (time unit actor : ℕ) (timely : time < 2 ^ 32) (is : IsUnit unit) (few : actor ≤ 64) where
  -- the line of a loan has at most 92 bytes
  loan-short : (loan : Loan) → IsShortLoan loan → length (loan_line (Timed time) unit actor loan) ≤ 92
  loan-short loan short =
      let actor_text = length-decimal-le_wide 2 actor (omega arith) (omega (arith, few)) (omega (arith, few)) in
      let thread =
      length-decimal-le_wide 4 loan.thread (omega arith) (omega (arith, short.thread)) (omega (arith, short.thread)) in
      let to_text =
      length-decimal-le_wide 4 loan.to (omega arith) (omega (arith, short.to)) (omega (arith, short.to)) in
      let value_short = value-short (Timed time) unit loan.value is short.value in
      let borrower = codes " to thread " ++ (decimal loan.to ++ newline) in
      let value = codes " value " ++ (value_text (Timed time) unit loan.value ++ borrower) in
      let name = codes " " ++ (loan.name ++ value) in
      let rest = codes " lent thread " ++ (decimal loan.thread ++ name) in
      let after_to = both 4 1 (decimal loan.to) newline to_text (omega arith) in
      let after_value = both 11 5 (codes " to thread ") (decimal loan.to ++ newline) (omega arith) after_to in
      let after_word = both 22 16 (value_text (Timed time) unit loan.value) borrower value_short after_value in
      let after_name =
      both 7 38 (codes " value ") (value_text (Timed time) unit loan.value ++ borrower) (omega arith) after_word in
      let after_blank = both 16 45 loan.name value short.name after_name in
      let after_thread = both 1 61 (codes " ") (loan.name ++ value) (omega arith) after_blank in
      let after_lent = both 4 62 (decimal loan.thread) name thread after_thread in
      let after_actor = both 13 66 (codes " lent thread ") (decimal loan.thread ++ name) (omega arith) after_lent in
      let after_front = both 2 79 (decimal actor) rest actor_text after_actor in
      both 11 81 (front (Timed time)) (decimal actor ++ rest) (front-short (Timed time) timely) after_front

  timed-short : (loans : List Loan) → All IsShortLoan loans
      → length (flat_map (loan_line (Timed time) unit actor) loans) ≤ length loans * 183
  timed-short [] short = omega arith
  timed-short (loan ∷ loans) short =
      let head = loan-short loan (All-head IsShortLoan loan loans short) in
      let tail = timed-short loans (All-tail IsShortLoan loan loans short) in
      omega (arith, both 92 (length loans * 183) (loan_line (Timed time) unit actor loan) (flat_map (loan_line (Timed time) unit actor) loans) head tail)

-- the lines of loans
pub loans-short : (style : LineStyle) (unit actor : ℕ) → HasShortTime style → IsUnit unit → actor ≤ 64
    → (loans : List Loan) → All IsShortLoan loans
    → length (loan_lines style unit actor loans) ≤ length loans * line_most style
loans-short Whole unit actor timely is few loans short = omega arith
loans-short (Timed time) unit actor timely is few loans short = timed-short time unit actor timely is few loans short

-- the lines of both are no more than both together
pub both-short : (style : LineStyle) (lots loans : List ℕ) (m n : ℕ) → length lots ≤ m * line_most style
    → length loans ≤ n * line_most style → length (lots ++ loans) ≤ (m + n) * line_most style
both-short Whole lots loans m n one two = omega (arith, length-append lots loans, one, two)
both-short (Timed time) lots loans m n one two = omega (arith, length-append lots loans, one, two)
