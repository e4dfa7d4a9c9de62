-- The first of the lines, and those after it.
use Rattle.lot_text.proofs.Common.{Bool, Err, Fails, InputRefusal, IsFaultOf, LineFault, List, Memory, None, Ok, Option, Reading, Refused, ap, arith, cond, drop, drop_min, false, fault_on, if◌then◌else◌, length, length-drop, length-take, lines_of, max, min, not, prefix_len, program_in, read_line, read_lines, refl, refused_on, suc, sym, take, take_rest, true, whole_program, with_first_byte, without_end, zero, ℕ, [], ◌+◌, ◌-◌, ◌<◌, ◌==◌, ◌>>=◌, ◌∙◌, ◌∷◌, ◌≡◌}

-- how many bytes the first line has before its byte 10
abbrev pub first_len : List ℕ → ℕ
first_len bs = prefix_len (λ b. not (b == 10)) bs

pub lines_of-first : (bs : List ℕ) → 0 < length bs
    → lines_of bs ≡ take (suc (first_len bs)) bs ∷ lines_of (drop (suc (first_len bs)) bs)
lines_of-first [] some = absurd (omega (arith, some))
lines_of-first (b ∷ []) some = at (b == 10)
  where
    at : (e : Bool) → (if e then (b ∷ []) ∷ [] else (b ∷ []) ∷ [])
        ≡ take (suc (cond (not e) (1 + zero) zero)) (b ∷ []) ∷ lines_of (drop (suc (cond (not e) (1 + 0) 0)) (b ∷ []))
    at true = refl
    at false = refl
lines_of-first (b ∷ c ∷ bs) some = at (lines_of-first (c ∷ bs) (omega arith)) (b == 10)
  where
    at : lines_of (c ∷ bs) ≡ take (suc (first_len (c ∷ bs)))
        (c ∷ bs) ∷ lines_of (drop (suc (first_len (c ∷ bs))) (c ∷ bs))
        → (e : Bool) → (if e then (b ∷ []) ∷ lines_of (c ∷ bs) else with_first_byte b (lines_of (c ∷ bs)))
        ≡ take (suc (cond (not e) (1 + first_len (c ∷ bs)) zero))
        (b ∷ c ∷ bs) ∷ lines_of (drop (suc (cond (not e) (1 + first_len (c ∷ bs)) zero)) (b ∷ c ∷ bs))
    at next true = refl
    at next false = let more : 1 + first_len (c ∷ bs) ≡ suc (first_len (c ∷ bs)) = omega arith in
        rw more (ap (with_first_byte b) next)

-- a line without its end is what stands before the byte 10
pub without_end-first : (bs : List ℕ) → without_end (take (suc (first_len bs)) bs) ≡ take (first_len bs) bs
without_end-first [] = refl
without_end-first (b ∷ bs) = at (without_end-first bs) (b == 10) refl
  where
    at : without_end (take (suc (first_len bs)) bs) ≡ take (first_len bs) bs → (e : Bool) → (b == 10) ≡ e
        → without_end (take (suc (cond (not e) (1 + first_len bs) 0)) (b ∷ bs))
        ≡ take (cond (not e) (1 + first_len bs) 0) (b ∷ bs)
    at next true is = rw is refl
    at next false is = let more : (n : ℕ) → 1 + n ≡ suc n = λ n. omega arith in
        rw (is, more (first_len bs), more (first_len (take (suc (first_len bs)) bs))) (ap (λ rest. b ∷ rest) next)

-- how many bytes the first line has, with its end
abbrev pub whole_len : List ℕ → ℕ
whole_len bs = min (suc (first_len bs)) (length bs)

-- the lines are read one after another
pub read_lines-first : (n start : ℕ) (reading : Option Reading) (bs : List ℕ) → 0 < length bs
    → read_lines n start reading (lines_of bs)
    ≡ (refused_on n (read_line n (start + whole_len bs) reading (take (first_len bs) bs)) >>= λ after.
    read_lines (n + 1) (start + whole_len bs) after (lines_of (drop (whole_len bs) bs)))
read_lines-first n start reading bs some =
    let len : length (take (suc (first_len bs)) bs) ≡ whole_len bs = length-take (suc (first_len bs)) bs in
    let following : drop (suc (first_len bs)) bs ≡ drop (whole_len bs) bs = sym (drop_min (suc (first_len bs)) bs) in
    rw (lines_of-first bs some, without_end-first bs, len, following) refl

-- a line is read, and the others after it
pub read_lines-goes_on : (n start k b : ℕ) (reading after : Option Reading) (bs line more : List ℕ)
    → 0 < length bs → k ≡ first_len bs → b ≡ min (k + 1) (length bs) → line ≡ take k bs → more ≡ drop b bs
    → read_line n (start + b) reading line ≡ Ok after
    → read_lines n start reading (lines_of bs) ≡ read_lines (n + 1) (start + b) after (lines_of more)
read_lines-goes_on n start k b reading after bs line more some at whole is rest reads =
    let len : b ≡ whole_len bs = omega (arith, whole, at) in
    let first : line ≡ take (first_len bs) bs = is ∙ ap (λ k. take k bs) at in
    let reads' : read_line n (start + whole_len bs) reading (take (first_len bs) bs) ≡ Ok after =
    rw (sym len, sym first) reads in
    read_lines-first n start reading bs some ∙ rw (reads', rest, len) refl

-- a line is refused
read_lines-stops : (n start k b : ℕ) (reading : Option Reading) (refusal : InputRefusal) (bs line : List ℕ)
    → 0 < length bs → k ≡ first_len bs → b ≡ min (k + 1) (length bs) → line ≡ take k bs
    → read_line n (start + b) reading line ≡ Err refusal
    → read_lines n start reading (lines_of bs) ≡ Err (record { line = n; refusal = refusal })
read_lines-stops n start k b reading refusal bs line some at whole is reads =
    let len : b ≡ whole_len bs = omega (arith, whole, at) in
    let first : line ≡ take (first_len bs) bs = is ∙ ap (λ k. take k bs) at in
    let reads' : read_line n (start + whole_len bs) reading (take (first_len bs) bs) ≡ Err refusal =
    rw (sym len, sym first) reads in
    read_lines-first n start reading bs some ∙ rw reads' refl

-- so the whole input is, if what is left from here gives what the whole gives
pub program_in-stops : (n start k b : ℕ) (reading : Option Reading) (fault : LineFault) (bytes bs line : List ℕ)
    → 0 < length bs → k ≡ first_len bs → b ≡ min (k + 1) (length bs) → line ≡ take k bs
    → Fails fault (read_line n (start + b) reading line)
    → read_lines n start reading (lines_of bs) ≡ read_lines 1 0 None (lines_of bytes)
    → IsFaultOf (program_in bytes) (fault_on n fault)
program_in-stops n start k b reading Memory bytes bs line some at whole is fails same = tt
program_in-stops n start k b reading (Refused refusal) bytes bs line some at whole is fails same =
    let stops = read_lines-stops n start k b reading refusal bs line some at whole is fails in
    rw (sym same ∙ stops) refl

-- a line is one of the lines
pub lines_of-count : (k b : ℕ) (bs more : List ℕ) → 0 < length bs → k ≡ first_len bs → b ≡ min (k + 1) (length bs)
    → more ≡ drop b bs
    → length (lines_of bs) ≡ suc (length (lines_of more))
lines_of-count k b bs more some at whole rest =
    let len : b ≡ whole_len bs = omega (arith, whole, at) in
    let following : drop (suc (first_len bs)) bs ≡ drop (whole_len bs) bs = sym (drop_min (suc (first_len bs)) bs) in
    rw (lines_of-first bs some, following, rest, len) refl

-- nothing is lost after a line
pub length-after : (end all k b : ℕ) (bs : List ℕ) → b ≡ min (k + 1) (length bs) → end + length bs ≡ all
    → end + b + length (take (length bs - b) (drop b bs)) ≡ all
length-after end all k b bs is same = rw (take_rest bs b) (omega (arith, length-drop b bs, is, same))

-- if no bytes are left, the input is what was read of it
pub program_in-read : (n end : ℕ) (reading : Option Reading) (bytes bs : List ℕ) → length bs ≡ 0
    → read_lines n end reading (lines_of bs) ≡ read_lines 1 0 None (lines_of bytes)
    → program_in bytes ≡ whole_program (length (lines_of bytes)) reading
program_in-read n end reading bytes [] none same = rw (sym same) refl
program_in-read n end reading bytes (b ∷ bs) none same = absurd (omega (arith, none))

-- and its last line has the number of the last that was read
pub last-line : (number last : ℕ) (bytes bs : List ℕ) → length bs ≡ 0
    → number + length (lines_of bs) ≡ length (lines_of bytes) → last ≡ max number 1
    → last ≡ max 1 (length (lines_of bytes))
last-line number last bytes [] none count is = omega (arith, count, is)
last-line number last bytes (b ∷ bs) none count is = absurd (omega (arith, none))
