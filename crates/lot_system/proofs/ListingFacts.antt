-- The number of a listing's rows, and its text as its first line and theirs.
use Rattle.lot_system.proofs.Common.{Bool, Currencies, Kind, LineStyle, List, State, Tickets, ap, append-nil, append_assoc, arith, codes, decimal, false, filter, filter-append, first_number, flat_map, front, given_count, length, length-append, listing_line, listing_text, newline, range_with_len, refl, row_line, rows_among, suc, sym, true, zero, ℕ, [], ◌++◌, ◌+◌, ◌∙◌, ◌∷◌, ◌≡◌}
use Rattle.lot_machine.specs.declared.command.Kind.TheVariants.{Threads}

pub numbers-push : (a k : ℕ) → range_with_len a (suc k) ≡ range_with_len a k ++ (a + k) ∷ []
numbers-push a zero = let e : a + 0 ≡ a = omega arith in ap (λ n. n ∷ []) (sym e)
numbers-push a (suc k) = let e : a + 1 + k ≡ a + suc k = omega arith in ap (λ ns. a ∷ ns) (numbers-push (a + 1) k)
    ∙ ap (λ n. a ∷ (range_with_len (a + 1) k ++ n ∷ [])) e

module _ (test : ℕ → Bool) (a k : ℕ) where
  filter-push : filter test (range_with_len a (k + 1)) ≡ filter test (range_with_len a k) ++ filter test ((a + k) ∷ [])
  filter-push = let e : k + 1 ≡ suc k = omega arith in ap (λ n. filter test (range_with_len a n)) e
      ∙ ap (filter test) (numbers-push a k) ∙ filter-append test (range_with_len a k) ((a + k) ∷ [])

  -- one more number counts if it passes, and else not
  pub passing-there : test (a + k) ≡ true
      → length (filter test (range_with_len a (k + 1))) ≡ length (filter test (range_with_len a k)) + 1
  passing-there is =
      let one : filter test ((a + k) ∷ []) ≡ (a + k) ∷ [] = rw is refl in
      ap length filter-push ∙ ap (λ ns. length (filter test (range_with_len a k) ++ ns)) one
      ∙ length-append (filter test (range_with_len a k)) ((a + k) ∷ [])

  pub passing-none : test (a + k) ≡ false
      → length (filter test (range_with_len a (k + 1))) ≡ length (filter test (range_with_len a k))
  passing-none is =
      let none : filter test ((a + k) ∷ []) ≡ [] = rw is refl in
      ap length filter-push ∙ ap (λ ns. length (filter test (range_with_len a k) ++ ns)) none
      ∙ ap length (append-nil (filter test (range_with_len a k)))

-- with what a listing begins
abbrev word_of : Kind → List ℕ
word_of Tickets = codes "lstkt "
word_of Currencies = codes "lscur "
word_of Threads = codes "lsthr "

-- a listing is its first line and those of its rows
listing-is : (style : LineStyle) (s : State) (kind : Kind)
    → listing_text style s kind ≡ word_of kind ++ (decimal (rows_among s kind (given_count s kind))
    ++ (newline ++ flat_map (row_line style s kind) (range_with_len (first_number kind) (given_count s kind))))
listing-is style s Tickets = refl
listing-is style s Currencies = refl
listing-is style s Threads = refl

line-is : (kind : Kind) (n : ℕ) (lines : List ℕ)
    → listing_line kind n ++ lines ≡ word_of kind ++ (decimal n ++ (newline ++ lines))
line-is Tickets n lines = ap (λ xs. codes "lstkt " ++ xs) (append_assoc (decimal n) newline lines)
line-is Currencies n lines = ap (λ xs. codes "lscur " ++ xs) (append_assoc (decimal n) newline lines)
line-is Threads n lines = ap (λ xs. codes "lsthr " ++ xs) (append_assoc (decimal n) newline lines)

-- the same after the time and the actor
pub listed-after : (style : LineStyle) (s : State) (kind : Kind) (actor rows : ℕ)
    → rows ≡ rows_among s kind (given_count s kind)
    → (front style ++ (decimal actor ++ (codes " " ++ listing_line kind rows))) ++ flat_map (row_line style s kind)
    (range_with_len (first_number kind) (given_count s kind))
    ≡ front style ++ (decimal actor ++ (codes " " ++ listing_text style s kind))
listed-after style s kind actor rows count =
    let lines = flat_map (row_line style s kind) (range_with_len (first_number kind) (given_count s kind)) in
    append_assoc (front style) (decimal actor ++ (codes " " ++ listing_line kind rows)) lines
    ∙ ap (λ xs. front style ++ xs) (append_assoc (decimal actor) (codes " " ++ listing_line kind rows) lines
    ∙ ap (λ xs. decimal actor ++ (codes " " ++ xs)) (line-is kind rows lines
    ∙ ap (λ n. word_of kind ++ (decimal n ++ (newline ++ lines))) count ∙ sym (listing-is style s kind)))
