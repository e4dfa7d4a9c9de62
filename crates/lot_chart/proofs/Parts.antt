-- Texts appended in parts.
use Rattle.lot_chart.proofs.Common.{List, add-zero, ap, append_assoc, arith, flat_map, flat_map_more, get_or, length, map, map-range_with_len_more, range_with_len, suc, sym, take, take_more, zero, zero-add, ℕ, [], ◌++◌, ◌+◌, ◌<◌, ◌∙◌, ◌∷◌, ◌≡◌}

-- the part of one number more
pub parts-more : {X : Type 0} (part : X → List ℕ) (at : ℕ → X) (n : ℕ) (old now next : List ℕ)
    → now ≡ old ++ flat_map part (map at (range_with_len 0 n)) → next ≡ now ++ part (at n)
    → next ≡ old ++ flat_map part (map at (range_with_len 0 (n + 1)))
parts-more part at n old now next has is =
    is ∙ ap (λ xs. xs ++ part (at n)) has ∙ flat_map_more part old (map at (range_with_len 0 n)) (at n)
    ∙ ap (λ xs. old ++ flat_map part xs) (sym (map-range_with_len_more at 0 n n (omega arith)))

range-more : (a n : ℕ) → range_with_len a (suc n) ≡ range_with_len a n ++ (a + n) ∷ []
range-more a zero = ap (λ m. m ∷ []) (sym (add-zero a))
range-more a (suc n) =
    let same : a + 1 + n ≡ a + suc n = omega arith in
    ap (λ (xs : List ℕ). a ∷ xs) (range-more (a + 1) n ∙ ap (λ m. range_with_len (a + 1) n ++ m ∷ []) same)

-- the part of one number more, each as it is
pub parts-sample : (part : ℕ → List ℕ) (n : ℕ) (old now next : List ℕ) → now ≡ old ++ flat_map part (range_with_len 0 n)
    → next ≡ now ++ part n → next ≡ old ++ flat_map part (range_with_len 0 (n + 1))
parts-sample part n old now next has is =
    let on : n + 1 ≡ suc n = omega arith in
    let more : range_with_len 0 (n + 1) ≡ range_with_len 0 n ++ n ∷ [] = ap (range_with_len 0) on ∙ range-more 0 n
    ∙ ap (λ m. range_with_len 0 n ++ m ∷ []) (zero-add n) in
    is ∙ ap (λ xs. xs ++ part n) has ∙ flat_map_more part old (range_with_len 0 n) n
    ∙ ap (λ xs. old ++ flat_map part xs) (sym more)

-- the part of one element more
pub parts-next : {X : Type 0} (part : X → List ℕ) (xs : List X) (i : ℕ) (d x : X) (old now next : List ℕ)
    → i < length xs → x ≡ get_or xs i d → now ≡ old ++ flat_map part (take i xs) → next ≡ now ++ part x
    → next ≡ old ++ flat_map part (take (i + 1) xs)
parts-next part xs i d x old now next below at has is =
    is ∙ ap (λ ys. ys ++ part x) has ∙ flat_map_more part old (take i xs) x ∙ ap (λ y. old
    ++ flat_map part (take i xs ++ y ∷ [])) at ∙ ap (λ ys. old ++ flat_map part ys) (sym (take_more xs i d below))

-- a part, and then what follows it
pub parts-two : (old a rest one next : List ℕ) → one ≡ old ++ a → next ≡ one ++ rest → next ≡ old ++ (a ++ rest)
parts-two old a rest one next has is = is ∙ ap (λ xs. xs ++ rest) has ∙ append_assoc old a rest

-- three parts that were put at once, and then what follows them
pub parts-after : (old a b c rest one next : List ℕ) → one ≡ old ++ (a ++ (b ++ c)) → next ≡ one ++ rest
    → next ≡ old ++ (a ++ (b ++ (c ++ rest)))
parts-after old a b c rest one next has is =
    parts-two old (a ++ (b ++ c)) rest one next has is
    ∙ ap (λ xs. old ++ xs) (append_assoc a (b ++ c) rest ∙ ap (λ xs. a ++ xs) (append_assoc b c rest))

-- seven parts, one after another
pub parts-seven : (old a b c d e f g one two three four five six seven : List ℕ) → one ≡ old ++ a → two ≡ one ++ b
    → three ≡ two ++ c → four ≡ three ++ d → five ≡ four ++ e → six ≡ five ++ f → seven ≡ six ++ g
    → seven ≡ old ++ (a ++ (b ++ (c ++ (d ++ (e ++ (f ++ g))))))
parts-seven old a b c d e f g one two three four five six seven first second third fourth fifth sixth last =
    last ∙ ap (λ xs. xs ++ g) sixth ∙ append_assoc five f g ∙ ap (λ xs. xs ++ (f ++ g)) fifth
    ∙ append_assoc four e (f ++ g) ∙ ap (λ xs. xs ++ (e ++ (f ++ g))) fourth ∙ append_assoc three d (e ++ (f ++ g))
    ∙ ap (λ xs. xs ++ (d ++ (e ++ (f ++ g)))) third ∙ append_assoc two c (d ++ (e ++ (f ++ g)))
    ∙ ap (λ xs. xs ++ (c ++ (d ++ (e ++ (f ++ g))))) second ∙ append_assoc one b (c ++ (d ++ (e ++ (f ++ g))))
    ∙ ap (λ xs. xs ++ (b ++ (c ++ (d ++ (e ++ (f ++ g)))))) first
    ∙ append_assoc old a (b ++ (c ++ (d ++ (e ++ (f ++ g)))))

-- eight parts
pub parts-eight : (old a b c d e f g h one two three four five six seven eight : List ℕ) → one ≡ old ++ a
    → two ≡ one ++ b → three ≡ two ++ c → four ≡ three ++ d → five ≡ four ++ e → six ≡ five ++ f → seven ≡ six ++ g
    → eight ≡ seven ++ h
    → eight ≡ old ++ (a ++ (b ++ (c ++ (d ++ (e ++ (f ++ (g ++ h)))))))
parts-eight old a b c d e f g h one two three four five six seven eight first second third fourth fifth sixth seventh
    last =
    parts-seven old a b c d e f (g ++ h) one two three four five six eight first second third fourth fifth sixth
    (last ∙ ap (λ xs. xs ++ h) seventh ∙ append_assoc six g h)
