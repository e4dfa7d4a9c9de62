-- The whole picture.
use Rattle.lot_chart.proofs.Common.{Curves, Dues, List, Option, PlotLine, Selected, Standing, Stretch, ap, axes, chart, codes, curve, due_curves, flat_map, head, label, length, lines_in, longest_name, most_shown, selection, tops, total, width_for, ℕ, [], ◌++◌, ◌∙◌, ◌≡◌}
use Rattle.lot_chart.specs.Charts.{picture}
use Rattle.lot_chart.proofs.Parts.{parts-eight}

-- the picture with the lines of those that are selected
pub chart-is : (title given : List ℕ) (curves : Curves) (dues : Option Dues) (shown : List Standing)
    (others : List Stretch) (most : ℕ) (lines : List PlotLine) (none text : List ℕ) → none ≡ [] → given ≡ title
    → record { shown = shown; others = others } ≡ selection curves
    → most ≡ most_shown curves dues shown → lines ≡ lines_in curves most (record { shown = shown; others = others })
    → text ≡ none ++ picture given curves dues (record { shown = shown; others = others }) most lines
    → text ≡ chart title dues curves
chart-is title given curves dues shown others most lines none text empty same is highest drawn put =
    put ∙ ap (λ xs. xs ++ picture given curves dues (record { shown = shown; others = others }) most lines) empty
    ∙ ap (λ (t : List ℕ). picture t curves dues (record { shown = shown; others = others }) most lines) same
    ∙ ap (λ (ls : List PlotLine). picture title curves dues (record { shown = shown; others = others }) most ls) drawn
    ∙ ap (λ (n : ℕ). picture title curves dues (record { shown = shown; others = others }) n
    (lines_in curves n (record { shown = shown; others = others }))) highest
    ∙ ap (λ (s : Selected). picture title curves dues s (most_shown curves dues s.shown)
    (lines_in curves (most_shown curves dues s.shown) s)) is

-- the picture, if its parts are put one after another
pub picture-is : (title : List ℕ) (curves : Curves) (dues : Option Dues) (shown : List Standing)
    (others rest : List Stretch) (lines : List PlotLine) (width most all : ℕ) (heads : List ℕ) (names : List (List ℕ))
    (old one two three four five six seven eight : List ℕ)
    → width ≡ width_for (longest_name curves.names lines) (length title) → heads ≡ tops curves most → rest ≡ others
    → all ≡ total curves → names ≡ curves.names
    → one ≡ old ++ head width title → two ≡ one ++ axes curves most
    → three ≡ two ++ due_curves curves dues shown heads lines
    → four ≡ three ++ codes "<g fill='none' stroke-width='2' stroke-linejoin='round'>\n"
    → five ≡ four ++ flat_map (curve curves rest heads) lines
    → six ≡ five ++ codes "</g>\n" → seven ≡ six ++ flat_map (label names all) lines → eight ≡ seven ++ codes "</svg>\n"
    → eight ≡ old ++ picture title curves dues (record { shown = shown; others = others }) most lines
unfolding picture
picture-is title curves dues shown others rest lines width most all heads names old one two three four five six seven
    eight wide scaled is_rest whole named first second third fourth fifth sixth seventh eighth =
    parts-eight old (head (width_for (longest_name curves.names lines) (length title)) title) (axes curves most)
    (due_curves curves dues shown (tops curves most) lines)
    (codes "<g fill='none' stroke-width='2' stroke-linejoin='round'>\n")
    (flat_map (curve curves others (tops curves most)) lines) (codes "</g>\n")
    (flat_map (label curves.names (total curves)) lines) (codes "</svg>\n") one two three four five six seven eight
    (first ∙ ap (λ n. old ++ head n title) wide) second
    (third ∙ ap (λ (ns : List ℕ). two ++ due_curves curves dues shown ns lines) scaled) fourth
    (fifth ∙ (λ i. four ++ flat_map (curve curves (is_rest i) (scaled i)) lines)) sixth
    (seventh ∙ ap (λ n. six ++ flat_map (label names n) lines) whole
    ∙ ap (λ (ns : List (List ℕ)). six ++ flat_map (label ns (total curves)) lines) named) eighth
