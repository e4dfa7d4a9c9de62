-- The text of lots, the entries of a lottery.
use Rattle.std.specs.Prelude.{ℕ, ◌+◌, ◌==◌, Bool, true, false, Option, Some, None, List, [], ◌++◌, codes}
use Rattle.std.specs.Fmt.{decimal}
use Rattle.lot_simulation.specs.declared.style.LineStyle.{LineStyle}
use Rattle.lot_simulation.specs.declared.style.LineStyle.TheVariants.{Whole, Timed}
use Rattle.lot_simulation.specs.Texts.{drawn_value, front, newline, value_text}
use Rattle.lot_print.specs.declared.lots.Compensation.{Compensation}
use Rattle.lot_print.specs.declared.lots.Lot.{Lot}
use Rattle.lot_print.specs.declared.lots.Lottery.{Lottery}
use Rattle.lot_print.specs.declared.lots.Lottery.TheVariants.{OfProcessor, OfMutex}

-- the word for an entrant in this kind of lottery
abbrev pub part_word : Lottery → List ℕ
part_word OfProcessor = codes " lot thread "
part_word OfMutex = codes " lot waiter "

-- the word for its weight in this kind of lottery
abbrev pub weight_word : Lottery → List ℕ
weight_word OfProcessor = codes " weight "
weight_word OfMutex = codes " value "

-- a value scaled to a whole quantum: the value, the quantum, and the ticks used (4.5)
abbrev pub scaled_text : LineStyle → ℕ → Compensation → List ℕ
scaled_text style unit reason =
    codes " = value " ++ (value_text style unit reason.value ++ (codes " x " ++ (decimal reason.quantum ++ (codes " / " ++ decimal reason.used))))

-- the reason for a compensated thread's weight, in timed style
abbrev pub why_text : LineStyle → ℕ → Option Compensation → List ℕ
why_text Whole unit compensation = []
why_text (Timed time) unit None = []
why_text (Timed time) unit (Some reason) = scaled_text (Timed time) unit reason

-- the mark on the winner's line
abbrev pub mark : Bool → List ℕ
mark true = codes " wins"
mark false = []

-- The line of a lot, given the winner: its weight, with the reason in timed style, and its numbers, as many as its
-- weight from `first` on. The weight is printed as in listings, the numbers as in draws.
abbrev pub lot_line : LineStyle → ℕ → ℕ → Lottery → ℕ → ℕ → Lot → List ℕ
lot_line style unit actor lottery winner first lot =
    front style ++ (decimal actor ++ (part_word lottery ++ (decimal lot.thread ++ (codes " " ++ (lot.name ++ (weight_word lottery ++ (value_text style unit lot.weight
    ++ (why_text style unit lot.compensation
    ++ (codes " from " ++ (drawn_value style unit first ++ (codes " below " ++ (drawn_value style unit (first + lot.weight) ++ (mark (lot.thread == winner) ++ newline)))))))))))))
