-- The numbers of the columns: from 1 on, one for each thread or currency.
use Rattle.lot_chart.proofs.Common.{By, Currency, State, Thread, ap, drop, length, length-range_with_len, numbers_by, range_with_len, sym, ◌≡◌}

pub numbers-are : (what : By) (s : State) → numbers_by what s ≡ range_with_len 1 (length (numbers_by what s))
numbers-are Thread s = sym (ap (range_with_len 1) (length-range_with_len 1 (length s.records)))
numbers-are Currency s = sym (ap (range_with_len 1) (length-range_with_len 1 (length (drop 1 s.currencies))))
