use Rattle.lot_text.proofs.Common.{All, Err, InputRefusal, IsSeed, List, Ok, each, length, number_between, ℕ, ◌++◌, ◌+◌, ◌≡◌}
use Rattle.lot_text.proofs.header.read_seeds.Given as goal

abbrev pub invariant-loop-token : goal.invariant-loop-token
invariant-loop-token l = record {
  seeds : All IsSeed l.seeds.items;
  count : length l.seeds.items + length l.tokens ≡ length l.initial.tokens;
  read : (others : List ℕ) → each (number_between 1 2147483646) l.tokens ≡ Ok others
      → each (number_between 1 2147483646) l.initial.tokens ≡ Ok (l.seeds.items ++ others);
  refused : (refusal : InputRefusal) → each (number_between 1 2147483646) l.tokens ≡ Err refusal
      → each (number_between 1 2147483646) l.initial.tokens ≡ Err refusal;
}

abbrev pub decreases-loop-token : goal.decreases-loop-token
decreases-loop-token l = length l.tokens
