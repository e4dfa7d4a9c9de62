-- The subjects of the laws, in terms of the field.

-- Fairness by counting: the number of draws of n lotteries that a client wins (2.2).
pub mod Fairness
-- Rounds of a processor: a draw, and then the time that the winner runs (2.2, 3.4, 4.2).
pub mod Rounds
-- Conservation: currencies pass on their value, and only rounding loses some (3.3, 4.4).
pub mod Conservation
-- Insulation: the nodes that a change can't affect, and the nodes inside a currency (3.2, 3.3).
pub mod Insulation
-- What a currency alone funds: values, weights and wins (3.2, 3.3).
pub mod Inside
-- Two runs: states that differ only inside a currency, and agree outside (3.3).
pub mod TwoRuns
-- Transfers: a blocked thread lends its value to the thread that it waits for (3.1).
pub mod Transfers
-- The reachable states, and the properties of their fundings.
pub mod Reachable
-- Removed threads, and the places that could refer to them.
pub mod Removed
-- The kill of a thread, and the threads that it releases.
pub mod Kills
-- Unlocks that pass a mutex on: the lottery over its waiters, and what the next owner gets (6.1).
pub mod Unlocks
-- Limits: what counts towards them, and the numbers that replies give (4.7).
pub mod Numbers
-- Runs and states that are small enough to compute by hand.
pub mod Runs
