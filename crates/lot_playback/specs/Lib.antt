-- The turns of a program: those of its schedule, or timed ones.
pub mod Turns
-- The progress of a play.
pub mod Stages
-- Timed turns of a system.
pub mod InTime
-- A timekeeper before the first turn, and one more turn, which it follows.
pub mod Following
-- The next turn of a play.
pub mod Orders
-- The sharers of time, by their values: the threads, or the currencies.
pub mod Sharing
-- The tables of threads' waits to run, and of the parts due to threads and currencies.
pub mod Owed
-- The ticks of the threads below currencies, turn by turn.
pub mod TicksBelow
