-- Turns, each at its actor's own time.
pub mod OwnTimes
-- The ticks and draws of turns, for their threads.
pub mod Stretches
-- The ticks and draws of stretches in a window, which moves with the time.
pub mod Windows
-- Each thread's ticks or draws at each sample.
pub mod Curves
-- The curves of an interval of time.
pub mod Intervals
