-- The definition of a simulated system, in reading order.

-- The meaning of a script, and the slices of it that a processor runs.
pub mod Script
-- The simulated system: a console, processors with their generators, and threads with their scripts.
pub mod World
-- Whole systems that are small enough to compute by hand, turn by turn.
pub mod WorkedSystems
-- The lines of an input, the tokens of a line, and numbers.
pub mod Lines
-- The words that begin lines of an input.
pub mod Words
-- The formats of inputs: 1 and 2, which have a schedule, and 3, which is timed.
pub mod Formats
-- The part of an input read so far, and the meaning of tokens.
pub mod Reading
-- The meaning of an input, or the line on which it is refused.
pub mod Grammar
-- The text of replies, refusals and listings.
pub mod Texts
-- The columns of reports, and the texts of their cells.
pub mod Columns
-- The report, and the lines that reproduce a history.
pub mod Report
-- Timed inputs: turns in time order.
pub mod Timed
-- The currencies above a thread.
pub mod Below
-- The report of a timed input.
pub mod TimedReport
-- The whole output of the program.
pub mod Output
-- The first few items of a kind.
pub mod Kept
-- Programs with seeds that are computed from one given number.
pub mod Seeded
-- Small inputs, and the output for them.
pub mod Samples
-- The definitions that a proof unfolds to compute a text on literals; elsewhere the text of a number stays folded.
pub mod OnLiterals
