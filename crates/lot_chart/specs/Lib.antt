-- Shares of a whole in percent, and their texts.
pub mod Shares
-- Curves as a table with comma-separated fields.
pub mod Tables
-- The threads with lines of their own.
pub mod Standings
-- The order of the ranking.
pub mod Ranking
-- The ends of lines, and the positions of their names.
pub mod Lines
-- The marks of axes.
pub mod Axes
-- The marks at the times of commands.
pub mod Marks
-- Text in XML.
pub mod Escapes
-- The dues of threads over time.
pub mod Dues
-- Sums that grow from turn to turn, sampled at ticks.
pub mod Gauges
-- Curves as a picture.
pub mod Charts
-- A small run, and its curves as a table and as a picture.
pub mod Samples
-- The output of `shares` and `chart`.
pub mod Shown
-- The stretches of a program's turns.
pub mod Noted
-- The definitions that a proof unfolds to compute an output on literals.
pub mod OnLiterals
