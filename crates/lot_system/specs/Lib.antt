-- The output of `play` for a program's turns.
pub mod Texts
-- The contents of a listing, number by number.
pub mod Listing
-- The outcome of an input that is played or shown.
pub mod Played
-- The warnings of a run.
pub mod Leaving
-- The end of a play.
pub mod Last
-- The report over several plays of a program, each with another seed.
pub mod Seeds
-- The report of a program, in lines or as a table.
pub mod ReportTable
-- The end of a run's output.
pub mod Endings
