pub mod Common
mod FreeRuns
mod SeatsWork
mod SeatWork
mod BatonWork
pub mod Lemmas
