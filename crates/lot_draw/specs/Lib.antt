pub mod Competing
pub mod Queued
