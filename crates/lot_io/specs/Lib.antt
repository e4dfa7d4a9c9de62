pub mod Reading
pub mod Watching
pub mod Writing
