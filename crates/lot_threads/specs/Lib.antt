pub mod Timely
pub mod Runners
pub mod Threaded
