pub mod QueueLists
pub mod Calls
pub mod Fields
