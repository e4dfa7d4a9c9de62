pub mod Running
pub mod Statuses
pub mod Views
