pub mod Shares
pub mod Settings
pub mod Holders
pub mod BatonViews
pub mod BatonRule
pub mod BatonSeats
pub mod BatonSums
