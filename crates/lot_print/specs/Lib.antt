pub mod Listings
pub mod Readback
pub mod Room
pub mod Lots
pub mod Loans
pub mod Funds
pub mod Figures
