pub mod Loans
pub mod Funding
pub mod Lots
pub mod Numbers
pub mod Explained
pub mod MadeTurns
pub mod Gathering
pub mod Short
