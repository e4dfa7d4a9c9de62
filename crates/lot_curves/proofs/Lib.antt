pub mod Common
pub mod Ends
pub mod Rows
pub mod ColumnNames
pub mod Cuts
pub mod Windows
pub mod Below
pub mod Lemmas
