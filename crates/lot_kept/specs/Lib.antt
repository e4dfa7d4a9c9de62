pub mod Table
pub mod Lending
