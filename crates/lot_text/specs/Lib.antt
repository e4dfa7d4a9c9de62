pub mod Alone
pub mod Faults
pub mod LineArguments
pub mod Numbers
pub mod ReadingFields
pub mod Readings
pub mod Tokens
