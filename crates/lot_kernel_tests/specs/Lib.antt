pub mod Both
pub mod Given
