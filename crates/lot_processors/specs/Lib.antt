pub mod Workers
pub mod BatonWorkers
