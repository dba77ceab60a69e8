pub mod Walks
pub mod Waves
