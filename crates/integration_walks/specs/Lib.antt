pub mod Walks
pub mod Promise
pub mod Goal
