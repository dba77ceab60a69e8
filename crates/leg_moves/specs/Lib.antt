pub mod Moving
pub mod Decided
pub mod Answers
pub mod Promise
pub mod Inner
