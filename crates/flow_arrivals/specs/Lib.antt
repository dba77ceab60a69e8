pub mod Following
pub mod Decided
pub mod Arrivals
pub mod Promise
pub mod Inner
