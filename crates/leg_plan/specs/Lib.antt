pub mod Leg
pub mod Inner
pub mod Promise
pub mod Walls
pub mod Closed
