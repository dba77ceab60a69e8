pub mod Arrows
pub mod Promise
