pub mod Square
pub mod Promise
pub mod Inner
