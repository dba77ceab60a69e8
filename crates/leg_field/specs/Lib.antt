pub mod Field
pub mod Promise
pub mod Inner
