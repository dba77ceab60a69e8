pub mod Values
pub mod Floor
pub mod Promise
