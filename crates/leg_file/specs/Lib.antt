pub mod File
pub mod Promise
