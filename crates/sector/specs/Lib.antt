pub mod Sector
pub mod Previous
pub mod Inner
pub mod Promise
