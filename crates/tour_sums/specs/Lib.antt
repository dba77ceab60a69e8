pub mod Tours
pub mod Promise
