pub mod Sight
pub mod Lines
pub mod CornerLine
pub mod Room
pub mod Sizes
pub mod StartedCell
pub mod Started
