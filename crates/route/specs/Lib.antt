pub mod Table
pub mod Window
pub mod Step
pub mod Target
pub mod Inner
