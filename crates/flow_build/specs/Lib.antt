pub mod Flow
pub mod Inner
