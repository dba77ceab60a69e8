pub mod Place
pub mod Journey
