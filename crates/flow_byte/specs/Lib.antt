pub mod New
pub mod Look
pub mod Previous
