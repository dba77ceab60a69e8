pub mod Orders
pub mod Told
