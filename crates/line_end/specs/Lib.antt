pub mod LineEnd
pub mod Away
pub mod Mirror
