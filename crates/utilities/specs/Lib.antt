pub mod Compass
pub mod Padded
pub mod Lists
pub mod Count
