pub mod Without
pub mod Wavefront
pub mod Inner
