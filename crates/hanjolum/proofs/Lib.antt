-- The exports hand on; Lent turns a previous field as C lends it.
pub mod Lent
