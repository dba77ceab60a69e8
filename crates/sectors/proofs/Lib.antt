-- How stepping over a boundary is shown to answer the definition. A step adds a difference to the sector's column and one to its row, and arrives where
-- both sums lie on the floor. The code makes the same two sums in 64 bits, where they are far too small to wrap (`get_in_compass_direction`). Floor has
-- the definition by its sums (`summed_in`, `summed_out`), and says without signs where a step arrives (`across_sector`).
pub mod Floor
