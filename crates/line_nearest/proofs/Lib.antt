-- That the line of the definition is Bresenham's line, for every two cells. A line is a walk that gains one in its major coordinate at each step, and
-- whose minor coordinate is the whole number nearest to the straight line. `Offset` is the heart: Bresenham's difference, carried from step to step,
-- finds that nearest number. `Walks` makes walks of it, from either end, `Neighbours` shows that they go from neighbour to neighbour, and `Theorem` picks
-- for every pair the walk that is the line, and has what later crates cite. `Calls` has what the line calls answer; `Lists` tables and reversed lists.
mod Examples
pub mod Lists
pub mod Offset
pub mod Walks
pub mod Theorem
pub mod Neighbours
pub mod Calls
