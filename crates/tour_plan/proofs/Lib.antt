-- How the call for a tour is shown to keep its promises: no entry of the square that it plans over is above 65535, so that the theorems of
-- `tour_sums` hold of it (Planned). Examples computes one small floor, where a square read the wrong way round gives another answer.
pub mod Examples
pub mod Planned
