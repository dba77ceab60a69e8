-- How a leg's number and sheet are shown to keep what is promised of them. The number goes down the table (Numbers): what is judged before a step is
-- planned decides, then 15. The sheet is written sector by sector, and no sector is named twice, so each keeps what its own step wrote (Sheet). Before
-- says that a later step has a window, and the sector of the step before across it. Planned puts these together with what is proved of one sector, for
-- every step (`leg_planned`). Walls and Closed tell 16 and 15 by places of the floor and by cells that count. Examples computes the table's edges.
pub mod Examples
pub mod Numbers
pub mod Walls
pub mod Sheet
pub mod Before
pub mod Planned
pub mod Closed
