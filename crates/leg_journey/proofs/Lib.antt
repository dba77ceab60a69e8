-- How the arrows of a planned leg are shown to lead into the goal's sector, and without sight to the goal. In one sector with no cost 0 they lead to a
-- window cell that counts in at most 99 moves, which is proved of every planned sector. From there one move crosses into a reached cell of the sector
-- before (Crossing); Arrives does both by induction over the steps, back to the first (`leg_arrives`, `goal_arrives`). Places has the columns and rows
-- of the floor. Promised joins this with what leg_plan proves. Once shows that a journey is determined by the sheet; Examples works one out.
pub mod Places
pub mod Crossing
pub mod Arrives
pub mod Promised
pub mod Once
pub mod Examples
