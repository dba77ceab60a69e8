-- What a step's bytes mean. A window's cells are those of an edge from the first to the last: `Runs` and `Cells` show that an edge is a run of ten cells
-- and that the loop collects those that lie between, `Windows` that an accepted window is a run, `Facing` what lies across. `Accepted` reads off the
-- table of refusals what holds of a step that none of them refuses, `Walls` the same on the costs, number 16. So `Targets` shows that its target
-- lies inside the sector, as defined and as the program holds it. `Selected` is for windows of which some cells count; `NoneIs`, `Rows` and `Below`
-- go over tables of refusals and of small numbers, and `Examples` computes cases.
pub mod Examples
pub mod Rows
pub mod Below
pub mod Cells
pub mod Accepted
pub mod Runs
pub mod Windows
pub mod Facing
pub mod Targets
pub mod Selected
pub mod Walls
pub mod NoneIs
