-- How the code of `init` is proved. The definition works on lists (`Sight`), the code on a lent field, in which a list is an array of 100 with a count:
-- `Held` says what it is that a field holds a sight, and that each function brings the sight which its field holds to the one that the definition says.
-- So each function's proof follows the code: `Marks` one cell of a line, `Lines` a whole line, `Spreads` sight that comes to one cell and the invariant
-- of the loops over a cell's sides and a wave's cells, `Waves` one wave after another, `Starts` what sight starts with. `Walls` shows that a goal's line
-- ends are at hand wherever some cell is a wall, `Masks` that one mask tells three flags, and `Answers` puts `init`'s answer and what goes with it
-- together. That there is room in the lists and that sight ends in time are theorems of `integration_started`.
pub mod Held
pub mod Marks
pub mod Masks
pub mod Spreads
pub mod Waves
pub mod Lines
pub mod Walls
pub mod Starts
pub mod Answers
