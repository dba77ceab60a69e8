-- How it is proved that `build` answers what the definition says. The definition's waves list a wave's cells in index order, the code's in the order
-- in which they change; but the waves from two lists with the same cells are the same.
--     Changed      what each offer keeps: the cells that changed in this wave are listed, each once, and the list has room
--     Members      the order of a wave's cells does not matter
--     Recursion    one wave a call comes to what the definition settles on, and a hundred of them to the built field
--     Loops        laws of the definitions, a turn of a loop at a time
--     Promised     all that is promised of an answer follows from its being the definition's
pub mod Loops
pub mod Changed
pub mod Members
pub mod Recursion
pub mod Promised
