-- How the arrows of a sector are shown to lead, and to be clear of walls. Built costs fall (Fall): beside every reached cell where arrows do not end
-- lies one of lower cost. A look sees its neighbours (Around) and goes through the eight directions (Look); where all that it sees is reached, it comes
-- to a lower cell (Reached). So each move goes to a lower cell, of which there are at most 99, and the arrows lead (Lead). A look passes over whatever
-- the diagonal rule bars, so that no arrow passes a wall (Clear). Bytes and CellBytes say which byte each kind of cell gets, and Moves where a byte's
-- bits point.
pub mod Fall
pub mod Around
pub mod Look
pub mod Reached
pub mod Bytes
pub mod Moves
pub mod Clear
pub mod CellBytes
pub mod Lead
