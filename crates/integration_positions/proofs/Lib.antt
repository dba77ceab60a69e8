-- How it is proved that the positions which the code hands on are those of the definition (02, "Job 10"). Three facts decide the positions
-- (`Decided`): each is that of a corner with a walk arriving at the cell's built cost; a move that arrives at a built cost leads to no later position;
-- and each corner that building left alone has at most its own. They are kept cell by cell while the corners have their turns.
--     Labels      the three facts decide: what is kept of such positions is what the definition says
--     Flooding    one position handed on, from cell to cell of the queue
--     Starting    the corners' turns, in list order
--     Room        as many cells are queued as have a position, so the queue has room
--     Standing    what the code's arrays hold stands for the positions so far
--     Examples    small floors, computed
pub mod Examples
pub mod Room
pub mod Flooding
pub mod Starting
pub mod Standing
pub mod Labels
