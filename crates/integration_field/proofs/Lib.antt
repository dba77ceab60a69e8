-- How the promises of every built field are proved of the definition. An offer is a walk one cell longer, so after n waves a cell holds the least of the
-- walks of at most n moves; a least walk never needs a cell twice, so that no 100th wave changes a cell. This part is proved of any grid in
-- `integration_waves`, and here of the 32-bit words and their flags.
--     Offers, Neighbours             what the offers of a wave do, cell by cell, and which cells they reach
--     Rest, Settled, Least           the waves stop; what they leave are the least walks, and their count is exact
--     Position                       positions are those of the earliest corners
--     Answers                        the same of what the call answers, and its number
--     Decided                        the promises leave no choice: what keeps them is the answer
--     Lists, Flags, Diagonal         laws of the arrays, the flags and the diagonal rule
--     Examples, Snake                small fields, computed
pub mod Examples
pub mod Flags
pub mod Lists
pub mod Neighbours
pub mod Offers
pub mod Rest
pub mod Settled
pub mod Least
pub mod Answers
pub mod Decided
pub mod Snake
pub mod Diagonal
pub mod Position
