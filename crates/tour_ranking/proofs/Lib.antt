-- How each order is shown to be made from the one before it. Next says it of lists: a front stays, the number behind it gives way to the next greater
-- one of those left, and the rest, which fell, rises. Places says the same of an array, place by place: the last rise, the last number above it,
-- these two exchanged, and the numbers behind them reversed; Reversing says where a reversal puts each. Made joins them for the orders of windows,
-- and Loops has the loops of the first order and of the number of orders, and searches from behind.
pub mod Loops
pub mod Made
pub mod Next
pub mod Places
pub mod Reversing
