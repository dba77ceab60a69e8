-- How the orders of windows are shown to be all there are, strictly in dictionary order. The orders of some numbers are blocks, one for each number
-- in front (Blocks, Choosing). In an order each number stands as often as among those given, and every such list is one of the orders (Occurrences,
-- Choosing). Numbers that rise have orders that rise (Ascending). Orders puts 0 in front and has the theorem, `all_orders`.
mod Examples
pub mod Ascending
pub mod Blocks
pub mod Choosing
pub mod Orders
pub mod Occurrences
