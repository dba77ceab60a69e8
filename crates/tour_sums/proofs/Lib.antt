-- How the answer of a tour is shown to be the best order tried. Best goes through the orders one after the other: the best so far is beaten only by a
-- lower sum, so that the earliest of equals stays. Counting says which orders count by their moves. Least shows that each move costs no less than the
-- cheapest entry into the window that it goes to, so that no sum goes under the least figure. Promised puts the three together.
mod Examples
pub mod Best
pub mod Counting
pub mod Least
pub mod Promised
