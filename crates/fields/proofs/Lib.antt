-- A step in a direction is two sums, of column and row, and arrives where both stay within 0 to 9. `Steps` tells a step by what its differences add and
-- take away, so that whoever cites it can reckon with rows and columns, and shows that the opposite step undoes it. `Beside` shows that adjacency by
-- rows and columns is what the four orthogonal steps give. The functions' proofs hold the machine's sums to these, by `Sums` of `utilities`.
pub mod Steps
pub mod Beside
