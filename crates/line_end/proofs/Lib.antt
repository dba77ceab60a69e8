-- Where the line of a corner ends. In the goal's column or row it is the edge. Else columns are tried one after another, away from the goal, and the line
-- ends in the first whose nearest row leaves 0 to 9, or at the edge. `First` shows by induction over the columns that the end is so, and that no other
-- cell is; `Slanted` says the same in the promise's words, for right and left, up and down at once. `Mirror` shows that mirrored pairs end mirrored,
-- `Laws` that the end lies in the sector and that the line misses the goal, and `Promise` puts together what the call promises.
pub mod First
pub mod Slanted
pub mod Laws
pub mod Mirror
pub mod Promise
