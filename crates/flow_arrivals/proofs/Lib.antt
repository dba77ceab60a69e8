-- How the numbers of moves are shown to be told by following alone. That a cell's arrows arrive or never do is decided in specs/Decided; First has its
-- laws on the first number of moves in the words of the promise, and Told shows that the number depends on nothing else. Followed says moves by the
-- direction that a byte reads as, and that m moves go on from where n have led; so trails that double their moves in rounds come to the same numbers
-- (Trails), which is what flow_following's code does. Examples computes small sheets.
pub mod First
pub mod Told
pub mod Followed
pub mod Trails
pub mod Examples
