-- How least and greatest costs are shown to hold of every floor between two others, and a sure cell's arrow to be the same on each. All these floors
-- have the same walls, so that they start the same field, and what is reached on one is reached on all (Floors); where no cell costs more, no built
-- cost is greater. The permitted neighbours of a cell are what its look sees (Permitted), and can be told by rows and columns (Places). A sure cell's
-- look comes to the same neighbour on every floor: the first window cell, else the one that is strictly least (Sure). Marks shows that the code's
-- test of a cell is that of a sure cell, Numbers when a call is refused with 18, and Promise puts all of it together.
pub mod Examples
pub mod Floors
pub mod Permitted
pub mod Places
pub mod Marks
pub mod Sure
pub mod Promise
pub mod Numbers
