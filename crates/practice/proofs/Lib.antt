-- How practice floors are proved. The code keeps the generator's values in an array; it is filled place by place with the list of the definition, and
-- each cost is drawn from the value of its place. The request's words fix every value, so that the floor is the same for any sequence that keeps to them.
--     Values      the values, place by place, and that no other sequence keeps to the words
--     Told        the costs and the goal, by any such sequence
--     Examples    the floors of some seeds, computed
mod Examples
pub mod Told
pub mod Values
