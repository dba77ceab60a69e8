-- Demand 3 for fields started from a target. `Ground` shows of each kind of target what its cells are, as far as walks go; `Started` that on such a
-- ground the walks that `build` takes are walks of the started field, and that no walk of the started field comes to less than the least of them.
-- `Goal` has a goal without sight, where every walk goes out from the goal, and `Promise` says it all in demand 3's words, of `init` and of `build`.
pub mod Started
pub mod Ground
pub mod Goal
pub mod Promise
