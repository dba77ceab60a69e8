-- How the search is shown to answer the definition's tour. The weight of an order is its sum where it counts, and more than any sum where it does not
-- (Loops), so that a comparison of weights is one of sums. The sums of an order's fronts are kept, since the next order has a front in common with
-- it. Answers says what one order more changes, and that all that is promised of the definition is promised of the answer.
pub mod Answers
pub mod Loops
