-- The proof of the call stands in `window_costs/Answers`; Lengths has the one number that is told before the steps are looked at.
pub mod Lengths
