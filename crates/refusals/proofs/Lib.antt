-- No refusal has number 0, so that an outcome's number says whether it is one.
-- Assumes nothing.
pub mod Numbers
