-- Laws that the other crates share, of directions, sums, lists and counts; there is no theorem of its own. A direction moves column and row by -1, 0
-- or 1, and `Compass` tells its differences case by case. `Sums` has the one argument that is longer: the machine adds such a difference in 64 bits,
-- the definitions in ℤ, and both come to the same as long as the sum stays in range. `Padded` and `Lists` are about a list in an array that is
-- filled from its first place on, and `Count` about how many entries pass a test, so that a list without repeats fits 100 places.
pub mod Padded
pub mod Sums
pub mod Compass
pub mod Lists
pub mod Count
